-- How a reply under way is read on: by the rule by which it began; and leniently as one of a form under which it says
-- nothing yet.
use Rattle.std.specs.Prelude.{◌≡◌, ℕ, List, Option, Ok, Err}
use Rattle.std.specs.declared.net.socket_addr.SocketAddr.{SocketAddr}
use Rattle.ftp_control.specs.declared.control.rule.ReplyRule.{ReplyRule}
use Rattle.ftp_control.specs.Channel.{rule_left}
use Rattle.ftp_base.specs.declared.types.fault.FtpError.{FtpError}
use Rattle.ftp_transport.specs.declared.request.RequestOutcome.{RequestOutcome}
use Rattle.ftp_dialogue.specs.declared.model.NetOutcome.{NetOutcome}
use Rattle.ftp_dialogue.specs.declared.state.State.{State}
use Rattle.ftp_dialogue.specs.Lenient.{SaysNothingYet}
use Rattle.ftp_dialogue.specs.State.{SessionValue}
use Rattle.ftp_dialogue.specs.Dialogue.{Tree, Say, Hear, Look, Ask, Build, Secure, Move, Leaf}

-- the rule of the reply under way, and the setting, by which the replies are read that begin
pub record Modes : Type 0 where
  pub under : ReplyRule
  pub setting : ReplyRule

-- where this is kept of a reply, by this rule
abbrev pub modes_in : List ℕ → ReplyRule → State → Modes
modes_in kept rule state = record { under = rule_left kept rule state.settings.reply_rule; setting = state.settings.reply_rule }

abbrev pub modes_of : SessionValue → Modes
modes_of v = modes_in v.channel.kept v.channel.rule v.state

-- the tree may come to its end without hearing a reply, and leaves this state, where it began in that one
abbrev pub Silent : State → State → Tree → Type 0
Silent from to (Say (Ok line) next) = Silent from to next
Silent from to (Say (Err cause) next) = to ≡ from
Silent from to (Hear codes next) = ⊥
Silent from to (Look end next) = (address : SocketAddr) × Silent from to (next address)
Silent from to (Ask request next) = (answer : RequestOutcome) × Silent from to (next answer)
Silent from to (Build address next) = (fault : Option FtpError) × Silent from to (next fault)
Silent from to (Secure next) = (fault : Option FtpError) × Silent from to (next fault)
Silent from to (Move movement next) = (came : NetOutcome) × Silent from to (next came)
Silent from to (Leaf answer state) = to ≡ state

-- where the tree hears first, what is kept of a reply goes on in the mode in which it began, and says nothing yet
abbrev pub Resumes : Modes → List ℕ → Tree → Type 0
Resumes modes kept (Say (Ok line) next) = Resumes modes kept next
Resumes modes kept (Say (Err cause) next) = Unit {0}
Resumes modes kept (Hear codes next) = (modes.under ≡ modes.setting) × SaysNothingYet modes.setting codes.form kept
Resumes modes kept (Look end next) = (address : SocketAddr) → Resumes modes kept (next address)
Resumes modes kept (Ask request next) = (answer : RequestOutcome) → Resumes modes kept (next answer)
Resumes modes kept (Build address next) = (fault : Option FtpError) → Resumes modes kept (next fault)
Resumes modes kept (Secure next) = (fault : Option FtpError) → Resumes modes kept (next fault)
Resumes modes kept (Move movement next) = (came : NetOutcome) → Resumes modes kept (next came)
Resumes modes kept (Leaf answer state) = Unit {0}
