-- A session as one value.
use Rattle.std.specs.Prelude.{◌≡◌, ℕ, List, true, false, Option, Some, None}
use Rattle.ftp_base.specs.Welcome.{Welcome, welcome_text}
use Rattle.std.specs.Duration.{as_nanos}
use Rattle.ftp_base.specs.declared.types.mode.Mode.TheVariants.{Passive}
use Rattle.ftp_base.specs.declared.types.mode.ActivePeerCheck.TheVariants.{ControlPeer}
use Rattle.ftp_control.specs.Channel.{Channel, IsIdle}
use Rattle.ftp_control.specs.declared.control.rule.ReplyRule.{ReplyRule}
use Rattle.ftp_transport.specs.Told.{Told, begun}
use Rattle.ftp_dialogue.specs.Sound.{no_transfers}
use Rattle.ftp_dialogue.specs.declared.state.Owed.{Owed}
use Rattle.ftp_dialogue.specs.declared.state.Owed.TheVariants.{Nothing, Live, Left}
use Rattle.ftp_dialogue.specs.declared.state.State.{State}
use Rattle.ftp_dialogue.specs.declared.state.Settings.{Settings}
use Rattle.ftp_dialogue.specs.NetEvents.{Net, PartedIs}

-- its control channel, what it keeps beside it, and what stands beside the control connection
pub record SessionValue : Type 0 where
  pub channel : Channel
  pub state : State
  pub net : Net

-- a session begins
pub record IsFirst (state : State) : Type 0 where
  pub mode : state.settings.mode ≡ Passive
  pub nat : state.settings.passive_nat_workaround ≡ false
  pub peers : state.settings.active_peer_check ≡ ControlPeer
  pub deadline : as_nanos state.settings.active_deadline ≡ 60000000000
  pub text : state.settings.text ≡ true
  pub secure : state.settings.secure ≡ false
  pub offset : state.settings.restart_offset ≡ 0
  pub builder : state.settings.stream_builder ≡ false
  pub transfers : state.counts ≡ no_transfers
  pub downloads : state.uploads ≡ false
  pub ungreeted : state.welcome ≡ None
  pub answered : state.unanswered ≡ 0
  pub unaborted : state.aborting ≡ false

-- a session that reads replies by this rule begins on a connection that told this, and this stands beside it: nothing is
-- read or sent, and what came and wasn't read is still to come
pub record Begins (tells : Type 0) (rule : ReplyRule) (before : Told) (beside : Net) (new : SessionValue) : Type 0 where
  pub rule_is : new.state.settings.reply_rule ≡ rule
  pub idle : IsIdle new.channel
  pub told : tells → new.channel.told ≡ begun before
  pub first : IsFirst new.state
  pub net : new.net ≡ beside

-- the state after a change of TLS: no offset is left, and no reply is due to a command
abbrev pub anew : State → State
anew state = record state { settings = record state.settings { restart_offset = 0 }; unanswered = 0; aborting = false }

-- the control channel begins anew on a connection that told this: nothing that was received before is part of a reply after
-- it: RFC 2228, section 3
pub record BeginsAnew (tells : Type 0) (before : Told) (old new : SessionValue) : Type 0 where
  pub idle : IsIdle new.channel
  pub told : tells → new.channel.told ≡ begun before
  pub rule : new.channel.rule ≡ old.channel.rule
  pub state : new.state ≡ anew old.state
  pub net : new.net ≡ old.net

-- the text of a greeting is read again in another encoding
abbrev pub welcomed_again : (List ℕ → List ℕ) → Option Welcome → Option Welcome
welcomed_again decode None = None
welcomed_again decode (Some welcome) = Some (record { greeting = welcome.greeting; text = welcome_text decode welcome.greeting })

abbrev pub greeted_again : (List ℕ → List ℕ) → SessionValue → SessionValue
greeted_again decode v = record v { state = record v.state { welcome = welcomed_again decode v.state.welcome } }

-- what a session was told to do has changed so, and nothing else has
abbrev pub with_settings : (Settings → Settings) → SessionValue → SessionValue
with_settings change v = record v { state = record v.state { settings = change v.state.settings } }

-- a call is done: a data connection that carries no transfer is let go, and that of one that was left is closed and
-- handed back
abbrev pub LetsGoBeside : Owed → Type 0 → SessionValue → SessionValue → Type 0
LetsGoBeside Nothing tells v w = w ≡ record v { net = record v.net { data_conn = None } }
LetsGoBeside (Live number) tells v w = w ≡ v
LetsGoBeside (Left number) tells v w = (w ≡ record v { net = w.net }) × (tells → PartedIs v.net w.net)

abbrev pub LetsGo : Type 0 → SessionValue → SessionValue → Type 0
LetsGo tells v w = LetsGoBeside v.state.counts.owed tells v w
