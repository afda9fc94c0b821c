-- The calls of a session: each is its dialogue.
use Rattle.std.specs.Prelude.{◌≡◌, ◌⊎◌, ℕ, Result, Ok, Err, map, string_bytes}
use Rattle.std.specs.declared.vec.Vec.{Vec}
use Rattle.std.specs.declared.string.String.{String}
use Rattle.std.specs.declared.alloc.Global.{Global}
use Rattle.jiff_core.specs.declared.civil.datetime.DateTime.{DateTime}
use Rattle.ftp_base.specs.Features.{Entries}
use Rattle.ftp_base.specs.declared.types.reply.Response.{Response}
use Rattle.ftp_base.specs.declared.types.fault.FtpError.{FtpError}
use Rattle.ftp_base.specs.declared.types.fault.FtpError.TheVariants.{OutOfMemory}
use Rattle.ftp_transport.specs.Told.{Told}
use Rattle.ftp_control.specs.Channel.{IsSound}
use Rattle.ftp_control.specs.declared.control.rule.ReplyRule.{ReplyRule}
use Rattle.ftp_dialogue.specs.NetEvents.{Net}
use Rattle.ftp_calls.specs.declared.call.Answer.{Answer}
use Rattle.ftp_calls.specs.declared.call.Answer.TheVariants.{Unit as Done, Reply, Fault}
use Rattle.ftp_calls.specs.declared.call.Answer.TheVariants as answers
use Rattle.ftp_calls.specs.declared.call.Call.TheVariants.{Greet}
use Rattle.ftp_dialogue.specs.Coding.{Coding}
use Rattle.ftp_dialogue.specs.State.{Begins, SessionValue}
use Rattle.ftp_dialogue.specs.Promises.{PlaysAlone}
use Rattle.ftp_dialogue.specs.Link.{Link}

-- the answer of a call that gives nothing
abbrev pub unit_answer : Result (Unit {0}) FtpError → Answer
unit_answer (Ok done) = Done
unit_answer (Err fault) = Fault fault

-- the answer of a call that gives its reply
abbrev pub reply_answer : Result Response FtpError → Answer
reply_answer (Ok reply) = Reply reply
reply_answer (Err fault) = Fault fault

-- the answer of a call that gives a text
abbrev pub text_answer : Result (String Global) FtpError → Answer
text_answer (Ok text) = answers.Text (string_bytes text)
text_answer (Err fault) = Fault fault

-- the answer of a call that gives a time
abbrev pub time_answer : Result DateTime FtpError → Answer
time_answer (Ok time) = answers.Time time
time_answer (Err fault) = Fault fault

-- the answer of a call that gives a number of bytes
abbrev pub size_answer : Result ℕ FtpError → Answer
size_answer (Ok size) = answers.Size size
size_answer (Err fault) = Fault fault

-- the answer of a call that gives features
abbrev pub features_answer : Result Entries FtpError → Answer
features_answer (Ok features) = answers.Features features
features_answer (Err fault) = Fault fault

-- the answer of a call that gives bytes
abbrev pub bytes_answer : Result (Vec ℕ Global) FtpError → Answer
bytes_answer (Ok bytes) = answers.Bytes bytes.items
bytes_answer (Err fault) = Fault fault

-- the answer of a call that gives lines
abbrev pub lines_answer : Result (Vec (String Global) Global) FtpError → Answer
lines_answer (Ok lines) = answers.Lines (map string_bytes lines.items)
lines_answer (Err fault) = Fault fault

-- a session that reads replies by this rule begins and makes the greeting's dialogue; its channel is sound, so that it has met the end of the input only
-- where the connection has
pub record Connects (link : Link) (coding : Coding) (rule : ReplyRule) (told : Told) (beside : Net) (new : SessionValue) (result : Result (Unit {0}) FtpError) : Type 0 where
  pub old : SessionValue
  pub begins : Begins link.tells rule told beside old
  pub greets : PlaysAlone link coding Greet old new (unit_answer result)
  pub sound : IsSound link.tells new.channel

-- no session is connected: the greeting's dialogue failed, or there was no memory for a session
abbrev pub FailsToConnect : Link → Coding → ReplyRule → Told → Net → FtpError → Type 0
FailsToConnect link coding rule told beside fault = ((new : SessionValue) × Connects link coding rule told beside new (Err fault)) ⊎ (fault ≡ OutOfMemory)
