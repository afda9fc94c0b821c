-- A polled read of one reply, after the last reply of a transfer that was left, where that is due: RFC 959, section 5.4.
use Rattle.std.specs.Prelude.{◌≡◌, Bool, true, false, [], Result, Ok, Err}
use Rattle.futures.specs.declared.task.Poll.{Poll}
use Rattle.futures.specs.declared.task.Poll.TheVariants.{Ready, Pending}
use Rattle.ftp_base.specs.declared.types.reply.Response.{Response}
use Rattle.ftp_base.specs.declared.types.fault.FtpError.{FtpError}
use Rattle.ftp_base.specs.declared.types.fault.FtpError.TheVariants.{SessionFailed, UnexpectedResponse}
use Rattle.ftp_calls.specs.declared.call.Answer.{Answer}
use Rattle.ftp_calls.specs.declared.call.Answer.TheVariants.{Fault}
use Rattle.ftp_calls.specs.declared.call.Answer.TheVariants as answers
use Rattle.ftp_calls.specs.declared.call.Call.TheVariants.{Drain, ReadResponseIn}
use Rattle.ftp_dialogue.specs.State.{SessionValue}
use Rattle.ftp_dialogue.specs.Coding.{Coding}
use Rattle.ftp_dialogue.specs.Dialogue.{Expected, Tree}
use Rattle.ftp_dialogue.specs.Link.{Link}
use Rattle.ftp_dialogue.specs.Promises.{PlaysAlone, Reads, Rests, due_of, reply_rule_of}
use Rattle.ftp_dialogue.specs.Unanswered.{after_heard}
use Rattle.ftp_dialogue.specs.declared.state.State.{State}

-- one reply is heard or waited for, whatever comes after it; where replies are due to commands that were dropped it is
-- counted
abbrev pub after_poll : Poll (Result Response FtpError) → State → State
after_poll (Ready heard) state = after_heard heard state
after_poll Pending state = state

-- a reply came, of an expected status or another
abbrev pub IsReplied : Poll (Result Response FtpError) → Type 0
IsReplied (Ready (Ok reply)) = Unit {0}
IsReplied (Ready (Err (UnexpectedResponse reply))) = Unit {0}
IsReplied other = ⊥

-- what a read leaves beside the bytes: the state as it was, the reply under way by its rule, and after a whole reply nothing
-- is kept
pub record LeavesReply (old new : SessionValue) (result : Poll (Result Response FtpError)) : Type 0 where
  pub beside : new ≡ record old { channel = new.channel }
  pub rule : new.channel.rule ≡ reply_rule_of old
  pub kept : IsReplied result → new.channel.kept ≡ []

pub record ReadsCounted (link : Link) (codes : Expected) (old new : SessionValue) (result : Poll (Result Response FtpError)) : Type 0 where
  pub last : SessionValue
  pub reads : (next : Result Response FtpError → Tree) → Reads link codes next old last result
  pub leaves : LeavesReply old last result
  pub counts : new ≡ record last { state = after_poll result old.state }
  pub goes_on : IsReplied result → last.channel.failed ≡ old.channel.failed

-- a read by itself: a session that has failed reads nothing
abbrev pub ReadsUnless : Bool → Link → Expected → SessionValue → SessionValue → Poll (Result Response FtpError) → Type 0
ReadsUnless true link codes old new result = (result ≡ Ready (Err SessionFailed)) × (new ≡ old)
ReadsUnless false link codes old new result = ReadsCounted link codes old new result

abbrev pub ReadsAlone : Link → Expected → SessionValue → SessionValue → Poll (Result Response FtpError) → Type 0
ReadsAlone link codes old new result = ReadsUnless old.channel.failed link codes old new result

-- the answer of a drain
abbrev pub drain_told : Result (Unit {0}) FtpError → Answer
drain_told (Ok done) = answers.Unit
drain_told (Err fault) = Fault fault

-- the last reply of a transfer that was left is polled: it is read, and the transfer is drained, or an error is told;
-- or it is waited for, and what came of it is kept
abbrev pub PollsDrain : Link → Coding → SessionValue → SessionValue → Poll (Result (Unit {0}) FtpError) → Type 0
PollsDrain link coding old new (Ready result) = PlaysAlone link coding Drain old new (drain_told result)
PollsDrain link coding old new Pending = Rests link old new

-- once that is over the read is polled; an error of it is the read's; while it is waited for the read waits, too
abbrev pub ThenReads : Link → Expected → Poll (Result (Unit {0}) FtpError) → SessionValue → SessionValue → Poll (Result Response FtpError) → Type 0
ThenReads link codes (Ready (Ok done)) middle new result = ReadsAlone link codes middle new result
ThenReads link codes (Ready (Err fault)) middle new result = (result ≡ Ready (Err fault)) × (new ≡ middle)
ThenReads link codes Pending middle new result = (result ≡ Pending) × (new ≡ middle)

pub record DrainsThenReads (link : Link) (coding : Coding) (codes : Expected) (old new : SessionValue) (result : Poll (Result Response FtpError)) : Type 0 where
  pub middle : SessionValue
  pub drained : Poll (Result (Unit {0}) FtpError)
  pub drains : PollsDrain link coding old middle drained
  pub then_reads : ThenReads link codes drained middle new result

-- that reply is due before a read, whatever statuses that expects
abbrev pub due_before_read : SessionValue → Bool
due_before_read v = due_of (ReadResponseIn []) v

abbrev pub PollsReadIf : Bool → Link → Coding → Expected → SessionValue → SessionValue → Poll (Result Response FtpError) → Type 0
PollsReadIf true link coding codes old new result = DrainsThenReads link coding codes old new result
PollsReadIf false link coding codes old new result = ReadsAlone link codes old new result

-- a polled read
pub record PollsRead (link : Link) (coding : Coding) (codes : Expected) (old new : SessionValue) (result : Poll (Result Response FtpError)) : Type 0 where
  pub reads : PollsReadIf (due_before_read old) link coding codes old new result
