-- What a read of a reply answers: RFC 959, section 4.2.
use Rattle.std.specs.Prelude.{◌≡◌, Bool, List, ◌==◌, Result, Ok, Err, if◌then◌else◌}
use Rattle.std.specs.List.{list_any}
use Rattle.std.specs.declared.io.ErrorKind.{ErrorKind}
use Rattle.futures.specs.declared.task.Poll.{Poll}
use Rattle.futures.specs.declared.task.Poll.TheVariants.{Ready, Pending}
use Rattle.ftp_base.specs.declared.status.Status.{Status}
use Rattle.ftp_base.specs.declared.status.Status.TheVariants.{System}
use Rattle.ftp_base.specs.Status.{code_of, status_of}
use Rattle.ftp_base.specs.declared.types.reply.Response.{Response}
use Rattle.ftp_base.specs.declared.types.fault.FtpError.{FtpError}
use Rattle.ftp_base.specs.declared.types.fault.FtpError.TheVariants as fault
use Rattle.ftp_base.specs.declared.types.fault.ConnectionError.TheVariants as connection
use Rattle.ftp_control.specs.declared.control.broken.Broken.{Broken}
use Rattle.ftp_control.specs.declared.control.broken.Broken.TheVariants.{Connection, OutOfMemory}
use Rattle.ftp_control.specs.declared.control.outcome.Outcome.{Outcome}
use Rattle.ftp_control.specs.declared.control.outcome.Outcome.TheVariants.{Whole, Bad, TooLarge, Ended, Waits}
use Rattle.ftp_transport.specs.Memory.{IsGiven}
use Rattle.ftp_control.specs.Reading.{MayBreak}
use Rattle.ftp_control.specs.Channel.{Channel, ReadsReply}
use Rattle.ftp_control.specs.declared.control.form.ReplyForm.{ReplyForm}
use Rattle.ftp_control.specs.declared.control.form.ReplyForm.TheVariants as form

-- a status is among these
abbrev pub is_among : List Status → Status → Bool
is_among statuses status = list_any (λ s. code_of s == code_of status) statuses

-- the form of a reply that is expected under these statuses
abbrev pub form_of : List Status → ReplyForm
form_of expected = if is_among expected System then form.System else form.Plain

-- a reply whose status is expected, or the refusal of another
abbrev pub expected_reply : List Status → Response → Result Response FtpError
expected_reply expected reply = if is_among expected reply.status then Ok reply else Err (fault.UnexpectedResponse reply)

-- the answer of a read that expects these
abbrev pub answer_of : List Status → Result Outcome Broken → Poll (Result Response FtpError)
answer_of expected (Ok (Whole bytes code)) = Ready (expected_reply expected (record { status = status_of code; body = bytes }))
answer_of expected (Ok (Bad line)) = Ready (Err fault.BadResponse)
answer_of expected (Ok TooLarge) = Ready (Err (fault.ConnectionError connection.ReplyTooLarge))
answer_of expected (Ok Ended) = Ready (Err (fault.ConnectionError connection.UnexpectedEof))
answer_of expected (Ok Waits) = Pending
answer_of expected (Err (Connection kind)) = Ready (Err (fault.ConnectionError (connection.Io kind)))
answer_of expected (Err OutOfMemory) = Ready (Err fault.OutOfMemory)

-- a read of this form that expects these: what was read, and its answer
pub record AnswersRead (tells : Type 0) (faults : ErrorKind → Type 0) (form : ReplyForm) (expected : List Status) (old new : Channel) (answer : Poll (Result Response FtpError)) : Type 0 where
  pub result : Result Outcome Broken
  pub reads : ReadsReply tells form old new result
  pub fault : MayBreak faults result
  pub given : tells → IsGiven old.told → IsGiven new.told
  pub is : answer ≡ answer_of expected result
