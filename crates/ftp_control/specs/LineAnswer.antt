-- What a read of one line answers.
use Rattle.std.specs.Prelude.{◌≡◌, ℕ, List, Result, Ok, Err}
use Rattle.futures.specs.declared.task.Poll.{Poll}
use Rattle.futures.specs.declared.task.Poll.TheVariants.{Ready, Pending}
use Rattle.ftp_base.specs.declared.types.fault.FtpError.{FtpError}
use Rattle.ftp_base.specs.declared.types.fault.FtpError.TheVariants as fault
use Rattle.ftp_base.specs.declared.types.fault.ConnectionError.TheVariants as connection
use Rattle.ftp_control.specs.declared.control.broken.Broken.{Broken}
use Rattle.ftp_control.specs.declared.control.broken.Broken.TheVariants.{Connection, OutOfMemory}
use Rattle.ftp_control.specs.declared.control.outcome.Outcome.{Outcome}
use Rattle.ftp_control.specs.declared.control.outcome.Outcome.TheVariants.{Whole, Bad, TooLarge, Ended, Waits}
use Rattle.std.specs.declared.io.ErrorKind.{ErrorKind}
use Rattle.ftp_transport.specs.Memory.{IsGiven}
use Rattle.ftp_control.specs.Reading.{MayBreak}
use Rattle.ftp_control.specs.Channel.{Channel, ReadsLine}

-- the answer of a read of one line
abbrev pub line_answer : Result Outcome Broken → Poll (Result (List ℕ) FtpError)
line_answer (Ok (Whole line code)) = Ready (Ok line)
line_answer (Ok (Bad line)) = Ready (Err fault.BadResponse)
line_answer (Ok TooLarge) = Ready (Err (fault.ConnectionError connection.ReplyTooLarge))
line_answer (Ok Ended) = Ready (Err (fault.ConnectionError connection.UnexpectedEof))
line_answer (Ok Waits) = Pending
line_answer (Err (Connection kind)) = Ready (Err (fault.ConnectionError (connection.Io kind)))
line_answer (Err OutOfMemory) = Ready (Err fault.OutOfMemory)

-- a read of one line: what was read, and its answer
pub record AnswersLine (tells : Type 0) (faults : ErrorKind → Type 0) (old new : Channel) (answer : Poll (Result (List ℕ) FtpError)) : Type 0 where
  pub result : Result Outcome Broken
  pub reads : ReadsLine tells old new result
  pub fault : MayBreak faults result
  pub given : tells → IsGiven old.told → IsGiven new.told
  pub is : answer ≡ line_answer result
