-- Sending a command: RFC 959, section 4.1.3.
use Rattle.std.specs.Prelude.{◌≡◌, ℕ, ◌⊎◌, List, Option, Some, Result, Ok, Err}
use Rattle.std.specs.declared.io.ErrorKind.{ErrorKind}
use Rattle.futures.specs.declared.task.Poll.TheVariants.{Ready}
use Rattle.ftp_base.specs.declared.types.fault.FtpError.{FtpError}
use Rattle.ftp_base.specs.declared.types.fault.ConnectionError.{ConnectionError as Cause}
use Rattle.ftp_transport.specs.Told.{Told}
use Rattle.ftp_control.specs.Channel.{Channel}
use Rattle.ftp_control.specs.Refusal.{IsRefusalOf}
use Rattle.ftp_control.specs.Saying.{SaysLine}

-- the wire line goes out
pub record SendsLine (tells : Type 0) (faults : Told → ErrorKind → Type 0) (wire : Result (List ℕ) Cause) (old new : Channel) (result : Result (Unit {0}) FtpError) : Type 0 where
  pub line : List ℕ
  pub is_wire : wire ≡ Ok line
  pub line' : Option (List ℕ)
  pub says : SaysLine tells faults old new (Some line) line' (Ready result)

-- or it is refused, and nothing changes
pub record RefusesLine (wire : Result (List ℕ) Cause) (old new : Channel) (result : Result (Unit {0}) FtpError) : Type 0 where
  pub fault : FtpError
  pub answer : result ≡ Err fault
  pub cause : IsRefusalOf wire fault
  pub unchanged : new ≡ old

abbrev pub Performs : Type 0 → (Told → ErrorKind → Type 0) → Result (List ℕ) Cause → Channel → Channel → Result (Unit {0}) FtpError → Type 0
Performs tells faults wire old new result = SendsLine tells faults wire old new result ⊎ RefusesLine wire old new result
