-- How a command's line goes out: RFC 959, section 4.1.3.
use Rattle.std.specs.Prelude.{◌≡◌, ℕ, ◌<◌, ◌≤◌, ◌⊎◌, true, List, [], ◌++◌, length, Option, Some, None, Result, Ok, Err}
use Rattle.std.specs.declared.io.ErrorKind.{ErrorKind}
use Rattle.futures.specs.declared.task.Poll.{Poll}
use Rattle.futures.specs.declared.task.Poll.TheVariants.{Ready, Pending}
use Rattle.ftp_base.specs.declared.types.fault.FtpError.{FtpError}
use Rattle.ftp_base.specs.declared.types.fault.FtpError.TheVariants.{ConnectionError}
use Rattle.ftp_base.specs.declared.types.fault.ConnectionError.TheVariants.{Io}
use Rattle.ftp_transport.specs.Told.{Told, IsFull, HasCounted, NoneFailed, before_fault}
use Rattle.ftp_control.specs.Channel.{Channel}

-- a line that hasn't begun to go out
abbrev pub due : Option (List ℕ) → List ℕ
due None = []
due (Some line) = line

-- all that was said on a channel: what went out and what is unsent
abbrev pub said : Channel → List ℕ
said c = c.told.sent ++ c.unsent

-- the connection failed, which was counted, and its error is told
pub record FailsToSay (tells : Type 0) (faults : Told → ErrorKind → Type 0) (fault : FtpError) (old new : Channel) : Type 0 where
  pub kind : ErrorKind
  pub is : fault ≡ ConnectionError (Io kind)
  pub may : tells → faults (before_fault old.told new.told) kind
  pub failed : new.failed ≡ true
  pub counts : tells → HasCounted kind old.told new.told

-- what saying a line leaves: all of it went out; or something waits for room; or the connection failed, which
-- was counted
abbrev pub SayLeaves : Poll (Result (Unit {0}) FtpError) → Type 0 → (Told → ErrorKind → Type 0) → Channel → Channel → Option (List ℕ) → Type 0
SayLeaves (Ready (Ok done)) tells faults old new line' = (new.unsent ≡ []) × (line' ≡ None) × (new.failed ≡ old.failed) × (tells → NoneFailed old.told new.told)
SayLeaves Pending tells faults old new line' = (new.unsent ≡ [] → ⊥) × (tells → IsFull new.told) × (new.failed ≡ old.failed) × (tells → NoneFailed old.told new.told)
SayLeaves (Ready (Err fault)) tells faults old new line' = FailsToSay tells faults fault old new

-- saying a line: it goes out whole behind the rest of the one before, or not at all, and nothing else does; a line
-- that goes out isn't empty
pub record SaysLine (tells : Type 0) (faults : Told → ErrorKind → Type 0) (old new : Channel) (line line' : Option (List ℕ)) (answer : Poll (Result (Unit {0}) FtpError)) : Type 0 where
  pub whole : (line' ≡ line) ⊎ (line' ≡ None)
  pub some : (line ≡ None) ⊎ (line' ≡ line) ⊎ (0 < length (due line))
  pub said : tells → said new ++ due line' ≡ said old ++ due line
  pub sends : tells → length old.told.sent ≤ length new.told.sent
  pub hears_nothing : tells → new.told ≡ record old.told { sent = new.told.sent; failures = new.told.failures; last_fault = new.told.last_fault }
  pub same : new ≡ record old { told = new.told; unsent = new.unsent; failed = new.failed }
  pub leaves : SayLeaves answer tells faults old new line'
