-- What a read returns, and what the connection records of it.
use Rattle.std.specs.Prelude.{◌≡◌, ℕ, Bool, true, List, [], ◌++◌, Result, Ok, Err}
use Rattle.ftp_control.specs.declared.control.broken.Broken.{Broken}
use Rattle.ftp_control.specs.declared.control.broken.Broken.TheVariants.{Connection, OutOfMemory}
use Rattle.ftp_control.specs.declared.control.outcome.Outcome.{Outcome}
use Rattle.ftp_control.specs.declared.control.outcome.Outcome.TheVariants.{Waits}
use Rattle.std.specs.declared.io.ErrorKind.{ErrorKind}
use Rattle.ftp_transport.specs.Told.{Told, IsDry, HasFailed}

-- bytes came, and the end or not
abbrev pub after_input : List ℕ → Bool → Told → Told
after_input came ended t = record t { received = t.received ++ came; ended = ended }

-- a read that doesn't fail returns what is due
abbrev pub AnswersOutcome : Result Outcome Broken → Outcome → Type 0
AnswersOutcome (Ok heard) due = heard ≡ due
AnswersOutcome (Err broken) due = Unit {0}

-- which errors a read may answer
abbrev pub MayBreak : (ErrorKind → Type 0) → Result Outcome Broken → Type 0
MayBreak faults (Ok heard) = Unit {0}
MayBreak faults (Err OutOfMemory) = Unit {0}
MayBreak faults (Err (Connection kind)) = faults kind

-- what the connection records of a read that received these bytes
abbrev pub HearTells : Result Outcome Broken → List ℕ → Bool → Told → Told → Type 0
HearTells (Ok Waits) came ended t u = (u ≡ after_input came ended t) × IsDry u
HearTells (Ok heard) came ended t u = u ≡ after_input came ended t
HearTells (Err OutOfMemory) came ended t u = u ≡ after_input came ended t
HearTells (Err (Connection kind)) came ended t u = HasFailed kind (after_input came ended t) u

-- after the end nothing comes
pub record GoesOn (ended : Bool) (more : List ℕ) (ended' : Bool) : Type 0 where
  pub nothing : ended ≡ true → more ≡ []
  pub over : ended ≡ true → ended' ≡ true
