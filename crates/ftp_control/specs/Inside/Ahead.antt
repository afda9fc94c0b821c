-- What is read ahead, and how it is looked at: piece by piece.
use Rattle.std.specs.Prelude.{◌≡◌, ℕ, ◌<◌, Bool, true, false, List, [], ◌∷◌, ◌++◌, length, Result, Ok, Err}
use Rattle.std.specs.declared.io.ErrorKind.{ErrorKind}
use Rattle.futures.specs.declared.task.Poll.{Poll}
use Rattle.futures.specs.declared.task.Poll.TheVariants.{Ready, Pending}
use Rattle.ftp_control.specs.Grammar.{has_line_feed}
use Rattle.ftp_transport.specs.Told.{Told, IsDry, HasFailed, after_read, after_end}

-- at least a byte, of which none but the last is LF
pub record IsPiece (bytes : List ℕ) : Type 0 where
  pub front : List ℕ
  pub last : ℕ
  pub is : bytes ≡ front ++ last ∷ []
  pub before : has_line_feed front ≡ false

-- what a read ahead leaves: the bytes that came, or none
abbrev pub LeavesAhead : Result (Poll Bool) ErrorKind → List ℕ → Type 0
LeavesAhead (Ok (Ready true)) new = 0 < length new
LeavesAhead (Ok (Ready false)) new = new ≡ []
LeavesAhead (Ok Pending) new = new ≡ []
LeavesAhead (Err kind) new = new ≡ []

-- what the connection records of it
abbrev pub FillTells : Result (Poll Bool) ErrorKind → List ℕ → Told → Told → Type 0
FillTells (Ok (Ready true)) new t u = u ≡ after_read new t
FillTells (Ok (Ready false)) new t u = u ≡ after_end t
FillTells (Ok Pending) new t u = (u ≡ t) × IsDry t
FillTells (Err kind) new t u = HasFailed kind t u

-- a read ahead, where nothing was left
pub record Fills (tells : Type 0) (result : Result (Poll Bool) ErrorKind) (new : List ℕ) (t u : Told) : Type 0 where
  pub leaves : LeavesAhead result new
  pub told : tells → FillTells result new t u
