-- What goes out on the control connection: whole lines, one after another.
use Rattle.std.specs.Prelude.{◌≡◌, ℕ, ◌≤◌, Bool, true, ◌&&◌, not, List, [], ◌∷◌, ◌++◌, length, Result, Ok, Err}
use Rattle.std.specs.declared.io.ErrorKind.{ErrorKind}
use Rattle.futures.specs.declared.task.Poll.{Poll}
use Rattle.futures.specs.declared.task.Poll.TheVariants.{Ready, Pending}
use Rattle.ftp_base.specs.Line.{ends_in_crlf, before_crlf, has_line_break}
use Rattle.ftp_control.specs.Grammar.{whole_lines, rest}
use Rattle.ftp_transport.specs.Told.{Told, Fits, IsFull, HasFailed, after_write}

-- a wire line: CR and LF stand only at its end
abbrev pub is_wire_line : List ℕ → Bool
is_wire_line line = ends_in_crlf line && not (has_line_break (before_crlf line))

abbrev pub AreWireLines : List (List ℕ) → Type 0
AreWireLines [] = Unit {0}
AreWireLines (line ∷ lines) = (is_wire_line line ≡ true) × AreWireLines lines

abbrev pub last_length : List (List ℕ) → ℕ
last_length [] = 0
last_length (line ∷ []) = length line
last_length (line ∷ next ∷ lines) = last_length (next ∷ lines)

-- what went out and what is still unsent, joined: whole wire lines, of which the unsent is an end of the last
pub record IsLines (said unsent : List ℕ) : Type 0 where
  pub whole : rest said ≡ []
  pub lines : AreWireLines (whole_lines said)
  pub end_of_last : length unsent ≤ last_length (whole_lines said)

-- what a flush tells that sent these bytes
abbrev pub FlushTells : Result (Poll (Unit {0})) ErrorKind → List ℕ → Told → Told → Type 0
FlushTells (Ok (Ready done)) part t u = u ≡ after_write part t
FlushTells (Ok Pending) part t u = (u ≡ after_write part t) × IsFull u
FlushTells (Err kind) part t u = HasFailed kind (after_write part t) u

-- what is unsent after a flush: nothing, or something that waits for room
abbrev pub FlushLeaves : Result (Poll (Unit {0})) ErrorKind → List ℕ → Type 0
FlushLeaves (Ok (Ready done)) unsent = unsent ≡ []
FlushLeaves (Ok Pending) unsent = unsent ≡ [] → ⊥
FlushLeaves (Err kind) unsent = Unit {0}

-- a flush: a front of the unsent goes out
pub record Flushes (tells : Type 0) (unsent unsent' : List ℕ) (t u : Told) (result : Result (Poll (Unit {0})) ErrorKind) : Type 0 where
  pub part : List ℕ
  pub split : unsent ≡ part ++ unsent'
  pub leaves : FlushLeaves result unsent'
  pub told : tells → FlushTells result part t u
  pub fits : tells → Fits t → Fits u
