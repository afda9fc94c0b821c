-- What a write takes of the bytes of an upload.
use Rattle.std.specs.Prelude.{◌≡◌, ◌≤◌, ℕ, Bool, true, List, [], ◌∷◌, drop, take, Result, Ok, Err, if◌then◌else◌}
use Rattle.std.specs.declared.io.ErrorKind.{ErrorKind}
use Rattle.futures.specs.declared.task.Poll.{Poll}
use Rattle.futures.specs.declared.task.Poll.TheVariants as poll
use Rattle.ftp_base.specs.Ascii.{converted}
use Rattle.ftp_transport.specs.Told.{HasFailed, Told}
use Rattle.ftp_dialogue.specs.NetEvents.{WriteIs}
use Rattle.ftp_dialogue.specs.declared.model.NetOutcome.TheVariants as came

-- what goes out for bytes that come after CR or not
abbrev pub on_wire : Bool → Bool → List ℕ → List ℕ
on_wire text after bytes = if text then converted after bytes else bytes

-- a text that begins with LF comes after CR
abbrev pub MayEndAt : Bool → List ℕ → Type 0
MayEndAt after [] = Unit {0}
MayEndAt after (byte ∷ bytes) = byte ≡ 10 → after ≡ true

abbrev pub MayEnd : Bool → Bool → List ℕ → Type 0
MayEnd text after bytes = text ≡ true → MayEndAt after bytes

-- each front of so many bytes goes out as it is
abbrev pub IsPlain : Bool → Bool → ℕ → List ℕ → Type 0
IsPlain text after most bytes = (count : ℕ) → count ≤ most → on_wire text after (take count bytes) ≡ take count bytes

-- a write took some of the bytes, and the others are left; or it waits, or failed
abbrev pub SendsBy : Type 0 → List ℕ → List ℕ → Told → Told → Result (Poll (Unit {0})) ErrorKind → Type 0
SendsBy tells rest rest' t u (Ok (poll.Ready done)) = (count : ℕ) × (rest' ≡ drop count rest) × (tells → WriteIs rest (came.Wrote count) t u)
SendsBy tells rest rest' t u (Ok poll.Pending) = (rest' ≡ rest) × (tells → u ≡ t)
SendsBy tells rest rest' t u (Err kind) = (rest' ≡ rest) × (tells → HasFailed kind t u)
