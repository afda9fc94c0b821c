-- Lemmas on the lines that were sent.
use Rattle.std.proofs.Common.{◌≡◌, ℕ, Bool, zero, suc, slice_index, ◌<◌, ◌≤◌, ◌==◌, true, false, List, [], ◌∷◌, length, take, drop, refl, ap, arith}
use Rattle.std.specs.List.{onto_first}
use Rattle.ftp_script.specs.Shown.{sent_lines}

not_true : (t : Bool) → (t ≡ true → ⊥) → t ≡ false
not_true true never = absurd (never refl)
not_true false never = refl

-- the first line ends after the first LF
pub line-at : (bytes : List ℕ) (n : ℕ) → n < length bytes → ((k : ℕ) → 0 ≤ k → k < n → (slice_index bytes k == 10) ≡ true → ⊥) → (slice_index bytes n == 10) ≡ true →
    sent_lines bytes ≡ take (suc n) bytes ∷ sent_lines (drop (suc n) bytes)
line-at [] n less before at = absurd (omega (arith, less))
line-at (b ∷ bytes) zero less before at = rw at refl
line-at (b ∷ bytes) (suc n) less before at =
    let plain : (b == 10) ≡ false = not_true (b == 10) (before 0 (omega arith) (omega arith)) in
    let later = line-at bytes n (omega (arith, less)) (λ k low high is. before (suc k) (omega arith) (omega (arith, high)) is) at in
    rw plain (ap (onto_first b) later)

-- the last line ends with the bytes
pub line-last : (bytes : List ℕ) → 0 < length bytes → ((k : ℕ) → 0 ≤ k → k < length bytes → (slice_index bytes k == 10) ≡ true → ⊥) →
    sent_lines bytes ≡ bytes ∷ []
line-last [] some none = absurd (omega (arith, some))
line-last (b ∷ []) some none = rw (not_true (b == 10) (none 0 (omega arith) (omega arith))) refl
line-last (b ∷ c ∷ bytes) some none =
    let plain : (b == 10) ≡ false = not_true (b == 10) (none 0 (omega arith) (omega arith)) in
    let later = line-last (c ∷ bytes) (omega arith) (λ k low high is. none (suc k) (omega arith) (omega (arith, high)) is) in
    rw plain (ap (onto_first b) later)
