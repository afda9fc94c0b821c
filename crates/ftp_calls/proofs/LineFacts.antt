-- The first line of bytes.
use Rattle.std.proofs.Common.{◌≡◌, ℕ, zero, suc, ◌<◌, Bool, true, false, cond, List, [], ◌∷◌, length, take, drop, get_or, refl, ap, ◌∙◌, arith}
use Rattle.std.specs.List.{onto_first}
use Rattle.ftp_calls.specs.Answers.{is_line_feed, lines_in}

-- a byte that ends no line begins the first
joins : (x : ℕ) (xs : List ℕ) → is_line_feed x ≡ false → lines_in (x ∷ xs) ≡ onto_first x (lines_in xs)
joins x xs e = ap (λ b. cond b ((x ∷ []) ∷ lines_in xs) (onto_first x (lines_in xs))) e

other : (b : Bool) → (b ≡ true → ⊥) → b ≡ false
other true h = absurd (h refl)
other false h = refl

-- the first line ends at the first LF
pub line_ends : (xs : List ℕ) (k : ℕ) → k < length xs → ((i : ℕ) → i < k → is_line_feed (get_or xs i 0) ≡ true → ⊥) → is_line_feed (get_or xs k 0) ≡ true →
    lines_in xs ≡ take (suc k) xs ∷ lines_in (drop (suc k) xs)
line_ends [] k lt none is = absurd (omega (arith, lt))
line_ends (x ∷ xs) zero lt none is = ap (λ b. cond b ((x ∷ []) ∷ lines_in xs) (onto_first x (lines_in xs))) is
line_ends (x ∷ xs) (suc k) lt none is =
    joins x xs (other (is_line_feed x) (none 0 (omega arith)))
    ∙ ap (onto_first x) (line_ends xs k (omega (arith, lt)) (λ i low. none (suc i) (omega (arith, low))) is)

-- bytes without an LF are one line
pub line_alone : (xs : List ℕ) → 0 < length xs → ((i : ℕ) → i < length xs → is_line_feed (get_or xs i 0) ≡ true → ⊥) → lines_in xs ≡ xs ∷ []
line_alone [] some none = absurd (omega (arith, some))
line_alone (x ∷ []) some none = joins x [] (other (is_line_feed x) (none 0 (omega arith)))
line_alone (x ∷ y ∷ ys) some none =
    joins x (y ∷ ys) (other (is_line_feed x) (none 0 (omega arith)))
    ∙ ap (onto_first x) (line_alone (y ∷ ys) (omega arith) (λ i low. none (suc i) (omega (arith, low))))
