-- The splits of a text into parts of given shapes, and the greatest of them.
use Rattle.std.specs.Prelude.{◌≡◌, ℕ, zero, suc, ◌<◌, ◌≤◌, true, ◌⊎◌, List, [], ◌∷◌, length, take, drop}
use Rattle.ftp_list.specs.declared.shape.Shape.{Shape}
use Rattle.ftp_list.specs.Shapes.{is_shape}

-- Parts of these lengths have these shapes, in order, and are the whole text.
abbrev pub IsSplit : List Shape → List ℕ → List ℕ → Type 0
IsSplit [] [] text = text ≡ []
IsSplit [] (n ∷ lengths) text = ⊥
IsSplit (shape ∷ shapes) [] text = ⊥
IsSplit (shape ∷ shapes) (n ∷ lengths) text =
    (n ≤ length text) × (is_shape shape (take n text) ≡ true) × IsSplit shapes lengths (drop n text)

-- Not above, compared from the first part on.
abbrev pub IsAtMost : List ℕ → List ℕ → Type 0
IsAtMost [] ns = Unit {0}
IsAtMost (m ∷ ms) [] = ⊥
IsAtMost (m ∷ ms) (n ∷ ns) = (m < n) ⊎ ((m ≡ n) × IsAtMost ms ns)

-- Of all splits of the text the one whose lengths are greatest, compared from the first part on.
pub record IsGreatestSplit (shapes : List Shape) (lengths text : List ℕ) : Type 0 where
  pub split : IsSplit shapes lengths text
  pub greatest : (others : List ℕ) → IsSplit shapes others text → IsAtMost others lengths

-- The text has no split.
pub record HasNoSplit (shapes : List Shape) (text : List ℕ) : Type 0 where
  pub none : (lengths : List ℕ) → IsSplit shapes lengths text → ⊥

-- the part number k, counted from 0, of a text in parts of these lengths
abbrev pub part : ℕ → List ℕ → List ℕ → List ℕ
part k [] text = []
part zero (n ∷ lengths) text = take n text
part (suc k) (n ∷ lengths) text = part k lengths (drop n text)
