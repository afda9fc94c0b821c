-- What the search for the greatest split keeps: how long a part can be, and where a text can be split.
use Rattle.std.specs.Prelude.{◌<◌, ◌≡◌, ℕ, ◌+◌, ◌≤◌, ◌-◌, Bool, true, false, List, ◌∷◌, ◌++◌, length, take, drop, Option, MatchOption, slice_index_or}
use Rattle.std.specs.declared.vec.Vec.{Vec}
use Rattle.std.specs.declared.alloc.Global.{Global}
use Rattle.ftp_list.specs.declared.shape.Shape.{Shape}
use Rattle.ftp_list.specs.Shapes.{is_shape}
use Rattle.ftp_list.specs.Split.{IsSplit, IsGreatestSplit, HasNoSplit, part}

-- the first n characters have the shape
pub record Fits (shape : Shape) (text : List ℕ) (n : ℕ) : Type 0 where
  pub within : n ≤ length text
  pub shaped : is_shape shape (take n text) ≡ true

-- the greatest length that fits, or none does
abbrev pub IsLongest : Shape → List ℕ → Option ℕ → Type 0
IsLongest shape text found =
    MatchOption found ((n : ℕ) → Fits shape text n → ⊥)
    (λ n. Fits shape text n × ((m : ℕ) → Fits shape text m → m ≤ n))

-- The first of the places from first to last where the shape stands, or it stands at none.
abbrev pub IsFirstStand : Shape → List ℕ → ℕ → ℕ → Option ℕ → Type 0
IsFirstStand shape text first last found =
    MatchOption found ((p n : ℕ) → first ≤ p → p ≤ last → Fits shape (drop p text) n → ⊥)
    (λ q. (p n : ℕ) → first ≤ p → p ≤ last → Fits shape (drop p text) n → q ≤ p)

-- the text has a split
pub record CanSplit (shapes : List Shape) (text : List ℕ) : Type 0 where
  pub lengths : List ℕ
  pub split : IsSplit shapes lengths text

-- whether the text has a split
abbrev pub Tells : Bool → List Shape → List ℕ → Type 0
Tells true shapes text = CanSplit shapes text
Tells false shapes text = HasNoSplit shapes text

-- Of the last j characters the row tells at j whether they have a split.
pub record TellsAll (row : List Bool) (shapes : List Shape) (text : List ℕ) : Type 0 where
  pub at : (j : ℕ) → j ≤ length text → Tells (slice_index_or row j false) shapes (drop (length text - j) text)

-- the first n characters have the shape, and the row opens behind them
pub record IsOpen (row : List Bool) (shape : Shape) (text : List ℕ) (n : ℕ) : Type 0 where
  pub fits : Fits shape text n
  pub opens : slice_index_or row (length text - n) false ≡ true

-- the greatest length that is open, or none is
abbrev pub IsGreatestOpen : List Bool → Shape → List ℕ → Option ℕ → Type 0
IsGreatestOpen row shape text found =
    MatchOption found ((n : ℕ) → IsOpen row shape text n → ⊥)
    (λ n. IsOpen row shape text n × ((m : ℕ) → IsOpen row shape text m → m ≤ n))

-- the rows of the last shapes, of none first
pub record IsTable (rows : List (Vec Bool Global)) (shapes : List Shape) (text : List ℕ) : Type 0 where
  pub at : (k : ℕ) (row : Vec Bool Global) → k < length rows → row ≡ slice_index_or rows k row
      → (length row.items ≡ length text + 1) × TellsAll row.items (drop (length shapes - k) shapes) text

-- a row for the first j lengths, and its last entry
pub record IsRowSoFar (next : List Bool) (shape : Shape) (text : List ℕ) (row : List Bool) (j : ℕ) (shorter : Bool) : Type 0 where
  pub count : length row ≡ j
  pub told : (shapes : List Shape) → TellsAll next shapes text → (i : ℕ) → i < j
      → Tells (slice_index_or row i false) (shape ∷ shapes) (drop (length text - i) text)
  pub last : (shapes : List Shape) → TellsAll next shapes text → 0 < j → Tells shorter (shape ∷ shapes) (drop (length text - (j - 1)) text)

-- The first i parts have these lengths, and the text behind them is left: what is greatest there is greatest in all.
pub record IsFront (shapes : List Shape) (text : List ℕ) (i : ℕ) (lengths left : List ℕ) : Type 0 where
  pub closes : (tail : List ℕ) → IsGreatestSplit (drop i shapes) tail left → IsGreatestSplit shapes (lengths ++ tail) text

-- the same, where without a split behind them there is none at all
pub record IsOnlyFront (shapes : List Shape) (text : List ℕ) (i : ℕ) (lengths left : List ℕ) : Type 0 where
  pub front : IsFront shapes text i lengths left
  pub none : HasNoSplit (drop i shapes) left → HasNoSplit shapes text
  pub start : ℕ
  pub within : start ≤ length text
  pub left_is : left ≡ drop start text

-- from first to last there is a place behind which the later shapes have a split
pub record Reaches (shapes : List Shape) (text : List ℕ) (first last : ℕ) : Type 0 where
  pub place : ℕ
  pub low : first ≤ place
  pub high : place ≤ last
  pub behind : CanSplit shapes (drop place text)

-- if the text has a split, the first i parts end somewhere from first to last
pub record IsReach (shapes : List Shape) (text : List ℕ) (i first last : ℕ) : Type 0 where
  pub within : last ≤ length text
  pub at : CanSplit shapes text → Reaches (drop i shapes) text first last

-- behind the place where a part begins the later parts are what they are in the whole text
pub record AreStarts (starts lengths text : List ℕ) : Type 0 where
  pub at : (j k : ℕ) → j < length lengths → j < 18
      → part (j + k) lengths text ≡ part k (drop j lengths) (drop (slice_index_or starts j 0) text)

-- the same of the first i parts, and the place behind them
pub record AreStartsSoFar (starts lengths text : List ℕ) (i start : ℕ) : Type 0 where
  pub count : length starts ≡ 18
  pub within : start ≤ length text
  pub before : (j k : ℕ) → j < i → part (j + k) lengths text ≡ part k (drop j lengths) (drop (slice_index_or starts j 0) text)
  pub here : (k : ℕ) → part (i + k) lengths text ≡ part k (drop i lengths) (drop start text)
