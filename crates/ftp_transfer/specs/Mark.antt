-- The mark of a transfer, which tells that it was left: one word, which the end of the transfer and the end of the
-- session share.
use Rattle.std.specs.Prelude.{◌≡◌, ℕ, ◌+◌, Bool, true, false, List, [], ◌∷◌, Contains}
use Rattle.atomic_table.specs.Seated.{TableId}
use Rattle.atomic_table.specs.Table.{State, Me, Step}
use Rattle.ftp_transfer.specs.declared.mark.word.View.{View}
use lib.ListN.{get_elem?}
use mathlib.Core.Option.{some}

-- an end as its holder sees it: of which mark it is, the number of the transfer, and what its loads found, the latest
-- first: whether the transfer was left
pub record End : Type 0 where
  pub mark : TableId
  pub number : ℕ
  pub loads : List Bool

-- the end after one load
abbrev pub loaded : Bool → End → End
loaded left end = record end { loads = left ∷ end.loads }

-- the word: 1 once the transfer was left, 0 before
abbrev pub word_of : Bool → ℕ
word_of true = 1
word_of false = 0

-- what the transfer's seat knows at first: it stored nothing and loaded nothing
abbrev pub owner : View
owner = record { owns = true; stored = false; live_loads = 0; seen = [] }

-- what the session's seat knows at first
abbrev pub onlooker : View
onlooker = record { owns = false; stored = false; live_loads = 0; seen = [] }

-- a view after a load
abbrev pub saw : Bool → View → View
saw left v = record v { seen = left ∷ v.seen }

-- how many loads found the transfer live, of one seat and of all
abbrev pub live_among : List Bool → ℕ
live_among [] = 0
live_among (true ∷ loads) = live_among loads
live_among (false ∷ loads) = live_among loads + 1

abbrev pub live_loads : List View → ℕ
live_loads [] = 0
live_loads (v ∷ views) = live_among v.seen + live_loads views

-- one seat alone is the transfer's, and it knows whether it stored the mark, and how many loads had found the transfer
-- live by then; who has seen the mark has seen what stays
abbrev pub Agrees : ℕ → Bool → ℕ → ℕ → View → Type 0
Agrees transfer left live seat v =
    (v.owns ≡ true → (seat ≡ transfer) × (v.stored ≡ left) × (v.live_loads ≡ live)) × (Contains v.seen true → left ≡ true)

-- the rule of the word: it is 1 exactly if the transfer's seat stored that, no load finds the transfer live after that,
-- and all views agree
abbrev pub IsMark : State (Unit {0}) View → Type 0
IsMark s =
    (transfer : ℕ) × (left : Bool) × (live : ℕ) × (s.words ≡ word_of left ∷ []) × (left ≡ true → live_loads s.views ≡ live) × ((seat : ℕ) (v : View) → get_elem? s.views seat ≡ some v → Agrees transfer left live seat v)

-- a load adds what it found to the view; the transfer's seat finds what it stored, and what was seen left is found left
abbrev pub Loads : Step (Unit {0}) → Me (Unit {0}) View → ℕ → Me (Unit {0}) View → Type 0
Loads s before word after =
    (left : Bool) × (word ≡ word_of left) × (after.0 ≡ saw left before.0) × (before.0.owns ≡ true → left ≡ before.0.stored) × (Contains before.0.seen true → left ≡ true)

-- a store, after which the view says that it stored
abbrev pub Stores : Step (Unit {0}) → Me (Unit {0}) View → ℕ → Me (Unit {0}) View → Type 0
Stores s before word after = (after.0.owns ≡ before.0.owns) × (after.0.stored ≡ true) × (after.0.seen ≡ before.0.seen)
