-- Where a marker stands in a text, and what stands before and behind it.
use Rattle.std.specs.Prelude.{ℕ, ◌+◌, Bool, nat_lt, nat_eq, if◌then◌else◌, List, [], ◌∷◌, length, take, drop}
use Rattle.std.specs.List.{starts_with}

-- the text begins with the marker
abbrev pub begins : List ℕ → List ℕ → Bool
begins marker text = starts_with nat_eq text marker

-- the first place where the marker stands, or the length
abbrev pub place : List ℕ → List ℕ → ℕ
place marker [] = 0
place marker (c ∷ cs) = if begins marker (c ∷ cs) then 0 else place marker cs + 1

-- the marker stands somewhere
abbrev pub holds : List ℕ → List ℕ → Bool
holds marker text = nat_lt (place marker text) (length text)

-- what stands before the first marker, or all
abbrev pub before : List ℕ → List ℕ → List ℕ
before marker text = take (place marker text) text

-- what stands behind the first marker, or nothing
abbrev pub behind : List ℕ → List ℕ → List ℕ
behind marker text = drop (place marker text + length marker) text
