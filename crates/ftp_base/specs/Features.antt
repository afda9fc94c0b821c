-- What a server can do beyond RFC 959, by its answer to FEAT: RFC 2389, section 3.2.
use Rattle.std.specs.Prelude.{ℕ, Bool, List, [], ◌∷◌, ◌==◌, ◌&&◌, Option, Some, None, codes, map, not, nat_eq, bytes_eq, take_while, fold, string_bytes, if◌then◌else◌}
use Rattle.std.specs.List.{list_any, list_all, starts_with, before_first, after_first}
use Rattle.std.specs.Option.{option_eq, option_map}
use Rattle.std.specs.Map.{lookup}
use Rattle.std.specs.Str.{trim}
use Rattle.std.specs.Ordering.{nat_cmp}
use Rattle.std.specs.Cmp.Lexicographic.{slice_cmp, pointwise, lists_equiv, options_equiv, nat_list_eq_equiv}
use Rattle.std.specs.Cmp.{IsEquivalence, and_equiv, on_equiv}
use Rattle.std.specs.BTreeMap.{insert_entry}
use Rattle.std.specs.declared.string.String.{String}
use Rattle.std.specs.declared.alloc.Global.{Global}

-- a name and its value, if it has one
abbrev pub Feature : Type 0
Feature = List ℕ × Option (List ℕ)

-- names with their values, in the order of names, and each name once
abbrev pub Entries : Type 0
Entries = List Feature

-- the entries of a map of strings
abbrev pub shown : List (String Global × Option (String Global)) → Entries
shown entries = map (λ entry. (string_bytes entry.0, option_map string_bytes entry.1)) entries

-- the entries with this value at this name, in place of an earlier one
abbrev pub with_feature : Entries → Feature → Entries
with_feature entries feature = insert_entry (slice_cmp nat_cmp) entries feature.0 feature.1

-- the value at a name, if the name is there
abbrev pub value_at : Entries → List ℕ → Option (Option (List ℕ))
value_at entries name = lookup (bytes_eq name) entries

-- whether two maps have the same names, each with the same value
abbrev pub is_same_map : Entries → Entries → Bool
is_same_map one other =
    pointwise (λ a b. pointwise nat_eq a.0 b.0 && option_eq (pointwise nat_eq) a.1 b.1) one other

pub is_same_map-IsEquivalence : IsEquivalence is_same_map
is_same_map-IsEquivalence =
    lists_equiv (and_equiv (on_equiv (λ (entry : Feature). entry.0) nat_list_eq_equiv)
    (on_equiv (λ (entry : Feature). entry.1) (options_equiv nat_list_eq_equiv)))

-- the map of a list of features, in which the last of a name counts
abbrev pub map_of : List Feature → Entries
map_of features = fold with_feature [] features

abbrev pub is_space : ℕ → Bool
is_space byte = byte == 32

-- the feature on a line: white space is cut at both ends, the name runs to the first space, and what
-- stands behind that space is the value
abbrev pub feature_of : List ℕ → Feature
feature_of line = (
  before_first is_space (trim line),
  if list_any is_space (trim line) then Some (after_first is_space (trim line)) else None,
)

-- a line that ends the list
abbrev pub is_last : List ℕ → Bool
is_last line = starts_with nat_eq line (codes "211 ")

-- the lines of the list: those before one that ends it
abbrev pub listed : List (List ℕ) → List (List ℕ)
listed lines = take_while (λ line. not (is_last line)) lines

-- the features of the lines of a list, each of which begins with a space
abbrev pub listed_features : List (List ℕ) → Option Entries
listed_features lines =
    if list_all (λ line. starts_with nat_eq line (codes " ")) (listed lines)
    then Some (map_of (map feature_of (listed lines)))
    else None

-- the features that a reply's lines tell, unless they break the grammar: a first line "211 " tells
-- none, a first line "211-" opens the list
abbrev pub features_of : List (List ℕ) → Option Entries
features_of [] = None
features_of (first ∷ lines) =
    if is_last first then Some []
    else (if starts_with nat_eq first (codes "211-") then listed_features lines else None)
