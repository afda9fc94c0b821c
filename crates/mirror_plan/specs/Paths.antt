-- Paths below the root of a mirror.
use Rattle.std.specs.Prelude.{ℕ, Bool, true, false, not, ◌&&◌, ◌==◌, List, [], ◌∷◌, length, bytes_eq}
use Rattle.std.specs.List.{list_all}
use Rattle.std.specs.Ordering.{nat_cmp}
use Rattle.std.specs.Cmp.Lexicographic.{slice_cmp}
use Rattle.std.specs.declared.cmp.Ordering.{Ordering}
use Rattle.ftp_list.specs.Names.{is_plain_name}

-- a path below the root: its names, the outermost first. The root is []
abbrev pub Path : Type 0
Path = List (List ℕ)

-- a path that stays below the root: one or more plain names
abbrev pub is_inside : Path → Bool
is_inside path = not (length path == 0) && list_all is_plain_name path

-- the order of paths, name by name: a folder comes directly before what is below it
abbrev pub path_cmp : Path → Path → Ordering
path_cmp = slice_cmp (slice_cmp nat_cmp)

-- the folder in which a path stands
abbrev pub parent_of : Path → Path
parent_of [] = []
parent_of (name ∷ []) = []
parent_of (name ∷ next ∷ names) = name ∷ parent_of (next ∷ names)

-- the path begins with all of the folder's names and goes on
abbrev pub is_below : Path → Path → Bool
is_below [] folder = false
is_below (name ∷ names) [] = true
is_below (name ∷ names) (first ∷ rest) = bytes_eq first name && is_below names rest
