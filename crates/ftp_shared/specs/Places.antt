-- Places below the root of a walk.
use Rattle.std.specs.Prelude.{◌≡◌, ℕ, ◌<◌, ◌≤◌, ◌⊎◌, Bool, ◌&&◌, ◌||◌, ◌==◌, if◌then◌else◌, Option, Some, None, List, [], ◌∷◌, ◌++◌, length, reverse}
use Rattle.std.specs.List.{list_all, ends_with}
use Rattle.ftp_list.specs.Entry.{Entry}
use Rattle.ftp_list.specs.FileTypes.{is_directory}
use Rattle.ftp_list.specs.Names.{is_plain_name}

-- names, the outermost first; those of the root are []
abbrev pub Names : Type 0
Names = List (List ℕ)

-- names that lead nowhere else
abbrev pub are_plain : Names → Bool
are_plain names = list_all is_plain_name names

-- a folder's path, as a name in it follows it
abbrev pub entered : List ℕ → List ℕ
entered folder = if length folder == 0 || ends_with ◌==◌ folder (47 ∷ []) then folder else folder ++ 47 ∷ []

-- the path of names below a folder
abbrev pub joined : List ℕ → Names → List ℕ
joined folder [] = folder
joined folder (name ∷ names) = joined (entered folder ++ name) names

-- the path by which the root of a walk is listed: an empty one is the current directory
abbrev pub listed_as : List ℕ → List ℕ
listed_as path = if length path == 0 then 46 ∷ [] else path

-- each of these lies too deep
abbrev pub AreDeep : ℕ → List Names → Type 0
AreDeep levels [] = Unit {0}
AreDeep levels (place ∷ places) = (levels ≤ length place) × AreDeep levels places

-- of the folders that are left to list the last that doesn't lie too deep is next, and those before it stay; or none is left
abbrev pub IsNext : ℕ → List Names → Option Names → List Names → Type 0
IsNext levels folders (Some next) left = (deep : List Names) × (folders ≡ left ++ next ∷ deep) × (length next < levels) × AreDeep levels deep
IsNext levels folders None left = (left ≡ []) × AreDeep levels folders

-- the places of the folders that these entries of a folder's listing are, in their order; a name that isn't plain has none
unfoldable pub folders_among : Names → List Entry → List Names
folders_among folder [] = []
folders_among folder (entry ∷ entries) =
    (if is_directory entry.file_type && is_plain_name entry.name then (folder ++ entry.name ∷ []) ∷ [] else []) ++ folders_among folder entries

-- some of these places, each once, in their order
abbrev pub AreSomeOf : List Names → List Names → Type 0
AreSomeOf [] places = Unit {0}
AreSomeOf (one ∷ others) [] = ⊥
AreSomeOf (one ∷ others) (place ∷ places) = ((one ≡ place) × AreSomeOf others places) ⊎ AreSomeOf (one ∷ others) places

-- some of the folders that a listing has are listed before those that were left before, the first of them first
abbrev pub Enters : Names → List Entry → List Names → List Names → Type 0
Enters folder listing before after = (entered : List Names) × (after ≡ before ++ reverse entered) × AreSomeOf entered (folders_among folder listing)
