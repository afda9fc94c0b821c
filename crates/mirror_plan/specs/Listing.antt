-- What contracts see of a tree.
use Rattle.std.specs.Prelude.{◌≡◌, ℕ, Bool, true, false, if◌then◌else◌, List, [], ◌∷◌, ◌++◌, Option, Some, None, IsSome, IsTrue, ◌<◌, ◌≤◌, length, slice_get}
use Rattle.std.specs.BTreeMap.{is_at}
use Rattle.std.specs.declared.cmp.Ordering.TheVariants.{Less, Greater}
use Rattle.std.specs.Map.{lookup}
use Rattle.mirror_plan.specs.declared.node.Node.{Node}
use Rattle.mirror_plan.specs.declared.node.Node.TheVariants.{Folder, File, Other}
use Rattle.mirror_plan.specs.Paths.{Path, path_cmp, is_below}

-- what was listed: whether the root was listed whole, and what stands at each path below it
pub record Listing : Type 0 where
  pub is_whole : Bool
  pub entries : List (Path × Node)

-- the two paths are the same
abbrev pub is_same : Path → Path → Bool
is_same path other = is_at (path_cmp path) other

-- what the entries have at a path
abbrev pub node_at : List (Path × Node) → Path → Option Node
node_at entries path = lookup (is_same path) entries

-- the entries, and before them the root
abbrev pub with_root : Listing → List (Path × Node)
with_root tree = ([], Folder tree.is_whole) ∷ tree.entries

-- what stands at each path
unfoldable pub standing : Listing → Path → Option Node
standing tree path = node_at (with_root tree) path

-- there is a folder
abbrev pub is_folder : Option Node → Bool
is_folder None = false
is_folder (Some (Folder is_whole)) = true
is_folder (Some (File size modified)) = false
is_folder (Some Other) = false

-- the path comes before each of the entries
abbrev pub IsBefore : Path → List (Path × Node) → Type 0
IsBefore path [] = Unit {0}
IsBefore path (entry ∷ entries) = (path_cmp path entry.0 ≡ Less) × IsBefore path entries

-- each entry comes before those after it
abbrev pub IsAscending : List (Path × Node) → Type 0
IsAscending [] = Unit {0}
IsAscending (entry ∷ entries) = IsBefore entry.0 entries × IsAscending entries

-- whatever stands in a folder, that folder stands
abbrev pub IsConnected : (Path → Option Node) → Type 0
IsConnected tree = (folder : Path) (name : List ℕ) → IsSome (tree (folder ++ name ∷ [])) → IsTrue (is_folder (tree folder))

-- the entries ascend, and each stands in a folder
pub record IsTree (tree : Listing) : Type 0 where
  pub ascending : IsAscending (with_root tree)
  pub connected : IsConnected (standing tree)

-- the tree with this node at a path
abbrev pub updated : (Path → Option Node) → Path → Option Node → Path → Option Node
updated tree path node other = if is_same other path then node else tree other

-- the entry at a place is the path's, and is what a look-up finds
pub record IsPlace (entries : List (Path × Node)) (path : Path) (place : ℕ) : Type 0 where
  pub node : Node
  pub has : slice_get entries place ≡ Some (path, node)
  pub found : node_at entries path ≡ Some node

-- the path isn't there, and would go to this place: it comes after the entries before and before the others
pub record IsGap (entries : List (Path × Node)) (path : Path) (place : ℕ) : Type 0 where
  pub in_range : place ≤ length entries
  pub after : (k : ℕ) (entry : Path × Node) → k < place → slice_get entries k ≡ Some entry → path_cmp path entry.0 ≡ Greater
  pub before : (k : ℕ) (entry : Path × Node) → place ≤ k → slice_get entries k ≡ Some entry → path_cmp path entry.0 ≡ Less
  pub absent : node_at entries path ≡ None

-- none of the entries before this place is below the path, and the path comes before each of the others
pub record IsStart (entries : List (Path × Node)) (path : Path) (start : ℕ) : Type 0 where
  pub in_range : start ≤ length entries
  pub earlier : (k : ℕ) (entry : Path × Node) → k < start → slice_get entries k ≡ Some entry → is_below entry.0 path ≡ false
  pub later : (k : ℕ) (entry : Path × Node) → start ≤ k → slice_get entries k ≡ Some entry → path_cmp path entry.0 ≡ Less
