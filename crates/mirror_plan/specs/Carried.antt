-- What becomes of a tree when a plan is carried out.
use Rattle.std.specs.Prelude.{◌≡◌, ℕ, Bool, true, false, not, ◌&&◌, ◌⊎◌, IsTrue, List, [], ◌∷◌, ◌++◌, Option, Some, None}
use Rattle.std.specs.List.{list_any}
use Rattle.mirror_plan.specs.declared.node.Node.{Node}
use Rattle.mirror_plan.specs.declared.node.Node.TheVariants.{Folder, File, Other}
use Rattle.mirror_plan.specs.declared.node.Policy.{Policy}
use Rattle.mirror_plan.specs.declared.action.Action.{Action}
use Rattle.mirror_plan.specs.declared.action.Action.TheVariants.{MakeFolder, Copy, RemoveFile, RemoveFolder}
use Rattle.mirror_plan.specs.declared.action.Undone.{Undone}
use Rattle.mirror_plan.specs.Paths.{Path, parent_of}
use Rattle.mirror_plan.specs.Listing.{Listing, IsTree, standing, is_folder, is_same, updated}
use Rattle.mirror_plan.specs.Plan.{is_gone, is_stale, actions_of}

abbrev pub is_file : Option Node → Bool
is_file None = false
is_file (Some (Folder is_whole)) = false
is_file (Some (File size modified)) = true
is_file (Some Other) = false

-- nothing is there, or a file
abbrev pub takes_file : Option Node → Bool
takes_file None = true
takes_file (Some (Folder is_whole)) = false
takes_file (Some (File size modified)) = true
takes_file (Some Other) = false

-- what an action makes of a tree. What is in a folder that was made is known
abbrev pub carried_out : Action → (Path → Option Node) → Path → Option Node
carried_out (MakeFolder path) tree = updated tree path (Some (Folder true))
carried_out (Copy path size modified) tree = updated tree path (Some (File size modified))
carried_out (RemoveFile path) tree = updated tree path None
carried_out (RemoveFolder path) tree = updated tree path None

-- a file system would do it: what is made goes into a folder, a file goes over a file at most, and a folder that is
-- removed is empty
abbrev pub CanBeCarriedOut : Action → (Path → Option Node) → Type 0
CanBeCarriedOut (MakeFolder path) tree = (tree path ≡ None) × IsTrue (is_folder (tree (parent_of path)))
CanBeCarriedOut (Copy path size modified) tree = IsTrue (takes_file (tree path)) × IsTrue (is_folder (tree (parent_of path)))
CanBeCarriedOut (RemoveFile path) tree = IsTrue (is_file (tree path))
CanBeCarriedOut (RemoveFolder path) tree = IsTrue (is_folder (tree path)) × ((name : List ℕ) (names : Path) → tree (path ++ name ∷ names) ≡ None)

-- what all actions make of a tree, in their order
abbrev pub all_carried_out : List Action → (Path → Option Node) → Path → Option Node
all_carried_out [] tree = tree
all_carried_out (action ∷ actions) tree = all_carried_out actions (carried_out action tree)

-- each action can be carried out after those before it
abbrev pub CanAllBeCarriedOut : List Action → (Path → Option Node) → Type 0
CanAllBeCarriedOut [] tree = Unit {0}
CanAllBeCarriedOut (action ∷ actions) tree = CanBeCarriedOut action tree × CanAllBeCarriedOut actions (carried_out action tree)

-- what stands in the second tree is as the policy wants it for what stands in the first
abbrev pub is_alike : Policy → Option Node → Option Node → Bool
is_alike policy None None = true
is_alike policy None (Some node) = not policy.delete
is_alike policy (Some (Folder is_whole)) there = is_folder there
is_alike policy (Some (File size modified)) there = is_file there && not (is_stale policy size modified there)
is_alike policy (Some Other) there = false

-- the path is among those that are left undone
abbrev pub is_undone : List Undone → Path → Bool
is_undone undone path = list_any (λ left. is_same left.path path) undone

-- the path or a folder above it is left undone
abbrev pub IsLeft : List Undone → Path → Type 0
IsLeft undone path = (above : Path) × (below : Path) × (path ≡ above ++ below) × IsTrue (is_undone undone above)

-- the second tree is like the first wherever nothing was left undone
abbrev pub IsAlike : Policy → List Undone → (Path → Option Node) → (Path → Option Node) → Type 0
IsAlike policy undone from to = (path : Path) → IsTrue (is_alike policy (from path) (to path)) ⊎ IsLeft undone path

-- what a plan may do: it makes and copies what the first tree has, as it has it, and removes nothing but what the policy
-- lets it and the first tree was seen not to have
abbrev pub IsJustified : Policy → Listing → Action → Type 0
IsJustified policy from (MakeFolder path) = IsTrue (is_folder (standing from path))
IsJustified policy from (Copy path size modified) = standing from path ≡ Some (File size modified)
IsJustified policy from (RemoveFile path) = IsTrue policy.delete × IsTrue (is_gone from path)
IsJustified policy from (RemoveFolder path) = IsTrue policy.delete × IsTrue (is_gone from path)

-- once a tree has what the plan leaves, a plan from the same first tree does nothing
abbrev pub IsSettled : Policy → Listing → (Path → Option Node) → Type 0
IsSettled policy from left = (again : Listing) → IsTree again → ((path : Path) → standing again path ≡ left path) → actions_of from again policy ≡ []
