-- What a plan does and leaves undone, path by path.
use Rattle.std.specs.Prelude.{ℕ, ℤ, Bool, true, false, not, ◌&&◌, ◌||◌, ◌==◌, if◌then◌else◌, List, [], ◌∷◌, ◌++◌, Option, Some, None, is_some, int_lt}
use Rattle.std.specs.List.{list_any}
use Rattle.mirror_plan.specs.declared.node.Node.{Node}
use Rattle.mirror_plan.specs.declared.node.Node.TheVariants.{Folder, File, Other}
use Rattle.mirror_plan.specs.declared.node.Policy.{Policy}
use Rattle.mirror_plan.specs.declared.action.Action.{Action}
use Rattle.mirror_plan.specs.declared.action.Action.TheVariants.{MakeFolder, Copy, RemoveFile, RemoveFolder}
use Rattle.mirror_plan.specs.declared.action.Reason.{Reason}
use Rattle.mirror_plan.specs.declared.action.Reason.TheVariants.{KindDiffers, NotAFileOrFolder, ListingNotWhole, NotEmptied}
use Rattle.mirror_plan.specs.declared.action.Undone.{Undone}
use Rattle.mirror_plan.specs.Paths.{Path, is_below}
use Rattle.mirror_plan.specs.Listing.{Listing, standing, is_folder}

-- what stands where the way down to a path ends: at the path itself, or at the last name on the way that is there
abbrev pub way_end : (Path → Option Node) → Path → Path → Option Node
way_end tree folder [] = tree folder
way_end tree folder (name ∷ names) = if is_some (tree (folder ++ name ∷ [])) then way_end tree (folder ++ name ∷ []) names else tree folder

unfoldable pub nearest : Listing → Path → Option Node
nearest tree path = way_end (standing tree) [] path

-- it shows what it doesn't have: it is a folder, and was listed whole
abbrev pub shows_absence : Option Node → Bool
shows_absence None = false
shows_absence (Some (Folder is_whole)) = is_whole
shows_absence (Some (File size modified)) = false
shows_absence (Some Other) = false

-- the tree was seen not to have the path
abbrev pub is_gone : Listing → Path → Bool
is_gone tree path = not (is_some (standing tree path)) && shows_absence (nearest tree path)

-- nothing is at the path, and the way down to it ends in a folder
abbrev pub is_free : Listing → Path → Bool
is_free tree path = not (is_some (standing tree path)) && is_folder (nearest tree path)

-- the first time is known to be after the second
abbrev pub is_later : Option ℤ → Option ℤ → Bool
is_later (Some time) (Some other) = int_lt other time
is_later (Some time) None = false
is_later None other = false

-- a file of this size and time is to be copied over what stands there
abbrev pub is_stale : Policy → ℕ → Option ℤ → Option Node → Bool
is_stale policy size modified None = false
is_stale policy size modified (Some (Folder is_whole)) = false
is_stale policy size modified (Some (File old_size old_modified)) = not (size == old_size) || (policy.newer && is_later modified old_modified)
is_stale policy size modified (Some Other) = false

-- the node is to be made or copied
abbrev pub is_made : Listing → Policy → Path → Node → Bool
is_made to policy path (Folder is_whole) = is_free to path
is_made to policy path (File size modified) = is_free to path || is_stale policy size modified (standing to path)
is_made to policy path Other = false

-- it is never removed, nor is a folder above it
abbrev pub is_kept : Node → Bool
is_kept (Folder is_whole) = not is_whole
is_kept (File size modified) = false
is_kept Other = true

-- one of these entries is below the path and never removed
abbrev pub kept_below : List (Path × Node) → Path → Bool
kept_below entries path = list_any (λ entry. is_kept entry.1 && is_below entry.0 path) entries

-- something below the path is never removed
abbrev pub holds_kept : Listing → Path → Bool
holds_kept to path = kept_below to.entries path

-- the node is to be removed
abbrev pub is_removed : Listing → Listing → Policy → Path → Node → Bool
is_removed from to policy path node = policy.delete && is_gone from path && not (is_kept node) && not (is_folder (Some node) && holds_kept to path)

-- the action that makes a node, and the one that removes it
abbrev pub making : Path → Node → List Action
making path (Folder is_whole) = MakeFolder path ∷ []
making path (File size modified) = Copy path size modified ∷ []
making path Other = []

abbrev pub removing : Path → Node → List Action
removing path (Folder is_whole) = RemoveFolder path ∷ []
removing path (File size modified) = RemoveFile path ∷ []
removing path Other = []

-- what is made of these entries, in their order
abbrev pub makings : Listing → Policy → List (Path × Node) → List Action
makings to policy [] = []
makings to policy (entry ∷ entries) = (if is_made to policy entry.0 entry.1 then making entry.0 entry.1 else []) ++ makings to policy entries

-- what is removed of these entries, the last one first
abbrev pub removals : Listing → Listing → Policy → List (Path × Node) → List Action
removals from to policy [] = []
removals from to policy (entry ∷ entries) = removals from to policy entries ++ (if is_removed from to policy entry.0 entry.1 then removing entry.0 entry.1 else [])

-- the actions of a plan
unfoldable pub actions_of : Listing → Listing → Policy → List Action
actions_of from to policy = removals from to policy to.entries ++ makings to policy from.entries

-- why a node of the first tree and what stands there in the second aren't made alike
abbrev pub unlike : Node → Option Node → Option Reason
unlike Other there = Some NotAFileOrFolder
unlike (Folder is_whole) None = None
unlike (Folder is_whole) (Some (Folder other)) = None
unlike (Folder is_whole) (Some (File size modified)) = Some KindDiffers
unlike (Folder is_whole) (Some Other) = Some NotAFileOrFolder
unlike (File size modified) None = None
unlike (File size modified) (Some (Folder is_whole)) = Some KindDiffers
unlike (File size modified) (Some (File old_size old_modified)) = None
unlike (File size modified) (Some Other) = Some NotAFileOrFolder

-- why a node that is gone is left
abbrev pub reason_kept : Node → Reason
reason_kept (Folder is_whole) = if is_whole then NotEmptied else ListingNotWhole
reason_kept (File size modified) = ListingNotWhole
reason_kept Other = NotAFileOrFolder

-- why a node is left, by what the first tree has nearest to it
abbrev pub reason_left : Option Node → Node → Reason
reason_left None node = ListingNotWhole
reason_left (Some (Folder is_whole)) node = if is_whole then reason_kept node else ListingNotWhole
reason_left (Some (File size modified)) node = KindDiffers
reason_left (Some Other) node = NotAFileOrFolder

-- why a node of the second tree that the first doesn't have isn't removed
abbrev pub not_removed : Listing → Listing → Policy → Path → Node → Option Reason
not_removed from to policy path node =
    if policy.delete && not (is_some (standing from path)) && not (is_removed from to policy path node)
    then Some (reason_left (nearest from path) node)
    else None

-- a path that is left for a reason, if there is one
abbrev pub left_for : Path → Option Reason → List Undone
left_for path None = []
left_for path (Some reason) = record { path = path; reason = reason } ∷ []

-- the paths of these entries that are left for a reason
abbrev pub left_among : (Path → Node → Option Reason) → List (Path × Node) → List Undone
left_among why [] = []
left_among why (entry ∷ entries) = left_for entry.0 (why entry.0 entry.1) ++ left_among why entries

-- the paths of the first tree that aren't made, and those of the second that aren't removed
abbrev pub unmade : Listing → List (Path × Node) → List Undone
unmade to entries = left_among (λ path node. unlike node (standing to path)) entries

abbrev pub unremoved : Listing → Listing → Policy → List (Path × Node) → List Undone
unremoved from to policy entries = left_among (not_removed from to policy) entries

-- what a plan leaves undone
unfoldable pub undone_of : Listing → Listing → Policy → List Undone
undone_of from to policy = unmade to from.entries ++ unremoved from to policy to.entries
