use Rattle.std.proofs.Common.{◌≡◌, List, ◌++◌, drop, length, reverse, take}
use Rattle.ftp_shared.specs.Places.{Names, AreSomeOf, folders_among}
use Rattle.ftp_shared.proofs.walk.Walk.visit.Given as goal

-- what is entered so far is some of the folders among the entries so far
abbrev pub invariant-loop-entry : goal.invariant-loop-entry
invariant-loop-entry g l =
    (done : List Names) × (folders_among l.fn.folder l.entries ≡ done ++ folders_among l.fn.folder (drop l.entry-index l.entries)) × AreSomeOf l.entered.items done

-- what was moved so far, and what is left, is all that is entered, the last first
abbrev pub invariant-loop-place : goal.invariant-loop-place
invariant-loop-place g l =
    (added : List Names) × (whole : List Names) × (l.self.folders.items ≡ l.fn.self.folders.items ++ added) × (reverse whole ≡ added ++ reverse l.entered.items) × AreSomeOf whole (folders_among l.fn.folder (take l.fn.self.limits.entries l.fn.listing.files.items)) ×
    (l.self.limits ≡ l.fn.self.limits) × (l.self.root ≡ l.fn.self.root)

abbrev pub decreases-loop-place : goal.decreases-loop-place
decreases-loop-place g l = length l.entered.items
