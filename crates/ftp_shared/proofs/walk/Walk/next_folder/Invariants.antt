use Rattle.std.proofs.Common.{◌≡◌, List, ◌++◌}
use Rattle.ftp_shared.specs.Places.{Names, AreDeep}
use Rattle.ftp_shared.proofs.walk.Walk.next_folder.Given as goal

-- what was taken so far lies too deep, and what is left stood before it
abbrev pub invariant-loop-folder : goal.invariant-loop-folder
invariant-loop-folder g l = (deep : List Names) × (l.fn.self.folders.items ≡ l.self.folders.items ++ deep) × AreDeep l.levels deep × (l.self.limits ≡ l.fn.self.limits) × (l.self.root ≡ l.fn.self.root)

abbrev pub decreases-loop-folder : goal.decreases-loop-folder
decreases-loop-folder g l = goal.left-loop-folder g l
