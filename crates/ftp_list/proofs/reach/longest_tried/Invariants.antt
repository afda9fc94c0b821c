use Rattle.std.proofs.Common.{ℕ, ◌≤◌, length}
use Rattle.ftp_list.specs.declared.shape.Shape.TheVariants.{Short}
use Rattle.ftp_list.specs.Rows.{Fits}
use Rattle.ftp_list.proofs.reach.longest_tried.Given as goal

abbrev pub invariant-down : goal.invariant-down
invariant-down l = (l.count ≤ length l.text) × ((m : ℕ) → Fits (Short l.form) l.text m → m ≤ l.count)

abbrev pub decreases-down : goal.decreases-down
decreases-down l = l.count
