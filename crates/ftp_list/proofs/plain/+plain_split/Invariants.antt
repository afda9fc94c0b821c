use Rattle.std.proofs.Common.{ℕ, ◌≤◌, length, drop}
use Rattle.ftp_list.specs.Rows.{Fits, CanSplit}
use Rattle.ftp_list.proofs.plain.+plain_split.Given as goal

abbrev pub decreases-plain_split : goal.decreases-plain_split
decreases-plain_split l = length l.shapes.now

abbrev pub invariant-down : goal.invariant-down
invariant-down l = (l.count ≤ length l.text) × ((m : ℕ) → Fits l.shape l.text m → CanSplit l.later (drop m l.text) → m ≤ l.count)

abbrev pub decreases-down : goal.decreases-down
decreases-down l = l.count
