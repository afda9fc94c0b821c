use Rattle.std.proofs.Common.{◌≡◌, ℕ, ◌-◌, ◌≤◌, ◌<◌, length, false}
use Rattle.std.specs.Prelude.{slice_index_or}
use Rattle.ftp_list.proofs.reach.open_run.Given as goal

abbrev pub invariant-down : goal.invariant-down
invariant-down l = (l.count ≤ l.most) × ((m : ℕ) → l.count < m → m ≤ l.most → slice_index_or l.row (length l.text - m) false ≡ false)

abbrev pub decreases-down : goal.decreases-down
decreases-down l = l.count
