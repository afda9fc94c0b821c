use Rattle.std.proofs.Common.{◌≡◌, ℕ, ◌≤◌, ◌<◌, length, true}
use Rattle.std.specs.Prelude.{◌==◌, not, slice_index}
use Rattle.ftp_list.proofs.facts.last_piece.Given as goal

abbrev pub invariant-loop-count : goal.invariant-loop-count
invariant-loop-count l =
    (l.count ≤ length l.text)
    × ((k : ℕ) → l.count ≤ k → k < length l.text → not (slice_index l.text k == 59) ≡ true)

abbrev pub decreases-loop-count : goal.decreases-loop-count
decreases-loop-count l = l.count
