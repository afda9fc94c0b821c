use Rattle.std.proofs.Common.{◌≡◌, ℕ, ◌-◌, ◌<◌, ◌≤◌, length, slice_get, Some}
use Rattle.std.specs.declared.cmp.Ordering.TheVariants.{Less, Greater}
use Rattle.mirror_plan.specs.declared.node.Node.{Node}
use Rattle.mirror_plan.specs.Paths.{Path, path_cmp}
use Rattle.mirror_plan.proofs.tree.position.Given as goal

abbrev pub invariant-loop-low : goal.invariant-loop-low
invariant-loop-low l = record {
  ordered : l.low ≤ l.high;
  in_range : l.high ≤ length l.entries;
  after : (k : ℕ) (e : Path × Node) → k < l.low → slice_get l.entries k ≡ Some e → path_cmp l.names e.0 ≡ Greater;
  before : (k : ℕ) (e : Path × Node) → l.high ≤ k → slice_get l.entries k ≡ Some e → path_cmp l.names e.0 ≡ Less;
}

abbrev pub decreases-loop-low : goal.decreases-loop-low
decreases-loop-low l = l.high - l.low
