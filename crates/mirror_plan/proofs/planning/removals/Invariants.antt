use Rattle.std.proofs.Common.{◌≡◌, ◌≤◌, length, drop}
use Rattle.mirror_plan.specs.Plan as plan
use Rattle.mirror_plan.proofs.planning.removals.Given as goal

abbrev pub invariant-loop-index : goal.invariant-loop-index
invariant-loop-index l = record {
  in_range : l.index ≤ length l.entries;
  so_far : l.actions.items ≡ plan.removals l.from l.to l.policy (drop l.index l.entries);
}

abbrev pub decreases-loop-index : goal.decreases-loop-index
decreases-loop-index l = l.index
