use Rattle.std.proofs.Common.{◌≡◌, [], take, drop}
use Rattle.mirror_plan.specs.Listing.{standing}
use Rattle.mirror_plan.specs.Plan.{way_end}
use Rattle.mirror_plan.proofs.decide.nearest.Given as goal

-- what is reached stands at the names so far, and from there the way ends where it does
abbrev pub invariant-loop-end : goal.invariant-loop-end
invariant-loop-end l = record {
  reached : l.reached ≡ standing l.tree (take l.end l.names);
  rest : way_end (standing l.tree) (take l.end l.names) (drop l.end l.names) ≡ way_end (standing l.tree) [] l.names;
}
