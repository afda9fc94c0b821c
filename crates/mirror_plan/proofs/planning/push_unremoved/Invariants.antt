use Rattle.std.proofs.Common.{◌≡◌, ◌++◌, drop}
use Rattle.mirror_plan.specs.Plan as plan
use Rattle.mirror_plan.proofs.planning.push_unremoved.Given as goal

-- what is there and what the entries that are left add make what all add
abbrev pub invariant-loop-entry : goal.invariant-loop-entry
invariant-loop-entry l = l.undone.items ++ plan.unremoved l.from l.to l.policy (drop l.entry-index l.entry-items) ≡ l.initial.undone.items ++ plan.unremoved l.from l.to l.policy l.entry-items
