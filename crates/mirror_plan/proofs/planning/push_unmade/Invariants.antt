use Rattle.std.proofs.Common.{◌≡◌, ◌++◌, drop}
use Rattle.mirror_plan.specs.Plan as plan
use Rattle.mirror_plan.proofs.planning.push_unmade.Given as goal

-- what is there and what the entries that are left add make what all add
abbrev pub invariant-loop-entry : goal.invariant-loop-entry
invariant-loop-entry l = l.undone.items ++ plan.unmade l.to (drop l.entry-index l.entry-items) ≡ l.initial.undone.items ++ plan.unmade l.to l.entry-items
