use Rattle.mirror_plan.proofs.EntryFacts.{empty_IsTree}
use Rattle.mirror_plan.proofs.tree.Tree.new.Goals as goal

pub invariant_of-result : goal.invariant_of-result
invariant_of-result c = rw c.new.ensures.items (empty_IsTree c.args.is_whole)
