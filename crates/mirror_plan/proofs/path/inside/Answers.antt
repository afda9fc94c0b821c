use Rattle.std.proofs.Common.{arith}
use Rattle.std.proofs.lemmas.Grind.{common_steps}
use Rattle.mirror_plan.proofs.PathFacts.{is_inside-last}
use Rattle.mirror_plan.proofs.path.inside.Goals as goal

pub invariant_of-result : goal.invariant_of-result
invariant_of-result c = grind (arith, common_steps, is_inside-last c.args.folder.now c.args.name.now, c.child.type_inv)
