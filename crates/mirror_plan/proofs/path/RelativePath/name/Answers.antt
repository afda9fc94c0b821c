use Rattle.std.proofs.Common.{arith}
use Rattle.mirror_plan.proofs.PathFacts.{parent_of_last}
use Rattle.mirror_plan.proofs.path.RelativePath.name.Goals as goal

pub returns : goal.returns
returns c = grind (arith, parent_of_last c.args.self.now c.index-names-names.result)
