use Rattle.std.proofs.Common.{rules}
use Rattle.refusals.proofs.ending.settle.Goals as goal

pub returns-clause-settles : goal.returns-clause-settles
returns-clause-settles g c = search rules
