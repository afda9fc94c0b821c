use Rattle.std.proofs.Common.{rules}
use Rattle.refusals.proofs.ending.abort.Goals as goal

pub returns-clause-aborts : goal.returns-clause-aborts
returns-clause-aborts g c = search rules
