use Rattle.std.proofs.Common.{rules}
use Rattle.refusals_base.proofs.memory.perform.Goals as goal

pub returns-clause-performs : goal.returns-clause-performs
returns-clause-performs g c = search rules
