use Rattle.std.proofs.Common.{rules}
use Rattle.refusals_base.proofs.connections.wait.Goals as goal

pub returns-clause-registered : goal.returns-clause-registered
returns-clause-registered g c = search rules
