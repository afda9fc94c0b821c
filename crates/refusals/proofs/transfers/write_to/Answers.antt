use Rattle.std.proofs.Common.{rules}
use Rattle.refusals.proofs.transfers.write_to.Goals as goal

pub returns-clause-writes : goal.returns-clause-writes
returns-clause-writes g c = search rules
