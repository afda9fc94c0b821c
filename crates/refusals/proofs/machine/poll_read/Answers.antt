use Rattle.std.proofs.Common.{rules}
use Rattle.refusals.proofs.machine.poll_read.Goals as goal

pub returns-clause-waits : goal.returns-clause-waits
returns-clause-waits g c = search rules

pub returns-clause-fails : goal.returns-clause-fails
returns-clause-fails g c = search rules

pub returns-clause-reads : goal.returns-clause-reads
returns-clause-reads g c = search rules
