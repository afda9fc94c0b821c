use Rattle.std.proofs.Common.{rules}
use Rattle.refusals_base.proofs.memory.read_response_in.Goals as goal

pub returns-clause-failed : goal.returns-clause-failed
returns-clause-failed c = search rules

pub returns-clause-reads : goal.returns-clause-reads
returns-clause-reads c = search rules
