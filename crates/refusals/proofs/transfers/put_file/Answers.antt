use Rattle.std.proofs.Common.{rules}
use Rattle.refusals.proofs.transfers.put_file.Goals as goal

pub returns-clause-puts : goal.returns-clause-puts
returns-clause-puts g c = search rules

pub returns-clause-counts : goal.returns-clause-counts
returns-clause-counts g c = search rules
