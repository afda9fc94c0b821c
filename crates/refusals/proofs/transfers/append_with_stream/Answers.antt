use Rattle.std.proofs.Common.{rules}
use Rattle.refusals.proofs.transfers.append_with_stream.Goals as goal

pub returns-clause-opens : goal.returns-clause-opens
returns-clause-opens g c = search rules
