use Rattle.std.proofs.Common.{rules}
use Rattle.refusals.proofs.transfers.nlst.Goals as goal

pub returns-clause-fetches : goal.returns-clause-fetches
returns-clause-fetches g c = search rules
