use Rattle.std.proofs.Common.{rules}
use Rattle.refusals.proofs.resyncing.resync.Goals as goal

pub returns-clause-plays : goal.returns-clause-plays
returns-clause-plays g c = search rules
