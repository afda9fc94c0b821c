use Rattle.std.proofs.Common.{rules}
use Rattle.refusals.proofs.connecting.connect_with_stream.Goals as goal

pub returns-clause-connects : goal.returns-clause-connects
returns-clause-connects g c = search rules
