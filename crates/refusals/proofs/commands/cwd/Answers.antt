use Rattle.std.proofs.Common.{rules}
use Rattle.refusals.proofs.commands.cwd.Goals as goal

pub returns-clause-plays : goal.returns-clause-plays
returns-clause-plays g c = search rules
