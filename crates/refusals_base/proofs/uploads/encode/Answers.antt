use Rattle.std.proofs.Common.{rules}
use Rattle.refusals_base.proofs.uploads.encode.Goals as goal

pub returns-clause-last : goal.returns-clause-last
returns-clause-last c = search rules
