use Rattle.std.proofs.Common.{rules}
use Rattle.refusals_base.proofs.calls.row_at.Goals as goal

pub returns-clause-row_is : goal.returns-clause-row_is
returns-clause-row_is c = search rules

pub returns-clause-held : goal.returns-clause-held
returns-clause-held c = search rules
