use Rattle.std.proofs.Common.{rules}
use Rattle.refusals_base.proofs.answers.get_lines_from_stream.Goals as goal

pub returns-clause-lines : goal.returns-clause-lines
returns-clause-lines g c = search rules
