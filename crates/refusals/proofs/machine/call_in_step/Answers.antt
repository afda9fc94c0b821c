use Rattle.std.proofs.Common.{rules}
use Rattle.refusals.proofs.machine.call_in_step.Goals as goal

pub returns-clause-answers : goal.returns-clause-answers
returns-clause-answers g c = search rules

pub returns-clause-made : goal.returns-clause-made
returns-clause-made g c = search rules
