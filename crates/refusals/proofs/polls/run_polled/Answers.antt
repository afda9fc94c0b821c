use Rattle.std.proofs.Common.{rules}
use Rattle.refusals.proofs.polls.run_polled.Goals as goal

pub returns-clause-scripted : goal.returns-clause-scripted
returns-clause-scripted g c = search rules

pub returns-clause-stops : goal.returns-clause-stops
returns-clause-stops g c = search rules

pub returns-clause-grows : goal.returns-clause-grows
returns-clause-grows g c = search rules
