use Rattle.std.proofs.Common.{rules}
use Rattle.refusals.proofs.machine.poll_dropped_replies.Goals as goal

pub returns-clause-waits : goal.returns-clause-waits
returns-clause-waits g c = search rules

pub returns-clause-catches_up : goal.returns-clause-catches_up
returns-clause-catches_up g c = search rules
