use Rattle.std.proofs.Common.{rules}
use Rattle.refusals.proofs.polls.poll_call.Goals as goal

pub returns-clause-polls : goal.returns-clause-polls
returns-clause-polls g c = search rules
