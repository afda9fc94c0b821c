use Rattle.std.proofs.Common.{rules}
use Rattle.refusals.proofs.machine.drop_call.Goals as goal

pub returns : goal.returns
returns c = search rules
