use Rattle.ftp_list.proofs.NumberFacts.{scaled_bound}
use Rattle.ftp_list.proofs.times.scaled.Goals as goal

pub returns-clause-bound : goal.returns-clause-bound
returns-clause-bound c = rw c.pow.ensures (scaled_bound c.args.value c.args.count c.requires.digits c.requires.value)
