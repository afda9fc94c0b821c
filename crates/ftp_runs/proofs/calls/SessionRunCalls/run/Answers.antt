use Rattle.ftp_runs.proofs.calls.SessionRunCalls.run.Goals as goal

pub returns-clause-runs : goal.returns-clause-runs
returns-clause-runs g c =
    let lent = c.lend-machine.ensures in
    let seen = c.look.ensures in
    rw (lent.machine, lent.builder, lent.encoding, seen.seen, seen.keeps.builder, seen.keeps.encoding) at c.run-answers.ensures.runs

pub returns-clause-counts : goal.returns-clause-counts
returns-clause-counts g c =
    let lent = c.lend-machine.ensures in
    let seen = c.look.ensures in
    rw (lent.machine, lent.builder, lent.encoding, seen.seen, seen.keeps.builder, seen.keeps.encoding) at c.run-answers.ensures.counts
