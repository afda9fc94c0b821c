use Rattle.std.proofs.Common.{inr}
use Rattle.ftp_runs.proofs.Scripts.{where_failed}
use Rattle.ftp_runs.proofs.events.SessionMemoryTransportRunEvents.run_polled.Goals as goal

pub returns-clause-scripted : goal.returns-clause-scripted
returns-clause-scripted g c =
    let lent = c.lend-machine.ensures in
    let seen = c.look.ensures in
    rw (lent.machine, lent.builder, lent.encoding, seen.seen, seen.keeps.builder, seen.keeps.encoding) at c.let_happen-answers.ensures.scripted

pub returns-clause-stops : goal.returns-clause-stops
returns-clause-stops g c =
    let lent = c.lend-machine.ensures in
    let seen = c.look.ensures in
    where_failed _ _ _ _ c.let_happen-answers.result (λ stops. inr (seen.looks, stops)) (rw (lent.machine, lent.builder, lent.encoding, seen.seen, seen.keeps.builder, seen.keeps.encoding) at c.let_happen-answers.ensures.stops)

pub returns-clause-counts : goal.returns-clause-counts
returns-clause-counts g c =
    let lent = c.lend-machine.ensures in
    let seen = c.look.ensures in
    rw (lent.machine, lent.builder, seen.seen, seen.keeps.builder) at c.let_happen-answers.ensures.counts
