use Rattle.rows_tls.proofs.sealed_poll.SealAsyncTlsConnector.poll.Goals as goal

pub returns-in-Some-Seals-clause-unused : goal.returns-in-Some-Seals-clause-unused
returns-in-Some-Seals-clause-unused g c =
    let value = c.take.ensures.value in
    let is = c.in-Some-Seals.is in
    let seals = c.in-Some-Seals.field-0-is in
    c.args.sealing.now.unused c.in-Some-Seals.conn c.in-Some-Seals.clear cc
