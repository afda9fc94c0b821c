use Rattle.ftp_dialogue.specs.Dialogue.{sought}
use Rattle.ftp_dialogue.proofs.RecoveringLemmas.{noop_awaited, noop_heard, others, sought_on}
use Rattle.ftp_dialogue.proofs.machine.Machine.seek.Goals as goal

pub returns-in-Ready-Ok-clause-makes : goal.returns-in-Ready-Ok-clause-makes
returns-in-Ready-Ok-clause-makes g c = λ coding call of.
    let heard = rw (c.in-Ready-Ok.is, c.in-Ready-Ok.field-0-is) at c.hear.ensures.hears in
    noop_heard _ coding call c.args.turn of c.args.left c.args.self.now _ c.in-Ready-Ok._reply c.hear.new.self (heard (sought (others c.args.left c.args.self.now.state) c.args.self.now.state))

pub returns-in-Ready-Err-clause-makes : goal.returns-in-Ready-Err-clause-makes
returns-in-Ready-Err-clause-makes g c = λ coding call of.
    let heard = rw (c.in-Ready-Err.is, c.in-Ready-Err.field-0-is) at c.hear.ensures.hears in
    sought_on _ coding call c.args.turn of c.args.left c.args.self.now c.in-Ready-Err.fault _ _ c.hear.new.self c.abort_dialogue.new.self c.requires.going c.follow_reply.ensures (heard (sought (others c.args.left c.args.self.now.state) c.args.self.now.state)) c.abort_dialogue.ensures

pub returns-in-Pending-clause-makes : goal.returns-in-Pending-clause-makes
returns-in-Pending-clause-makes g c = λ coding call of.
    let heard = rw c.in-Pending.is at c.hear.ensures.hears in
    rw c.go_to.ensures (noop_awaited _ coding call c.args.turn of c.args.left c.args.self.now c.hear.new.self (heard (sought (others c.args.left c.args.self.now.state) c.args.self.now.state)))
