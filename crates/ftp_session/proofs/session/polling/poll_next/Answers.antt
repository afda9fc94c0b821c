use Rattle.std.proofs.Common.{ap, refl}
use Rattle.futures.specs.declared.task.Poll.TheVariants.{Ready, Pending}
use Rattle.ftp_dialogue.proofs.DrainingLemmas.{given_more, given_none}
use Rattle.ftp_session.proofs.PolledLemmas.{next_fault, next_over, next_undue, next_waits}
use Rattle.ftp_session.proofs.session.polling.poll_next.Goals.{then-is_due+in-Ready+in_default, else-is_due}
use Rattle.ftp_session.proofs.session.polling.poll_next.Goals as goal

pub returns-in-Pending-clause-polls : goal.returns-in-Pending-clause-polls
returns-in-Pending-clause-polls g c =
    let due = rw c.is_due.ensures at c.if-is_due.true in
    let drains = rw c.in-Pending.is at c.poll_drain.ensures.polls in
    next_waits _ _ _ c.args.call.now c.args.stage.now c.args.stage.now c.args.machine.now c.poll_drain.new.machine Pending c.poll_drain.new.machine drains.0 due drains.1 refl refl refl

pub returns-in-Some-clause-polls : goal.returns-in-Some-clause-polls
returns-in-Some-clause-polls g c =
    let due = rw c.is_due.ensures at c.if-is_due.true in
    let drains = rw c.in-Ready.is at c.poll_drain.ensures.polls in
    let more = given_more c.in-Ready.first c.in-Some.answer c.unless_unit.result c.unless_unit.ensures c.in-Some.is in
    next_fault _ _ _ c.args.call.now c.args.stage.now c.args.stage.now c.args.machine.now c.poll_drain.new.machine (Ready c.in-Some.answer) c.poll_drain.new.machine drains.0 due c.in-Ready.first drains.1 more.0 (ap Ready more.1) refl

pub returns-clause-polls : goal.returns-clause-polls
returns-clause-polls g c =
    let polls = c.poll_started.ensures.starts in
    elim c.if-is_due.branch [
      | then-is_due+in-Ready+in_default w ↦ (
          let due = rw c.is_due.ensures at w.if-is_due.true in
          let drains = rw w.in-Ready.is at w.poll_drain.ensures.polls in
          let unit = given_none w.in-Ready.first w.unless_unit.result w.unless_unit.ensures w.in_default.is in
          next_over _ _ _ c.args.call.now c.args.stage.now c.poll_started.new.stage c.args.machine.now c.poll_started.new.self c.poll_started.result w.poll_drain.new.machine drains.0 due w.in-Ready.first drains.1 unit (rw w.machine-is at polls)
          )
      | else-is_due w ↦ (
          let undue = rw c.is_due.ensures at w.if-is_due.false in
          next_undue _ _ _ c.args.call.now c.args.stage.now c.poll_started.new.stage c.args.machine.now c.poll_started.new.self c.poll_started.result undue (rw w.machine-is at polls)
          )
    ]
