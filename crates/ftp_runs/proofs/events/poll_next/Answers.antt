use Rattle.std.proofs.Common.{ap, false, refl, true}
use Rattle.futures.specs.declared.task.Poll.TheVariants.{Ready, Pending}
use Rattle.ftp_dialogue.specs.Coding.{Coding, coding_of}
use Rattle.ftp_dialogue.specs.Link.{Builds, built_by}
use Rattle.ftp_dialogue.proofs.DrainingLemmas.{given_more, given_none}
use Rattle.ftp_runs.proofs.Drained.{next_fault, next_over, next_undue, next_waits}
use Rattle.ftp_runs.proofs.events.poll_next.Goals.{then-is_due+in-Ready+in_default, else-is_due}
use Rattle.ftp_runs.proofs.events.poll_next.Goals as goal

pub returns-in-Pending-clause-polled : goal.returns-in-Pending-clause-polled
returns-in-Pending-clause-polled g c =
    let coding : Coding = coding_of g.E.Encoding.decoded g.E.Encoding.encoded c.args.encoding.now in
    let builds : Builds = built_by g.B.PassiveStreamBuilder.answers c.args.builder.now in
    let due = rw c.is_due.ensures at c.if-is_due.true in
    let drains = rw c.in-Pending.is at c.poll_drain.ensures.polled in
    next_waits builds coding c.args.call.now c.args.stage.now c.args.stage.now false c.args.machine.now c.poll_drain.new.machine Pending c.poll_drain.new.machine drains.0 due drains.1 refl refl refl refl

pub returns-in-Some-clause-polled : goal.returns-in-Some-clause-polled
returns-in-Some-clause-polled g c =
    let coding : Coding = coding_of g.E.Encoding.decoded g.E.Encoding.encoded c.args.encoding.now in
    let builds : Builds = built_by g.B.PassiveStreamBuilder.answers c.args.builder.now in
    let due = rw c.is_due.ensures at c.if-is_due.true in
    let drains = rw c.in-Ready.is at c.poll_drain.ensures.polled in
    let more = given_more c.in-Ready.first c.in-Some.answer c.unless_unit.result c.unless_unit.ensures c.in-Some.is in
    next_fault builds coding c.args.call.now c.args.stage.now c.args.stage.now false c.args.machine.now c.poll_drain.new.machine (Ready c.in-Some.answer) c.poll_drain.new.machine drains.0 due c.in-Ready.first drains.1 more.0 (ap Ready more.1) refl

pub returns-clause-polled : goal.returns-clause-polled
returns-clause-polled g c =
    let coding : Coding = coding_of g.E.Encoding.decoded g.E.Encoding.encoded c.args.encoding.now in
    let builds : Builds = built_by g.B.PassiveStreamBuilder.answers c.args.builder.now in
    let polls = c.poll_here.ensures.polled in
    elim c.if-is_due.branch [
      | then-is_due+in-Ready+in_default w ↦ (
          let due = rw c.is_due.ensures at w.if-is_due.true in
          let drains = rw w.in-Ready.is at w.poll_drain.ensures.polled in
          let unit = given_none w.in-Ready.first w.unless_unit.result w.unless_unit.ensures w.in_default.is in
          next_over builds coding c.args.call.now c.args.stage.now c.poll_here.new.stage true c.args.machine.now c.poll_here.new.machine c.poll_here.result w.poll_drain.new.machine drains.0 due w.in-Ready.first drains.1 unit refl (rw w.machine-is at polls)
          )
      | else-is_due w ↦ (
          let undue = rw c.is_due.ensures at w.if-is_due.false in
          next_undue builds coding c.args.call.now c.args.stage.now c.poll_here.new.stage true c.args.machine.now c.poll_here.new.machine c.poll_here.result undue refl (rw w.machine-is at polls)
          )
    ]
