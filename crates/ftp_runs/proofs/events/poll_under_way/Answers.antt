use Rattle.std.proofs.Common.{None, Option, Some, ap, option_map, subst, sym, [], ◌∷◌}
use Rattle.futures.specs.declared.task.Poll.TheVariants.{Ready, Pending}
use Rattle.ftp_calls.specs.declared.call.Call.{Call}
use Rattle.ftp_calls.specs.declared.call.Event.TheVariants as event
use Rattle.ftp_dialogue.specs.Coding.{Coding, coding_of}
use Rattle.ftp_dialogue.specs.Link.{Builds, built_by}
use Rattle.ftp_runs.specs.declared.events.Course.{Course}
use Rattle.ftp_runs.specs.Following.{Happens}
use Rattle.ftp_dialogue.specs.Steps.Polls.{StageIn}
use Rattle.ftp_runs.specs.Counting.{CausesHere}
use Rattle.ftp_runs.proofs.Drained.{next_fails, next_happens, next_stays}
use Rattle.ftp_runs.proofs.EventCauses.{idle_here, ready_here, waits_here}
use Rattle.ftp_runs.proofs.Leaving.{fails_then, idle_happens, left_apart, ready_happens, stays_then, waits_happens}
use Rattle.ftp_runs.proofs.events.poll_under_way.Goals as goal

pub returns-in-Ready-clause-happens : goal.returns-in-Ready-clause-happens
returns-in-Ready-clause-happens g c =
    let coding : Coding = coding_of g.E.Encoding.decoded g.E.Encoding.encoded c.args.encoding.now in
    let builds : Builds = built_by g.B.PassiveStreamBuilder.answers c.args.builder.now in
    let polled = rw c.in-Ready.is at c.poll_next.ensures.polled in
    let P : Option Call → Type 0 = λ o. Happens builds coding c.args.machine.now c.leave_then.new.machine o None c.args.stage.now c.poll_next.new.stage c.args.course.now c.resting.result event.Poll (Some c.in-Ready.answer) in
    let C : Course → Type 0 = λ x. Happens builds coding c.args.machine.now c.leave_then.new.machine (Some c.in-Some.call.now) None c.args.stage.now c.poll_next.new.stage c.args.course.now x event.Poll (Some c.in-Ready.answer) in
    subst P (sym (ap (λ o. option_map (λ c'. c'.now) o) c.in-Some.is)) (subst C (sym c.resting.ensures) (ready_happens builds coding c.in-Some.call.now c.args.stage.now c.poll_next.new.stage c.poll_next.new.polled c.args.course.now c.args.machine.now c.poll_next.new.machine c.leave_then.new.machine c.in-Ready.answer (next_happens builds coding c.in-Some.call.now c.args.stage.now c.poll_next.new.stage c.poll_next.new.polled c.args.machine.now c.poll_next.new.machine (Ready c.in-Ready.answer) polled) c.leave_then.ensures.leaves))

pub returns-in-Pending-clause-happens : goal.returns-in-Pending-clause-happens
returns-in-Pending-clause-happens g c =
    let coding : Coding = coding_of g.E.Encoding.decoded g.E.Encoding.encoded c.args.encoding.now in
    let builds : Builds = built_by g.B.PassiveStreamBuilder.answers c.args.builder.now in
    let polled = rw c.in-Pending.is at c.poll_next.ensures.polled in
    let course' : Course = record c.args.course.now { polled = c.poll_next.new.polled } in
    let P : Option Call → Type 0 = λ o. Happens builds coding c.args.machine.now c.poll_next.new.machine o o c.args.stage.now c.poll_next.new.stage c.args.course.now course' event.Poll None in
    subst P (sym (ap (λ o. option_map (λ c'. c'.now) o) c.in-Some.is)) (waits_happens builds coding c.in-Some.call.now c.args.stage.now c.poll_next.new.stage c.poll_next.new.polled c.args.course.now c.args.machine.now c.poll_next.new.machine (next_happens builds coding c.in-Some.call.now c.args.stage.now c.poll_next.new.stage c.poll_next.new.polled c.args.machine.now c.poll_next.new.machine Pending polled))

pub returns-in_default-clause-happens : goal.returns-in_default-clause-happens
returns-in_default-clause-happens g c =
    let coding : Coding = coding_of g.E.Encoding.decoded g.E.Encoding.encoded c.args.encoding.now in
    let builds : Builds = built_by g.B.PassiveStreamBuilder.answers c.args.builder.now in
    let P : Option Call → Type 0 = λ o. Happens builds coding c.args.machine.now c.args.machine.now o o c.args.stage.now c.args.stage.now c.args.course.now c.args.course.now event.Poll None in
    subst P (sym (ap (λ o. option_map (λ c'. c'.now) o) c.in_default.is)) (idle_happens builds coding c.args.stage.now c.args.course.now c.args.machine.now)

pub returns-in-Ready-clause-fails : goal.returns-in-Ready-clause-fails
returns-in-Ready-clause-fails g c =
    let polled = rw c.in-Ready.is at c.poll_next.ensures.polled in
    fails_then c.args.machine.now c.poll_next.new.machine c.leave_then.new.machine (c.in-Ready.answer ∷ []) (left_apart c.args.course.now.leaving c.poll_next.new.machine c.leave_then.new.machine c.leave_then.ensures.leaves) (next_fails _ _ _ _ _ _ _ _ (Ready c.in-Ready.answer) polled)

pub returns-in-Pending-clause-fails : goal.returns-in-Pending-clause-fails
returns-in-Pending-clause-fails g c =
    let polled = rw c.in-Pending.is at c.poll_next.ensures.polled in
    next_fails _ _ _ _ _ _ _ _ Pending polled

pub returns-in-Ready-clause-failed : goal.returns-in-Ready-clause-failed
returns-in-Ready-clause-failed g c = λ failed.
    let polled = rw c.in-Ready.is at c.poll_next.ensures.polled in
    stays_then c.args.machine.now c.poll_next.new.machine c.leave_then.new.machine (c.in-Ready.answer ∷ []) (left_apart c.args.course.now.leaving c.poll_next.new.machine c.leave_then.new.machine c.leave_then.ensures.leaves) (next_stays _ _ _ _ _ _ _ _ (Ready c.in-Ready.answer) polled failed)

pub returns-in-Pending-clause-failed : goal.returns-in-Pending-clause-failed
returns-in-Pending-clause-failed g c = λ failed.
    let polled = rw c.in-Pending.is at c.poll_next.ensures.polled in
    next_stays _ _ _ _ _ _ _ _ Pending polled failed

pub returns-in-Ready-clause-causes : goal.returns-in-Ready-clause-causes
returns-in-Ready-clause-causes g c =
    let coding : Coding = coding_of g.E.Encoding.decoded g.E.Encoding.encoded c.args.encoding.now in
    let builds : Builds = built_by g.B.PassiveStreamBuilder.answers c.args.builder.now in
    let polled = rw c.in-Ready.is at c.poll_next.ensures.polled in
    let call_is = ap (λ o. option_map (λ c'. c'.now) o) c.in-Some.is in
    let S : Option Call → Type 0 = λ o. StageIn o c.args.stage.now in
    let P : Option Call → Type 0 = λ o. CausesHere builds event.Poll c.args.machine.now c.leave_then.new.machine o None c.args.stage.now c.poll_next.new.stage (Some c.in-Ready.answer) in
    subst P (sym call_is) (ready_here builds coding c.in-Some.call.now c.args.stage.now c.poll_next.new.stage c.poll_next.new.polled c.args.course.now.leaving c.args.machine.now c.poll_next.new.machine c.leave_then.new.machine c.in-Ready.answer (subst S call_is c.requires) polled c.leave_then.ensures.leaves)

pub returns-in-Pending-clause-causes : goal.returns-in-Pending-clause-causes
returns-in-Pending-clause-causes g c =
    let coding : Coding = coding_of g.E.Encoding.decoded g.E.Encoding.encoded c.args.encoding.now in
    let builds : Builds = built_by g.B.PassiveStreamBuilder.answers c.args.builder.now in
    let polled = rw c.in-Pending.is at c.poll_next.ensures.polled in
    let call_is = ap (λ o. option_map (λ c'. c'.now) o) c.in-Some.is in
    let S : Option Call → Type 0 = λ o. StageIn o c.args.stage.now in
    let P : Option Call → Type 0 = λ o. CausesHere builds event.Poll c.args.machine.now c.poll_next.new.machine o o c.args.stage.now c.poll_next.new.stage None in
    subst P (sym call_is) (waits_here builds coding c.in-Some.call.now c.args.stage.now c.poll_next.new.stage c.poll_next.new.polled c.args.machine.now c.poll_next.new.machine (subst S call_is c.requires) polled)

pub returns-in_default-clause-causes : goal.returns-in_default-clause-causes
returns-in_default-clause-causes g c =
    let builds : Builds = built_by g.B.PassiveStreamBuilder.answers c.args.builder.now in
    let P : Option Call → Type 0 = λ o. CausesHere builds event.Poll c.args.machine.now c.args.machine.now o o c.args.stage.now c.args.stage.now None in
    subst P (sym (ap (λ o. option_map (λ c'. c'.now) o) c.in_default.is)) (idle_here builds c.args.stage.now c.args.machine.now)
