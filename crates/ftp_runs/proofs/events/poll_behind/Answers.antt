use Rattle.std.proofs.Common.{[], ◌∷◌, None, Option, Some, ap, option_map, subst, sym, ◌∙◌}
use Rattle.futures.specs.declared.task.Poll.TheVariants.{Ready}
use Rattle.ftp_calls.specs.declared.call.Answer.TheVariants.{Fault, Unit as Nothing}
use Rattle.ftp_calls.specs.declared.call.Call.{Call}
use Rattle.ftp_calls.specs.declared.call.Event.TheVariants as event
use Rattle.ftp_dialogue.specs.CatchingUp.{TellsFault}
use Rattle.ftp_dialogue.specs.Coding.{Coding, coding_of}
use Rattle.ftp_dialogue.specs.Link.{Builds, built_by}
use Rattle.ftp_runs.specs.Counting.{CausesHere}
use Rattle.ftp_runs.specs.Following.{given_answer}
use Rattle.ftp_runs.proofs.CaughtUp.{fails_on, up_fails}
use Rattle.ftp_runs.proofs.EventCauses.{caught_begins, caught_ends, caught_fault, caught_waits}
use Rattle.ftp_runs.proofs.Stretches.{caught_polls}
use Rattle.ftp_runs.proofs.events.poll_behind.Goals as goal

pub returns-in-Pending-clause-fails : goal.returns-in-Pending-clause-fails
returns-in-Pending-clause-fails g c = up_fails _ c.args.machine.now c.poll_dropped_replies-caught.new.self c.poll_dropped_replies-caught.result [] c.poll_dropped_replies-caught.ensures.catches_up (λ told. subst TellsFault c.in-Pending.is told)

pub returns-in-Ready-None-2-clause-fails : goal.returns-in-Ready-None-2-clause-fails
returns-in-Ready-None-2-clause-fails g c =
    let over = c.in-Ready-None.is ∙ ap Ready c.in-Ready-None.field-0-is in
    fails_on c.args.machine.now c.poll_dropped_replies-caught.new.self c.poll_under_way.new.machine (given_answer c.poll_under_way.result) (up_fails _ c.args.machine.now c.poll_dropped_replies-caught.new.self c.poll_dropped_replies-caught.result [] c.poll_dropped_replies-caught.ensures.catches_up (λ told. subst TellsFault over told)) c.poll_under_way.ensures.fails

pub returns-in-Ready-None-clause-fails : goal.returns-in-Ready-None-clause-fails
returns-in-Ready-None-clause-fails g c =
    let over = c.in-Ready-None.is ∙ ap Ready c.in-Ready-None.field-0-is in
    up_fails _ c.args.machine.now c.poll_dropped_replies-caught.new.self c.poll_dropped_replies-caught.result (Nothing ∷ []) c.poll_dropped_replies-caught.ensures.catches_up (λ told. absurd (subst TellsFault over told))

pub returns-in-Ready-None-2-clause-catches_up : goal.returns-in-Ready-None-2-clause-catches_up
returns-in-Ready-None-2-clause-catches_up g c =
    let coding : Coding = coding_of g.E.Encoding.decoded g.E.Encoding.encoded c.args.encoding.now in
    let builds : Builds = built_by g.B.PassiveStreamBuilder.answers c.args.builder.now in
    let held = c.holds_memory.ensures in
    let polled = c.poll_under_way.ensures in
    caught_polls builds coding c.args.machine.now c.poll_dropped_replies-caught.new.self c.poll_under_way.new.machine _ _ c.in-Some.call.now c.args.stage.now c.poll_under_way.new.stage c.resting.result c.poll_under_way.new.course c.poll_under_way.result c.poll_dropped_replies-caught.result (ap (λ o. option_map (λ c'. c'.now) o) c.in-Some.is) c.resting.ensures (c.in-Ready-None.is ∙ ap Ready c.in-Ready-None.field-0-is) (sym c.drains.ensures ∙ c.if-drains.false) c.poll_dropped_replies-caught.ensures.catches_up held.given held.sound polled.happens polled.failed

pub returns-in-Pending-clause-causes : goal.returns-in-Pending-clause-causes
returns-in-Pending-clause-causes g c =
    let coding : Coding = coding_of g.E.Encoding.decoded g.E.Encoding.encoded c.args.encoding.now in
    let builds : Builds = built_by g.B.PassiveStreamBuilder.answers c.args.builder.now in
    let P : Option Call → Type 0 = λ o. CausesHere builds event.Poll c.args.machine.now c.poll_dropped_replies-caught.new.self o o c.args.stage.now c.args.stage.now None in
    subst P (sym (ap (λ o. option_map (λ c'. c'.now) o) c.in-Some.is)) (caught_waits builds coding c.in-Some.call.now c.args.stage.now _ c.args.machine.now c.poll_dropped_replies-caught.new.self c.poll_dropped_replies-caught.result c.poll_dropped_replies-caught.ensures.catches_up)

pub returns-in-Ready-Some-clause-causes : goal.returns-in-Ready-Some-clause-causes
returns-in-Ready-Some-clause-causes g c =
    let coding : Coding = coding_of g.E.Encoding.decoded g.E.Encoding.encoded c.args.encoding.now in
    let builds : Builds = built_by g.B.PassiveStreamBuilder.answers c.args.builder.now in
    let fault_is = c.in-Ready-Some.is ∙ ap Ready c.in-Ready-Some.field-0-is in
    let P : Option Call → Type 0 = λ o. CausesHere builds event.Poll c.args.machine.now c.poll_dropped_replies-caught.new.self o None c.args.stage.now c.args.stage.now (Some (Fault c.in-Ready-Some.fault)) in
    subst P (sym (ap (λ o. option_map (λ c'. c'.now) o) c.in-Some.is)) (caught_fault builds coding c.in-Some.call.now c.args.stage.now _ c.args.machine.now c.poll_dropped_replies-caught.new.self c.poll_dropped_replies-caught.result c.poll_dropped_replies-caught.ensures.catches_up c.args.stage.now c.in-Ready-Some.fault fault_is)

pub returns-in-Ready-None-clause-causes : goal.returns-in-Ready-None-clause-causes
returns-in-Ready-None-clause-causes g c =
    let coding : Coding = coding_of g.E.Encoding.decoded g.E.Encoding.encoded c.args.encoding.now in
    let builds : Builds = built_by g.B.PassiveStreamBuilder.answers c.args.builder.now in
    let P : Option Call → Type 0 = λ o. CausesHere builds event.Poll c.args.machine.now c.poll_dropped_replies-caught.new.self o None c.args.stage.now c.args.stage.now (Some Nothing) in
    subst P (sym (ap (λ o. option_map (λ c'. c'.now) o) c.in-Some.is)) (caught_ends builds coding c.in-Some.call.now c.args.stage.now _ c.args.machine.now c.poll_dropped_replies-caught.new.self c.poll_dropped_replies-caught.result c.poll_dropped_replies-caught.ensures.catches_up c.args.stage.now)

pub returns-in-Ready-None-2-clause-causes : goal.returns-in-Ready-None-2-clause-causes
returns-in-Ready-None-2-clause-causes g c =
    let coding : Coding = coding_of g.E.Encoding.decoded g.E.Encoding.encoded c.args.encoding.now in
    let builds : Builds = built_by g.B.PassiveStreamBuilder.answers c.args.builder.now in
    let over = c.in-Ready-None.is ∙ ap Ready c.in-Ready-None.field-0-is in
    let call_is = ap (λ o. option_map (λ c'. c'.now) o) c.in-Some.is in
    let H : Option Call → Type 0 = λ o. CausesHere builds event.Poll c.poll_dropped_replies-caught.new.self c.poll_under_way.new.machine o (option_map (λ c'. c'.now) c.poll_under_way.new.under_way) c.args.stage.now c.poll_under_way.new.stage c.poll_under_way.result in
    let P : Option Call → Type 0 = λ o. CausesHere builds event.Poll c.args.machine.now c.poll_under_way.new.machine o (option_map (λ c'. c'.now) c.poll_under_way.new.under_way) c.args.stage.now c.poll_under_way.new.stage c.poll_under_way.result in
    subst P (sym call_is) (caught_begins builds coding c.in-Some.call.now c.args.stage.now _ c.args.machine.now c.poll_dropped_replies-caught.new.self c.poll_dropped_replies-caught.result c.poll_dropped_replies-caught.ensures.catches_up (option_map (λ c'. c'.now) c.poll_under_way.new.under_way) c.poll_under_way.new.stage c.poll_under_way.new.machine c.poll_under_way.result over (subst H call_is c.poll_under_way.ensures.causes))
