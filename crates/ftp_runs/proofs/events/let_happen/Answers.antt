use Rattle.std.proofs.Common.{None, inl, length, length-append, option_map, refl, ap, take, zero, ◌∙◌, arith}
use Rattle.ftp_dialogue.specs.Coding.{Coding, coding_of}
use Rattle.ftp_calls.specs.declared.call.Event.TheVariants.{Cancel}
use Rattle.ftp_runs.specs.Following.{given_answer}
use Rattle.ftp_runs.specs.Script.{drops_begun}
use Rattle.ftp_runs.proofs.Dropped.{drop_passes, dropped_apart, passes_grow}
use Rattle.ftp_runs.proofs.EventCauses.{all_counted, next_event as counted}
use Rattle.ftp_runs.proofs.Running.{fails_more}
use Rattle.ftp_runs.proofs.Scripts.{at_end, starts_script, next_event, all_events, fails_by_then, has_grown, stops_at, at_most_one}
use Rattle.ftp_runs.proofs.events.let_happen.Goals as goal
use Rattle.ftp_dialogue.specs.Link.{Builds, built_by}

pub loop-event-init : goal.loop-event-init
loop-event-init g c =
    let coding : Coding = coding_of g.E.Encoding.decoded g.E.Encoding.encoded c.args.encoding.now in
    let builds : Builds = built_by g.B.PassiveStreamBuilder.answers c.args.builder.now in
    record {
      stage = tt;
      fails = λ failed. inl failed;
      count = omega (arith, ap length c.requires.none);
      room = c.requires.room;
      counts = (c.requires.none, refl, refl, refl);
      so_far = λ depth. rw c.requires.none (starts_script builds coding depth zero c.args.machine.now None _ _ refl c.resting-course.ensures c.requires.given c.requires.sound);
    }

pub loop-event-preserved : goal.loop-event-preserved
loop-event-preserved g c =
    let coding : Coding = coding_of g.E.Encoding.decoded g.E.Encoding.encoded c.args.encoding.now in
    let builds : Builds = built_by g.B.PassiveStreamBuilder.answers c.args.builder.now in
    let held = c.loop-event.invariant in
    let noted = c.note.ensures in
    let done = rw c.in-Ok.is at c.happen.ensures in
    let longer = ap length noted.items ∙ length-append c.loop-event.answers.items (given_answer c.in-Ok.answer) in
    record {
      stage = c.happen.ensures.stage;
      fails = fails_more c.args.machine.now c.loop-event.machine c.happen.new.machine c.loop-event.answers.items (given_answer c.in-Ok.answer) c.note.new.answers.items noted.items held.fails done.fails;
      count = omega (arith, longer, held.count, at_most_one builds coding c.in-Ok.answer);
      room = omega (arith, held.room, noted.room);
      counts = counted builds coding c.args.machine.now c.args.events.now c.loop-event.event-index c.event-item.result c.loop-event.machine c.happen.new.machine _ _ c.loop-event.stage c.happen.new.stage c.loop-event.course c.happen.new.course c.loop-event.answers.items c.note.new.answers.items c.in-Ok.answer c.loop-event-test.true c.event-item.is noted.items done.failed done.fails done.passes done.causes held.counts;
      so_far = λ depth. next_event builds coding depth c.args.machine.now c.args.events.now c.loop-event.event-index c.event-item.result c.loop-event.machine c.happen.new.machine _ _ c.loop-event.stage c.happen.new.stage c.loop-event.course c.happen.new.course c.loop-event.answers.items c.note.new.answers.items c.in-Ok.answer c.loop-event-test.true c.event-item.is noted.items done.failed done.passes (held.so_far depth);
    }

pub returns-clause-scripted : goal.returns-clause-scripted
returns-clause-scripted g c =
    let coding : Coding = coding_of g.E.Encoding.decoded g.E.Encoding.encoded c.args.encoding.now in
    let builds : Builds = built_by g.B.PassiveStreamBuilder.answers c.args.builder.now in
    let call = option_map (λ c'. c'.now) c.loop-event.under_way in
    let end = at_end builds coding c.loop-event.machine c.drop_call-2.new.machine call c.loop-event.stage c.loop-event.course c.drop_call-2.new.course c.drop_call-2.ensures.drops in
    all_events builds coding c.loop-event.machine c.drop_call-2.new.machine call c.loop-event.stage c.loop-event.course end c.args.machine.now c.args.events.now c.loop-event.event-index c.loop-event.answers.items c.loop-event-test.false c.loop-event.invariant.so_far

pub returns-clause-grows : goal.returns-clause-grows
returns-clause-grows g c =
    let coding : Coding = coding_of g.E.Encoding.decoded g.E.Encoding.encoded c.args.encoding.now in
    let builds : Builds = built_by g.B.PassiveStreamBuilder.answers c.args.builder.now in
    let call = option_map (λ c'. c'.now) c.loop-event.under_way in
    let end = at_end builds coding c.loop-event.machine c.drop_call-2.new.machine call c.loop-event.stage c.loop-event.course c.drop_call-2.new.course c.drop_call-2.ensures.drops in
    has_grown builds coding c.loop-event.machine c.drop_call-2.new.machine call c.loop-event.stage c.loop-event.course end c.args.machine.now _ c.loop-event.answers.items c.loop-event.invariant.so_far

pub returns-clause-fails : goal.returns-clause-fails
returns-clause-fails g c =
    let coding : Coding = coding_of g.E.Encoding.decoded g.E.Encoding.encoded c.args.encoding.now in
    let builds : Builds = built_by g.B.PassiveStreamBuilder.answers c.args.builder.now in
    let call = option_map (λ c'. c'.now) c.loop-event.under_way in
    let end = at_end builds coding c.loop-event.machine c.drop_call-2.new.machine call c.loop-event.stage c.loop-event.course c.drop_call-2.new.course c.drop_call-2.ensures.drops in
    fails_by_then builds coding c.loop-event.machine c.drop_call-2.new.machine call c.loop-event.stage c.loop-event.course end c.args.machine.now c.loop-event.answers.items c.loop-event.invariant.fails

pub returns-in-Err-clause-stops : goal.returns-in-Err-clause-stops
returns-in-Err-clause-stops g c =
    let coding : Coding = coding_of g.E.Encoding.decoded g.E.Encoding.encoded c.args.encoding.now in
    let builds : Builds = built_by g.B.PassiveStreamBuilder.answers c.args.builder.now in
    let stopped = rw c.in-Err.is at c.happen.ensures.unchanged in
    let call = option_map (λ c'. c'.now) c.happen.new.under_way in
    let end = at_end builds coding c.happen.new.machine c.drop_call.new.machine call c.happen.new.stage c.happen.new.course c.drop_call.new.course c.drop_call.ensures.drops in
    stops_at builds coding c.happen.new.machine c.drop_call.new.machine call c.happen.new.stage c.happen.new.course end c.args.machine.now c.args.events.now c.loop-event.event-index c.event-item.result c.loop-event.answers.items c.loop-event-test.true c.event-item.is stopped.4 (λ depth. rw (stopped.0, stopped.1, stopped.2, stopped.3) (c.loop-event.invariant.so_far depth))

pub returns-in-Err-clause-grows : goal.returns-in-Err-clause-grows
returns-in-Err-clause-grows g c =
    let coding : Coding = coding_of g.E.Encoding.decoded g.E.Encoding.encoded c.args.encoding.now in
    let builds : Builds = built_by g.B.PassiveStreamBuilder.answers c.args.builder.now in
    let stopped = rw c.in-Err.is at c.happen.ensures.unchanged in
    let call = option_map (λ c'. c'.now) c.happen.new.under_way in
    let end = at_end builds coding c.happen.new.machine c.drop_call.new.machine call c.happen.new.stage c.happen.new.course c.drop_call.new.course c.drop_call.ensures.drops in
    has_grown builds coding c.happen.new.machine c.drop_call.new.machine call c.happen.new.stage c.happen.new.course end c.args.machine.now (take c.loop-event.event-index c.args.events.now) c.loop-event.answers.items (λ depth. rw (stopped.0, stopped.1, stopped.2, stopped.3) (c.loop-event.invariant.so_far depth))

pub returns-clause-counts : goal.returns-clause-counts
returns-clause-counts g c =
    let coding : Coding = coding_of g.E.Encoding.decoded g.E.Encoding.encoded c.args.encoding.now in
    let builds : Builds = built_by g.B.PassiveStreamBuilder.answers c.args.builder.now in
    let call = option_map (λ c'. c'.now) c.loop-event.under_way in
    let drops = c.drop_call-2.ensures.drops in
    let passes = drop_passes builds coding call c.loop-event.stage c.loop-event.course c.drop_call-2.new.course c.loop-event.machine c.drop_call-2.new.machine drops in
    let grows = passes_grow builds coding (drops_begun call c.loop-event.course.polled) Cancel c.loop-event.stage c.loop-event.stage c.loop-event.course c.drop_call-2.new.course c.loop-event.machine c.drop_call-2.new.machine call None None passes in
    all_counted builds c.args.machine.now c.args.events.now c.loop-event.event-index c.loop-event.machine c.drop_call-2.new.machine c.loop-event.answers.items call _ c.loop-event-test.false (dropped_apart call c.loop-event.course c.drop_call-2.new.course c.loop-event.stage c.loop-event.machine c.drop_call-2.new.machine drops) grows c.loop-event.invariant.counts
