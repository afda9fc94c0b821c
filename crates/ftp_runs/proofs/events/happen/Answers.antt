use Rattle.std.proofs.Common.{[], inl, ap, refl, subst, option_map, Option, None, sym, ◌∙◌}
use Rattle.ftp_transport.specs.Memory.{fed, closed_memory, widened}
use Rattle.ftp_control.specs.Channel.{Channel}
use Rattle.ftp_calls.specs.declared.call.Call.{Call}
use Rattle.ftp_calls.specs.declared.call.Event.{Event}
use Rattle.ftp_calls.specs.declared.call.Event.TheVariants as event
use Rattle.ftp_dialogue.specs.Coding.{Coding, coding_of}
use Rattle.ftp_dialogue.specs.declared.stage.Stage.{Stage}
use Rattle.ftp_runs.specs.Counting.{CausesHere}
use Rattle.ftp_runs.specs.Following.{Passes}
use Rattle.ftp_runs.proofs.EventCauses.{drops_here, starts_here, stays_here}
use Rattle.ftp_runs.proofs.EventLemmas.{through, happened, stayed, feeds, ends, widens, starts, fed_attends, fed_failures, passes_on, still_attends, still_fails}
use Rattle.ftp_runs.proofs.Dropped.{drop_passes, dropped_apart}
use Rattle.ftp_runs.proofs.Leaving.{now_apart, now_happens}
use Rattle.ftp_runs.proofs.events.happen.Goals.{in-Feed+in_ok-feed-in-Feed, in-End, in-Room, in-Start}
use Rattle.ftp_runs.proofs.events.happen.Goals as goal
use Rattle.ftp_dialogue.specs.Link.{Builds, built_by}

pub returns-clause-passes : goal.returns-clause-passes
returns-clause-passes g c =
    let coding : Coding = coding_of g.E.Encoding.decoded g.E.Encoding.encoded c.args.encoding.now in
    let builds : Builds = built_by g.B.PassiveStreamBuilder.answers c.args.builder.now in
    let v = c.args.machine.now in
    let z = c.match-event.machine in
    let held = c.holds_memory.ensures in
    elim c.match-event.branch [
      | in-Feed+in_ok-feed-in-Feed w ↦ (
          let ok = rw (w.in_ok-feed-in-Feed.was, w.as_slice.ensures) at w.feed.ensures.ok in
          let F : Channel → Channel = λ x. record x { told = fed w.in-Feed.bytes x.told } in
          let is = through F v z w.machine.inside.channel w.feed.new.self w.machine.inside.state _ w.machine.view_is w.machine-is ok in
          let same = ap (λ o. option_map (λ c'. c'.now) o) w.under_way-is in
          passes_on builds coding _ _ _ _ _ _ _ _ _ _ (event.Feed w.in-Feed.bytes) w.in-Feed.is refl ([], ap (λ x. x.net) is, λ outcomes left old s answers f may. inl (happened builds coding outcomes left old s z c.args.event.now (event.Feed w.in-Feed.bytes) _ _ _ _ _ _ answers w.in-Feed.is same w.stage-is w.course-is (feeds builds coding outcomes left old s v _ _ answers f.0 w.in-Feed.bytes z is held.given held.sound, fed_attends builds coding outcomes left old w.in-Feed.bytes s _ f.1)))
          )
      | in-End w ↦ (
          let F : Channel → Channel = λ x. record x { told = closed_memory x.told } in
          let is = through F v z w.machine-in-End.inside.channel w.end_input.new.self w.machine-in-End.inside.state _ w.machine-in-End.view_is w.machine-is w.end_input.ensures in
          let same = ap (λ o. option_map (λ c'. c'.now) o) w.under_way-is in
          passes_on builds coding _ _ _ _ _ _ _ _ _ _ event.End w.in-End.is refl ([], ap (λ x. x.net) is, λ outcomes left old s answers f may. inl (happened builds coding outcomes left old s z c.args.event.now event.End _ _ _ _ _ _ answers w.in-End.is same w.stage-is w.course-is (ends builds coding outcomes left old s v _ _ answers f.0 z is held.given held.sound, still_attends builds coding outcomes left s _ _ refl refl refl f.1)))
          )
      | in-Room w ↦ (
          let F : Channel → Channel = λ x. record x { told = widened w.in-Room.more x.told } in
          let is = through F v z w.machine-in-Room.inside.channel w.allow.new.self w.machine-in-Room.inside.state _ w.machine-in-Room.view_is w.machine-is w.allow.ensures in
          let same = ap (λ o. option_map (λ c'. c'.now) o) w.under_way-is in
          passes_on builds coding _ _ _ _ _ _ _ _ _ _ (event.Room w.in-Room.more) w.in-Room.is refl ([], ap (λ x. x.net) is, λ outcomes left old s answers f may. inl (happened builds coding outcomes left old s z c.args.event.now (event.Room w.in-Room.more) _ _ _ _ _ _ answers w.in-Room.is same w.stage-is w.course-is (widens builds coding outcomes left old s v _ _ answers f.0 w.in-Room.more z is held.given held.sound, still_attends builds coding outcomes left s _ _ refl refl refl f.1)))
          )
      | in-Start w ↦ (
          let same = ap (λ o. option_map (λ c'. c'.now) o) w.under_way-is in
          passes_on builds coding _ _ _ _ _ _ _ _ _ _ (event.Start w.in-Start.call) w.in-Start.is refl ([], ap (λ x. x.net) w.machine-is, λ outcomes left old s answers f may. let next = starts builds coding outcomes left old s v w.in-Start.call _ _ _ _ _ _ answers f w.start.ensures.starts in inl (happened builds coding outcomes left old s z c.args.event.now (event.Start w.in-Start.call) _ _ _ _ _ _ answers w.in-Start.is same w.stage-is w.course-is (stayed builds coding outcomes left old _ v z _ _ answers w.machine-is next.0, next.1)))
          )
    ]

pub returns-clause-failed : goal.returns-clause-failed
returns-clause-failed g c = λ failed.
    let coding : Coding = coding_of g.E.Encoding.decoded g.E.Encoding.encoded c.args.encoding.now in
    let builds : Builds = built_by g.B.PassiveStreamBuilder.answers c.args.builder.now in
    let v = c.args.machine.now in
    let z = c.match-event.machine in
    elim c.match-event.branch [
      | in-Feed+in_ok-feed-in-Feed w ↦ (
          let ok = rw (w.in_ok-feed-in-Feed.was, w.as_slice.ensures) at w.feed.ensures.ok in
          let F : Channel → Channel = λ x. record x { told = fed w.in-Feed.bytes x.told } in
          let is = through F v z w.machine.inside.channel w.feed.new.self w.machine.inside.state _ w.machine.view_is w.machine-is ok in
          (ap (λ x. x.channel.failed) is ∙ failed, ap (λ x. x.channel.told.failures) is ∙ fed_failures w.in-Feed.bytes v.channel.told, tt)
          )
      | in-End w ↦ (
          let F : Channel → Channel = λ x. record x { told = closed_memory x.told } in
          let is = through F v z w.machine-in-End.inside.channel w.end_input.new.self w.machine-in-End.inside.state _ w.machine-in-End.view_is w.machine-is w.end_input.ensures in
          (ap (λ x. x.channel.failed) is ∙ failed, ap (λ x. x.channel.told.failures) is, tt)
          )
      | in-Room w ↦ (
          let F : Channel → Channel = λ x. record x { told = widened w.in-Room.more x.told } in
          let is = through F v z w.machine-in-Room.inside.channel w.allow.new.self w.machine-in-Room.inside.state _ w.machine-in-Room.view_is w.machine-is w.allow.ensures in
          (ap (λ x. x.channel.failed) is ∙ failed, ap (λ x. x.channel.told.failures) is, tt)
          )
      | in-Start w ↦ (ap (λ x. x.channel.failed) w.machine-is ∙ failed, ap (λ x. x.channel.told.failures) w.machine-is, tt)
    ]

pub returns-clause-fails : goal.returns-clause-fails
returns-clause-fails g c =
    let coding : Coding = coding_of g.E.Encoding.decoded g.E.Encoding.encoded c.args.encoding.now in
    let builds : Builds = built_by g.B.PassiveStreamBuilder.answers c.args.builder.now in
    let v = c.args.machine.now in
    let z = c.match-event.machine in
    elim c.match-event.branch [
      | in-Feed+in_ok-feed-in-Feed w ↦ (
          let ok = rw (w.in_ok-feed-in-Feed.was, w.as_slice.ensures) at w.feed.ensures.ok in
          let F : Channel → Channel = λ x. record x { told = fed w.in-Feed.bytes x.told } in
          let is = through F v z w.machine.inside.channel w.feed.new.self w.machine.inside.state _ w.machine.view_is w.machine-is ok in
          still_fails v z (ap (λ x. x.channel.failed) is)
          )
      | in-End w ↦ (
          let F : Channel → Channel = λ x. record x { told = closed_memory x.told } in
          let is = through F v z w.machine-in-End.inside.channel w.end_input.new.self w.machine-in-End.inside.state _ w.machine-in-End.view_is w.machine-is w.end_input.ensures in
          still_fails v z (ap (λ x. x.channel.failed) is)
          )
      | in-Room w ↦ (
          let F : Channel → Channel = λ x. record x { told = widened w.in-Room.more x.told } in
          let is = through F v z w.machine-in-Room.inside.channel w.allow.new.self w.machine-in-Room.inside.state _ w.machine-in-Room.view_is w.machine-is w.allow.ensures in
          still_fails v z (ap (λ x. x.channel.failed) is)
          )
      | in-Start w ↦ still_fails v z (ap (λ x. x.channel.failed) w.machine-is)
    ]

pub returns-in-Poll-clause-passes : goal.returns-in-Poll-clause-passes
returns-in-Poll-clause-passes g c =
    let coding : Coding = coding_of g.E.Encoding.decoded g.E.Encoding.encoded c.args.encoding.now in
    let builds : Builds = built_by g.B.PassiveStreamBuilder.answers c.args.builder.now in
    let P : Event → Type 0 = λ e. Passes builds coding c.args.machine.now c.poll_in_step.new.machine (option_map (λ c'. c'.now) c.args.under_way.now) (option_map (λ c'. c'.now) c.poll_in_step.new.under_way) c.args.stage.now c.poll_in_step.new.stage c.args.course.now c.poll_in_step.new.course e c.poll_in_step.result in
    subst P (sym c.in-Poll.is) c.poll_in_step.ensures.passes

pub returns-in-Cancel-clause-passes : goal.returns-in-Cancel-clause-passes
returns-in-Cancel-clause-passes g c =
    let coding : Coding = coding_of g.E.Encoding.decoded g.E.Encoding.encoded c.args.encoding.now in
    let builds : Builds = built_by g.B.PassiveStreamBuilder.answers c.args.builder.now in
    let P : Event → Type 0 = λ e. Passes builds coding c.args.machine.now c.drop_call.new.machine (option_map (λ c'. c'.now) c.args.under_way.now) None c.args.stage.now c.args.stage.now c.args.course.now c.drop_call.new.course e None in
    let N : Option Call → Type 0 = λ n. Passes builds coding c.args.machine.now c.drop_call.new.machine (option_map (λ c'. c'.now) c.args.under_way.now) n c.args.stage.now c.args.stage.now c.args.course.now c.drop_call.new.course c.args.event.now None in
    subst N (sym (ap (λ o. option_map (λ c'. c'.now) o) c.drop_call.ensures.none)) (subst P (sym c.in-Cancel.is) (drop_passes builds coding _ c.args.stage.now c.args.course.now c.drop_call.new.course c.args.machine.now c.drop_call.new.machine c.drop_call.ensures.drops))

pub returns-in-Leave-clause-passes : goal.returns-in-Leave-clause-passes
returns-in-Leave-clause-passes g c =
    let coding : Coding = coding_of g.E.Encoding.decoded g.E.Encoding.encoded c.args.encoding.now in
    let builds : Builds = built_by g.B.PassiveStreamBuilder.answers c.args.builder.now in
    let call : Option Call = option_map (λ c'. c'.now) c.args.under_way.now in
    let P : Event → Type 0 = λ e. Passes builds coding c.args.machine.now c.leave_now.new.machine call call c.args.stage.now c.args.stage.now c.args.course.now c.leave_now.new.course e None in
    subst P (sym c.in-Leave.is) (now_happens builds coding call c.args.stage.now c.args.course.now c.leave_now.new.course c.args.machine.now c.leave_now.new.machine c.leave_now.ensures.leaves)

pub returns-in-Cancel-clause-fails : goal.returns-in-Cancel-clause-fails
returns-in-Cancel-clause-fails g c = still_fails c.args.machine.now c.drop_call.new.machine (ap (λ x. x.failed) (dropped_apart (option_map (λ c'. c'.now) c.args.under_way.now) c.args.course.now c.drop_call.new.course c.args.stage.now c.args.machine.now c.drop_call.new.machine c.drop_call.ensures.drops))

pub returns-in-Leave-clause-fails : goal.returns-in-Leave-clause-fails
returns-in-Leave-clause-fails g c = still_fails c.args.machine.now c.leave_now.new.machine (ap (λ x. x.failed) (now_apart (option_map (λ c'. c'.now) c.args.under_way.now) c.args.course.now c.leave_now.new.course c.args.machine.now c.leave_now.new.machine c.leave_now.ensures.leaves))

pub returns-in-Cancel-clause-failed : goal.returns-in-Cancel-clause-failed
returns-in-Cancel-clause-failed g c = λ failed. (ap (λ x. x.failed) (dropped_apart (option_map (λ c'. c'.now) c.args.under_way.now) c.args.course.now c.drop_call.new.course c.args.stage.now c.args.machine.now c.drop_call.new.machine c.drop_call.ensures.drops) ∙ failed, ap (λ x. x.told.failures) (dropped_apart (option_map (λ c'. c'.now) c.args.under_way.now) c.args.course.now c.drop_call.new.course c.args.stage.now c.args.machine.now c.drop_call.new.machine c.drop_call.ensures.drops), tt)

pub returns-in-Leave-clause-failed : goal.returns-in-Leave-clause-failed
returns-in-Leave-clause-failed g c = λ failed. (ap (λ x. x.failed) (now_apart (option_map (λ c'. c'.now) c.args.under_way.now) c.args.course.now c.leave_now.new.course c.args.machine.now c.leave_now.new.machine c.leave_now.ensures.leaves) ∙ failed, ap (λ x. x.told.failures) (now_apart (option_map (λ c'. c'.now) c.args.under_way.now) c.args.course.now c.leave_now.new.course c.args.machine.now c.leave_now.new.machine c.leave_now.ensures.leaves), tt)

pub returns-clause-causes : goal.returns-clause-causes
returns-clause-causes g c =
    let builds : Builds = built_by g.B.PassiveStreamBuilder.answers c.args.builder.now in
    let v = c.args.machine.now in
    let z = c.match-event.machine in
    elim c.match-event.branch [
      | in-Feed+in_ok-feed-in-Feed w ↦ (
          let ok = rw (w.in_ok-feed-in-Feed.was, w.as_slice.ensures) at w.feed.ensures.ok in
          let F : Channel → Channel = λ x. record x { told = fed w.in-Feed.bytes x.told } in
          let is = through F v z w.machine.inside.channel w.feed.new.self w.machine.inside.state _ w.machine.view_is w.machine-is ok in
          stays_here builds c.args.event.now (event.Feed w.in-Feed.bytes) v z _ _ _ _ w.in-Feed.is (refl, inl refl) refl (ap (λ x. x.channel.told.failures) is ∙ fed_failures w.in-Feed.bytes v.channel.told) (ap (λ o. option_map (λ c'. c'.now) o) w.under_way-is) w.stage-is
          )
      | in-End w ↦ (
          let F : Channel → Channel = λ x. record x { told = closed_memory x.told } in
          let is = through F v z w.machine-in-End.inside.channel w.end_input.new.self w.machine-in-End.inside.state _ w.machine-in-End.view_is w.machine-is w.end_input.ensures in
          stays_here builds c.args.event.now event.End v z _ _ _ _ w.in-End.is (refl, inl refl) refl (ap (λ x. x.channel.told.failures) is) (ap (λ o. option_map (λ c'. c'.now) o) w.under_way-is) w.stage-is
          )
      | in-Room w ↦ (
          let F : Channel → Channel = λ x. record x { told = widened w.in-Room.more x.told } in
          let is = through F v z w.machine-in-Room.inside.channel w.allow.new.self w.machine-in-Room.inside.state _ w.machine-in-Room.view_is w.machine-is w.allow.ensures in
          stays_here builds c.args.event.now (event.Room w.in-Room.more) v z _ _ _ _ w.in-Room.is (refl, inl refl) refl (ap (λ x. x.channel.told.failures) is) (ap (λ o. option_map (λ c'. c'.now) o) w.under_way-is) w.stage-is
          )
      | in-Start w ↦ (
          let call : Option Call = option_map (λ c'. c'.now) c.args.under_way.now in
          let begun : Option Call = option_map (λ c'. c'.now) w.start.new.under_way in
          let P : Option Call → Type 0 = λ o. CausesHere builds c.args.event.now v z call o c.args.stage.now c.match-event.stage None in
          let S : Stage → Type 0 = λ s. CausesHere builds c.args.event.now v z call begun c.args.stage.now s None in
          subst P (sym (ap (λ o. option_map (λ c'. c'.now) o) w.under_way-is)) (subst S (sym w.stage-is) (starts_here builds c.args.event.now w.in-Start.call v z call begun c.args.stage.now w.start.new.stage c.args.course.now w.start.new.course w.in-Start.is w.machine-is w.start.ensures.starts))
          )
    ]

pub returns-in-Poll-clause-causes : goal.returns-in-Poll-clause-causes
returns-in-Poll-clause-causes g c =
    let builds : Builds = built_by g.B.PassiveStreamBuilder.answers c.args.builder.now in
    let P : Event → Type 0 = λ e. CausesHere builds e c.args.machine.now c.poll_in_step.new.machine (option_map (λ c'. c'.now) c.args.under_way.now) (option_map (λ c'. c'.now) c.poll_in_step.new.under_way) c.args.stage.now c.poll_in_step.new.stage c.poll_in_step.result in
    subst P (sym c.in-Poll.is) c.poll_in_step.ensures.causes

pub returns-in-Cancel-clause-causes : goal.returns-in-Cancel-clause-causes
returns-in-Cancel-clause-causes g c =
    let builds : Builds = built_by g.B.PassiveStreamBuilder.answers c.args.builder.now in
    drops_here builds c.args.event.now c.args.machine.now c.drop_call.new.machine _ _ c.args.stage.now c.args.stage.now c.in-Cancel.is (dropped_apart (option_map (λ c'. c'.now) c.args.under_way.now) c.args.course.now c.drop_call.new.course c.args.stage.now c.args.machine.now c.drop_call.new.machine c.drop_call.ensures.drops) (ap (λ o. option_map (λ c'. c'.now) o) c.drop_call.ensures.none)

pub returns-in-Leave-clause-causes : goal.returns-in-Leave-clause-causes
returns-in-Leave-clause-causes g c =
    let builds : Builds = built_by g.B.PassiveStreamBuilder.answers c.args.builder.now in
    stays_here builds c.args.event.now event.Leave c.args.machine.now c.leave_now.new.machine (option_map (λ c'. c'.now) c.args.under_way.now) (option_map (λ c'. c'.now) c.args.under_way.now) c.args.stage.now c.args.stage.now c.in-Leave.is (refl, inl refl) refl (ap (λ x. x.told.failures) (now_apart (option_map (λ c'. c'.now) c.args.under_way.now) c.args.course.now c.leave_now.new.course c.args.machine.now c.leave_now.new.machine c.leave_now.ensures.leaves)) refl refl
