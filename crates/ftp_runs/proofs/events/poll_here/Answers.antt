use Rattle.std.proofs.Common.{sym, ◌∙◌}
use Rattle.ftp_dialogue.specs.Coding.{coding_of}
use Rattle.ftp_runs.proofs.Polling.{started_here}
use Rattle.ftp_runs.proofs.events.poll_here.Goals as goal
use Rattle.ftp_dialogue.specs.Link.{Builds, built_by}

pub returns-clause-polled : goal.returns-clause-polled
returns-clause-polled g c =
    let coding = coding_of g.E.Encoding.decoded g.E.Encoding.encoded c.args.encoding.now in
    let builds : Builds = built_by g.B.PassiveStreamBuilder.answers c.args.builder.now in
    let held = c.holds_memory.ensures in
    started_here builds coding c.args.call.now c.args.stage.now c.poll_started-polled.new.stage c.args.machine.now c.poll_started-polled.new.self c.poll_started-polled.result (sym c.is_local.ensures ∙ c.if-is_local.false) c.poll_started-polled.ensures.starts c.poll_started-polled.ensures.stage held.given held.sound
