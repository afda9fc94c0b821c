use Rattle.ftp_dialogue.specs.Coding.{coding_of}
use Rattle.ftp_runs.proofs.Polling.{carried_here}
use Rattle.ftp_runs.proofs.events.carry_here.Goals as goal
use Rattle.ftp_dialogue.specs.Link.{Builds, built_by}

pub returns-clause-polled : goal.returns-clause-polled
returns-clause-polled g c =
    let coding = coding_of g.E.Encoding.decoded g.E.Encoding.encoded c.args._encoding.now in
    let builds : Builds = built_by g.B.PassiveStreamBuilder.answers c.args._builder.now in
    let held = c.holds_memory.ensures in
    carried_here builds coding c.args.call.now c.args._stage.now _ c.args.machine.now c.local_call-answer.new.self c.local_call-answer.result c.requires.local c.requires.stage c.local_call-answer.ensures.carries held.given held.sound
