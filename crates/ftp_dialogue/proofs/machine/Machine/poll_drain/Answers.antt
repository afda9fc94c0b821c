use Rattle.std.proofs.Common.{refl}
use Rattle.std.specs.Prelude.{[]}
use Rattle.ftp_calls.specs.declared.call.Call.TheVariants.{Drain, ReadResponseIn}
use Rattle.ftp_calls.specs.declared.exchange.Turn.TheVariants.{First}
use Rattle.ftp_dialogue.specs.Coding.{coding_of}
use Rattle.ftp_dialogue.specs.Link.{Link, link}
use Rattle.ftp_dialogue.specs.declared.stage.Stage.TheVariants.{At}
use Rattle.ftp_dialogue.proofs.DrainingLemmas.{due_taken, made_plays}
use Rattle.ftp_dialogue.proofs.Reading.{no_other}
use Rattle.ftp_dialogue.proofs.TransitionsLemmas.{made_after, rests_entered}
use Rattle.ftp_dialogue.proofs.machine.Machine.poll_drain.Goals as goal

pub returns-in-Ready-clause-drains : goal.returns-in-Ready-clause-drains
returns-in-Ready-clause-drains g c =
    let over : Link = link g.Tr.Conn.Tells.secures g.Tr.Conn.Tells.tells g.Tr.Conn.PollConn.read_faults g.Tr.Conn.PollConn.write_faults g.Tr.Conn.Tells.end_faults in
    let coding = coding_of g.E.Encoding.decoded g.E.Encoding.encoded c.args.encoding.now in
    let polls = rw c.in-Ready.is at c.poll_call.ensures.polls in
    let taken = due_taken (ReadResponseIn []) c.args.self.now c.requires.due in
    rw c.drained.ensures (made_plays over coding Drain c.args.self.now c.let_go.new.self c.in-Ready.answer (made_after over coding Drain c.enter-stage.result c.poll_call.new.stage c.args.self.now c.args.self.now c.enter-stage.new.self c.poll_call.new.self c.let_go.new.self c.in-Ready.answer taken refl refl c.enter-stage.ensures.state (c.enter-stage.ensures.enters coding) c.enter-stage.ensures.begun polls c.let_go.ensures))

pub returns-in-Pending-clause-waits : goal.returns-in-Pending-clause-waits
returns-in-Pending-clause-waits g c = λ waits. no_other (c.poll_call.ensures.waits c.in-Pending.is)

pub returns-in-Pending-clause-drains : goal.returns-in-Pending-clause-drains
returns-in-Pending-clause-drains g c =
    let over : Link = link g.Tr.Conn.Tells.secures g.Tr.Conn.Tells.tells g.Tr.Conn.PollConn.read_faults g.Tr.Conn.PollConn.write_faults g.Tr.Conn.Tells.end_faults in
    rests_entered over Drain (At First) c.args.self.now c.enter-stage.new.self c.poll_call.new.self refl c.enter-stage.ensures.state (c.poll_call.ensures.rests c.in-Pending.is refl)
