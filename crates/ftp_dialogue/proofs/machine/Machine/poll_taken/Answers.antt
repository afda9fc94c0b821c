use Rattle.std.proofs.Common.{refl}
use Rattle.futures.specs.declared.task.Poll.TheVariants.{Ready, Pending}
use Rattle.ftp_dialogue.specs.Coding.{coding_of}
use Rattle.ftp_dialogue.specs.Link.{Link, built_beside}
use Rattle.ftp_dialogue.proofs.TransitionsLemmas.{begun_entered, polls_entered, rests_entered}
use Rattle.ftp_dialogue.proofs.machine.Machine.poll_taken.Goals as goal

pub returns-in-Ready-clause-polls : goal.returns-in-Ready-clause-polls
returns-in-Ready-clause-polls g c =
    let link : Link = built_beside (g.A.DataPath.builds c.args.data_path.now) g.Tr.Conn.Tells.secures g.Tr.Conn.Tells.tells g.Tr.Conn.PollConn.read_faults g.Tr.Conn.PollConn.write_faults g.Tr.Conn.Tells.end_faults g.A.DataPath.may_wait in
    let coding = coding_of g.E.Encoding.decoded g.E.Encoding.encoded c.args.encoding.now in
    let begins = c.begin_call.ensures in
    let made = rw c.in-Ready.is at c.poll_call.ensures.polls in
    let polls = polls_entered link coding c.args.call.now c.args.stage.now c.begin_call.new.stage c.poll_call.new.stage c.args.self.now c.begin_call.new.self c.poll_call.new.self (Ready c.in-Ready.answer) begins.entered begins.begun (begins.enters coding) made in
    (c.poll_call.new.self, polls, c.let_go.ensures)

pub returns-in-Pending-clause-begun : goal.returns-in-Pending-clause-begun
returns-in-Pending-clause-begun g c = λ waits.
    let link : Link = built_beside (g.A.DataPath.builds c.args.data_path.now) g.Tr.Conn.Tells.secures g.Tr.Conn.Tells.tells g.Tr.Conn.PollConn.read_faults g.Tr.Conn.PollConn.write_faults g.Tr.Conn.Tells.end_faults g.A.DataPath.may_wait in
    let coding = coding_of g.E.Encoding.decoded g.E.Encoding.encoded c.args.encoding.now in
    let begins = c.begin_call.ensures in
    begun_entered link coding c.args.call.now c.args.stage.now c.begin_call.new.stage c.poll_call.new.stage c.args.self.now c.begin_call.new.self c.poll_call.new.self c.poll_call.result begins.entered begins.begun (begins.enters coding) (c.poll_call.ensures.begun c.in-Pending.is)

pub returns-in-Pending-clause-polls : goal.returns-in-Pending-clause-polls
returns-in-Pending-clause-polls g c =
    let link : Link = built_beside (g.A.DataPath.builds c.args.data_path.now) g.Tr.Conn.Tells.secures g.Tr.Conn.Tells.tells g.Tr.Conn.PollConn.read_faults g.Tr.Conn.PollConn.write_faults g.Tr.Conn.Tells.end_faults g.A.DataPath.may_wait in
    let coding = coding_of g.E.Encoding.decoded g.E.Encoding.encoded c.args.encoding.now in
    let begins = c.begin_call.ensures in
    let made = rw c.in-Pending.is at c.poll_call.ensures.polls in
    (c.poll_call.new.self, polls_entered link coding c.args.call.now c.args.stage.now c.begin_call.new.stage c.poll_call.new.stage c.args.self.now c.begin_call.new.self c.poll_call.new.self Pending begins.entered begins.begun (begins.enters coding) made, refl)

pub returns-in-Pending-clause-rests : goal.returns-in-Pending-clause-rests
returns-in-Pending-clause-rests g c = λ waits read.
    let link : Link = built_beside (g.A.DataPath.builds c.args.data_path.now) g.Tr.Conn.Tells.secures g.Tr.Conn.Tells.tells g.Tr.Conn.PollConn.read_faults g.Tr.Conn.PollConn.write_faults g.Tr.Conn.Tells.end_faults g.A.DataPath.may_wait in
    rests_entered link c.args.call.now c.args.stage.now c.args.self.now c.begin_call.new.self c.poll_call.new.self read c.begin_call.ensures.entered (c.poll_call.ensures.rests c.in-Pending.is read)
