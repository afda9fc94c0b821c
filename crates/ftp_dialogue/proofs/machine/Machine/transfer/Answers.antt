use Rattle.ftp_dialogue.specs.Coding.{coding_of}
use Rattle.ftp_dialogue.proofs.SendingLemmas.{task_starts}
use Rattle.ftp_dialogue.proofs.machine.Machine.transfer.Goals as goal

pub returns-in-Starting-clause-makes : goal.returns-in-Starting-clause-makes
returns-in-Starting-clause-makes g c = λ call of.
    let here = rw c.in-Starting.is at of in
    rw c.in-Starting.is (task_starts _ (coding_of g.E.Encoding.decoded g.E.Encoding.encoded c.args.encoding.now) call c.in-Starting.task _ _ _ _ here c.start.ensures)

pub returns-in-Gathering-clause-makes : goal.returns-in-Gathering-clause-makes
returns-in-Gathering-clause-makes g c = λ call of.
    let here = rw c.in-Gathering.is at of in
    rw c.in-Gathering.is (c.gather.ensures.makes call here)

pub returns-in-Sending-clause-makes : goal.returns-in-Sending-clause-makes
returns-in-Sending-clause-makes g c = λ call of.
    let here = rw c.in-Sending.is at of in
    rw c.in-Sending.is (c.send_more.ensures.makes (coding_of g.E.Encoding.decoded g.E.Encoding.encoded c.args.encoding.now) call here)

pub returns-in-Ending-clause-makes : goal.returns-in-Ending-clause-makes
returns-in-Ending-clause-makes g c = λ call of.
    let here = rw c.in-Ending.is at of in
    rw c.in-Ending.is (c.end_fetched.ensures.makes (coding_of g.E.Encoding.decoded g.E.Encoding.encoded c.args.encoding.now) call here)
