use Rattle.ftp_control.proofs.Channels.{read_holds}
use Rattle.ftp_control.proofs.Reading.{reads_reply}
use Rattle.ftp_control.proofs.control.channel.ControlChannel.poll_outcome.Goals as goal

pub invariant_of-self : goal.invariant_of-self
invariant_of-self g c =
    read_holds _ _ _ _ _ _ _ _ _ _ _ _ _ _ _ _ _ _ _ _ c.self.invariant c.read_sought-result.ensures.under_way c.read_sought-result.ensures.bound c.read_sought-result.ensures.known c.read_sought-result.ensures.heard

pub returns-clause-reads : goal.returns-clause-reads
returns-clause-reads g c =
    rw (← c.self.view_is) (reads_reply _ _ _ _ (rw c.fails-self-inside.ensures) _ c.read_sought-result.ensures.heard)
