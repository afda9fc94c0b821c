use Rattle.ftp_control.proofs.Channels.{push_holds}
use Rattle.ftp_control.proofs.WireLines.{line_some}
use Rattle.ftp_control.proofs.control.channel.ControlChannel.push.Goals as goal

pub invariant_of-self : goal.invariant_of-self
invariant_of-self g c =
    let none = rw (← c.self.view_is) at c.requires in
    push_holds _ _ _ _ _ _ _ _ _ _ _ _ c.self.invariant none (rw c.into_vec.ensures.bytes c.into_vec.ensures.one_line)

pub returns-clause-some : goal.returns-clause-some
returns-clause-some g c = line_some _ c.into_vec.ensures.one_line
