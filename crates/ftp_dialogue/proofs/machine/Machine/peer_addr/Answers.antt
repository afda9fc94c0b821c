use Rattle.std.proofs.Common.{ap, ◌∙◌}
use Rattle.ftp_dialogue.specs.Dialogue.{There}
use Rattle.ftp_dialogue.proofs.NegotiationLemmas.{looks_up}
use Rattle.ftp_dialogue.proofs.Questioning.{looked_peer}
use Rattle.ftp_dialogue.proofs.machine.Machine.peer_addr.Goals as goal

pub returns-clause-asks : goal.returns-clause-asks
returns-clause-asks g c =
    let here = c.peer_addr-address.ensures in
    rw c.looked.ensures (looked_peer _ _ _ _ (looks_up _ There _ _ _ c.self.view_is here.same c.peer_addr-address.result (ap (λ v. v.channel.failed) c.self.view_is ∙ c.requires.going) here.fault here.told))
