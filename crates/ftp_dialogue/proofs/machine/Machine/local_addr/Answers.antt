use Rattle.std.proofs.Common.{ap, ◌∙◌}
use Rattle.ftp_dialogue.specs.Dialogue.{Here}
use Rattle.ftp_dialogue.proofs.NegotiationLemmas.{looks_up}
use Rattle.ftp_dialogue.proofs.Questioning.{looked_local}
use Rattle.ftp_dialogue.proofs.machine.Machine.local_addr.Goals as goal

pub returns-clause-asks : goal.returns-clause-asks
returns-clause-asks g c =
    let here = c.local_addr-address.ensures in
    rw c.looked.ensures (looked_local _ _ _ _ (looks_up _ Here _ _ _ c.self.view_is here.same c.local_addr-address.result (ap (λ v. v.channel.failed) c.self.view_is ∙ c.requires.going) here.fault here.told))
