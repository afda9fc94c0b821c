use Rattle.std.proofs.Common.{ap}
use Rattle.ftp_control.proofs.Channels.{idle_holds}
use Rattle.ftp_control.proofs.control.channel.ControlChannel.replace.Goals as goal

pub invariant_of-self : goal.invariant_of-self
invariant_of-self g c =
    rw (c.clear.ensures, c.clear-2.ensures.items, c.clear-3.ensures.items) (idle_holds _ _ _ (λ h. (ap (λ x. x.ended) (c.begin.ensures h), ap (λ x. x.sent) (c.begin.ensures h))))

pub returns-clause-sound : goal.returns-clause-sound
returns-clause-sound g c =
    rw (c.clear.ensures, c.clear-2.ensures.items, c.clear-3.ensures.items) (idle_holds _ _ _ (λ h. (ap (λ x. x.ended) (c.begin.ensures h), ap (λ x. x.sent) (c.begin.ensures h)))).sound
