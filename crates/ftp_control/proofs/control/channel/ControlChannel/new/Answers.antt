use Rattle.std.proofs.Common.{ap}
use Rattle.ftp_control.proofs.Channels.{idle_holds}
use Rattle.ftp_control.proofs.control.channel.ControlChannel.new.Goals as goal

pub invariant_of-result : goal.invariant_of-result
invariant_of-result g c =
    rw (c.in_ok-ahead.ensures, c.new-2.ensures.items, c.new-3.ensures.items) (idle_holds _ _ _ (λ h. (ap (λ x. x.ended) (c.begin.ensures h), ap (λ x. x.sent) (c.begin.ensures h))))

pub returns-clause-sound : goal.returns-clause-sound
returns-clause-sound g c =
    rw (c.in_ok-ahead.ensures, c.new-2.ensures.items, c.new-3.ensures.items) (idle_holds _ _ _ (λ h. (ap (λ x. x.ended) (c.begin.ensures h), ap (λ x. x.sent) (c.begin.ensures h)))).sound
