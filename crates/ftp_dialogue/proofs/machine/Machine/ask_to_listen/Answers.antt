use Rattle.ftp_transport.specs.declared.request.Request.TheVariants.{Listen}
use Rattle.ftp_transport.specs.declared.request.RequestOutcome.TheVariants.{Address, Refused}
use Rattle.std.proofs.Common.{refl}
use Rattle.ftp_dialogue.proofs.NetEvents.{same_net}
use Rattle.ftp_dialogue.proofs.NegotiationLemmas.{asked_through, unasked_through}
use Rattle.ftp_dialogue.specs.declared.questions.Found.TheVariants as found
use Rattle.ftp_dialogue.proofs.machine.Machine.ask_to_listen.Goals as goal

pub returns-in-Ready-Ok-Ok-clause-asks : goal.returns-in-Ready-Ok-Ok-clause-asks
returns-in-Ready-Ok-Ok-clause-asks g c =
    let made = rw (c.in-Ready-Ok-Ok.is, c.in-Ready-Ok-Ok.field-0-is, c.in-Ready-Ok-Ok.field-0-0-is) at c.listen.ensures.asks c.requires.may in
    (tt, λ next. asked_through _ (Listen c.args.address) (Address c.in-Ready-Ok-Ok.bound) _ _ _ c.self.view_is (λ h. record { asked = made h; data_is = (refl, c.listen.ensures.ready c.requires.may); closed = c.listen.ensures.closed }) (λ o. next (found.Outcome o)))

pub returns-in-Ready-Ok-Err-clause-asks : goal.returns-in-Ready-Ok-Err-clause-asks
returns-in-Ready-Ok-Err-clause-asks g c =
    let made = rw (c.in-Ready-Ok-Err.is, c.in-Ready-Ok-Err.field-0-is, c.in-Ready-Ok-Err.field-0-0-is) at c.listen.ensures.asks c.requires.may in
    (tt, λ next. asked_through _ (Listen c.args.address) (Refused c.in-Ready-Ok-Err.fault) _ _ _ c.self.view_is (λ h. record { asked = made h; data_is = (refl, c.listen.ensures.ready c.requires.may); closed = c.listen.ensures.closed }) (λ o. next (found.Outcome o)))

pub returns-in-Ready-Err-clause-asks : goal.returns-in-Ready-Err-clause-asks
returns-in-Ready-Err-clause-asks g c =
    let made = rw (c.in-Ready-Err.is, c.in-Ready-Err.field-0-is) at c.listen.ensures.asks c.requires.may in
    λ next. unasked_through _ _ _ _ c.self.view_is (λ h. same_net _ _ (made h) (c.listen.ensures.ready c.requires.may) c.listen.ensures.closed refl) _

pub returns-in-Pending-clause-asks : goal.returns-in-Pending-clause-asks
returns-in-Pending-clause-asks g c =
    let made = rw c.in-Pending.is at c.listen.ensures.asks c.requires.may in
    ((λ next. (unasked_through _ _ _ _ c.self.view_is (λ h. same_net _ _ (made h) (c.listen.ensures.ready c.requires.may) c.listen.ensures.closed refl) _, tt)), c.listen.ensures.waits c.requires.may c.in-Pending.is)
