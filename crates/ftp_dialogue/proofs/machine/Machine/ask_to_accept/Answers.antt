use Rattle.ftp_transport.specs.declared.request.Request.TheVariants.{Accept}
use Rattle.ftp_transport.specs.Asking.{recorded}
use Rattle.ftp_transport.specs.declared.request.RequestOutcome.TheVariants.{Address, Refused}
use Rattle.std.proofs.Common.{ap, refl, sym, ◌∙◌}
use Rattle.ftp_dialogue.proofs.NetEvents.{is_next, same_net}
use Rattle.ftp_dialogue.proofs.NegotiationLemmas.{accepted_through, unasked_through, unchanged_still}
use Rattle.ftp_dialogue.specs.declared.questions.Found.TheVariants as found
use Rattle.ftp_dialogue.proofs.machine.Machine.ask_to_accept.Goals as goal

pub returns-in_default-clause-asks : goal.returns-in_default-clause-asks
returns-in_default-clause-asks g c = λ next. unchanged_still _ _ _ _ _ c.self.view_is refl

pub returns-in-Ready-Ok-Ok-clause-asks : goal.returns-in-Ready-Ok-Ok-clause-asks
returns-in-Ready-Ok-Ok-clause-asks g c =
    let made = rw (c.in-Ready-Ok-Ok.is, c.in-Ready-Ok-Ok.field-0-is, c.in-Ready-Ok-Ok.field-0-0-is) at c.accept.ensures.asks c.requires.may in
    let came = rw (c.in-Ready-Ok-Ok.is, c.in-Ready-Ok-Ok.field-0-is, c.in-Ready-Ok-Ok.field-0-0-is) at c.accept.ensures.supplies c.requires.may in
    (tt, λ next. accepted_through _ (Address c.in-Ready-Ok-Ok.from) _ _ _ c.self.view_is (λ h. record { asked = made h ∙ ap (recorded (Accept c.self.inside.state.settings.active_deadline) (Address c.in-Ready-Ok-Ok.from)) c.make_room.ensures.asked; data_is = (_, sym c.make_room.ensures.ready ∙ came h, is_next _ (g.Tr.Conn.Tells.told c.in-Ready-Ok-Ok.conn) (c.begin.ensures h)); closed = c.accept.ensures.closed ∙ c.make_room.ensures.closed }) (λ o. next (found.Outcome o)))

pub returns-in-Ready-Ok-Err-clause-asks : goal.returns-in-Ready-Ok-Err-clause-asks
returns-in-Ready-Ok-Err-clause-asks g c =
    let made = rw (c.in-Ready-Ok-Err.is, c.in-Ready-Ok-Err.field-0-is, c.in-Ready-Ok-Err.field-0-0-is) at c.accept.ensures.asks c.requires.may in
    (tt, λ next. accepted_through _ (Refused c.in-Ready-Ok-Err.fault) _ _ _ c.self.view_is (λ h. record { asked = made h ∙ ap (recorded (Accept c.self.inside.state.settings.active_deadline) (Refused c.in-Ready-Ok-Err.fault)) c.make_room.ensures.asked; data_is = refl; closed = c.accept.ensures.closed ∙ c.make_room.ensures.closed }) (λ o. next (found.Outcome o)))

pub returns-in-Ready-Err-clause-asks : goal.returns-in-Ready-Err-clause-asks
returns-in-Ready-Err-clause-asks g c =
    let made = rw (c.in-Ready-Err.is, c.in-Ready-Err.field-0-is) at c.accept.ensures.asks c.requires.may in
    let stays = rw (c.in-Ready-Err.is, c.in-Ready-Err.field-0-is) at c.accept.ensures.supplies c.requires.may in
    λ next. unasked_through _ _ _ _ c.self.view_is (λ h. same_net _ _ (made h ∙ c.make_room.ensures.asked) (stays h ∙ c.make_room.ensures.ready) (c.accept.ensures.closed ∙ c.make_room.ensures.closed) refl) _

pub returns-in-Pending-clause-asks : goal.returns-in-Pending-clause-asks
returns-in-Pending-clause-asks g c =
    let made = rw c.in-Pending.is at c.accept.ensures.asks c.requires.may in
    let stays = rw c.in-Pending.is at c.accept.ensures.supplies c.requires.may in
    ((λ next. (unasked_through _ _ _ _ c.self.view_is (λ h. same_net _ _ (made h ∙ c.make_room.ensures.asked) (stays h ∙ c.make_room.ensures.ready) (c.accept.ensures.closed ∙ c.make_room.ensures.closed) refl) _, tt)), c.accept.ensures.waits c.requires.may c.in-Pending.is)

pub returns-then-is_err-clause-asks : goal.returns-then-is_err-clause-asks
returns-then-is_err-clause-asks g c = λ next. unasked_through _ _ _ _ c.self.view_is (λ h. same_net _ _ c.make_room.ensures.asked c.make_room.ensures.ready c.make_room.ensures.closed refl) _
