use Rattle.ftp_transport.specs.Asking.{recorded}
use Rattle.std.proofs.Common.{None, ap, refl, sym, ◌∙◌}
use Rattle.ftp_transport.specs.declared.request.Request.TheVariants.{Connect}
use Rattle.ftp_transport.specs.declared.request.RequestOutcome.TheVariants.{Done, Refused}
use Rattle.ftp_dialogue.proofs.NetEvents.{is_next, same_net}
use Rattle.ftp_dialogue.proofs.NegotiationLemmas.{asked_through, unasked_through}
use Rattle.ftp_dialogue.specs.declared.questions.Found.TheVariants as found
use Rattle.ftp_dialogue.proofs.machine.Machine.ask_to_connect.Goals as goal

pub returns-in-Ready-Ok-Ok-clause-asks : goal.returns-in-Ready-Ok-Ok-clause-asks
returns-in-Ready-Ok-Ok-clause-asks g c =
    let made = rw (c.in-Ready-Ok-Ok.is, c.in-Ready-Ok-Ok.field-0-is, c.in-Ready-Ok-Ok.field-0-0-is) at c.connect.ensures.asks c.requires.may in
    let came = rw (c.in-Ready-Ok-Ok.is, c.in-Ready-Ok-Ok.field-0-is, c.in-Ready-Ok-Ok.field-0-0-is) at c.connect.ensures.supplies c.requires.may in
    (tt, λ next. asked_through _ (Connect c.args.address None) Done _ _ _ c.self.view_is (λ h. record { asked = made h ∙ ap (recorded (Connect c.args.address None) Done) c.make_room.ensures.asked; data_is = (_, sym c.make_room.ensures.ready ∙ came h, is_next _ (g.Tr.Conn.Tells.told c.in-Ready-Ok-Ok.conn) (c.begin.ensures h)); closed = c.connect.ensures.closed ∙ c.make_room.ensures.closed }) (λ o. next (found.Outcome o)))

pub returns-in-Ready-Ok-Err-clause-asks : goal.returns-in-Ready-Ok-Err-clause-asks
returns-in-Ready-Ok-Err-clause-asks g c =
    let made = rw (c.in-Ready-Ok-Err.is, c.in-Ready-Ok-Err.field-0-is, c.in-Ready-Ok-Err.field-0-0-is) at c.connect.ensures.asks c.requires.may in
    (tt, λ next. asked_through _ (Connect c.args.address None) (Refused c.in-Ready-Ok-Err.fault) _ _ _ c.self.view_is (λ h. record { asked = made h ∙ ap (recorded (Connect c.args.address None) (Refused c.in-Ready-Ok-Err.fault)) c.make_room.ensures.asked; data_is = refl; closed = c.connect.ensures.closed ∙ c.make_room.ensures.closed }) (λ o. next (found.Outcome o)))

pub returns-in-Ready-Err-clause-asks : goal.returns-in-Ready-Err-clause-asks
returns-in-Ready-Err-clause-asks g c =
    let made = rw (c.in-Ready-Err.is, c.in-Ready-Err.field-0-is) at c.connect.ensures.asks c.requires.may in
    let stays = rw (c.in-Ready-Err.is, c.in-Ready-Err.field-0-is) at c.connect.ensures.supplies c.requires.may in
    λ next. unasked_through _ _ _ _ c.self.view_is (λ h. same_net _ _ (made h ∙ c.make_room.ensures.asked) (stays h ∙ c.make_room.ensures.ready) (c.connect.ensures.closed ∙ c.make_room.ensures.closed) refl) _

pub returns-in-Pending-clause-asks : goal.returns-in-Pending-clause-asks
returns-in-Pending-clause-asks g c =
    let made = rw c.in-Pending.is at c.connect.ensures.asks c.requires.may in
    let stays = rw c.in-Pending.is at c.connect.ensures.supplies c.requires.may in
    ((λ next. (unasked_through _ _ _ _ c.self.view_is (λ h. same_net _ _ (made h ∙ c.make_room.ensures.asked) (stays h ∙ c.make_room.ensures.ready) (c.connect.ensures.closed ∙ c.make_room.ensures.closed) refl) _, tt)), c.connect.ensures.waits c.requires.may c.in-Pending.is)

pub returns-then-is_err-clause-asks : goal.returns-then-is_err-clause-asks
returns-then-is_err-clause-asks g c = λ next. unasked_through _ _ _ _ c.self.view_is (λ h. same_net _ _ c.make_room.ensures.asked c.make_room.ensures.ready c.make_room.ensures.closed refl) _
