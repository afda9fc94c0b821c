use Rattle.std.proofs.Common.{refl, ◌∙◌, ap, None, Some}
use Rattle.ftp_transport.specs.Asking.{recorded}
use Rattle.ftp_transport.specs.declared.request.Request.TheVariants.{Build}
use Rattle.ftp_transport.specs.declared.request.RequestOutcome.TheVariants.{Done}
use Rattle.ftp_dialogue.proofs.NetEvents.{is_next, same_net}
use Rattle.ftp_dialogue.proofs.NegotiationLemmas.{built_through, unasked_through}
use Rattle.ftp_dialogue.specs.declared.questions.Found.TheVariants as found
use Rattle.ftp_dialogue.proofs.machine.Machine.ask_to_build.Goals as goal

pub returns-then-is_err-clause-asks : goal.returns-then-is_err-clause-asks
returns-then-is_err-clause-asks g c = λ next. unasked_through _ _ _ _ c.self.view_is (λ h. same_net _ _ c.make_room.ensures.asked c.make_room.ensures.ready c.make_room.ensures.closed refl) _

pub returns-in_default-clause-asks : goal.returns-in_default-clause-asks
returns-in_default-clause-asks g c =
    let unnoted = rw c.in_default.is at c.note_build.ensures.unnoted in
    λ next. unasked_through _ _ _ _ c.self.view_is (λ h. same_net _ _ (unnoted ∙ c.make_room.ensures.asked) (c.note_build.ensures.ready ∙ c.make_room.ensures.ready) (c.note_build.ensures.closed ∙ c.make_room.ensures.closed) refl) _

pub returns-in-Ok-build-clause-asks : goal.returns-in-Ok-build-clause-asks
returns-in-Ok-build-clause-asks g c =
    let built = rw c.in-Ok-build.is at c.build.ensures.builds c.requires.may in
    let noted = rw c.in-Ok.is at c.note_build.ensures.noted in
    (tt, λ next. built_through _ c.args.address None _ _ _ c.self.view_is (λ h. record { asked = noted h ∙ ap (recorded (Build c.args.address) Done) c.make_room.ensures.asked; built = (_, built, is_next _ (g.Tr.Conn.Tells.told c.in-Ok-build.conn) (c.begin.ensures h)); ready = c.note_build.ensures.ready ∙ c.make_room.ensures.ready; closed = c.note_build.ensures.closed ∙ c.make_room.ensures.closed }) (λ f. next (found.Made f)))

pub returns-in-Err-clause-asks : goal.returns-in-Err-clause-asks
returns-in-Err-clause-asks g c =
    let built = rw c.in-Err.is at c.build.ensures.builds c.requires.may in
    let noted = rw c.in-Ok.is at c.note_build.ensures.noted in
    (tt, λ next. built_through _ c.args.address (Some c.in-Err.fault) _ _ _ c.self.view_is (λ h. record { asked = noted h ∙ ap (recorded (Build c.args.address) Done) c.make_room.ensures.asked; built = (built, refl); ready = c.note_build.ensures.ready ∙ c.make_room.ensures.ready; closed = c.note_build.ensures.closed ∙ c.make_room.ensures.closed }) (λ f. next (found.Made f)))
