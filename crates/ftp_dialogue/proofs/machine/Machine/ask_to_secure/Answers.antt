use Rattle.std.proofs.Common.{refl, ◌∙◌, None, Some}
use Rattle.ftp_dialogue.proofs.NetEvents.{is_next, same_net}
use Rattle.ftp_dialogue.proofs.NegotiationLemmas.{handed_through, handshook_through, unasked_through}
use Rattle.ftp_dialogue.specs.declared.questions.Found.TheVariants as found
use Rattle.ftp_dialogue.proofs.machine.Machine.ask_to_secure.Goals as goal

pub returns-then-is_err-clause-asks : goal.returns-then-is_err-clause-asks
returns-then-is_err-clause-asks g c = λ next. unasked_through _ _ _ _ c.self.view_is (λ h. same_net _ _ c.make_room.ensures.asked c.make_room.ensures.ready c.make_room.ensures.closed refl) _

pub returns-in-Ready-Ok-Ok-clause-asks : goal.returns-in-Ready-Ok-Ok-clause-asks
returns-in-Ready-Ok-Ok-clause-asks g c =
    let secures = rw (c.in-Ready-Ok-Ok.is, c.in-Ready-Ok-Ok.field-0-is, c.in-Ready-Ok-Ok.field-0-0-is) at c.secure.ensures.secures c.requires.may in
    (tt, λ next. handshook_through _ None _ _ _ c.self.view_is (λ h. (_, secures h, same_net _ _ (c.secure.ensures.asked c.requires.may ∙ c.make_room.ensures.asked) (c.secure.ensures.ready c.requires.may ∙ c.make_room.ensures.ready) (c.secure.ensures.closed ∙ c.make_room.ensures.closed) (is_next _ (g.Tr.Conn.Tells.told c.in-Ready-Ok-Ok.conn) (c.begin.ensures h)))) (λ f. next (found.Made f)))

pub returns-in-Ready-Ok-Err-clause-asks : goal.returns-in-Ready-Ok-Err-clause-asks
returns-in-Ready-Ok-Err-clause-asks g c =
    let secures = rw (c.in-Ready-Ok-Err.is, c.in-Ready-Ok-Err.field-0-is, c.in-Ready-Ok-Err.field-0-0-is) at c.secure.ensures.secures c.requires.may in
    (tt, λ next. handshook_through _ (Some c.in-Ready-Ok-Err.fault) _ _ _ c.self.view_is (λ h. (secures h, same_net _ _ (c.secure.ensures.asked c.requires.may ∙ c.make_room.ensures.asked) (c.secure.ensures.ready c.requires.may ∙ c.make_room.ensures.ready) (c.secure.ensures.closed ∙ c.make_room.ensures.closed) refl)) (λ f. next (found.Made f)))

pub returns-in-Ready-Err-clause-asks : goal.returns-in-Ready-Err-clause-asks
returns-in-Ready-Err-clause-asks g c =
    λ next. handed_through _ _ _ _ c.self.view_is (λ h. same_net _ _ (c.secure.ensures.asked c.requires.may ∙ c.make_room.ensures.asked) (c.secure.ensures.ready c.requires.may ∙ c.make_room.ensures.ready) (c.secure.ensures.closed ∙ c.make_room.ensures.closed) refl) (λ f. next (found.Made f))

pub returns-in-Pending-clause-asks : goal.returns-in-Pending-clause-asks
returns-in-Pending-clause-asks g c =
    ((λ next. (handed_through _ _ _ _ c.self.view_is (λ h. same_net _ _ (c.secure.ensures.asked c.requires.may ∙ c.make_room.ensures.asked) (c.secure.ensures.ready c.requires.may ∙ c.make_room.ensures.ready) (c.secure.ensures.closed ∙ c.make_room.ensures.closed) refl) (λ f. next (found.Made f)), tt)), c.secure.ensures.waits c.requires.may c.in-Pending.is)
