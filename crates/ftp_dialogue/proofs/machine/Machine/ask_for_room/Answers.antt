use Rattle.std.proofs.Common.{refl}
use Rattle.ftp_dialogue.proofs.NegotiationLemmas.{unasked_through, unchanged_still}
use Rattle.ftp_dialogue.proofs.NetEvents.{same_net}
use Rattle.ftp_dialogue.specs.declared.questions.Found.TheVariants as found
use Rattle.ftp_dialogue.proofs.machine.Machine.ask_for_room.Goals as goal

pub returns-in-Some-clause-asks : goal.returns-in-Some-clause-asks
returns-in-Some-clause-asks g c = (tt, λ next. unchanged_still _ (next found.Room) (next found.Room) _ _ refl refl)

pub returns-then-is_err-clause-asks : goal.returns-then-is_err-clause-asks
returns-then-is_err-clause-asks g c = λ next. unasked_through _ _ _ _ c.self.view_is (λ h. same_net _ _ c.make_room.ensures.asked c.make_room.ensures.ready c.make_room.ensures.closed refl) (next found.Room)

pub returns-clause-asks : goal.returns-clause-asks
returns-clause-asks g c = (tt, λ next. unasked_through _ _ _ _ c.self.view_is (λ h. same_net _ _ c.make_room.ensures.asked c.make_room.ensures.ready c.make_room.ensures.closed refl) (next found.Room))
