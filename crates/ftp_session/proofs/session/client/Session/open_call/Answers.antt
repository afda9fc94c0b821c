use Rattle.ftp_session.proofs.Handed.{hands_opens, opens_withheld}
use Rattle.ftp_session.proofs.session.client.Session.open_call.Goals as goal

pub returns-in-Err-clause-opens : goal.returns-in-Err-clause-opens
returns-in-Err-clause-opens g c =
    rw (rw c.in-Err.is at c.new_mark.ensures.memory) (opens_withheld _ _ c.args.call.now c.args.replies c.args.direction _ _ _ c.requires)

pub returns-clause-opens : goal.returns-clause-opens
returns-clause-opens g c =
    hands_opens _ _ c.args.call.now c.args.replies c.args.direction c.in-Ok.mark _ _ _ _ _ _ _ _ c.hand_over.result c.requires (rw c.in-Ok.is at c.new_mark.ensures.number) c.make_in_step-answer.ensures.made c.hand_over.ensures.hands
