use Rattle.ftp_dialogue.proofs.DrainingLemmas.{made_plays}
use Rattle.ftp_session.proofs.session.client.Session.greet.Goals as goal

pub returns-clause-plays : goal.returns-clause-plays
returns-clause-plays g c = rw c.unit.ensures (made_plays _ _ _ _ _ _ c.call_alone-answer.ensures.made)
