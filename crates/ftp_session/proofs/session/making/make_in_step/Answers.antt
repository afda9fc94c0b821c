use Rattle.ftp_dialogue.proofs.CatchingUpLemmas.{plays_in_step}
use Rattle.ftp_session.proofs.session.making.make_in_step.Goals as goal

pub returns : goal.returns
returns g c = record { made = plays_in_step _ _ _ _ _ _ c.call_in_step.ensures.made }
