use Rattle.ftp_dialogue.proofs.CatchingUpLemmas.{plays_in_step}
use Rattle.ftp_session.proofs.Reasons.{plain_counts}
use Rattle.ftp_session.proofs.Handed.{seen_plays}
use Rattle.ftp_session.proofs.session.client.Session.call.Goals as goal

pub returns-clause-plays : goal.returns-clause-plays
returns-clause-plays g c = seen_plays _ _ _ _ _ _ _ _ _ c.look.ensures.looks c.look.ensures.seen (plays_in_step _ _ _ _ _ _ c.call_in_step.ensures.made)

pub returns-clause-counts : goal.returns-clause-counts
returns-clause-counts g c = plain_counts _ _ _ _ _ _ _ _ c.requires (seen_plays _ _ _ _ _ _ _ _ _ c.look.ensures.looks c.look.ensures.seen (plays_in_step _ _ _ _ _ _ c.call_in_step.ensures.made))
