use Rattle.std.proofs.Common.{false}
use Rattle.ftp_dialogue.proofs.DrainingLemmas.{made_plays}
use Rattle.ftp_session.proofs.Handed.{not_taken_back, taken_back}
use Rattle.ftp_session.proofs.Reasons.{ends_reasons}
use Rattle.ftp_session.proofs.session.client.Session.finish.Goals as goal

pub returns-in-Ok-clause-finishes : goal.returns-in-Ok-clause-finishes
returns-in-Ok-clause-finishes g c =
    let takes = rw c.in-Ok.is at c.take_back.ensures.takes in
    rw (c.ended.ensures, ← c.take_back.ensures.keeps.encoding) (taken_back _ _ _ c.args.transfer _ _ _ _ _ _ takes (made_plays _ _ _ _ _ _ c.call_alone.ensures.made))

pub returns-in-Err-clause-finishes : goal.returns-in-Err-clause-finishes
returns-in-Err-clause-finishes g c =
    let takes = rw c.in-Err.is at c.take_back.ensures.takes in
    not_taken_back _ _ _ c.args.transfer _ _ _ _ c.in-Err.fault takes

pub returns-in-Ok-clause-counts : goal.returns-in-Ok-clause-counts
returns-in-Ok-clause-counts g c = ends_reasons _ _ false c.args.transfer _ _ _ _ _ (returns-in-Ok-clause-finishes g c)

pub returns-in-Err-clause-counts : goal.returns-in-Err-clause-counts
returns-in-Err-clause-counts g c = ends_reasons _ _ false c.args.transfer _ _ _ _ _ (returns-in-Err-clause-finishes g c)
