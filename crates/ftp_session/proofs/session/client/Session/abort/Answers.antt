use Rattle.std.proofs.Common.{true}
use Rattle.ftp_dialogue.proofs.DrainingLemmas.{made_plays}
use Rattle.ftp_session.proofs.Handed.{not_taken_back, taken_back}
use Rattle.ftp_session.proofs.Reasons.{ends_reasons}
use Rattle.ftp_session.proofs.session.client.Session.abort.Goals as goal

pub returns-in-Ok-clause-aborts : goal.returns-in-Ok-clause-aborts
returns-in-Ok-clause-aborts g c =
    let takes = rw c.in-Ok.is at c.take_back.ensures.takes in
    rw (c.ended.ensures, ← c.take_back.ensures.keeps.encoding) (taken_back _ _ _ c.args.transfer _ _ _ _ _ _ takes (made_plays _ _ _ _ _ _ c.call_alone.ensures.made))

pub returns-in-Err-clause-aborts : goal.returns-in-Err-clause-aborts
returns-in-Err-clause-aborts g c =
    let takes = rw c.in-Err.is at c.take_back.ensures.takes in
    not_taken_back _ _ _ c.args.transfer _ _ _ _ c.in-Err.fault takes

pub returns-in-Ok-clause-counts : goal.returns-in-Ok-clause-counts
returns-in-Ok-clause-counts g c = ends_reasons _ _ true c.args.transfer _ _ _ _ _ (returns-in-Ok-clause-aborts g c)

pub returns-in-Err-clause-counts : goal.returns-in-Err-clause-counts
returns-in-Err-clause-counts g c = ends_reasons _ _ true c.args.transfer _ _ _ _ _ (returns-in-Err-clause-aborts g c)
