use Rattle.std.proofs.Common.{true}
use Rattle.std.specs.Prelude.{Ok}
use Rattle.ftp_dialogue.proofs.CatchingUpLemmas.{plays_in_step}
use Rattle.ftp_session.proofs.Handed.{begins_left, drain_answer_is, settles_by}
use Rattle.ftp_session.proofs.Reasons.{settles_count}
use Rattle.ftp_session.proofs.session.client.Session.settle.Goals as goal

pub settle-requires : goal.settle-requires
settle-requires g c = record { left = begins_left c.args.left.now c.args.self.now.machine c.begin_settle.new.session.machine (rw (c.in-Ok.is, c.if-not-owed.false) at c.begin_settle.ensures.begins) }

pub returns-clause-settles : goal.returns-clause-settles
returns-clause-settles g c =
    let begins = rw (c.in-Ok.is, c.if-not-owed.false) at c.begin_settle.ensures.begins in
    let made = rw c.begin_settle.ensures.keeps.encoding at c.settle.ensures.made in
    rw (drain_answer_is c.settle.result) (settles_by _ _ c.args.left.now c.args.self.now.machine c.begin_settle.new.session.machine _ _ (Ok true) begins (plays_in_step _ _ _ _ _ _ made))

pub returns-clause-counts : goal.returns-clause-counts
returns-clause-counts g c = settles_count _ _ c.args.left.now _ _ _ (returns-clause-settles g c)
