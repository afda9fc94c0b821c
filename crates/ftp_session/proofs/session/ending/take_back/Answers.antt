use Rattle.ftp_session.proofs.Handed.{takes_out}
use Rattle.ftp_session.proofs.session.ending.take_back.Goals as goal

pub returns-in-Ok-clause-takes : goal.returns-in-Ok-clause-takes
returns-in-Ok-clause-takes g c = rw c.in-Ok.ensures.given_up (takes_out c.args.transfer _ _ _ c.number.result c.is_out.result c.number.ensures c.is_out.ensures c.if-not-is_out.false c.in-Ok.ensures.taken)
