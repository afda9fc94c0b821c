use Rattle.ftp_calls.specs.Exchanges.{call_of}
use Rattle.ftp_session.proofs.Handed.{opens_plain}
use Rattle.ftp_session.proofs.Reasons.{opened_reasons}
use Rattle.ftp_session.proofs.session.client.Session.open_silent.Goals as goal

pub returns-clause-opens : goal.returns-clause-opens
returns-clause-opens g c = rw c.without_reply.ensures (opens_plain _ _ _ _ _ _ _ _ _ _ _ c.open.ensures.opens)

pub returns-clause-counts : goal.returns-clause-counts
returns-clause-counts g c = opened_reasons _ _ (call_of c.args.call) c.requires.gives _ _ _ _ _ _ _ _ (returns-clause-opens g c)
