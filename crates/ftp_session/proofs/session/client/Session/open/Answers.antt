use Rattle.ftp_calls.specs.Exchanges.{call_of}
use Rattle.ftp_session.proofs.Handed.{opens_by, opens_out}
use Rattle.ftp_session.proofs.session.client.Session.open.Goals as goal

pub returns-in-Err-clause-opens : goal.returns-in-Err-clause-opens
returns-in-Err-clause-opens g c = rw c.withheld.ensures (opens_out _ _ (call_of c.args.call) c.args.replies c.args.direction _ _ _ _ _ c.look.ensures.looks c.look.ensures.seen c.requires)

pub returns-in-Ok-clause-opens : goal.returns-in-Ok-clause-opens
returns-in-Ok-clause-opens g c = opens_by _ _ c.owned.result c.in-Ok.call (call_of c.args.call) c.args.replies c.args.direction _ _ _ _ _ _ c.look.new.machine _ _ c.in-Ok.is c.owned.ensures c.look.ensures.looks c.look.ensures.seen c.open_call-opened.ensures.opens
