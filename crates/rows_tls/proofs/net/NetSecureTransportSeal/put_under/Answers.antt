use Rattle.rows_tls.proofs.AnyOutcome.{secures_any}
use Rattle.rows_tls.proofs.net.NetSecureTransportSeal.put_under.Goals as goal

pub returns-clause-secures : goal.returns-clause-secures
returns-clause-secures c = secures_any _
