use Rattle.std.proofs.Common.{rules}
use Rattle.ftp_secure.proofs.secured.Secured.resume.Goals as goal

pub returns-in-Ready-Ok-clause-ends : goal.returns-in-Ready-Ok-clause-ends
returns-in-Ready-Ok-clause-ends g c = search rules
