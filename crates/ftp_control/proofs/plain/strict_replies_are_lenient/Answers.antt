use Rattle.ftp_control.proofs.Strict.{strict_as_lenient}
use Rattle.ftp_control.proofs.plain.strict_replies_are_lenient.Goals as goal

pub returns : goal.returns
returns c = strict_as_lenient
