use Rattle.ftp_control.proofs.Strict.{one_form}
use Rattle.ftp_control.proofs.plain.strict_reads_end_alike.Goals as goal

pub returns : goal.returns
returns c = one_form
