use Rattle.std.proofs.Common.{length}
use Rattle.ftp_control.proofs.plain.+rest.Given as goal

abbrev pub decreases-rest : goal.decreases-rest
decreases-rest l = length l.bytes.now
