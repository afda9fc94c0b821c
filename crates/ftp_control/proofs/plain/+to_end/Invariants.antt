use Rattle.std.proofs.Common.{length}
use Rattle.ftp_control.proofs.plain.+to_end.Given as goal

abbrev pub decreases-to_end : goal.decreases-to_end
decreases-to_end l = length l.lines.now
