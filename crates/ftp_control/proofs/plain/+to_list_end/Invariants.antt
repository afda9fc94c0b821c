use Rattle.std.proofs.Common.{length}
use Rattle.ftp_control.proofs.plain.+to_list_end.Given as goal

abbrev pub decreases-to_list_end : goal.decreases-to_list_end
decreases-to_list_end l = length l.lines.now
