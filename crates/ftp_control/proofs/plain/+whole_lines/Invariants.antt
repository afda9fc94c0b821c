use Rattle.std.proofs.Common.{length}
use Rattle.ftp_control.proofs.plain.+whole_lines.Given as goal

abbrev pub decreases-whole_lines : goal.decreases-whole_lines
decreases-whole_lines l = length l.bytes.now
