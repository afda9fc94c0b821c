use Rattle.std.proofs.Common.{◌≤◌, length}
use Rattle.ftp_base.specs.Scan.{AreDigits}
use Rattle.ftp_base.proofs.command.scan.digits_start.Given as goal

abbrev pub invariant-loop-start : goal.invariant-loop-start
invariant-loop-start l = record {
  bound : l.start ≤ length l.bytes;
  digits : AreDigits l.bytes l.start (length l.bytes);
}

abbrev pub decreases-loop-start : goal.decreases-loop-start
decreases-loop-start l = l.start
