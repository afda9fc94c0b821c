use Rattle.ftp_base.specs.Scan.{IsTimestamp, StandsNotBefore}
use Rattle.ftp_base.proofs.command.scan.mdtm.Given as goal

abbrev pub invariant-loop-place : goal.invariant-loop-place
invariant-loop-place l = StandsNotBefore (IsTimestamp l.bytes) l.place
