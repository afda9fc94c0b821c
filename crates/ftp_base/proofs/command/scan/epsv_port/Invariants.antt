use Rattle.ftp_base.specs.Scan.{IsExtended, StandsNotBefore}
use Rattle.ftp_base.proofs.command.scan.epsv_port.Given as goal

abbrev pub invariant-loop-place : goal.invariant-loop-place
invariant-loop-place l = StandsNotBefore (IsExtended l.bytes) l.place
