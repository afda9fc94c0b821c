use Rattle.ftp_base.specs.Scan.{IsPassive, StandsNotBefore}
use Rattle.ftp_base.proofs.command.scan.pasv_port.Given as goal

abbrev pub invariant-loop-place : goal.invariant-loop-place
invariant-loop-place l = StandsNotBefore (IsPassive l.bytes) l.place
