use Rattle.ftp_base.specs.Scan.{AreDigits}
use Rattle.ftp_base.proofs.command.scan.number_at.Given as goal

abbrev pub invariant-loop-end : goal.invariant-loop-end
invariant-loop-end l = AreDigits l.bytes l.from l.end
