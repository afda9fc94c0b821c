use Rattle.ftp_list.specs.Rows.{AreStartsSoFar}
use Rattle.ftp_list.proofs.split.starts_of.Given as goal

abbrev pub invariant-loop-i : goal.invariant-loop-i
invariant-loop-i l = AreStartsSoFar l.starts l.lengths l.text l.i l.start
