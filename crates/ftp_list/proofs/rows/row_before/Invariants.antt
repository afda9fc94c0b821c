use Rattle.ftp_list.specs.Rows.{IsRowSoFar}
use Rattle.ftp_list.proofs.rows.row_before.Given as goal

abbrev pub invariant-loop-j : goal.invariant-loop-j
invariant-loop-j l = IsRowSoFar l.next l.shape l.text l.row.items l.j l.shorter
