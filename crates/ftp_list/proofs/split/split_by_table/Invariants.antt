use Rattle.ftp_list.specs.Rows.{IsOnlyFront}
use Rattle.ftp_list.proofs.split.split_by_table.Given as goal

abbrev pub invariant-loop-i : goal.invariant-loop-i
invariant-loop-i l = IsOnlyFront l.shapes l.text l.i l.lengths.items l.left
