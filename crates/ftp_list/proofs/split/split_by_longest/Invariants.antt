use Rattle.ftp_list.specs.Rows.{IsFront}
use Rattle.ftp_list.proofs.split.split_by_longest.Given as goal

abbrev pub invariant-loop-shape : goal.invariant-loop-shape
invariant-loop-shape l = IsFront l.shapes l.text l.shape-index l.lengths.items l.left
