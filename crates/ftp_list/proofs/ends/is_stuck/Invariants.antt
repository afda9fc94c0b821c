use Rattle.ftp_list.specs.Rows.{IsReach}
use Rattle.ftp_list.proofs.ends.is_stuck.Given as goal

abbrev pub invariant-loop-shape : goal.invariant-loop-shape
invariant-loop-shape l = IsReach l.shapes l.text l.shape-index l.first l.last
