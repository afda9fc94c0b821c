use Rattle.std.proofs.Common.{length}
use Rattle.std.proofs.Common.{◌≡◌}
use Rattle.ftp_list.specs.Rows.{IsTable}
use Rattle.ftp_list.proofs.rows.table.Given as goal

abbrev pub invariant-loop-k : goal.invariant-loop-k
invariant-loop-k l = (length l.rows.items ≡ l.k) × IsTable l.rows.items l.shapes l.text
