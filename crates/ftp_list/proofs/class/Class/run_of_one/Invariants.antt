use Rattle.std.proofs.Common.{◌≡◌, ◌+◌, drop}
use Rattle.std.specs.List.{prefix_len}
use Rattle.ftp_list.specs.Shapes.{is_in}
use Rattle.ftp_list.proofs.class.Class.run_of_one.Given as goal

abbrev pub invariant-loop-i : goal.invariant-loop-i
invariant-loop-i l = prefix_len (is_in l.self) l.text ≡ l.i + prefix_len (is_in l.self) (drop l.i l.text)
