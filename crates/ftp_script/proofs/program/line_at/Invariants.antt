use Rattle.std.proofs.Common.{◌≡◌, ◌≤◌, ◌-◌, drop}
use Rattle.ftp_script.specs.Script.{lines_of}
use Rattle.ftp_script.proofs.program.line_at.Given as goal

abbrev pub invariant-loop : goal.invariant-loop
invariant-loop l = record {
  read : lines_of l.rest ≡ drop (l.counter - 1) (lines_of l.text);
  bound : l.counter - 1 ≤ l.number - 1;
}
