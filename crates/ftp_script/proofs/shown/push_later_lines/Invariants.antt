use Rattle.std.proofs.Common.{◌≡◌, ◌++◌, map, string_bytes, take}
use Rattle.std.specs.List.{flat_map}
use Rattle.ftp_script.specs.Shown.{later_line}
use Rattle.ftp_script.proofs.shown.push_later_lines.Given as goal

abbrev pub invariant-loop-line : goal.invariant-loop-line
invariant-loop-line l = l.text.items ≡ l.fn.text.items ++ flat_map later_line (map string_bytes (take l.line-index l.lines))
