use Rattle.std.specs.Prelude.{◌≡◌, ◌++◌, length, map, string_bytes}
use Rattle.std.specs.Str.Lossy.{utf8_lossy}
use Rattle.ftp_calls.specs.Answers.{lines_in}
use Rattle.ftp_calls.proofs.answers.lines.lines_of.Given as goal

abbrev pub invariant-loop-rest : goal.invariant-loop-rest
invariant-loop-rest l =
    map string_bytes l.lines.items ++ map utf8_lossy (lines_in l.rest) ≡ map utf8_lossy (lines_in l.fn.body)

abbrev pub decreases-loop-rest : goal.decreases-loop-rest
decreases-loop-rest l = length l.rest
