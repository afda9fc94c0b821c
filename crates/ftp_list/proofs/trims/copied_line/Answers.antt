use Rattle.std.proofs.Common.{◌≡◌, length, take, arith, sym, ◌∙◌}
use Rattle.std.specs.Str.{IsAscii}
use Rattle.std.proofs.lemmas.List.{take_all}
use Rattle.std.proofs.lemmas.Str.{chars-IsAscii}
use Rattle.ftp_list.proofs.trims.copied_line.Goals as goal

pub returns-clause-copied : goal.returns-clause-copied
returns-clause-copied c =
    let bytes = c.as_bytes-bytes.result.now in
    let whole : length bytes ≡ c.loop-i.i = omega arith in
    let copied : take (length bytes) c.loop-i.room ≡ take (length bytes) bytes = rw (whole) c.loop-i.invariant.1 in
    let ascii : IsAscii c.args.line.now = c.if-not-is_ascii.ensures.cases in
    copied ∙ take_all (length bytes) bytes (omega arith) ∙ c.as_bytes-bytes.ensures.value ∙ sym (chars-IsAscii c.args.line.now ascii)
