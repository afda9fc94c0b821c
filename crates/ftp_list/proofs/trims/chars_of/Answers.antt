use Rattle.std.proofs.Common.{arith, sym, ◌∙◌}
use Rattle.std.specs.Str.{IsAscii}
use Rattle.std.proofs.lemmas.List.{take_all}
use Rattle.std.proofs.lemmas.Str.{chars-IsAscii}
use Rattle.ftp_list.proofs.trims.chars_of.Goals as goal

pub returns : goal.returns
returns c =
    let ascii : IsAscii c.args.line.now = c.if-not-is_ascii.ensures.cases in
    c.loop-byte.invariant
    ∙ take_all c.loop-byte.byte-index c.as_bytes-byte-items.result.now (omega arith)
    ∙ c.as_bytes-byte-items.ensures.value ∙ sym (chars-IsAscii c.args.line.now ascii)
