use Rattle.std.proofs.Common.{◌≡◌, length, ◌-◌, sym, arith}
use Rattle.ftp_base.proofs.AsciiLemmas.{last_return-at}
use Rattle.ftp_base.proofs.ascii.is_return_last.Goals as goal

pub returns-else-count-eq0 : goal.returns-else-count-eq0
returns-else-count-eq0 c =
    let bytes = c.args.bytes.now in
    let some : length bytes ≡ 0 → ⊥ = c.if-count-eq0.false in
    sym (last_return-at c.args.after_return bytes (length bytes - 1) (omega (arith, some)))
