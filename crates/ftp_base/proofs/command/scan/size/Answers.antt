use Rattle.std.proofs.Common.{◌≡◌, ◌∙◌, true, false, sym, ap, take, length, arith}
use Rattle.std.proofs.Math.Nat.{sub-zero}
use Rattle.std.specs.Str.{trim_end}
use Rattle.ftp_base.proofs.SizeLemmas.{size_start}
use Rattle.ftp_base.proofs.command.scan.size.Goals as goal
use Rattle.ftp_base.proofs.command.scan.size.Goals.{else-start-trimmed-via-then-start-trimmed+else-ends_in_space, else-start-trimmed-via-else-start-trimmed}

pub returns-else-start-trimmed : goal.returns-else-start-trimmed
returns-else-start-trimmed c span trailing =
    let bytes : c.as_bytes.result.now ≡ trim_end c.args.text.now = c.as_bytes.ensures.value ∙ c.trim_end-trimmed.ensures.trim in
    let run = rw bytes at c.digits_start-start.ensures in
    let start : span.start ≡ c.digits_start-start.result = size_start c.args.text.now span c.digits_start-start.result trailing run.bound run.digits run.stops in
    elim c.else-start-trimmed.branch [
      | else-start-trimmed-via-then-start-trimmed+else-ends_in_space w ↦
          (let front : take span.start (trim_end c.args.text.now) ≡ w.range.result.now = rw (start, ← c.trim_end-trimmed.ensures.trim) (sym (simp sub-zero at w.range.ensures.value)) in
          let yes : w.ends_in_space.result ≡ true = w.ends_in_space.ensures.1 (rw front at trailing.space) in
          let both : true ≡ false = sym yes ∙ w.if-ends_in_space.false in cc both)
      | else-start-trimmed-via-else-start-trimmed w ↦ omega (arith, w.if-start-trimmed.false, start, trailing.some, trailing.ends, ap length c.trim_end-trimmed.ensures.trim)
    ]
