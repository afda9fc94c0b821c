use Rattle.std.proofs.Common.{◌≡◌, ◌+◌, ◌-◌, refl, sym, ◌∙◌, arith}
use Rattle.ftp_base.proofs.command.scan.timestamp_at.Goals as goal
use Rattle.ftp_base.proofs.command.scan.timestamp_at.Goals.{else-place-gt0-via-then-place-gt0+else-is_word_at, else-place-gt0-via-else-place-gt0}

pub returns : goal.returns
returns c =
    let end : c.number_at-run.result.end ≡ c.args.place + 14 = omega (arith, c.if-run-place-ne14.false, c.number_at-run.ensures.ordered) in
    record {
      digits = rw end at c.number_at-run.ensures.digits;
      before = λ last next. elim c.else-place-gt0.branch [
        | else-place-gt0-via-then-place-gt0+else-is_word_at w ↦ (let at : c.args.place - 1 ≡ last = omega (arith, next) in rw at at (sym w.is_word_at.ensures ∙ w.if-is_word_at.false))
        | else-place-gt0-via-else-place-gt0 w ↦ absurd (omega (arith, w.if-place-gt0.false, next))
      ];
      after = rw end at (sym c.is_word_at-else-run-place-ne14.ensures ∙ c.if-is_word_at-2.false);
      parts = refl;
    }
