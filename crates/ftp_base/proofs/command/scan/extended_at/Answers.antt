use Rattle.std.proofs.Common.{◌≡◌, ◌+◌, slice_index, codes, Bool, true, false, ◌∙◌, sym, arith}
use Rattle.ftp_base.specs.Scan.{StandsAt}
use Rattle.ftp_base.proofs.ScanLemmas.{number_end, StandsAt-first}
use Rattle.ftp_base.proofs.command.scan.extended_at.Goals as goal
use Rattle.ftp_base.proofs.command.scan.extended_at.Goals.{else-span-via-then-span+else-stands_at, else-span-via-else-span}

-- a test has one outcome
true_not_false : (t : Bool) → t ≡ true → t ≡ false → ⊥
true_not_false t is not = let both : true ≡ false = sym is ∙ not in cc both

pub returns-else-span : goal.returns-else-span
returns-else-span c span extended =
    let run = c.number_at-span.ensures in
    let bar : slice_index c.args.bytes.now span.end ≡ 124 = (StandsAt-first 124 (codes ")") c.args.bytes.now span.end extended.closes).1 in
    let end : span.end ≡ c.number_at-span.result.end = number_end c.args.bytes.now (c.args.place + 4) c.number_at-span.result.end 124 span run.ordered run.digits run.stops extended.number bar (λ digit. omega (arith, digit.1)) in
    elim c.else-span.branch [
      | else-span-via-then-span+else-stands_at w ↦
          (let closed : StandsAt (codes "|)") c.args.bytes.now c.number_at-span.result.end = rw end at extended.closes in
          true_not_false _ (w.stands_at-then-span.ensures.stands.1 closed) w.if-stands_at.false)
      | else-span-via-else-span w ↦ omega (arith, end, w.if-span.false, run.begins, extended.number.begins, extended.number.some)
    ]
