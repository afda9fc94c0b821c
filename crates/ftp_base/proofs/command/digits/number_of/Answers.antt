use Rattle.std.proofs.Common.{◌≡◌, ◌<◌, ◌*◌, ◌+◌, ◌-◌, arith, sym, ◌∙◌, get_or}
use Rattle.ftp_base.proofs.NumberLemmas.{above_turn}
use Rattle.ftp_base.proofs.command.digits.number_of.Goals as goal

pub returns-in_err-tens : goal.returns-in_err-tens
returns-in_err-tens c =
    let large = c.in_err-tens.ensures in
    let above : c.args.most < c.loop-digit.value * 10 + (get_or c.args.digits.now c.loop-digit.digit-index 0 - 48) = omega (arith, large, c.ranges.most.fits) in
    c.from_residual.ensures ∙ sym (above_turn _ _ _ _ c.loop-digit-test.true c.loop-digit.invariant.value above)

pub returns-in_err-value : goal.returns-in_err-value
returns-in_err-value c =
    let large = c.in_err-value.ensures in
    let tens = c.in_ok-tens.ensures.1 in
    let unit : c.from.result ≡ get_or c.args.digits.now c.loop-digit.digit-index 0 - 48 = c.from.ensures in
    let above : c.args.most < c.loop-digit.value * 10 + (get_or c.args.digits.now c.loop-digit.digit-index 0 - 48) = omega (arith, large, tens, unit, c.ranges.most.fits) in
    c.from_residual-in_err-value.ensures ∙ sym (above_turn _ _ _ _ c.loop-digit-test.true c.loop-digit.invariant.value above)

pub returns-then-value-most : goal.returns-then-value-most
returns-then-value-most c =
    let tens = c.in_ok-tens.ensures.1 in
    let sum = c.in_ok-value.ensures.1 in
    let unit : c.from.result ≡ get_or c.args.digits.now c.loop-digit.digit-index 0 - 48 = c.from.ensures in
    let above : c.args.most < c.loop-digit.value * 10 + (get_or c.args.digits.now c.loop-digit.digit-index 0 - 48) = omega (arith, c.if-value-most.true, sum, tens, unit) in
    sym (above_turn _ _ _ _ c.loop-digit-test.true c.loop-digit.invariant.value above)
