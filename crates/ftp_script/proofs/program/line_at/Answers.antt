use Rattle.std.proofs.Common.{◌≡◌, ◌-◌, ◌+◌, ◌<◌, drop, sym, ap, ◌∙◌, arith}
use Rattle.ftp_script.specs.Program.{first_line}
use Rattle.ftp_script.specs.Script.{lines_of}
use Rattle.ftp_script.proofs.Numbering.{later_lines, none_later}
use Rattle.ftp_script.proofs.program.line_at.Goals as goal

pub returns-in-None : goal.returns-in-None
returns-in-None c =
    let before : c.loop.counter - 1 < c.args.number - 1 = omega (arith, c.loop-test.true, c.loop.auto.counter) in
    sym (ap first_line (none_later (c.loop.counter - 1) (c.args.number - 1) (lines_of c.args.text.now) _ before (sym c.loop.invariant.read ∙ c.in-None.ensures.parts)))

pub loop-preserved : goal.loop-preserved
loop-preserved c =
    let same : c.loop.counter - 1 + 1 ≡ c.loop.counter + 1 - 1 = omega (arith, c.loop.auto.counter) in
    record {
      read =
          sym (later_lines (c.loop.counter - 1) (lines_of c.args.text.now) _ _ (sym c.loop.invariant.read ∙ c.in-Some.ensures.parts))
          ∙ ap (λ i. drop i (lines_of c.args.text.now)) same;
      bound = omega (arith, c.loop-test.true, c.loop.auto.counter);
    }

pub returns-in-Some-cut : goal.returns-in-Some-cut
returns-in-Some-cut c =
    let last : c.args.number - 1 ≡ c.loop.counter - 1 = omega (arith, c.loop-test.false, c.loop.invariant.bound) in
    sym (ap first_line (ap (λ i. drop i (lines_of c.args.text.now)) last ∙ sym c.loop.invariant.read ∙ c.in-Some-cut.ensures.parts))

pub returns-in-None-cut : goal.returns-in-None-cut
returns-in-None-cut c =
    let last : c.args.number - 1 ≡ c.loop.counter - 1 = omega (arith, c.loop-test.false, c.loop.invariant.bound) in
    sym (ap first_line (ap (λ i. drop i (lines_of c.args.text.now)) last ∙ sym c.loop.invariant.read ∙ c.in-None-cut.ensures.parts))
