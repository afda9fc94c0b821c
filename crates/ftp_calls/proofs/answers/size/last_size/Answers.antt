use Rattle.std.proofs.Common.{◌∙◌, sym, ap, subst, arith, length}
use Rattle.std.specs.Str.{IsUtf8}
use Rattle.ftp_calls.proofs.SizeFacts.{size_absent, size_is}
use Rattle.ftp_calls.proofs.answers.size.last_size.Goals as goal

pub returns-in_err-span : goal.returns-in_err-span
returns-in_err-span c =
    c.from_residual.ensures ∙ size_absent c.args.text.now (subst IsUtf8 c.trim_end-trimmed.ensures.trim c.trim_end-trimmed.utf8) c.in_err-span.ensures

pub returns-in_err-size : goal.returns-in_err-size
returns-in_err-size c =
    let size = c.in_ok-span.ensures in
    let trimmed = c.trim_end-trimmed.ensures.trim in
    c.from_residual-in_err-size.ensures ∙ sym c.in_err-size.was
    ∙ c.number.ensures.within (omega (arith, size.some)) (omega (arith, size.ends, ap length trimmed))
    ∙ size_is c.args.text.now c.trim_end-trimmed.result.now c.in_ok-span.span trimmed c.trim_end-trimmed.utf8 size

pub returns : goal.returns
returns c =
    let size = c.in_ok-span.ensures in
    let trimmed = c.trim_end-trimmed.ensures.trim in
    sym c.in_ok-size.was ∙ c.number.ensures.within (omega (arith, size.some)) (omega (arith, size.ends, ap length trimmed))
    ∙ size_is c.args.text.now c.trim_end-trimmed.result.now c.in_ok-span.span trimmed c.trim_end-trimmed.utf8 size
