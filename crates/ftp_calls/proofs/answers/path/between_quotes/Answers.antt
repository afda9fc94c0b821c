use Rattle.std.proofs.Common.{◌∙◌, ap, arith}
use Rattle.std.specs.Prelude.{Some, None}
use Rattle.std.specs.Option.{option_copied}
use Rattle.std.proofs.Math.Nat.{sub-zero}
use Rattle.std.proofs.lemmas.Str.Pattern.{split_once_first, rfind_char}
use Rattle.ftp_calls.proofs.QuoteFacts.{not_quoted, is_quoted}
use Rattle.ftp_calls.proofs.answers.path.between_quotes.Goals as goal

pub returns-in_err-last : goal.returns-in_err-last
returns-in_err-last c =
    let first = rw c.in_ok-opened.was at (split_once_first 34 c.args.text.now c.split_once.result c.split_once.ensures.cases (omega arith)) in
    let last = rfind_char 34 c.in_ok-opened.opened.now None c.in_err-last.ensures.cases (omega arith) in
    ap option_copied c.from_residual-in_err-last.ensures ∙ not_quoted c.args.text.now c.in_ok-opened.opened.now first.2 last

pub returns : goal.returns
returns c =
    let first = rw c.in_ok-opened.was at (split_once_first 34 c.args.text.now c.split_once.result c.split_once.ensures.cases (omega arith)) in
    let last = rfind_char 34 c.in_ok-opened.opened.now (Some c.in_ok-last.last) c.in_ok-last.ensures.cases (omega arith) in
    ap Some (simp sub-zero at c.range.ensures.value) ∙ is_quoted c.args.text.now c.in_ok-opened.opened.now c.in_ok-last.last first.2 last.0 last.1 last.2
