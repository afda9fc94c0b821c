use Rattle.std.proofs.Common.{◌∙◌, ap, inl, inr}
use Rattle.std.specs.Prelude.{None}
use Rattle.std.specs.Str.{is_utf8, chars, trim_end}
use Rattle.std.proofs.lemmas.Bool.{cases_Bool}
use Rattle.std.proofs.lemmas.Str.{IsUtf8-from_is_utf8, is_utf8-from_IsUtf8}
use Rattle.ftp_calls.specs.Answers.{last_number}
use Rattle.ftp_calls.proofs.QuoteFacts.{if_passed, if_failed}
use Rattle.ftp_calls.proofs.answers.size.read_size.Goals as goal

pub returns-in-Ok : goal.returns-in-Ok
returns-in-Ok c =
    let body = c.args.body.now in
    let read = c.in-Ok.ensures.cases in
    c.last_size.ensures ∙ ap (λ text. last_number (chars (trim_end text))) read.0
    ∙ if_passed (is_utf8 body) (last_number (chars (trim_end body))) None (is_utf8-from_IsUtf8 body read.1)

pub returns-in-Err : goal.returns-in-Err
returns-in-Err c =
    let body = c.args.body.now in
    elim (cases_Bool (is_utf8 body)) [
      | inl is ↦ absurd (c.in-Err.ensures.cases.0 (IsUtf8-from_is_utf8 body is))
      | inr other ↦ if_failed (is_utf8 body) (last_number (chars (trim_end body))) None other
    ]
