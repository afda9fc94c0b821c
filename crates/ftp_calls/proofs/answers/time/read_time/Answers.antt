use Rattle.std.proofs.Common.{◌∙◌, ap, inl, inr}
use Rattle.std.specs.Prelude.{None}
use Rattle.std.specs.Option.{option_and_then}
use Rattle.std.specs.Str.{is_utf8}
use Rattle.std.proofs.lemmas.Bool.{cases_Bool}
use Rattle.std.proofs.lemmas.Str.{IsUtf8-from_is_utf8, is_utf8-from_IsUtf8}
use Rattle.ftp_calls.specs.Times.{timestamp, time_in}
use Rattle.ftp_calls.proofs.QuoteFacts.{if_passed, if_failed}
use Rattle.ftp_calls.proofs.answers.time.read_time.Goals as goal

pub returns-in-Ok : goal.returns-in-Ok
returns-in-Ok c =
    let body = c.args.body.now in
    let read = c.in-Ok.ensures.cases in
    c.first_time.ensures ∙ ap (λ text. option_and_then time_in (timestamp text)) read.0
    ∙ if_passed (is_utf8 body) (option_and_then time_in (timestamp body)) None (is_utf8-from_IsUtf8 body read.1)

pub returns-in-Err : goal.returns-in-Err
returns-in-Err c =
    let body = c.args.body.now in
    elim (cases_Bool (is_utf8 body)) [
      | inl is ↦ absurd (c.in-Err.ensures.cases.0 (IsUtf8-from_is_utf8 body is))
      | inr other ↦ if_failed (is_utf8 body) (option_and_then time_in (timestamp body)) None other
    ]
