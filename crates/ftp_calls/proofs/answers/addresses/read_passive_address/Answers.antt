use Rattle.std.proofs.Common.{◌∙◌, ap, inl, inr}
use Rattle.std.specs.Prelude.{Err, ok_or}
use Rattle.std.specs.Option.{option_and_then}
use Rattle.std.specs.Str.{is_utf8}
use Rattle.std.proofs.lemmas.Bool.{cases_Bool}
use Rattle.std.proofs.lemmas.Str.{IsUtf8-from_is_utf8, is_utf8-from_IsUtf8}
use Rattle.ftp_calls.specs.declared.answers.addresses.NoAddress.TheVariants.{Absent, Unreadable}
use Rattle.ftp_calls.specs.Addresses.{passive_numbers, address_of}
use Rattle.ftp_calls.proofs.QuoteFacts.{if_passed, if_failed}
use Rattle.ftp_calls.proofs.answers.addresses.read_passive_address.Goals as goal

pub returns-in-Ok : goal.returns-in-Ok
returns-in-Ok c =
    let body = c.args.body.now in
    let read = c.in-Ok.ensures.cases in
    c.ok_or.ensures.value ∙ ap (λ o. ok_or o Absent) c.first_address.ensures
    ∙ ap (λ text. ok_or (option_and_then address_of (passive_numbers text)) Absent) read.0
    ∙ if_passed (is_utf8 body) (ok_or (option_and_then address_of (passive_numbers body)) Absent) (Err Unreadable) (is_utf8-from_IsUtf8 body read.1)

pub returns-in-Err : goal.returns-in-Err
returns-in-Err c =
    let body = c.args.body.now in
    elim (cases_Bool (is_utf8 body)) [
      | inl is ↦ absurd (c.in-Err.ensures.cases.0 (IsUtf8-from_is_utf8 body is))
      | inr other ↦ if_failed (is_utf8 body) (ok_or (option_and_then address_of (passive_numbers body)) Absent) (Err Unreadable) other
    ]
