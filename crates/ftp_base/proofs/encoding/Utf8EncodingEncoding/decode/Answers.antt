use Rattle.std.proofs.Common.{◌≡◌, ◌∙◌, Result, Ok, Err, IfOk, string_bytes}
use Rattle.std.specs.Str.Lossy.{utf8_lossy}
use Rattle.std.specs.Cow.{cow_str_bytes}
use Rattle.bstr.proofs.lemmas.LossyLemmas.{lossy_chars-utf8_lossy}
use Rattle.ftp_base.proofs.encoding.Utf8EncodingEncoding.decode.Goals as goal

-- what is so of a value is so of the result
if_ok : {T E : Type 0} (P Q : T → Type 0) → ((value : T) → P value → Q value) → (result : Result T E) → IfOk result P → IfOk result Q
if_ok P Q so (Ok value) is = so value is
if_ok P Q so (Err fault) is = tt

pub returns : goal.returns
returns c =
    if_ok (λ text. string_bytes text ≡ cow_str_bytes c.in_ok-to_str_lossy.field-0) (λ text. string_bytes text ≡ utf8_lossy c.args.bytes.now)
    (λ text is. is ∙ c.in_ok-to_str_lossy.ensures.text ∙ lossy_chars-utf8_lossy c.args.bytes.now) c.into_owned.result c.into_owned.ensures.ok
