-- Text encodings on the control connection.
use Rattle.std.specs.Prelude.{◌≡◌, ℕ, List, Option, Some, None, Result, Err, codes}
use Rattle.std.specs.declared.io.ErrorKind.{ErrorKind}
use Rattle.ftp_base.specs.declared.encoding.EncodeError.{EncodeError}
use Rattle.ftp_base.specs.declared.encoding.EncodeError.TheVariants.{Refused, OutOfMemory}

-- a refusal is the encoding's own; a failed allocation says nothing of the text
abbrev pub IsRefusal : Result (List ℕ) ErrorKind → EncodeError → Type 0
IsRefusal encoded (Refused kind) = encoded ≡ Err kind
IsRefusal encoded OutOfMemory = Unit {0}

-- the text of an error, but for a refusal, which ends in the text of its kind, the standard library's
abbrev pub encode_error_text : EncodeError → Option (List ℕ)
encode_error_text (Refused kind) = None
encode_error_text OutOfMemory = Some (codes "out of memory")
