-- The line of a command: RFC 959, section 4.1.3.
use Rattle.std.specs.Prelude.{ℕ, Bool, List, [], ◌∷◌, ◌||◌, ◌==◌, ◌-◌, nat_eq, Option, Some, None, if◌then◌else◌, length, take}
use Rattle.std.specs.List.{list_any, ends_with}
use Rattle.ftp_base.specs.declared.types.fault.ConnectionError.{ConnectionError}
use Rattle.ftp_base.specs.declared.types.fault.ConnectionError.TheVariants.{LineBreak, EncodedWithoutCrlf, EncodedLineBreak}

-- the end of a line: CR LF
abbrev pub line_end : List ℕ
line_end = 13 ∷ 10 ∷ []

-- CR or LF stands in the bytes
abbrev pub has_line_break : List ℕ → Bool
has_line_break bytes = list_any (λ b. (b == 13) || (b == 10)) bytes

abbrev pub ends_in_crlf : List ℕ → Bool
ends_in_crlf bytes = ends_with nat_eq bytes line_end

-- the bytes before the final CR LF, or all of them where they don't end so
abbrev pub before_crlf : List ℕ → List ℕ
before_crlf bytes = if ends_in_crlf bytes then take (length bytes - 2) bytes else bytes

-- what is wrong with the text of a command: a line break before its final CR LF
abbrev pub text_fault : List ℕ → Option ConnectionError
text_fault text = if has_line_break (before_crlf text) then Some LineBreak else None

-- what is wrong with its encoded bytes: no CR LF at the end, or a line break before it
abbrev pub encoded_fault : List ℕ → Option ConnectionError
encoded_fault bytes =
    if ends_in_crlf bytes
    then (if has_line_break (before_crlf bytes) then Some EncodedLineBreak else None)
    else Some EncodedWithoutCrlf
