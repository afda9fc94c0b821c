-- The wire line of a command: RFC 959, section 4.1.3, and RFC 854 for byte 255.
use Rattle.std.specs.Prelude.{ℕ, List, Result, Ok, Err, Option, Some, None}
use Rattle.std.specs.declared.io.ErrorKind.{ErrorKind}
use Rattle.ftp_base.specs.declared.types.fault.ConnectionError.{ConnectionError}
use Rattle.ftp_base.specs.declared.types.fault.ConnectionError.TheVariants.{Encoding}
use Rattle.ftp_base.specs.Line.{text_fault, encoded_fault}
use Rattle.ftp_base.specs.Telnet.{escaped}

-- a line, or the error that keeps it back
abbrev pub unless : Option ConnectionError → Result (List ℕ) ConnectionError → Result (List ℕ) ConnectionError
unless None line = line
unless (Some fault) line = Err fault

-- the encoded bytes with each byte 255 doubled, unless they are no line or the encoding refused
abbrev pub line_of : Result (List ℕ) ErrorKind → Result (List ℕ) ConnectionError
line_of (Err kind) = Err (Encoding kind)
line_of (Ok bytes) = unless (encoded_fault bytes) (Ok (escaped bytes))

-- the line that goes out for a command's text under an encoding, or the first error that keeps it back
abbrev pub wire : (List ℕ → Result (List ℕ) ErrorKind) → List ℕ → Result (List ℕ) ConnectionError
wire encode text = unless (text_fault text) (line_of (encode text))
