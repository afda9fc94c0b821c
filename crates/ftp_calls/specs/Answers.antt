-- What the texts of replies say: RFC 959, section 4.2 and appendix II (257), RFC 3659, sections 4 (SIZE) and 7 (MLST),
-- RFC 2389, section 3.2 (FEAT). Each definition is a function of the reply's whole body.
use Rattle.std.specs.Prelude.{ℕ, ◌-◌, ◌^◌, Bool, ◌==◌, if◌then◌else◌, List, [], ◌∷◌, length, take, map, slice_index, Option, Some, None}
use Rattle.std.specs.List.{list_any, before_first, after_first, before_last, after_last, onto_first}
use Rattle.std.specs.Char.{is_whitespace}
use Rattle.std.specs.Str.{is_utf8, chars, trim, trim_end}
use Rattle.std.specs.Str.Lossy.{utf8_lossy}
use Rattle.ftp_base.specs.Features.{Entries, features_of}
use Rattle.ftp_base.specs.Scan.{number_up_to}
use Rattle.ftp_base.specs.Telnet.{unescaped}

abbrev pub is_quote : ℕ → Bool
is_quote byte = byte == 34

-- what stands between the first quote and the last, where there are two or more
abbrev pub quoted : List ℕ → Option (List ℕ)
quoted text =
    if list_any is_quote (after_first is_quote text) then Some (before_last is_quote (after_first is_quote text)) else None

-- the path of a reply to PWD: pairs of byte 255 are made one, the bytes are decoded, and quotes within the path stay
-- doubled
abbrev pub path_of : (List ℕ → List ℕ) → List ℕ → Option (List ℕ)
path_of decode body = quoted (decode (unescaped body))

abbrev pub is_line_feed : ℕ → Bool
is_line_feed byte = byte == 10

-- the piece between the first LF and the next, or the end; nothing where there is no LF
abbrev pub second_piece : List ℕ → List ℕ
second_piece text = before_first is_line_feed (after_first is_line_feed text)

-- a line without the CR that ends it
abbrev pub without_return : List ℕ → List ℕ
without_return line = if slice_index line (length line - 1) == 13 then take (length line - 1) line else line

-- a line, white space cut at both ends, unless it is empty before the cut
abbrev pub trimmed_line : List ℕ → Option (List ℕ)
trimmed_line line = if length line == 0 then None else Some (trim line)

-- the second line of a reply to MLST: pairs of byte 255 are made one, and the bytes are decoded
abbrev pub second_line_of : (List ℕ → List ℕ) → List ℕ → Option (List ℕ)
second_line_of decode body = trimmed_line (without_return (second_piece (decode (unescaped body))))

-- the number that the characters after the last white space write, where there is white space: digits alone, below
-- 2^64
abbrev pub last_number : List ℕ → Option ℕ
last_number characters =
    if list_any is_whitespace characters then number_up_to (2 ^ 64 - 1) (after_last is_whitespace characters) else None

-- the size in a reply to SIZE, which is UTF-8, white space cut at its end
abbrev pub size_of : List ℕ → Option ℕ
size_of body = if is_utf8 body then last_number (chars (trim_end body)) else None

-- the lines of bytes, each up to and with its LF; what follows the last LF is a line too, unless it is empty
abbrev pub lines_in : List ℕ → List (List ℕ)
lines_in [] = []
lines_in (byte ∷ bytes) = if is_line_feed byte then (byte ∷ []) ∷ lines_in bytes else onto_first byte (lines_in bytes)

-- the features of a reply to FEAT, each line of it read lossily as UTF-8 by itself
abbrev pub features_in : List ℕ → Option Entries
features_in body = features_of (map utf8_lossy (lines_in body))
