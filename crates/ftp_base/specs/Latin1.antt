-- Texts of ISO 8859-1, in which each of the characters U+0000 to U+00FF is the byte of its number.
use Rattle.std.specs.Prelude.{ℕ, Bool, if◌then◌else◌, nat_le, List, Result, Ok, Err, encode_utf8_all}
use Rattle.std.specs.List.{list_all}
use Rattle.std.specs.Str.{chars}
use Rattle.std.specs.declared.io.ErrorKind.{ErrorKind}
use Rattle.std.specs.declared.io.ErrorKind.TheVariants.{InvalidInput}

-- the character has a byte
abbrev pub is_latin1 : ℕ → Bool
is_latin1 c = nat_le c 255

-- the text of bytes: the characters of these numbers, in UTF-8
abbrev pub latin1_text : List ℕ → List ℕ
latin1_text bytes = encode_utf8_all bytes

-- the bytes of characters: their numbers, where each has a byte
abbrev pub latin1_numbers : List ℕ → Result (List ℕ) ErrorKind
latin1_numbers letters = if list_all is_latin1 letters then Ok letters else Err InvalidInput

-- the bytes of a text
abbrev pub latin1_bytes : List ℕ → Result (List ℕ) ErrorKind
latin1_bytes text = latin1_numbers (chars text)
