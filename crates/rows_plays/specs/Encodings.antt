-- The encodings of the rows, each by its name.
use Rattle.std.specs.Prelude.{ℕ, List, [], ◌∷◌, ◌-◌, Result, Ok, Err, if◌then◌else◌, nat_lt, ◌==◌, length, take, map, slice_index, encode_utf8_all}
use Rattle.std.specs.Str.{chars}
use Rattle.std.specs.Str.Lossy.{utf8_lossy}
use Rattle.std.specs.declared.io.ErrorKind.{ErrorKind}
use Rattle.std.specs.declared.io.ErrorKind.TheVariants.{InvalidData}
use Rattle.rows_plays.specs.declared.encodings.Named.{Named}
use Rattle.rows_plays.specs.declared.encodings.Named.TheVariants.{Utf8, Latin1, SpaceToLf, CrFirst, DropsCrlf, Empty, RefusesA}

-- a byte before bytes, where there are some
abbrev pub onto_bytes : ℕ → Result (List ℕ) ErrorKind → Result (List ℕ) ErrorKind
onto_bytes b (Ok bytes) = Ok (b ∷ bytes)
onto_bytes b (Err kind) = Err kind

-- the bytes of characters below 256
abbrev pub latin_1_bytes : List ℕ → Result (List ℕ) ErrorKind
latin_1_bytes [] = Ok []
latin_1_bytes (c ∷ letters) = if nat_lt 255 c then Err InvalidData else onto_bytes c (latin_1_bytes letters)

abbrev pub feed_for_space : ℕ → ℕ
feed_for_space b = if b == 32 then 10 else b

-- the text that bytes stand for: all but those of UTF-8 read Latin-1
abbrev pub decoded_by : Named → List ℕ → List ℕ
decoded_by Utf8 bytes = utf8_lossy bytes
decoded_by Latin1 bytes = encode_utf8_all bytes
decoded_by SpaceToLf bytes = encode_utf8_all bytes
decoded_by CrFirst bytes = encode_utf8_all bytes
decoded_by DropsCrlf bytes = encode_utf8_all bytes
decoded_by Empty bytes = encode_utf8_all bytes
decoded_by RefusesA bytes = utf8_lossy bytes

-- the bytes that stand for a text
abbrev pub encoded_by : Named → List ℕ → Result (List ℕ) ErrorKind
encoded_by Utf8 text = Ok text
encoded_by Latin1 text = latin_1_bytes (chars text)
encoded_by SpaceToLf text = Ok (map feed_for_space text)
encoded_by CrFirst text = Ok (13 ∷ text)
encoded_by DropsCrlf text = Ok (take (length text - 2) text)
encoded_by Empty text = Ok []
encoded_by RefusesA text = if slice_index text 0 == 65 then Err InvalidData else Ok text
