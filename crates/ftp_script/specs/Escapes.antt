-- How a script writes bytes: as they are, where they are ASCII, or as `\r`, `\n`, `\\` or `\xHH`.
use Rattle.std.specs.Prelude.{ℕ, ◌-◌, ◌*◌, ◌==◌, ◌&&◌, nat_le, bit_or, List, [], ◌∷◌, Option, Some, None, if◌then◌else◌}
use Rattle.ftp_script.specs.declared.escapes.Place.{Place}
use Rattle.ftp_script.specs.declared.escapes.Place.TheVariants.{Plain, Backslash, High, Low}
use Rattle.ftp_script.specs.declared.escapes.Part.{Part}
use Rattle.ftp_script.specs.declared.escapes.Part.TheVariants.{Gives, Begins}

-- the value of a hexadecimal digit, which is written in lower case
abbrev pub digit : ℕ → Option ℕ
digit byte =
    if nat_le 48 byte && nat_le byte 57 then Some (byte - 48)
    else (if nat_le 97 byte && nat_le byte 102 then Some (byte - 87) else None)

-- the first of two digits
abbrev pub first_digit : Option ℕ → Option Part
first_digit None = None
first_digit (Some value) = Some (Begins (Low (value * 16)))

-- the second
abbrev pub second_digit : ℕ → Option ℕ → Option Part
second_digit high None = None
second_digit high (Some value) = Some (Gives (bit_or high value))

-- a byte outside an escape
abbrev pub plain_part : ℕ → Option Part
plain_part byte =
    if byte == 92 then Some (Begins Backslash)
    else (if nat_le byte 127 then Some (Gives byte) else None)

-- a byte after a backslash
abbrev pub escaped_part : ℕ → Option Part
escaped_part byte =
    if byte == 114 then Some (Gives 13)
    else (if byte == 110 then Some (Gives 10)
    else (if byte == 92 then Some (Gives 92)
    else (if byte == 120 then Some (Begins High) else None)))

-- what a byte says at a place: it gives a byte, or begins an escape or goes on with it, or isn't understood
abbrev pub part_of : Place → ℕ → Option Part
part_of Plain byte = plain_part byte
part_of Backslash byte = escaped_part byte
part_of High byte = first_digit (digit byte)
part_of (Low high) byte = second_digit high (digit byte)

-- a byte before others
abbrev pub onto : ℕ → Option (List ℕ) → Option (List ℕ)
onto byte None = None
onto byte (Some bytes) = Some (byte ∷ bytes)

-- a text ends outside an escape
abbrev pub ended_at : Place → Option (List ℕ)
ended_at Plain = Some []
ended_at Backslash = None
ended_at High = None
ended_at (Low high) = None

-- what comes after a part
abbrev pub and_then : Option Part → (Place → Option (List ℕ)) → Option (List ℕ)
and_then None later = None
and_then (Some (Gives byte)) later = onto byte (later Plain)
and_then (Some (Begins place)) later = later place

-- the bytes that a text writes from a place on
unfoldable pub read_from : Place → List ℕ → Option (List ℕ)
read_from place [] = ended_at place
read_from place (byte ∷ text) = and_then (part_of place byte) (λ next. read_from next text)

-- the bytes that a text writes; none where a byte isn't ASCII or an escape is none of these
abbrev pub unescaped : List ℕ → Option (List ℕ)
unescaped text = read_from Plain text
