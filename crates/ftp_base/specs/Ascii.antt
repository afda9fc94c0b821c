-- Line ends of a text upload: RFC 959, section 3.1.1.1 (a line ends in CR LF on the wire).
use Rattle.std.specs.Prelude.{◌≡◌, ◌⊎◌, ℕ, Bool, Option, List, [], ◌∷◌, ◌++◌, ◌&&◌, zero, suc, false, ◌==◌, not, if◌then◌else◌, length, slice_index}
use Rattle.std.specs.List.{flat_map, enumerate_from}
use Rattle.std.specs.Io.KnownBytes.{Appends}
use Rattle.std.specs.declared.io.ErrorKind.{ErrorKind}
use Rattle.ftp_base.specs.declared.types.fault.FtpError.{FtpError}
use Rattle.ftp_base.specs.declared.types.fault.FtpError.TheVariants.{ConnectionError, OutOfMemory}
use Rattle.ftp_base.specs.declared.types.fault.ConnectionError.TheVariants.{Io, SourceTooLarge}

-- what stands on the wire for a byte: CR LF for an LF that follows no CR, else the byte
abbrev pub on_wire : Bool → ℕ → List ℕ
on_wire follows byte = if (byte == 10) && not follows then 13 ∷ 10 ∷ [] else byte ∷ []

-- whether the byte before this place is CR
abbrev pub follows_return : List ℕ → ℕ → Bool
follows_return bytes zero = false
follows_return bytes (suc before) = slice_index bytes before == 13

-- the bytes of a text upload on the wire: what stands for the byte at each place, joined
abbrev pub crlf : List ℕ → List ℕ
crlf bytes =
    flat_map (λ place. on_wire (follows_return bytes place.0) place.1) (enumerate_from 0 bytes)

-- whether the bytes end in CR
abbrev pub ends_in_return : List ℕ → Bool
ends_in_return bytes = follows_return bytes (length bytes)

-- old grew by what makes the wire bytes of the bytes before into those of the bytes before and the
-- piece
pub record AddsPiece (before piece old new : List ℕ) : Type 0 where
  pub added : List ℕ
  pub whole : crlf (before ++ piece) ≡ crlf before ++ added
  pub grown : new ≡ old ++ added

-- a writer that held old, where that is known, holds old and a front of these bytes
abbrev pub AppendsFront : Option (List ℕ) → Option (List ℕ) → List ℕ → Type 0
AppendsFront old new bytes =
    (front : List ℕ) × (rest : List ℕ) × (bytes ≡ front ++ rest) × Appends old new front

-- the errors of a copy: of a kind that its reader or its writer answered, too large a source, out of
-- memory
abbrev pub IsCopyFault : FtpError → Type 0
IsCopyFault fault =
    ((kind : ErrorKind) × (fault ≡ ConnectionError (Io kind)))
    ⊎ (fault ≡ ConnectionError SourceTooLarge) ⊎ (fault ≡ OutOfMemory)

-- what stands on the wire for bytes that come after CR or not
abbrev pub converted : Bool → List ℕ → List ℕ
converted after [] = []
converted after (byte ∷ bytes) = on_wire after byte ++ converted (byte == 13) bytes

-- whether the last byte so far is CR
abbrev pub last_return : Bool → List ℕ → Bool
last_return after [] = after
last_return after (byte ∷ bytes) = last_return (byte == 13) bytes

-- the bytes of a file as they go over a data connection: a text's lines end in CR LF
abbrev pub wire_data : Bool → List ℕ → List ℕ
wire_data text bytes = if text then crlf bytes else bytes

-- the most bytes that a file may have there
abbrev pub most_bytes : ℕ
most_bytes = 9223372036854775807
