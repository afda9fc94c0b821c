-- The types of a file's data: RFC 959, sections 3.1.1 and 4.1.2 (TYPE).
use Rattle.std.specs.Prelude.{ℕ, List, [], ◌∷◌, ◌++◌, codes}
use Rattle.std.specs.Fmt.{decimal}
use Rattle.ftp_base.specs.declared.types.file_type.FormatControl.{FormatControl}
use Rattle.ftp_base.specs.declared.types.file_type.FormatControl.TheVariants.{Default, NonPrint, Telnet, Asa}
use Rattle.ftp_base.specs.declared.types.file_type.FileType.{FileType}
use Rattle.ftp_base.specs.declared.types.file_type.FileType.TheVariants.{Ascii, Ebcdic, Image, Binary, Local}

-- the letter of a format
abbrev pub format_text : FormatControl → List ℕ
format_text Default = codes "N"
format_text NonPrint = codes "N"
format_text Telnet = codes "T"
format_text Asa = codes "C"

-- the letter of a type, and what stands behind it
abbrev pub type_text : FileType → List ℕ
type_text (Ascii format) = codes "A " ++ format_text format
type_text (Ebcdic format) = codes "E " ++ format_text format
type_text Image = codes "I"
type_text Binary = codes "I"
type_text (Local bits) = codes "L " ++ decimal bits

-- the place of a format in the order of formats
abbrev pub format_rank : FormatControl → ℕ
format_rank Default = 0
format_rank NonPrint = 1
format_rank Telnet = 2
format_rank Asa = 3

-- the place of a type in the order of types, and then what orders two of one kind: its format or its bits
abbrev pub type_rank : FileType → List ℕ
type_rank (Ascii format) = 0 ∷ format_rank format ∷ []
type_rank (Ebcdic format) = 1 ∷ format_rank format ∷ []
type_rank Image = 2 ∷ []
type_rank Binary = 3 ∷ []
type_rank (Local bits) = 4 ∷ bits ∷ []
