-- How the lines of a listing are sorted: a file, a directory around it, a file of a system's own, or unread.
use Rattle.std.specs.Prelude.{◌≡◌, ℕ, Bool, false, ◌||◌, if◌then◌else◌, List, Option, Some, None, Result, Ok, Err, ℤ}
use Rattle.std.specs.Prelude.{encode_utf8_all}
use Rattle.std.specs.Str.{chars}
use Rattle.ftp_list.specs.declared.error.ParseError.{ParseError}
use Rattle.ftp_list.specs.declared.error.ParseError.TheVariants.{SyntaxError, OutOfMemory}
use Rattle.ftp_list.specs.declared.file_type.FileType.TheVariants.{Symlink}
use Rattle.ftp_list.specs.declared.sorts.Sort.{Sort}
use Rattle.ftp_list.specs.declared.sorts.Sort.TheVariants.{File, Around, Other, Unread}
use Rattle.ftp_list.specs.Entry.{Entry}
use Rattle.ftp_list.specs.Facts.{mlsd, mlsx_name, mlsx_facts, named, with_facts}
use Rattle.ftp_list.specs.Listing.{IsPosix, IsDos}
use Rattle.ftp_list.specs.Names.{is_dots}
use Rattle.ftp_list.specs.OwnTypes.{own_type, other_facts, says_around, link_of}

-- a file, unless its type or its name says that it is around
abbrev pub entry_sort : Bool → Entry → Sort
entry_sort around entry = if around || is_dots entry.name then Around entry else File entry

-- the same of what was read
abbrev pub read_sort : Bool → Result Entry ParseError → Sort
read_sort around (Ok entry) = entry_sort around entry
read_sort around (Err fault) = Unread

-- an entry with a type of a system's own: a link, where that is one
abbrev pub own_entry_sort : List ℕ → Entry → Option (List ℕ) → Sort
own_entry_sort own entry (Some target) =
    entry_sort false (record entry { file_type = Symlink (encode_utf8_all target) })
own_entry_sort own entry None = Other (record { name = entry.name; kind = encode_utf8_all own })

-- the same of what was read
abbrev pub own_sort : List ℕ → Result Entry ParseError → Sort
own_sort own (Ok entry) = own_entry_sort own entry (link_of own)
own_sort own (Err fault) = Unread

-- The sort of a line of MLSD: what `mlsd` says of it, or, with a type of a system's own, what its other facts do.
abbrev pub sort_under : Option (List ℕ) → List ℕ → Sort
sort_under None text = read_sort (says_around (mlsx_facts text)) (mlsd text)
sort_under (Some own) text = own_sort own (with_facts (named (mlsx_name text)) (other_facts (mlsx_facts text)))

abbrev pub mlsd_sort : List ℕ → Sort
mlsd_sort text = sort_under (own_type (mlsx_facts text)) text

-- What was read is sorted, unless an allocation failed.
abbrev pub IsSorted : Bool → Result Entry ParseError → Sort → Type 0
IsSorted around (Err OutOfMemory) sort = ⊥
IsSorted around read sort = sort ≡ read_sort around read

-- After the POSIX form: what it says, or, of a line that doesn't have it at all, what the DOS form says.
abbrev pub IsUnlessDos : List ℕ → Result Entry ParseError → Result Entry ParseError → Type 0
IsUnlessDos text (Err SyntaxError) answer = IsDos text answer
IsUnlessDos text posix answer = answer ≡ posix

-- What a line of LIST says at an instant: the POSIX form, or the DOS form where it doesn't have the POSIX form at all.
abbrev pub IsInList : ℤ → List ℕ → Result Entry ParseError → Type 0
IsInList nanosecond line answer =
    (posix : Result Entry ParseError) × IsPosix (chars line) nanosecond posix × IsUnlessDos (chars line) posix answer

-- The sort of a line of LIST at an instant.
abbrev pub IsOfList : ℤ → List ℕ → Sort → Type 0
IsOfList nanosecond line sort =
    (read : Result Entry ParseError) × IsInList nanosecond line read × (sort ≡ read_sort false read)

-- The sort of a line of MLSD.
abbrev pub IsOfMlsd : List ℕ → Sort → Type 0
IsOfMlsd line sort = sort ≡ mlsd_sort (chars line)
