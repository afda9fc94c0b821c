-- What a line of a listing says, in the POSIX and the DOS form.
use Rattle.std.specs.Prelude.{◌≡◌, ℕ, ◌+◌, ◌^◌, Bool, not, ◌||◌, ◌==◌, if◌then◌else◌, nat_eq, ◌⊎◌, List, [], ◌∷◌, Result, Ok, Err, Option, None, ℤ, pos, int_lt, unsigned_abs, codes, encode_utf8_all, slice_index}
use Rattle.std.specs.Option.{ok_or}
use Rattle.std.specs.List.{filter}
use Rattle.std.specs.Cmp.Lexicographic.{pointwise}
use Rattle.ftp_list.specs.declared.class.Class.TheVariants.{Kind, Permission, Blank, Digit, NotSpace, NotLineFeed, DigitOrComma, Dash, Colon}
use Rattle.ftp_list.specs.declared.shape.Form.TheVariants.{Between, ClockOrYear, HalfDay, DirectoryMark}
use Rattle.ftp_list.specs.declared.shape.Shape.{Shape}
use Rattle.ftp_list.specs.declared.shape.Shape.TheVariants.{OneOrMore, AnyNumber, Short}
use Rattle.ftp_list.specs.declared.error.ParseError.{ParseError}
use Rattle.ftp_list.specs.declared.error.ParseError.TheVariants.{SyntaxError, InvalidDate, BadSize, OutOfMemory}
use Rattle.ftp_list.specs.declared.file_type.FileType.{FileType}
use Rattle.ftp_list.specs.declared.file_type.FileType.TheVariants.{Directory, File, Symlink}
use Rattle.ftp_list.specs.declared.pex.PosixPex.{PosixPex}
use Rattle.ftp_list.specs.Entry.{Entry}
use Rattle.ftp_list.specs.Pex.{full_pex}
use Rattle.ftp_list.specs.Places.{before, behind}
use Rattle.ftp_list.specs.Numbers.{decimal, number}
use Rattle.ftp_list.specs.Texts.{trim}
use Rattle.ftp_list.specs.Dates.{IsUtcYear, whole_second, posix_moment, dos_moment}
use Rattle.ftp_list.specs.Split.{IsGreatestSplit, HasNoSplit, part}
use Rattle.ftp_list.specs.ResultSteps.{◌>>=◌}

-- The answer is such a one, unless memory was refused.
abbrev pub UnlessMemory : (Result Entry ParseError → Type 0) → Result Entry ParseError → Type 0
UnlessMemory Is (Ok entry) = Is (Ok entry)
UnlessMemory Is (Err SyntaxError) = Is (Err SyntaxError)
UnlessMemory Is (Err InvalidDate) = Is (Err InvalidDate)
UnlessMemory Is (Err BadSize) = Is (Err BadSize)
UnlessMemory Is (Err OutOfMemory) = Unit {0}

-- the seconds of a moment, zero before the epoch
abbrev pub seconds_since : ℤ → ℕ
seconds_since moment = if int_lt moment (pos 0) then 0 else unsigned_abs moment

-- kind, permissions, links, owner, group, size, month, day, clock or year, name, with blanks between them
unfoldable pub posix_shapes : List Shape
posix_shapes =
    Short (Between Kind 1 1) ∷ Short (Between Permission 9 9) ∷ OneOrMore Blank ∷ OneOrMore Digit ∷ OneOrMore Blank
    ∷ OneOrMore NotSpace ∷ OneOrMore Blank ∷ OneOrMore NotSpace ∷ OneOrMore Blank ∷ OneOrMore Digit ∷ OneOrMore Blank
    ∷ OneOrMore NotSpace ∷ OneOrMore Blank ∷ Short (Between Digit 1 2) ∷ OneOrMore Blank ∷ Short ClockOrYear
    ∷ OneOrMore Blank ∷ OneOrMore NotLineFeed ∷ []

-- a permission is granted by any letter but S and T
abbrev pub is_granted : ℕ → Bool
is_granted c = not ((c == 45) || (c == 83) || (c == 84))

-- three permissions from a place on
abbrev pub pex_from : ℕ → List ℕ → PosixPex
pex_from place permissions =
    record {
      read = is_granted (slice_index permissions place);
      write = is_granted (slice_index permissions (place + 1));
      execute = is_granted (slice_index permissions (place + 2));
    }

-- a link's name stands before the first arrow
unfoldable pub posix_name : List ℕ → List ℕ → List ℕ
posix_name kind name =
    encode_utf8_all (if pointwise nat_eq kind (codes "l") then before (codes " -> ") name else name)

-- and its target between the first arrow and the second, or empty
unfoldable pub posix_type : List ℕ → List ℕ → FileType
posix_type kind name =
    if pointwise nat_eq kind (codes "d") then Directory
    else (if pointwise nat_eq kind (codes "l")
    then Symlink (encode_utf8_all (before (codes " -> ") (behind (codes " -> ") name))) else File)

-- the file of a line whose date and size are known
abbrev pub posix_file : ℤ → ℕ → List ℕ → List ℕ → Entry
posix_file moment size lengths text =
    record {
      name = posix_name (part 0 lengths text) (part 17 lengths text);
      file_type = posix_type (part 0 lengths text) (part 17 lengths text);
      size = size;
      seconds = seconds_since moment;
      nanoseconds = 0;
      uid = number (2 ^ 32) (trim (part 5 lengths text));
      gid = number (2 ^ 32) (trim (part 7 lengths text));
      owner = pex_from 0 (part 1 lengths text);
      group = pex_from 3 (part 1 lengths text);
      others = pex_from 6 (part 1 lengths text);
    }

-- the moment of a line
abbrev pub posix_date : ℤ → ℤ → List ℕ → List ℕ → Option ℤ
posix_date this_year now lengths text =
    posix_moment this_year now (part 11 lengths text) (part 13 lengths text) (part 15 lengths text)

-- the date is tested first, then the size
unfoldable pub posix_entry : ℤ → ℤ → List ℕ → List ℕ → Result Entry ParseError
posix_entry this_year now lengths text = do
  moment ← ok_or (posix_date this_year now lengths text) InvalidDate
  size ← ok_or (decimal (2 ^ 64) (part 9 lengths text)) BadSize
  Ok (posix_file moment size lengths text)

-- What a line says in the POSIX form, at an instant: a syntax error where it has no split, else
-- what the parts of its greatest split say.
abbrev pub IsPosix : List ℕ → ℤ → Result Entry ParseError → Type 0
IsPosix text nanosecond answer =
    (HasNoSplit posix_shapes text × (answer ≡ Err SyntaxError))
    ⊎ ((lengths : List ℕ) × IsGreatestSplit posix_shapes lengths text × (year : ℤ)
    × IsUtcYear (whole_second nanosecond) year
    × (answer ≡ posix_entry year (whole_second nanosecond) lengths text))

-- month, day, year, hour, minute, AM or PM, mark of a directory, size, name
unfoldable pub dos_shapes : List Shape
dos_shapes =
    Short (Between Digit 2 2) ∷ Short (Between Dash 1 1) ∷ Short (Between Digit 2 2) ∷ Short (Between Dash 1 1)
    ∷ Short (Between Digit 2 2) ∷ OneOrMore Blank ∷ Short (Between Digit 2 2) ∷ Short (Between Colon 1 1)
    ∷ Short (Between Digit 2 2) ∷ AnyNumber Blank ∷ Short HalfDay ∷ OneOrMore Blank ∷ Short DirectoryMark
    ∷ AnyNumber DigitOrComma ∷ OneOrMore Blank ∷ OneOrMore NotLineFeed ∷ []

-- the file of a line whose date is known
abbrev pub dos_file : ℤ → FileType → ℕ → List ℕ → Entry
dos_file moment file_type size name =
    record {
      name = encode_utf8_all name;
      file_type = file_type;
      size = size;
      seconds = seconds_since moment;
      nanoseconds = 0;
      uid = None;
      gid = None;
      owner = full_pex;
      group = full_pex;
      others = full_pex;
    }

-- a file's size is that of the digits without the commas
unfoldable pub dos_plain : ℤ → List ℕ → List ℕ → Result Entry ParseError
dos_plain moment size_text name = do
  size ← ok_or (decimal (2 ^ 64) (filter (λ c. not (c == 44)) size_text)) BadSize
  Ok (dos_file moment File size name)

-- and a directory has none
abbrev pub dos_sized : ℤ → List ℕ → List ℕ → List ℕ → Result Entry ParseError
dos_sized moment mark size_text name =
    if pointwise nat_eq mark [] then dos_plain moment size_text name
    else Ok (dos_file moment Directory 0 name)

-- the moment of a line
abbrev pub dos_date : List ℕ → List ℕ → Option ℤ
dos_date lengths text =
    dos_moment (part 0 lengths text) (part 2 lengths text) (part 4 lengths text) (part 6 lengths text)
    (part 8 lengths text) (part 10 lengths text)

-- the date is tested first
unfoldable pub dos_entry : List ℕ → List ℕ → Result Entry ParseError
dos_entry lengths text = do
  moment ← ok_or (dos_date lengths text) InvalidDate
  dos_sized moment (part 12 lengths text) (part 13 lengths text) (part 15 lengths text)

-- What a line says in the DOS form.
abbrev pub IsDos : List ℕ → Result Entry ParseError → Type 0
IsDos text answer =
    (HasNoSplit dos_shapes text × (answer ≡ Err SyntaxError))
    ⊎ ((lengths : List ℕ) × IsGreatestSplit dos_shapes lengths text × (answer ≡ dos_entry lengths text))
