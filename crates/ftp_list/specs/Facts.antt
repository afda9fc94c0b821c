-- What a line of MLSD or MLST says (RFC 3659, section 7): its facts, folded by the table of keys.
use Rattle.std.specs.Prelude.{ℕ, ◌+◌, ◌-◌, ◌^◌, Bool, ◌&&◌, ◌||◌, ◌==◌, nat_le, if◌then◌else◌, List, [], ◌∷◌, length, take, drop, Option, Some, None, Result, Ok, Err, pos, int_lt, codes, encode_utf8_all, slice_index}
use Rattle.std.specs.Option.{ok_or}
use Rattle.std.specs.List.{filter_map, slice_split, after_last, list_all}
use Rattle.ftp_list.specs.declared.error.ParseError.{ParseError}
use Rattle.ftp_list.specs.declared.error.ParseError.TheVariants.{SyntaxError, InvalidDate, BadSize}
use Rattle.ftp_list.specs.declared.file_type.FileType.{FileType}
use Rattle.ftp_list.specs.declared.file_type.FileType.TheVariants.{Directory, File, Symlink}
use Rattle.ftp_list.specs.Entry.{Entry}
use Rattle.ftp_list.specs.Pex.{full_pex, pex_of_bits}
use Rattle.ftp_list.specs.Places.{begins, place, holds, before, behind}
use Rattle.ftp_list.specs.Numbers.{number}
use Rattle.ftp_list.specs.Texts.{trim_front, is_word}
use Rattle.ftp_list.specs.Times.{Instant, time_of}
use Rattle.ftp_list.specs.ResultSteps.{◌>>=◌}
use Rattle.ftp_list.specs.Listing.{seconds_since}

-- a key and its value
pub record Fact : Type 0 where
  pub key : List ℕ
  pub value : List ℕ

-- The key stands before the first =, the value between the first and the second or the end.
abbrev pub fact_in : List ℕ → Option Fact
fact_in piece =
    if holds (codes "=") piece
    then Some (record { key = before (codes "=") piece; value = before (codes "=") (behind (codes "=") piece) })
    else None

-- the facts of a text: those of its pieces between semicolons
abbrev pub facts : List ℕ → List Fact
facts text = filter_map fact_in (slice_split (λ c. c == 59) text)

-- the type of a file
unfoldable pub type_of : List ℕ → Option FileType
type_of value =
    if is_word (codes "dir") value || is_word (codes "cdir") value || is_word (codes "pdir") value
    then Some Directory
    else (if is_word (codes "file") value then Some File
    else (if is_word (codes "link") value then Some (Symlink []) else None))

-- an octal digit
abbrev pub is_octal : ℕ → Bool
is_octal c = nat_le 48 c && nat_le c 55

-- three or four octal digits
abbrev pub is_mode : List ℕ → Bool
is_mode value = (length value == 3 || length value == 4) && list_all is_octal value

-- the permissions of the owner, the group and others are the last three digits
abbrev pub with_mode : Entry → List ℕ → Entry
with_mode entry value =
    record entry {
      owner = pex_of_bits (slice_index value (length value - 3) - 48);
      group = pex_of_bits (slice_index value (length value - 2) - 48);
      others = pex_of_bits (slice_index value (length value - 1) - 48);
    }

-- a moment of an entry: zero before the epoch
abbrev pub with_time : Entry → Instant → Entry
with_time entry instant =
    record entry {
      seconds = seconds_since instant.second;
      nanoseconds = (if int_lt instant.second (pos 0) then 0 else instant.nanosecond);
    }

-- the entry with a type, or a syntax error
unfoldable pub with_type : Entry → List ℕ → Result Entry ParseError
with_type entry value = do
  file_type ← ok_or (type_of value) SyntaxError
  Ok (record entry { file_type = file_type })

-- the entry with a size, or a bad size
unfoldable pub with_size : Entry → List ℕ → Result Entry ParseError
with_size entry value = do
  size ← ok_or (number (2 ^ 64) value) BadSize
  Ok (record entry { size = size })

-- the entry with a time, or an invalid date
unfoldable pub with_modify : Entry → List ℕ → Result Entry ParseError
with_modify entry value = do
  instant ← ok_or (time_of value) InvalidDate
  Ok (with_time entry instant)

-- the entry with permissions, or a syntax error
abbrev pub mode_fact : Entry → List ℕ → Result Entry ParseError
mode_fact entry value = if is_mode value then Ok (with_mode entry value) else Err SyntaxError

-- the table of keys, each in any case; other keys are passed over
unfoldable pub with_fact : Entry → Fact → Result Entry ParseError
with_fact entry fact =
    if is_word (codes "type") fact.key then with_type entry fact.value
    else (if is_word (codes "size") fact.key then with_size entry fact.value
    else (if is_word (codes "modify") fact.key then with_modify entry fact.value
    else (if is_word (codes "unix.uid") fact.key then Ok (record entry { uid = number (2 ^ 32) fact.value })
    else (if is_word (codes "unix.gid") fact.key then Ok (record entry { gid = number (2 ^ 32) fact.value })
    else (if is_word (codes "unix.mode") fact.key then mode_fact entry fact.value else Ok entry)))))

-- a piece without = changes nothing
abbrev pub with_piece : Entry → List ℕ → Result Entry ParseError
with_piece entry piece =
    if holds (codes "=") piece
    then with_fact entry (record { key = before (codes "=") piece; value = before (codes "=") (behind (codes "=") piece) })
    else Ok entry

-- the facts in order: later ones replace, the first error is the answer
abbrev pub with_facts : Entry → List Fact → Result Entry ParseError
with_facts entry [] = Ok entry
with_facts entry (fact ∷ others) = with_fact entry fact >>= λ changed. with_facts changed others

-- a file of that name of which nothing else is said
abbrev pub named : List ℕ → Entry
named name =
    record {
      name = encode_utf8_all name;
      file_type = File;
      size = 0;
      seconds = 0;
      nanoseconds = 0;
      uid = None;
      gid = None;
      owner = full_pex;
      group = full_pex;
      others = full_pex;
    }

-- the name: behind a leading space, or behind the first semicolon with a space, or the last piece
abbrev pub mlsx_name : List ℕ → List ℕ
mlsx_name text =
    if begins (codes " ") text then drop 1 text
    else (if holds (codes "; ") text then behind (codes "; ") text
    else trim_front (after_last (λ c. c == 59) text))

-- the text in which the facts stand
abbrev pub mlsx_facts : List ℕ → List ℕ
mlsx_facts text =
    if begins (codes " ") text then []
    else (if holds (codes "; ") text then take (place (codes "; ") text + 1) text else text)

-- what a line of MLSD says
unfoldable pub mlsd : List ℕ → Result Entry ParseError
mlsd text = with_facts (named (mlsx_name text)) (facts (mlsx_facts text))

-- what a line of MLST says: the same without one leading space
unfoldable pub mlst : List ℕ → Result Entry ParseError
mlst text = mlsd (if begins (codes " ") text then drop 1 text else text)
