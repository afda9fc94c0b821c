-- What the lines of a whole listing say. A line is the bytes of its text.
use Rattle.std.specs.Prelude.{map, ◌⊎◌, ◌≡◌, ℕ, Bool, not, ◌&&◌, ◌==◌, nat_lt, List, [], ◌∷◌, ◌++◌, length, drop, filter, codes}
use Rattle.std.specs.Char.{to_ascii_lowercase}
use Rattle.std.specs.Str.{chars}
use Rattle.std.specs.String.{string_bytes}
use Rattle.ftp_list.specs.declared.class.Class.TheVariants.{Digit}
use Rattle.ftp_list.specs.declared.entries.Listing.{Listing}
use Rattle.ftp_list.specs.declared.other_file.OtherFile.{OtherFile}
use Rattle.ftp_list.specs.declared.sorts.Sort.{Sort}
use Rattle.ftp_list.specs.declared.sorts.Sort.TheVariants.{File, Around, Other, Unread}
use Rattle.ftp_list.specs.Entry.{Entry}
use Rattle.ftp_list.specs.Places.{begins}
use Rattle.ftp_list.specs.Shapes.{all_in}
use Rattle.ftp_list.specs.Texts.{trim, trim_front}

-- blanks, and then digits alone
abbrev pub is_spaced_number : List ℕ → Bool
is_spaced_number text =
    nat_lt (length (trim_front text)) (length text) && not (length (trim_front text) == 0)
    && all_in Digit (trim_front text)

-- `total` and a number, as `ls -l` begins
abbrev pub is_total : List ℕ → Bool
is_total text = begins (codes "total") text && is_spaced_number (drop 5 text)

-- the characters of a line of LIST are those of a file's, unless they are blank or that sum
abbrev pub is_entry_text : List ℕ → Bool
is_entry_text text = not (length (trim text) == 0) && not (is_total (trim text))

-- a line of LIST is a file's
abbrev pub is_entry : List ℕ → Bool
is_entry line = is_entry_text (chars line)

-- the lines of LIST that are those of files
abbrev pub entries : List (List ℕ) → List (List ℕ)
entries lines = filter is_entry lines

-- What was read of a listing, each part in the order of the lines.
pub record Contents : Type 0 where
  pub files : List Entry
  pub around : List Entry
  pub others : List OtherFile
  pub unread : List (List ℕ)

-- the contents of a listing
abbrev pub contents : Listing → Contents
contents listing =
    record {
      files = listing.files.items;
      around = listing.around.items;
      others = listing.others.items;
      unread = map string_bytes listing.unread.items;
    }

-- nothing was read
abbrev pub nothing : Contents
nothing = record { files = []; around = []; others = []; unread = [] }

-- a line of this sort before the others: a line that can't be read is kept as it came
abbrev pub onto : List ℕ → Sort → Contents → Contents
onto line (File entry) others = record others { files = entry ∷ others.files }
onto line (Around entry) others = record others { around = entry ∷ others.around }
onto line (Other file) others = record others { others = file ∷ others.others }
onto line Unread others = record others { unread = line ∷ others.unread }

-- a line of this sort behind the others
abbrev pub added : List ℕ → Sort → Contents → Contents
added line (File entry) others = record others { files = others.files ++ entry ∷ [] }
added line (Around entry) others = record others { around = others.around ++ entry ∷ [] }
added line (Other file) others = record others { others = others.others ++ file ∷ [] }
added line Unread others = record others { unread = others.unread ++ line ∷ [] }

-- What is read of lines, in their order: each line is put where its sort has it.
pub data IsRead (Says : List ℕ → Sort → Type 0) : List (List ℕ) → Contents → Type 0 where
  Ended : IsRead Says [] nothing
  Read : {line : List ℕ} {sort : Sort} {lines : List (List ℕ)} {others : Contents}
      → Says line sort → IsRead Says lines others → IsRead Says (line ∷ lines) (onto line sort others)

-- The name of a feature by which a server has MLSD, in any case (RFC 3659, section 7.8).
abbrev pub NamesFacts : List ℕ → Type 0
NamesFacts name = (map to_ascii_lowercase name ≡ codes "mlst") ⊎ (map to_ascii_lowercase name ≡ codes "mlsd")
