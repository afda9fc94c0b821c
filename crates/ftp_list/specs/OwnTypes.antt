-- The types that systems give their own files (RFC 3659, section 7.5.1.5): `type=OS.name=kind`.
use Rattle.std.specs.Prelude.{ℕ, Bool, false, ◌&&◌, ◌||◌, ◌==◌, if◌then◌else◌, List, take, Option, Some, None, Result, Ok}
use Rattle.std.specs.Prelude.{codes}
use Rattle.std.specs.List.{filter_map, fold, slice_split}
use Rattle.ftp_list.specs.declared.error.ParseError.{ParseError}
use Rattle.ftp_list.specs.Entry.{Entry}
use Rattle.ftp_list.specs.Facts.{Fact, fact_in, with_piece}
use Rattle.ftp_list.specs.Places.{holds, before, behind}
use Rattle.ftp_list.specs.Texts.{is_word}

-- the pieces of a text between semicolons
abbrev pub pieces : List ℕ → List (List ℕ)
pieces text = slice_split (λ c. c == 59) text

-- what stands in a piece before the first = and behind it
abbrev pub key_of : List ℕ → List ℕ
key_of piece = before (codes "=") piece

abbrev pub value_of : List ℕ → List ℕ
value_of piece = behind (codes "=") piece

-- a piece that is a type fact
abbrev pub is_type : List ℕ → Bool
is_type piece = holds (codes "=") piece && is_word (codes "type") (key_of piece)

-- a type of a system's own: `OS.` in any case, and an = behind the system's name
abbrev pub is_own : List ℕ → Bool
is_own value = is_word (codes "os.") (take 3 value) && holds (codes "=") value

-- a piece that is a type fact of a system's own
abbrev pub is_own_type : List ℕ → Bool
is_own_type piece = is_type piece && is_own (value_of piece)

-- the type of a system's own so far, with one more piece: the later replaces
unfoldable pub own_after : Option (List ℕ) → List ℕ → Option (List ℕ)
own_after found piece = if is_own_type piece then Some (value_of piece) else found

-- the type of a system's own in a text of facts, the last of several
abbrev pub own_type : List ℕ → Option (List ℕ)
own_type text = fold own_after None (pieces text)

-- the facts of a text, but for the types of a system's own
abbrev pub other_fact_in : List ℕ → Option Fact
other_fact_in piece = if is_own_type piece then None else fact_in piece

abbrev pub other_facts : List ℕ → List Fact
other_facts text = filter_map other_fact_in (pieces text)

-- a piece that is a type of a system's own changes nothing
abbrev pub with_other_piece : Entry → List ℕ → Result Entry ParseError
with_other_piece entry piece = if is_own_type piece then Ok entry else with_piece entry piece

-- the listed directory itself or one of its parents (RFC 3659, section 7.5.1)
abbrev pub is_around : List ℕ → Bool
is_around value = is_word (codes "cdir") value || is_word (codes "pdir") value

-- whether the type so far says that, with one more piece
unfoldable pub around_after : Bool → List ℕ → Bool
around_after so piece = if is_type piece then is_around (before (codes "=") (value_of piece)) else so

-- whether the last type in a text of facts says that
abbrev pub says_around : List ℕ → Bool
says_around text = fold around_after false (pieces text)

-- the kinds by which systems name symbolic links
abbrev pub is_link : List ℕ → Bool
is_link kind = is_word (codes "slink") kind || is_word (codes "symlink") kind

-- the target of a symbolic link: `OS.unix=slink:target`, also without a target
unfoldable pub link_of : List ℕ → Option (List ℕ)
link_of value =
    if is_word (codes "os.unix") (key_of value) && is_link (before (codes ":") (value_of value))
    then Some (behind (codes ":") (value_of value)) else None
