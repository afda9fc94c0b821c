-- What a line of a listing of any form says.
use Rattle.std.specs.Prelude.{◌≡◌, ℕ, List, Result, Ok, Err, ℤ}
use Rattle.ftp_list.specs.declared.error.ParseError.{ParseError}
use Rattle.ftp_list.specs.Entry.{Entry}
use Rattle.ftp_list.specs.Listing.{IsPosix, IsDos}
use Rattle.ftp_list.specs.Facts.{mlst}

-- After the DOS form: its file, or what the form of MLST says.
abbrev pub IsAfterDos : List ℕ → Result Entry ParseError → Result Entry ParseError → Type 0
IsAfterDos text (Ok entry) answer = answer ≡ Ok entry
IsAfterDos text (Err fault) answer = answer ≡ mlst text

-- After the POSIX form: its file, or what the other forms say.
abbrev pub IsAfterPosix : List ℕ → Result Entry ParseError → Result Entry ParseError → Type 0
IsAfterPosix text (Ok entry) answer = answer ≡ Ok entry
IsAfterPosix text (Err fault) answer =
    (dos : Result Entry ParseError) × IsDos text dos × IsAfterDos text dos answer

-- What a line says: the file of the first form that gives one, of POSIX, DOS and MLST; where none
-- does, the error of the last.
abbrev pub IsListed : List ℕ → ℤ → Result Entry ParseError → Type 0
IsListed text nanosecond answer =
    (posix : Result Entry ParseError) × IsPosix text nanosecond posix × IsAfterPosix text posix answer
