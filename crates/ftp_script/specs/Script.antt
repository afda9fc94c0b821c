-- Scripts: what the server sends, the data connections, the calls, and how replies are read.
use Rattle.std.specs.Prelude.{◌≡◌, ◌||◌, ℕ, ◌+◌, ◌==◌, Bool, true, false, if◌then◌else◌, List, [], ◌∷◌, ◌++◌, Option, Some, None, Result, Ok, Err}
use Rattle.std.specs.List.{slice_split}
use Rattle.ftp_calls.specs.declared.call.Call.{Call}
use Rattle.ftp_script.specs.declared.line.Line.{Line}
use Rattle.ftp_script.specs.declared.line.Line.TheVariants.{Empty, Server, Data, Makes, Lenient}
use Rattle.ftp_script.specs.declared.script.Script.{Script}
use Rattle.ftp_script.specs.declared.script.ScriptError.{ScriptError}
use Rattle.ftp_script.specs.declared.script.ScriptError.TheVariants.{NotUnderstood, OutOfMemory}
use Rattle.ftp_script.specs.declared.supplies.DataConn.{DataConn}
use Rattle.ftp_script.specs.Lines.{line_of}

abbrev pub is_newline : ℕ → Bool
is_newline byte = byte == 10

-- the lines of a text; what comes after the last LF is a line, too, which may be empty
abbrev pub lines_of : List ℕ → List (List ℕ)
lines_of text = slice_split is_newline text

-- what a line adds to what the server sends, to the data connections, and to the calls
abbrev pub served : Line → List ℕ
served Empty = []
served (Server bytes) = bytes
served (Data conn) = []
served (Makes call) = []
served Lenient = []

abbrev pub supplied : Line → List DataConn
supplied Empty = []
supplied (Server bytes) = []
supplied (Data conn) = conn ∷ []
supplied (Makes call) = []
supplied Lenient = []

abbrev pub called : Line → List Call
called Empty = []
called (Server bytes) = []
called (Data conn) = []
called (Makes call) = call ∷ []
called Lenient = []

-- whether it has replies read leniently
abbrev pub loosens : Line → Bool
loosens Empty = false
loosens (Server bytes) = false
loosens (Data conn) = false
loosens (Makes call) = false
loosens Lenient = true

-- a script with a line before its others
abbrev pub with_line : ℕ → Option Line → Result Script ℕ → Result Script ℕ
with_line number None later = Err number
with_line number (Some line) (Err later) = Err later
with_line number (Some line) (Ok later) = Ok (record { server = served line ++ later.server; data_conns = supplied line ++ later.data_conns; calls = called line ++ later.calls; lenient = loosens line || later.lenient })

-- the script of lines of which the first has this number, or the number of the first that isn't understood
unfoldable pub script_from : ℕ → List (List ℕ) → Result Script ℕ
script_from number [] = Ok (record { server = []; data_conns = []; calls = []; lenient = false })
script_from number (line ∷ lines) = with_line number (line_of line) (script_from (number + 1) lines)

-- the script that a text writes, or the number of the first line that isn't understood, from 1
abbrev pub script_of : List ℕ → Result Script ℕ
script_of text = script_from 1 (lines_of text)

-- why a text isn't read as a script: the line that isn't understood, or memory
abbrev pub IsWrong : Result Script ℕ → ScriptError → Type 0
IsWrong script (NotUnderstood number) = script ≡ Err number
IsWrong script OutOfMemory = Unit {0}
