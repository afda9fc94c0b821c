-- What the program that plays scripts does.
use Rattle.std.specs.Prelude.{◌≡◌, ◌⊎◌, ℕ, ◌-◌, List, [], ◌∷◌, ◌++◌, codes, drop, Option, Result, Ok, Err}
use Rattle.std.specs.Fmt.{decimal}
use Rattle.std.specs.Io.KnownBytes.{Appends, Keeps}
use Rattle.ftp_base.specs.Ascii.{AppendsFront}
use Rattle.ftp_script.specs.declared.script.Script.{Script}
use Rattle.ftp_script.specs.declared.program.PlayError.{PlayError}
use Rattle.ftp_script.specs.declared.program.PlayError.TheVariants.{NotUnderstood, Io, OutOfMemory}
use Rattle.ftp_script.specs.Playing.{IsTranscript}
use Rattle.ftp_script.specs.Script.{lines_of}
use Rattle.ftp_script.specs.Shown.{shown}

-- the first of some lines; nothing where there is none
abbrev pub first_line : List (List ℕ) → List ℕ
first_line [] = []
first_line (line ∷ lines) = line

-- the line of a text that has this number, counted from 1
abbrev pub line_at : ℕ → List ℕ → List ℕ
line_at number text = first_line (drop (number - 1) (lines_of text))

-- what is told of a line of a script that isn't understood: its number, and itself
abbrev pub not_understood : ℕ → List ℕ → List ℕ
not_understood number line = codes "suppaftp: line " ++ decimal number ++ codes ": not understood\n    " ++ shown line ++ (10 ∷ [])

-- a writer, where what it holds is known, got a transcript of a script
abbrev pub Writes : Script → Option (List ℕ) → Option (List ℕ) → Type 0
Writes script old new = (text : List ℕ) × IsTranscript script text × Appends old new text

-- a writer got a front of a transcript, or nothing
abbrev pub WritesFront : Script → Option (List ℕ) → Option (List ℕ) → Type 0
WritesFront script old new = Keeps old new ⊎ ((text : List ℕ) × IsTranscript script text × AppendsFront old new text)

-- the program ends with this status, for this text. Where a line isn't understood: with 2, and that line is told, or, where something
-- failed, with 1; the transcript gets nothing. Else with 0, and the transcript was written, or with 1
abbrev pub Ends : List ℕ → Result Script ℕ → ℕ → Option (List ℕ) → Option (List ℕ) → Option (List ℕ) → Option (List ℕ) → Type 0
Ends text (Err number) status writer writer' errors errors' =
    Keeps writer writer' × ((status ≡ 1) ⊎ ((status ≡ 2) × Appends errors errors' (not_understood number (line_at number text))))
Ends text (Ok script) status writer writer' errors errors' =
    ((status ≡ 1) × WritesFront script writer writer') ⊎ ((status ≡ 0) × Writes script writer writer' × Keeps errors errors')

-- a script was read whole, played and written, or why not
abbrev pub Ran : List ℕ → Result Script ℕ → Result (Unit {0}) PlayError → Option (List ℕ) → Option (List ℕ) → Type 0
Ran text (Err number) (Ok done) old new = ⊥
Ran text (Err number) (Err (NotUnderstood told)) old new = (told ≡ not_understood number (line_at number text)) × Keeps old new
Ran text (Err number) (Err (Io cause)) old new = Keeps old new
Ran text (Err number) (Err OutOfMemory) old new = Keeps old new
Ran text (Ok script) (Ok done) old new = Writes script old new
Ran text (Ok script) (Err (NotUnderstood told)) old new = ⊥
Ran text (Ok script) (Err (Io cause)) old new = WritesFront script old new
Ran text (Ok script) (Err OutOfMemory) old new = Keeps old new

-- why there is no transcript is told
abbrev pub Reports : PlayError → ℕ → Option (List ℕ) → Option (List ℕ) → Type 0
Reports (NotUnderstood told) status old new = (status ≡ 1) ⊎ ((status ≡ 2) × Appends old new told)
Reports (Io cause) status old new = status ≡ 1
Reports OutOfMemory status old new = status ≡ 1

-- this is told of a line, or there was no memory for it
abbrev pub IsPuzzled : List ℕ → PlayError → Type 0
IsPuzzled due (NotUnderstood told) = told ≡ due
IsPuzzled due (Io cause) = ⊥
IsPuzzled due OutOfMemory = Unit {0}

-- a read or an allocation failed
abbrev pub IsFault : PlayError → Type 0
IsFault (NotUnderstood told) = ⊥
IsFault (Io cause) = Unit {0}
IsFault OutOfMemory = Unit {0}
