-- The lines of a script.
use Rattle.std.specs.Prelude.{ℕ, nat_eq, bytes_eq, List, length, drop, codes, Option, Some, None, if◌then◌else◌}
use Rattle.std.specs.List.{starts_with}
use Rattle.ftp_calls.specs.declared.call.Call.{Call}
use Rattle.ftp_script.specs.declared.line.Line.{Line}
use Rattle.ftp_script.specs.declared.line.Line.TheVariants.{Empty, Server, Data, Makes, Lenient}
use Rattle.ftp_script.specs.declared.supplies.DataConn.TheVariants.{Gives, Refused}
use Rattle.ftp_script.specs.Escapes.{unescaped}
use Rattle.ftp_script.specs.Calls.{call_of}

abbrev pub served_by : Option (List ℕ) → Option Line
served_by None = None
served_by (Some bytes) = Some (Server bytes)

abbrev pub data_by : Option (List ℕ) → Option Line
data_by None = None
data_by (Some bytes) = Some (Data (Gives bytes))

abbrev pub made_by : Option Call → Option Line
made_by None = None
made_by (Some call) = Some (Makes call)

-- what a line says, where it is understood
abbrev pub line_of : List ℕ → Option Line
line_of line =
    if nat_eq (length line) 0 then Some Empty
    else (if bytes_eq line (codes "refused") then Some (Data Refused)
    else (if bytes_eq line (codes "lenient") then Some Lenient
    else (if starts_with nat_eq line (codes "server ") then served_by (unescaped (drop 7 line))
    else (if starts_with nat_eq line (codes "data ") then data_by (unescaped (drop 5 line))
    else (if starts_with nat_eq line (codes "call ") then made_by (call_of (drop 5 line))
    else None)))))
