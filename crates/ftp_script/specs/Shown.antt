-- How a transcript is written.
use Rattle.std.specs.Prelude.{ℕ, ◌+◌, ◌/◌, ◌%◌, ◌==◌, ◌&&◌, nat_le, nat_lt, bytes_eq, List, [], ◌∷◌, ◌++◌, take, drop, Option, Some, None, codes, if◌then◌else◌}
use Rattle.std.specs.List.{flat_map, onto_first}
use Rattle.std.specs.Fmt.{decimal}
use Rattle.std.specs.Net.Text.{socket_text}
use Rattle.ftp_base.specs.Fault.{number_of}
use Rattle.ftp_base.specs.Status.{code_of}
use Rattle.ftp_base.specs.Features.{Entries, Feature}
use Rattle.ftp_base.specs.declared.types.fault.FtpError.{FtpError}
use Rattle.ftp_base.specs.declared.types.fault.FtpError.TheVariants.{ConnectionError as OfConnection, SecureError, UnexpectedResponse, BadResponse, DataConnectionAlreadyOpen, OutOfMemory, SessionFailed, InvalidAddress}
use Rattle.ftp_transport.specs.declared.request.Asked.{Asked}
use Rattle.ftp_transport.specs.declared.request.Request.{Request}
use Rattle.ftp_transport.specs.declared.request.Request.TheVariants.{Connect, Listen, Accept, Build}
use Rattle.ftp_calls.specs.declared.call.Answer.{Answer}
use Rattle.ftp_calls.specs.declared.call.Answer.TheVariants.{Unit as Done, Reply, Text, Time, Size, Features, Opened, OpenedWith, Bytes, Lines, Count, NoTransfer, Fault}

-- a hexadecimal digit, in lower case
abbrev pub hex_digit : ℕ → ℕ
hex_digit value = if nat_lt value 10 then 48 + value else 87 + value

-- a byte as text: `\r`, `\n`, `\\`, itself from 20 to 7e hexadecimal, or `\xHH`
abbrev pub shown_byte : ℕ → List ℕ
shown_byte byte =
    if byte == 13 then 92 ∷ 114 ∷ []
    else (if byte == 10 then 92 ∷ 110 ∷ []
    else (if byte == 92 then 92 ∷ 92 ∷ []
    else (if nat_le 32 byte && nat_le byte 126 then byte ∷ []
    else 92 ∷ 120 ∷ hex_digit (byte / 16) ∷ hex_digit (byte % 16) ∷ [])))

-- bytes as text
abbrev pub shown : List ℕ → List ℕ
shown bytes = flat_map shown_byte bytes

-- the lines of what was sent, each with its LF, which the last may lack
abbrev pub sent_lines : List ℕ → List (List ℕ)
sent_lines [] = []
sent_lines (byte ∷ bytes) =
    if byte == 10 then (byte ∷ []) ∷ sent_lines bytes else onto_first byte (sent_lines bytes)

-- what stands after an error's number: the code of the status of an unexpected reply
abbrev pub after_number : FtpError → List ℕ
after_number (OfConnection cause) = []
after_number (SecureError cause) = []
after_number (UnexpectedResponse reply) = codes " " ++ decimal (code_of reply.status)
after_number BadResponse = []
after_number DataConnectionAlreadyOpen = []
after_number OutOfMemory = []
after_number SessionFailed = []
after_number InvalidAddress = []

-- a feature as text: its name, and where it has a value `=` and that
abbrev pub value_text : Option (List ℕ) → List ℕ
value_text None = []
value_text (Some value) = codes "=" ++ shown value

abbrev pub feature_text : Feature → List ℕ
feature_text feature = shown feature.0 ++ value_text feature.1

-- features as text, each after the first behind `;`
abbrev pub later_text : Feature → List ℕ
later_text feature = codes ";" ++ feature_text feature

abbrev pub features_text : Entries → List ℕ
features_text [] = []
features_text (first ∷ others) = feature_text first ++ flat_map later_text others

-- lines as text, each after the first behind an LF
abbrev pub later_line : List ℕ → List ℕ
later_line line = shown (10 ∷ line)

abbrev pub lines_text : List (List ℕ) → List ℕ
lines_text [] = []
lines_text (first ∷ others) = shown first ++ flat_map later_line others

-- an answer as text
abbrev pub answer_text : Answer → List ℕ
answer_text Done = codes "ok"
answer_text (Reply reply) = codes "ok " ++ shown reply.body
answer_text (Text text) = codes "ok " ++ shown text
answer_text (Time time) = codes "ok"
answer_text (Size size) = codes "ok " ++ decimal size
answer_text (Features features) = codes "ok " ++ features_text features
answer_text Opened = codes "ok"
answer_text (OpenedWith reply) = codes "ok " ++ shown reply.body
answer_text (Bytes bytes) = codes "ok " ++ shown bytes
answer_text (Lines lines) = codes "ok " ++ lines_text lines
answer_text (Count count) = codes "ok " ++ decimal count
answer_text NoTransfer = codes "NoTransfer"
answer_text (Fault fault) = codes "E" ++ decimal (number_of fault) ++ after_number fault

-- a line that was sent
abbrev pub sent_text : List ℕ → List ℕ
sent_text line = codes "C: " ++ shown line ++ 10 ∷ []

-- the address of a connection that was asked for; a script asks for no other thing
abbrev pub request_text : Request → List ℕ
request_text (Connect address limit) = codes "D: " ++ socket_text address ++ 10 ∷ []
request_text (Listen address) = []
request_text (Accept deadline) = []
request_text (Build address) = []

abbrev pub asked_text : Asked → List ℕ
asked_text asked = request_text asked.request

-- how many addresses come after a line: one, where it asked the server where to connect
abbrev pub addresses_after : List ℕ → ℕ
addresses_after line =
    if bytes_eq line (codes "PASV\r\n") then 1
    else (if bytes_eq line (codes "EPSV\r\n") then 1 else 0)

-- the lines that were sent, and each address that was asked for, after the line that brought it
abbrev pub exchanged_text : List (List ℕ) → List Asked → List ℕ
exchanged_text [] asked = flat_map asked_text asked
exchanged_text (line ∷ lines) asked =
    sent_text line ++ flat_map asked_text (take (addresses_after line) asked)
    ++ exchanged_text lines (drop (addresses_after line) asked)

-- a call: the lines that were sent and the addresses that were asked for, and its answer
abbrev pub call_text : List ℕ → List Asked → Answer → List ℕ
call_text sent asked answer = exchanged_text (sent_lines sent) asked ++ codes "A: " ++ answer_text answer ++ 10 ∷ []

-- the last line: how many bytes of the server were taken
abbrev pub end_text : ℕ → List ℕ
end_text taken = codes "T: " ++ decimal taken ++ 10 ∷ []
