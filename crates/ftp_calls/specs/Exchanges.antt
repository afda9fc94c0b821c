-- What each call says and hears, one row an exchange: RFC 959, sections 4.1, 5.4 and 6; RFC 2389, sections
-- 3 (FEAT) and 4 (OPTS); RFC 2428, sections 2 (EPRT) and 3 (EPSV); RFC 3659, sections 3 (MDTM), 4 (SIZE), 5 (REST) and 7
-- (MLST); draft-somers-ftp-mfxx-04, section 3 (MFMT). All that a call does follows from its rows.
use Rattle.std.specs.Prelude.{◌≡◌, refl, Bool, true, false, not, ◌&&◌, ◌||◌, nat_lt, ℕ, if◌then◌else◌, List, [], ◌∷◌, Option, Some, None, is_none, option_map}
use Rattle.ftp_base.specs.declared.status.Status.{Status}
use Rattle.ftp_base.specs.declared.status.Status.TheVariants.{AlreadyOpen, AboutToSend, CommandOk, System, File, Ready, Closing, ClosingDataConnection, TransferAborted, PassiveMode, ExtendedPassiveMode, LoggedIn, RequestedFileActionOk, PathCreated, NeedPassword, RequestFilePending, BadCommand, BadArguments, NotImplemented, NotImplementedParameter, Unknown}
use Rattle.ftp_base.specs.declared.types.file_type.FileType.{FileType}
use Rattle.ftp_base.specs.declared.types.file_type.FileType.TheVariants.{Ascii, Ebcdic, Image, Binary, Local}
use Rattle.ftp_base.specs.declared.command.Command.{Command}
use Rattle.ftp_base.specs.declared.command.Command.TheVariants as command
use Rattle.ftp_calls.specs.declared.call.Call.{Call}
use Rattle.ftp_calls.specs.declared.call.Call.TheVariants.{Greet, Login, Cwd, Cdup, Pwd, Noop, Resync, Eprt, Opts, Site, TransferType, Mkdir, Rmdir, Rm, Rename, Quit, Mlst, Mdtm, SetModified, Size, Feat, CustomCommand, ReadResponse, ReadResponseIn, ResumeTransfer, RetrAsStream, PutWithStream, AppendWithStream, CustomDataCommand, Retr, List as Listing, Nlst, Mlsd, PutFile, AppendFile, Set, Read, Write, Finish, Abort, Leave, Drain}
use Rattle.ftp_calls.specs.declared.call.BorrowedCall.{BorrowedCall}
use Rattle.ftp_calls.specs.declared.call.BorrowedCall.TheVariants as borrowed
use Rattle.ftp_calls.specs.declared.exchange.Turn.{Turn}
use Rattle.ftp_calls.specs.declared.exchange.Turn.TheVariants.{First, Second, Passive, ExtendedPassive, Active, Restart, Closed, Aborted}
use Rattle.ftp_calls.specs.declared.exchange.Codes.{Codes}
use Rattle.ftp_calls.specs.declared.exchange.Codes.TheVariants.{One, Either, Given, Features}
use Rattle.ftp_calls.specs.declared.exchange.Ending.{Ending}
use Rattle.ftp_calls.specs.declared.exchange.Ending.TheVariants.{Done, GivesReply, TakesReply, Greets, GivesPath, GivesSecondLine, GivesTime, GivesSize, GivesFeatures, SetsText, GoesOn, Continues, GivesAddress, GivesPort, Opens, Performs, Finishes, Drains, Stops}
use Rattle.ftp_calls.specs.declared.exchange.Fetch.{Fetch}
use Rattle.ftp_calls.specs.declared.exchange.Fetch.TheVariants.{Whole, Listed}
use Rattle.ftp_calls.specs.declared.exchange.Task.{Task}
use Rattle.ftp_calls.specs.declared.exchange.Task.TheVariants as task
use Rattle.ftp_calls.specs.declared.exchange.Row.{Row}
use Rattle.ftp_calls.specs.declared.exchange.Row.TheVariants.{Exchanges, Arms, Resyncs, Sets, Moves}
use Rattle.ftp_calls.specs.declared.exchange.Movement.TheVariants as movement
use Rattle.ftp_calls.specs.Active.{port_command}
use Rattle.ftp_calls.specs.Times.{time_value}

-- the call that a method's arguments make
abbrev pub call_of : BorrowedCall → Call
call_of (borrowed.Login user password) = Login user.now password.now
call_of (borrowed.Cwd directory) = Cwd directory.now
call_of borrowed.Cdup = Cdup
call_of borrowed.Pwd = Pwd
call_of borrowed.Noop = Noop
call_of borrowed.Resync = Resync
call_of (borrowed.Eprt address) = Eprt address
call_of (borrowed.Opts name value) = Opts name.now (option_map (λ text. text.now) value)
call_of (borrowed.Site words) = Site words.now
call_of (borrowed.TransferType kind) = TransferType kind.now
call_of (borrowed.Mkdir path) = Mkdir path.now
call_of (borrowed.Rmdir path) = Rmdir path.now
call_of (borrowed.Rm path) = Rm path.now
call_of (borrowed.Rename one other) = Rename one.now other.now
call_of borrowed.Quit = Quit
call_of (borrowed.Mlst path) = Mlst (option_map (λ text. text.now) path)
call_of (borrowed.Mdtm path) = Mdtm path.now
call_of (borrowed.SetModified path moment) = SetModified (time_value moment.now) path.now
call_of (borrowed.Size path) = Size path.now
call_of borrowed.Feat = Feat
call_of (borrowed.CustomCommand line codes) = CustomCommand line.now codes.now
call_of (borrowed.ReadResponse status) = ReadResponse status
call_of (borrowed.ReadResponseIn codes) = ReadResponseIn codes.now
call_of (borrowed.ResumeTransfer offset) = ResumeTransfer offset
call_of (borrowed.RetrAsStream path) = RetrAsStream path.now
call_of (borrowed.PutWithStream path) = PutWithStream path.now
call_of (borrowed.AppendWithStream path) = AppendWithStream path.now
call_of (borrowed.CustomDataCommand line codes) = CustomDataCommand line.now codes.now
call_of (borrowed.Retr path) = Retr path.now
call_of (borrowed.List path) = Listing (option_map (λ text. text.now) path)
call_of (borrowed.Nlst path) = Nlst (option_map (λ text. text.now) path)
call_of (borrowed.Mlsd path) = Mlsd (option_map (λ text. text.now) path)

-- the statuses that a reply may have
abbrev pub statuses : Codes → List Status
statuses (One status) = status ∷ []
statuses (Either one other) = one ∷ other ∷ []
statuses (Given codes) = codes
statuses Features = System ∷ []

-- the reply to EPSV is 229; or, where PASV follows a refusal, that of a server which hasn't it: 500, 501, 502, 504, or a code
-- that no status has, as 522: RFC 2428, section 2
abbrev pub extended_codes : Bool → Codes
extended_codes false = One ExtendedPassiveMode
extended_codes true = Given (ExtendedPassiveMode ∷ BadCommand ∷ BadArguments ∷ NotImplemented ∷ NotImplementedParameter ∷ Unknown ∷ [])

-- a command and its reply
abbrev pub says : Command → Codes → Ending → Row
says command codes ending = Exchanges (record { says = Some command; hears = codes; ending = ending })

-- a reply alone
abbrev pub hears : Codes → Ending → Row
hears codes ending = Exchanges (record { says = None; hears = codes; ending = ending })

-- a command whose data are read whole, and one whose data are these bytes
abbrev pub fetches : Command → Fetch → Row
fetches command form = says command (Either AboutToSend AlreadyOpen) (Performs (task.Fetch form))

abbrev pub stores : Command → List ℕ → Row
stores command bytes = says command (Either AlreadyOpen AboutToSend) (Performs (task.Store bytes))

-- text is in ASCII: RFC 959, section 3.1.1.1
abbrev pub is_ascii : FileType → Bool
is_ascii (Ascii format) = true
is_ascii (Ebcdic format) = false
is_ascii Image = false
is_ascii Binary = false
is_ascii (Local bits) = false

-- the end of a transfer that was left is heard
abbrev pub is_draining : Ending → Bool
is_draining Drains = true
is_draining other = false

-- a reply is a step of negotiation
abbrev pub is_negotiating : Ending → Bool
is_negotiating Continues = true
is_negotiating GivesAddress = true
is_negotiating (GivesPort tries) = true
is_negotiating other = false

-- what a call may do by itself: it is no step of negotiation, and the end of a transfer that was left is heard alone
abbrev pub is_own : Row → Bool
is_own (Exchanges exchange) = not (is_negotiating exchange.ending) && (not (is_draining exchange.ending) || is_none exchange.says)
is_own (Arms offset) = true
is_own Resyncs = true
is_own (Sets setting) = true
is_own (Moves movement) = true

-- a call does one thing by itself, or says a command, and after a reply of this status another
pub data Own : Type 0 where
  Once : (row : Row) → is_own row ≡ true → Own
  Twice : Command → Codes → Status → Command → Codes → Own

-- what each call does by itself
abbrev pub own : Call → Own
own Greet = Once (hears (One Ready) Greets) refl
own (Login user password) = Twice (command.User user) (Either LoggedIn NeedPassword) NeedPassword (command.Pass password) (One LoggedIn)
own (Cwd directory) = Once (says (command.Cwd directory) (Either CommandOk RequestedFileActionOk) Done) refl
own Cdup = Once (says command.Cdup (Either CommandOk RequestedFileActionOk) Done) refl
own Pwd = Once (says command.Pwd (One PathCreated) GivesPath) refl
own Noop = Once (says command.Noop (One CommandOk) Done) refl
own Resync = Once Resyncs refl
own (Eprt address) = Once (says (command.Eprt address) (One CommandOk) Done) refl
own (Opts name value) = Once (says (command.Opts name value) (One CommandOk) Done) refl
own (Site words) = Once (says (command.Site words) (One CommandOk) GivesReply) refl
own (TransferType kind) = Once (says (command.TransferType kind) (One CommandOk) (SetsText (is_ascii kind))) refl
own (Mkdir path) = Once (says (command.Mkd path) (Either PathCreated CommandOk) Done) refl
own (Rmdir path) = Once (says (command.Rmd path) (Either RequestedFileActionOk CommandOk) Done) refl
own (Rm path) = Once (says (command.Dele path) (Either RequestedFileActionOk CommandOk) Done) refl
own (Rename one other) = Twice (command.RenameFrom one) (One RequestFilePending) RequestFilePending (command.RenameTo other) (Either RequestedFileActionOk CommandOk)
own Quit = Once (says command.Quit (One Closing) Done) refl
own (Mlst path) = Once (says (command.Mlst path) (One RequestedFileActionOk) GivesSecondLine) refl
own (Mdtm path) = Once (says (command.Mdtm path) (One File) GivesTime) refl
own (SetModified time path) = Once (says (command.Mfmt time path) (One File) Done) refl
own (Size path) = Once (says (command.Size path) (One File) GivesSize) refl
own Feat = Once (says command.Feat Features GivesFeatures) refl
own (CustomCommand line codes) = Once (says (command.Custom line) (Given codes) GivesReply) refl
own (ReadResponse status) = Once (hears (One status) TakesReply) refl
own (ReadResponseIn codes) = Once (hears (Given codes) TakesReply) refl
own (ResumeTransfer offset) = Once (Arms offset) refl
own (RetrAsStream path) = Once (says (command.Retr path) (Either AboutToSend AlreadyOpen) (Opens false)) refl
own (PutWithStream path) = Once (says (command.Store path) (Either AlreadyOpen AboutToSend) (Opens false)) refl
own (AppendWithStream path) = Once (says (command.Appe path) (Either AlreadyOpen AboutToSend) (Opens false)) refl
own (CustomDataCommand line codes) = Once (says (command.Custom line) (Given codes) (Opens true)) refl
own (Retr path) = Once (fetches (command.Retr path) Whole) refl
own (Listing path) = Once (fetches (command.List path) Listed) refl
own (Nlst path) = Once (fetches (command.Nlst path) Listed) refl
own (Mlsd path) = Once (fetches (command.Mlsd path) Listed) refl
own (PutFile path bytes) = Once (stores (command.Store path) bytes) refl
own (AppendFile path bytes) = Once (stores (command.Appe path) bytes) refl
own (Set setting) = Once (Sets setting) refl
own (Read most) = Once (Moves (movement.Read most)) refl
own (Write bytes) = Once (Moves (movement.Write bytes)) refl
own Finish = Once (hears (Either ClosingDataConnection RequestedFileActionOk) (Finishes None)) refl
own Abort = Once (hears (One ClosingDataConnection) Stops) refl
own Leave = Once (Moves movement.Close) refl
own Drain = Once (hears (Either ClosingDataConnection RequestedFileActionOk) Drains) refl

-- at its first turn and at its last
abbrev pub at_turn : Own → Bool → Row
at_turn (Once row is) first = row
at_turn (Twice command codes status next last) true = says command codes (GoesOn status)
at_turn (Twice command codes status next last) false = says next last Done

abbrev pub own_row : Call → Bool → Row
own_row call first = at_turn (own call) first

-- what a call does at this turn. Before the command that opens a data connection the server is asked where to connect,
-- or told where the client listens, and told the offset; after a data connection was closed the transfer's last reply
-- is heard, or what the server says of ABOR
abbrev pub row_of : Call → Turn → Row
row_of call First = own_row call true
row_of call Second = own_row call false
row_of call (Passive offset after) = says command.Pasv (One PassiveMode) GivesAddress
row_of call (ExtendedPassive offset tries) = says command.Epsv (extended_codes tries) (GivesPort tries)
row_of call (Active address offset) = says (port_command address) (One CommandOk) Continues
row_of call (Restart offset) = says (command.Rest offset) (One RequestFilePending) Continues
row_of call (Closed fault) = hears (Either ClosingDataConnection RequestedFileActionOk) (Finishes fault)
row_of call Aborted = hears (Either ClosingDataConnection TransferAborted) Stops

-- what a call that succeeds gives: nothing, a reply, a text, a time, a number of bytes, features, a data connection,
-- what went over one, or the lines that did
pub data Kind : Type 0 where
  Nothing : Kind
  Replies : Kind
  Texts : Kind
  Times : Kind
  Sizes : Kind
  Lists : Kind
  Connections : Kind
  Movements : Kind
  Listings : Kind

-- what the bytes of a whole data connection are given as
abbrev pub kind_of_fetch : Fetch → Kind
kind_of_fetch Whole = Movements
kind_of_fetch Listed = Listings

-- and what is answered where bytes are sent: their number
abbrev pub kind_of_task : Task → Kind
kind_of_task (task.Fetch form) = kind_of_fetch form
kind_of_task (task.Store bytes) = Movements

abbrev pub kind_of : Ending → Kind
kind_of Done = Nothing
kind_of GivesReply = Replies
kind_of TakesReply = Replies
kind_of Greets = Nothing
kind_of GivesPath = Texts
kind_of GivesSecondLine = Texts
kind_of GivesTime = Times
kind_of GivesSize = Sizes
kind_of GivesFeatures = Lists
kind_of (SetsText text) = Nothing
kind_of (GoesOn status) = Nothing
kind_of Continues = Nothing
kind_of GivesAddress = Nothing
kind_of (GivesPort tries) = Nothing
kind_of (Opens gives_reply) = Connections
kind_of (Performs task) = kind_of_task task
kind_of (Finishes fault) = Nothing
kind_of Drains = Nothing
kind_of Stops = Nothing

-- a reply is the answer
abbrev pub gives_reply : Ending → Bool
gives_reply Done = false
gives_reply GivesReply = true
gives_reply TakesReply = true
gives_reply Greets = false
gives_reply GivesPath = false
gives_reply GivesSecondLine = false
gives_reply GivesTime = false
gives_reply GivesSize = false
gives_reply GivesFeatures = false
gives_reply (SetsText text) = false
gives_reply (GoesOn status) = false
gives_reply Continues = false
gives_reply GivesAddress = false
gives_reply (GivesPort tries) = false
gives_reply (Opens replies) = false
gives_reply (Performs task) = false
gives_reply (Finishes fault) = false
gives_reply Drains = false
gives_reply Stops = false

-- the ending of a row that is an exchange
abbrev pub ending_of : Row → Option Ending
ending_of (Exchanges exchange) = Some exchange.ending
ending_of (Arms offset) = None
ending_of Resyncs = None
ending_of (Sets setting) = None
ending_of (Moves movement) = None

-- what a row's exchange says, if anything
abbrev pub says_of : Row → Option Command
says_of (Exchanges exchange) = exchange.says
says_of (Arms offset) = None
says_of Resyncs = None
says_of (Sets setting) = None
says_of (Moves movement) = None

-- a call says a command at this turn, rather than that it hears a reply alone
abbrev pub says_at : Call → Turn → Bool
says_at call turn = not (is_none (says_of (row_of call turn)))

-- what a row gives where it succeeds
abbrev pub given_by : Row → Kind
given_by (Exchanges exchange) = kind_of exchange.ending
given_by (Arms offset) = Nothing
given_by Resyncs = Nothing
given_by (Sets setting) = Nothing
given_by (Moves movement) = Movements

-- a plain read: a reply is its answer, or ends a transfer that was left, and nothing is said
abbrev pub only_reads : Ending → Bool
only_reads ending = gives_reply ending || is_draining ending

abbrev pub reads : Row → Bool
reads (Exchanges exchange) = only_reads exchange.ending && is_none exchange.says
reads (Arms offset) = false
reads Resyncs = false
reads (Sets setting) = false
reads (Moves movement) = false

abbrev pub is_read : Call → Bool
is_read call = reads (row_of call First)

-- an accepted reply opens a data connection
abbrev pub is_opening : Ending → Bool
is_opening (Opens replies) = true
is_opening (Performs task) = true
is_opening other = false

abbrev pub opens : Row → Bool
opens (Exchanges exchange) = is_opening exchange.ending
opens (Arms offset) = false
opens Resyncs = false
opens (Sets setting) = false
opens (Moves movement) = false

-- a call opens a data connection, and so negotiates first
abbrev pub negotiates : Call → Bool
negotiates call = opens (row_of call First)

-- a transfer may begin at an offset: the commands that RFC 3659, section 5, names, and those of a caller; a listing never
-- does
abbrev pub restarts : Call → Bool
restarts (RetrAsStream path) = true
restarts (PutWithStream path) = true
restarts (AppendWithStream path) = true
restarts (CustomDataCommand line codes) = true
restarts (Retr path) = true
restarts (PutFile path bytes) = true
restarts (AppendFile path bytes) = true
restarts other = false

-- the turn after the connection is agreed on: the offset, where there is one, and then the command
abbrev pub restarted : Call → ℕ → Turn
restarted call offset = if restarts call && nat_lt 0 offset then Restart offset else Second

-- the turn that comes next, where the reply goes on
abbrev pub next_turn : Call → Turn → Option Turn
next_turn call First = Some Second
next_turn call Second = None
next_turn call (Passive offset after) = Some (restarted call offset)
next_turn call (ExtendedPassive offset tries) = Some (restarted call offset)
next_turn call (Active address offset) = Some (restarted call offset)
next_turn call (Restart offset) = Some Second
next_turn call (Closed fault) = None
next_turn call Aborted = Some Second

-- a call is none of the control connection: it changes a setting, or moves bytes over the data connection
abbrev pub local_row : Row → Bool
local_row (Exchanges exchange) = false
local_row (Arms offset) = false
local_row Resyncs = false
local_row (Sets setting) = true
local_row (Moves movement) = true

abbrev pub is_local : Call → Bool
is_local call = local_row (row_of call First)

-- a call brings a transfer to its end
abbrev pub is_finishing : Ending → Bool
is_finishing (Finishes fault) = true
is_finishing Stops = true
is_finishing other = false

abbrev pub finishing_row : Row → Bool
finishing_row (Exchanges exchange) = is_finishing exchange.ending
finishing_row (Arms offset) = false
finishing_row Resyncs = false
finishing_row (Sets setting) = false
finishing_row (Moves movement) = false

abbrev pub finishes : Call → Bool
finishes call = finishing_row (row_of call First)

-- a call aborts a transfer
abbrev pub is_aborting : Ending → Bool
is_aborting Stops = true
is_aborting other = false

abbrev pub aborting_row : Row → Bool
aborting_row (Exchanges exchange) = is_aborting exchange.ending
aborting_row (Arms offset) = false
aborting_row Resyncs = false
aborting_row (Sets setting) = false
aborting_row (Moves movement) = false

abbrev pub aborts : Call → Bool
aborts call = aborting_row (row_of call First)

-- a call reads replies until that of its own command
abbrev pub resyncing_row : Row → Bool
resyncing_row Resyncs = true
resyncing_row other = false

abbrev pub resyncs : Call → Bool
resyncs call = resyncing_row (row_of call First)

-- a call reads the last reply of a transfer that was left
abbrev pub draining_row : Row → Bool
draining_row (Exchanges exchange) = is_draining exchange.ending
draining_row (Arms offset) = false
draining_row Resyncs = false
draining_row (Sets setting) = false
draining_row (Moves movement) = false

abbrev pub drains : Call → Bool
drains call = draining_row (row_of call First)

-- a call is of a transfer: one that the session holds, or one that was left
abbrev pub moving_row : Row → Bool
moving_row (Exchanges exchange) = is_finishing exchange.ending || is_draining exchange.ending
moving_row (Arms offset) = false
moving_row Resyncs = false
moving_row (Sets setting) = false
moving_row (Moves movement) = true

abbrev pub of_transfer : Call → Bool
of_transfer call = moving_row (row_of call First)

-- the last reply of a transfer that was left comes before a call's own: that is so of each that goes over the control
-- connection, but of the greeting and of those of a transfer
abbrev pub follows_reply : Ending → Bool
follows_reply Greets = false
follows_reply (Finishes fault) = false
follows_reply Drains = false
follows_reply Stops = false
follows_reply other = true

abbrev pub drained_row : Row → Bool
drained_row (Exchanges exchange) = follows_reply exchange.ending
drained_row (Arms offset) = true
drained_row Resyncs = true
drained_row (Sets setting) = false
drained_row (Moves movement) = false

abbrev pub drains_first : Call → Bool
drains_first call = drained_row (row_of call First)

-- the transfer that a call opens is an upload: RFC 959, section 4.1.3
abbrev pub uploads : Call → Bool
uploads (PutWithStream path) = true
uploads (AppendWithStream path) = true
uploads (PutFile path bytes) = true
uploads (AppendFile path bytes) = true
uploads other = false
