-- The dialogues of a session as trees: RFC 959, sections 5.4 and 6. A tree says, hears and asks in turn, and ends
-- in an answer with the change of state.
use Rattle.std.specs.Prelude.{ℕ, zero, suc, drop, length, nat_le, nat_lt, ◌++◌, ◌&&◌, ◌||◌, Bool, true, false, List, [], ◌∷◌, ◌==◌, Option, Some, None, Result, Ok, Err, if◌then◌else◌, not}
use Rattle.std.specs.Net.Socket.{socket_ip, socket_port}
use Rattle.std.specs.declared.io.ErrorKind.{ErrorKind}
use Rattle.std.specs.declared.io.ErrorKind.TheVariants.{WriteZero}
use Rattle.std.specs.declared.net.socket_addr.SocketAddr.{SocketAddr}
use Rattle.std.specs.declared.net.socket_addr.SocketAddr.TheVariants.{V4, V6}
use Rattle.ftp_base.specs.declared.status.Status.{Status}
use Rattle.ftp_base.specs.declared.status.Status.TheVariants.{System, TransferAborted, ClosingDataConnection, CommandOk, NotAvailable, NotLoggedIn, RequestedFileActionOk, ExtendedPassiveMode, PassiveMode}
use Rattle.ftp_base.specs.Status.{code_of}
use Rattle.ftp_base.specs.declared.types.reply.Response.{Response}
use Rattle.ftp_base.specs.declared.types.fault.FtpError.{FtpError}
use Rattle.ftp_base.specs.declared.types.fault.ConnectionError.{ConnectionError}
use Rattle.ftp_base.specs.declared.command.Command.{Command}
use Rattle.ftp_base.specs.declared.command.Command.TheVariants as command
use Rattle.ftp_base.specs.Command.{text_of}
use Rattle.ftp_base.specs.Wire.{wire}
use Rattle.ftp_base.specs.Ascii.{most_bytes, wire_data}
use Rattle.ftp_base.specs.Welcome.{Welcome, welcome_text}
use Rattle.ftp_control.specs.declared.control.rule.ReplyRule.{ReplyRule}
use Rattle.ftp_control.specs.declared.control.rule.ReplyRule.TheVariants.{Strict, Lenient}
use Rattle.ftp_control.specs.declared.control.form.ReplyForm.{ReplyForm}
use Rattle.ftp_control.specs.declared.control.form.ReplyForm.TheVariants as form
use Rattle.ftp_control.specs.Answer.{form_of}
use Rattle.ftp_transport.specs.declared.request.Request.{Request}
use Rattle.ftp_transport.specs.declared.request.Request.TheVariants.{Connect, Listen, Accept}
use Rattle.ftp_transport.specs.declared.request.RequestOutcome.{RequestOutcome}
use Rattle.ftp_transport.specs.declared.request.RequestOutcome.TheVariants.{Done as Made, Address, Refused}
use Rattle.ftp_dialogue.specs.declared.state.State.{State}
use Rattle.ftp_calls.specs.declared.call.Answer.{Answer}
use Rattle.ftp_calls.specs.declared.call.Answer.TheVariants.{Unit, Reply, Text, Time, Size, Opened, OpenedWith, Lines, Fault}
use Rattle.ftp_calls.specs.declared.call.Answer.TheVariants as answer
use Rattle.ftp_base.specs.declared.types.fault.FtpError.TheVariants.{ConnectionError as Connection, SecureError, UnexpectedResponse, BadResponse, InvalidAddress, DataConnectionAlreadyOpen, OutOfMemory, SessionFailed}
use Rattle.ftp_base.specs.declared.types.fault.ConnectionError.TheVariants.{Io, NoAddress as Nowhere, SourceTooLarge, TimedOut}
use Rattle.ftp_base.specs.declared.types.mode.Mode.{Mode}
use Rattle.ftp_base.specs.declared.types.mode.Mode.TheVariants as mode
use Rattle.ftp_base.specs.Peer.{allows}
use Rattle.ftp_base.specs.Features.{Entries}
use Rattle.jiff_core.specs.declared.civil.datetime.DateTime.{DateTime}
use Rattle.ftp_calls.specs.declared.call.Call.{Call}
use Rattle.ftp_calls.specs.declared.call.Setting.{Setting}
use Rattle.ftp_calls.specs.declared.call.Setting.TheVariants as setting
use Rattle.ftp_calls.specs.declared.exchange.Movement.{Movement}
use Rattle.ftp_calls.specs.declared.exchange.Movement.TheVariants as movement
use Rattle.ftp_dialogue.specs.declared.model.NetOutcome.{NetOutcome}
use Rattle.ftp_dialogue.specs.declared.model.NetOutcome.TheVariants as came
use Rattle.ftp_dialogue.specs.declared.state.Settings.{Settings}
use Rattle.ftp_dialogue.specs.declared.state.Owed.{Owed}
use Rattle.ftp_dialogue.specs.declared.state.Owed.TheVariants as owed
use Rattle.ftp_calls.specs.declared.exchange.Turn.{Turn}
use Rattle.ftp_calls.specs.declared.exchange.Turn.TheVariants.{First, Second, Passive, ExtendedPassive, Active, Restart, Closed, Aborted}
use Rattle.ftp_calls.specs.declared.exchange.Ending.{Ending}
use Rattle.ftp_calls.specs.declared.exchange.Ending.TheVariants.{Done, GivesReply, TakesReply, Greets, GivesPath, GivesSecondLine, GivesTime, GivesSize, GivesFeatures, SetsText, GoesOn, Continues, GivesAddress, GivesPort, Opens, Performs, Finishes, Drains, Stops}
use Rattle.ftp_calls.specs.declared.exchange.Fetch.{Fetch}
use Rattle.ftp_calls.specs.declared.exchange.Fetch.TheVariants.{Whole, Listed}
use Rattle.ftp_calls.specs.declared.exchange.Task.{Task}
use Rattle.ftp_calls.specs.declared.exchange.Task.TheVariants as task
use Rattle.ftp_calls.specs.declared.exchange.Exchange.{Exchange}
use Rattle.ftp_calls.specs.declared.exchange.Row.{Row}
use Rattle.ftp_calls.specs.declared.exchange.Row.TheVariants.{Exchanges, Arms, Resyncs, Sets, Moves}
use Rattle.ftp_dialogue.specs.Coding.{Coding}
use Rattle.ftp_calls.specs.declared.exchange.Codes.{Codes}
use Rattle.ftp_calls.specs.declared.exchange.Codes.TheVariants.{One, Either, Given, Features}
use Rattle.ftp_calls.specs.Exchanges.{row_of, aborts, finishes, negotiates, restarts, uploads}
use Rattle.ftp_calls.specs.Answers.{path_of, second_line_of, size_of, features_in}
use Rattle.ftp_calls.specs.Times.{time_of}
use Rattle.ftp_calls.specs.Listing.{listing}
use Rattle.ftp_calls.specs.Addresses.{passive_address_of, extended_port_of}
use Rattle.ftp_calls.specs.declared.answers.addresses.NoAddress.{NoAddress}
use Rattle.ftp_calls.specs.declared.answers.addresses.NoAddress.TheVariants.{Absent, Unreadable}
use Rattle.ftp_dialogue.specs.Unanswered.{after_faulty, answered_by}
use Rattle.ftp_dialogue.specs.Sound.{cannot_open, some_live, left_behind, one_aborted, one_drained, one_finished, one_more}

-- a reply that is awaited: its form, and the statuses that are accepted
pub record Expected : Type 0 where
  pub form : ReplyForm
  pub statuses : List Status

-- a reply under these statuses
abbrev pub expecting : List Status → Expected
expecting codes = record { form = form_of codes; statuses = codes }

-- the reply that an exchange awaits: the answer to FEAT may be followed by a list
abbrev pub expected_of : Codes → Expected
expected_of (One status) = expecting (status ∷ [])
expected_of (Either one other) = expecting (one ∷ other ∷ [])
expected_of (Given codes) = expecting codes
expected_of Features = record { form = form.Features; statuses = System ∷ [] }

-- the ends of the control connection: the client's and the server's
pub data End : Type 0 where
  Here : End
  There : End

-- what is left of a call: a command's line, or its refusal, is said; a reply of one of these statuses is heard, or
-- an error in its place; the address of an end of the control connection is looked up; the transport is asked for
-- something; the caller's builder is asked for a connection to an address, and makes one or gives an error; the
-- connector is asked to put the data connection under TLS, and does or gives an error; something is done on the data
-- connection; or the call ends with this answer, in this state
pub data Tree : Type 0 where
  Say : Result (List ℕ) ConnectionError → Tree → Tree
  Hear : Expected → (Result Response FtpError → Tree) → Tree
  Look : End → (SocketAddr → Tree) → Tree
  Ask : Request → (RequestOutcome → Tree) → Tree
  Build : SocketAddr → (Option FtpError → Tree) → Tree
  Secure : (Option FtpError → Tree) → Tree
  Move : Movement → (NetOutcome → Tree) → Tree
  Leaf : Answer → State → Tree

-- what a greeting's bytes say in an encoding
abbrev pub greeting_of : Coding → List ℕ → Welcome
greeting_of coding greeting = record { greeting = greeting; text = welcome_text coding.decode greeting }

-- the answers that the text of a reply gives: a path between quotes, a second line, a time, a number of bytes, features
abbrev pub path_answer : Response → Option (List ℕ) → Answer
path_answer reply None = Fault (UnexpectedResponse reply)
path_answer reply (Some path) = Text path

abbrev pub line_answer : Option (List ℕ) → Answer
line_answer None = Fault BadResponse
line_answer (Some line) = Text line

abbrev pub time_answer : Option DateTime → Answer
time_answer None = Fault BadResponse
time_answer (Some time) = Time time

abbrev pub size_answer : Option ℕ → Answer
size_answer None = Fault BadResponse
size_answer (Some size) = Size size

abbrev pub features_answer : Option Entries → Answer
features_answer None = Fault BadResponse
features_answer (Some features) = answer.Features features

-- A data connection: RFC 959, sections 3.2 and 5.2; RFC 1123, section 4.1.2.7; RFC 2428

-- an address with another port
abbrev pub at_port : ℕ → SocketAddr → SocketAddr
at_port port (V4 address) = V4 (record address { port = port })
at_port port (V6 address) = V6 (record address { port = port })

-- an address of IPv4
abbrev pub is_ipv4 : SocketAddr → Bool
is_ipv4 (V4 address) = true
is_ipv4 (V6 address) = false

-- what the address that a request resulted in leads to; where there is none the error is the answer
abbrev pub on_address : State → (SocketAddr → Tree) → RequestOutcome → Tree
on_address state next Made = Leaf (Fault (Connection Nowhere)) state
on_address state next (Address address) = next address
on_address state next (Refused fault) = Leaf (Fault (Connection fault)) state

-- a connection to an address is asked for
abbrev pub on_connection : State → Tree → RequestOutcome → Tree
on_connection state next Made = next
on_connection state next (Address address) = next
on_connection state next (Refused fault) = Leaf (Fault (Connection fault)) state

-- a connection that the builder or the connector makes; its error is the answer as it is
abbrev pub on_built : State → Tree → Option FtpError → Tree
on_built state next None = next
on_built state next (Some fault) = Leaf (Fault fault) state

abbrev pub connecting_to : SocketAddr → State → Tree → Tree
connecting_to address state next =
    if state.settings.stream_builder then Build address (on_built state next)
    else Ask (Connect address None) (on_connection state next)

-- a connection to a port of the control connection's peer
abbrev pub connecting_to_peer : ℕ → State → Tree → Tree
connecting_to_peer port state next =
    Look There (λ peer. connecting_to (at_port port peer) state next)

-- a reply that tells no address, or can't be read
abbrev pub no_address : Response → NoAddress → FtpError
no_address reply Absent = UnexpectedResponse reply
no_address reply Unreadable = BadResponse

-- the address that the server told; behind a router that rewrites addresses the peer's takes its host's place
abbrev pub to_address : State → Response → Tree → Result SocketAddr NoAddress → Tree
to_address state reply next (Ok address) =
    if state.settings.passive_nat_workaround then connecting_to_peer (socket_port address) state next
    else connecting_to address state next
to_address state reply next (Err cause) = Leaf (Fault (no_address reply cause)) state

-- the port that the server told
abbrev pub to_port : State → Response → Tree → Result ℕ NoAddress → Tree
to_port state reply next (Ok port) = connecting_to_peer port state next
to_port state reply next (Err cause) = Leaf (Fault (no_address reply cause)) state

-- EPSV was refused, and PASV follows: RFC 2428, section 2
abbrev pub falls_back : Bool → Response → Bool
falls_back tries reply = tries && not (code_of reply.status == code_of ExtendedPassiveMode)

abbrev pub on_passive : State → (State → Tree) → Result Response FtpError → Tree
on_passive state later (Ok reply) = to_address state reply (later state) (passive_address_of reply.body)
on_passive state later (Err fault) = Leaf (Fault fault) state

abbrev pub asking_passive : Coding → State → (State → Tree) → Tree
asking_passive coding state later =
    Say (wire coding.encode (text_of command.Pasv)) (Hear (expecting (PassiveMode ∷ [])) (on_passive state later))

-- a transfer is live from now on
abbrev pub with_transfer : State → State
with_transfer state = record state { counts = one_more state.counts }

-- a peer that is let in opens the data connection; others are dropped
abbrev pub admitting : Bool → Tree → Tree → Tree
admitting allowed opened others = if allowed then opened else others

abbrev pub lets_in : State → SocketAddr → SocketAddr → Bool
lets_in state peer from = allows state.settings.active_peer_check (socket_ip from) (socket_ip peer)

-- peers are accepted until one is let in; so many others may come before, and one more counts as the deadline
unfoldable pub accepting : Tree → SocketAddr → ℕ → State → Tree
accepting opened peer zero state =
    Ask (Accept state.settings.active_deadline) (on_address state (λ from. admitting (lets_in state peer from) opened (Leaf (Fault (Connection TimedOut)) state)))
accepting opened peer (suc left) state =
    Ask (Accept state.settings.active_deadline) (on_address state (λ from. admitting (lets_in state peer from) opened (accepting opened peer left state)))

-- how many strangers one data command drops
abbrev pub strangers : ℕ
strangers = 1000

-- in a secure session the data connection is put under TLS before it carries anything: RFC 4217, section 9
abbrev pub securing : Tree → State → Tree
securing opened state = if state.settings.secure then Secure (on_built state opened) else opened

-- the command was accepted: the data connection stands, or the server opens it now
abbrev pub opening : Mode → Tree → State → Tree
opening mode.Active opened state = Look There (λ peer. accepting (securing opened state) peer strangers state)
opening mode.Passive opened state = securing opened state
opening mode.ExtendedPassive opened state = securing opened state
opening mode.Automatic opened state = securing opened state

abbrev pub opened_answer : Bool → Response → Answer
opened_answer gives_reply reply = if gives_reply then OpenedWith reply else Opened

-- A transfer

-- what was done on a data connection is the answer
abbrev pub moved_answer : NetOutcome → Answer
moved_answer (came.Answered outcome) = Unit
moved_answer (came.Built fault) = Unit
moved_answer (came.Secured fault) = Unit
moved_answer (came.Read bytes) = answer.Bytes bytes
moved_answer (came.Wrote count) = answer.Count count
moved_answer came.Closed = Unit
moved_answer (came.Failed kind) = Fault (Connection (Io kind))
moved_answer came.NoMemory = Fault OutOfMemory

-- the transfer is left
abbrev pub with_left : State → State
with_left state = record state { counts = left_behind state.counts }

-- bytes go over the data connection; a read or a write of nothing asks nothing; or it is closed, and the transfer is left
abbrev pub carrying : Movement → State → Tree
carrying (movement.Read most) state =
    if most == 0 then Leaf (answer.Bytes []) state else Move (movement.Read most) (λ came. Leaf (moved_answer came) state)
carrying (movement.Write bytes) state =
    if length bytes == 0 then Leaf (answer.Count 0) state else Move (movement.Write bytes) (λ came. Leaf (moved_answer came) state)
carrying movement.Close state = Move movement.Close (λ came. Leaf Unit (with_left state))

-- the transfer has come to its end
abbrev pub with_finished : State → State
with_finished state = record state { counts = one_finished state.counts }

-- the transfer that was left has come to its end
abbrev pub with_drained : State → State
with_drained state = record state { counts = one_drained state.counts }

-- ABOR went out: the transfer was aborted
abbrev pub with_aborted : State → State
with_aborted state = record state { counts = one_aborted state.counts }

-- the error of a close
abbrev pub fault_of_close : NetOutcome → Option ErrorKind
fault_of_close (came.Failed kind) = Some kind
fault_of_close other = None

-- the error of an upload's close is told before the reply's
abbrev pub told_of_close : Bool → NetOutcome → Option ErrorKind
told_of_close uploads outcome = if uploads then fault_of_close outcome else None

abbrev pub finish_answer : Option ErrorKind → Answer
finish_answer None = Unit
finish_answer (Some kind) = Fault (Connection (Io kind))

abbrev pub finish_fault : Option ErrorKind → FtpError → FtpError
finish_fault None fault = fault
finish_fault (Some kind) fault = Connection (Io kind)

-- a reply of another status ends a transfer that was left as well
abbrev pub drain_answer : FtpError → Answer
drain_answer (UnexpectedResponse reply) = Unit
drain_answer fault = Fault fault

-- memory ran out
abbrev pub wants_memory : FtpError → Bool
wants_memory (Connection cause) = false
wants_memory (SecureError text) = false
wants_memory (UnexpectedResponse reply) = false
wants_memory BadResponse = false
wants_memory InvalidAddress = false
wants_memory DataConnectionAlreadyOpen = false
wants_memory OutOfMemory = true
wants_memory SessionFailed = false

-- an error is heard in place of a reply: what is answered, and in which state. Where memory ran out for a transfer's
-- last reply the transfer is left; a transfer that is aborted stays aborted
abbrev pub answer_to_fault : Ending → FtpError → Answer
answer_to_fault (Finishes close) fault = Fault (finish_fault close fault)
answer_to_fault Drains fault = drain_answer fault
answer_to_fault other fault = Fault fault

abbrev pub after_fault_of : Ending → FtpError → State → State
after_fault_of (Finishes close) fault state = if wants_memory fault then state else with_finished state
after_fault_of Drains fault state = if wants_memory fault then state else with_drained state
after_fault_of Stops fault state = with_aborted state
after_fault_of TakesReply fault state = after_faulty fault state
after_fault_of other fault state = state

-- A whole data connection: RFC 959, sections 4.1.3 (RETR, LIST, NLST) and 5.4; RFC 3659, section 7 (MLSD)

-- the answer for all that came: the bytes, or the lines of a listing
abbrev pub fetched : Coding → Fetch → List ℕ → Answer
fetched coding Whole all = answer.Bytes all
fetched coding Listed all = Lines (listing coding.decode all)

-- the answer where a read failed
abbrev pub unfetched : Fetch → ErrorKind → Answer
unfetched Whole kind = Fault (Connection (Io kind))
unfetched Listed kind = Fault BadResponse

-- where more came than can be held
abbrev pub too_long : Fetch → Answer
too_long Whole = Fault OutOfMemory
too_long Listed = Fault BadResponse

-- the error of the data is told before that of the last reply, and after it where a listing is fetched
abbrev pub fault_or : Answer → FtpError → FtpError
fault_or (Fault first) fault = first
fault_or other fault = fault

abbrev pub first_fault : Fetch → Answer → FtpError → FtpError
first_fault Whole answer fault = fault_or answer fault
first_fault Listed answer fault = fault

-- a transfer was opened and has come to its end
abbrev pub with_fetched : State → State
with_fetched state = with_finished (with_transfer state)

-- a transfer was opened, and is left
abbrev pub with_abandoned : State → State
with_abandoned state = with_left (with_transfer state)

-- it has come to its end whatever the last reply is, but is left where memory ran out for that
abbrev pub after_fetch : FtpError → State → State
after_fetch fault state = if wants_memory fault then with_abandoned state else with_fetched state

abbrev pub fetch_concluded : Fetch → Answer → State → Result Response FtpError → Tree
fetch_concluded form answer state (Ok reply) = Leaf answer (with_fetched state)
fetch_concluded form answer state (Err fault) = Leaf (Fault (first_fault form answer fault)) (after_fetch fault state)

-- the transfer's last reply is heard, whatever came of the data
abbrev pub fetch_ending : Fetch → Answer → State → Tree
fetch_ending form answer state = Hear (expecting (ClosingDataConnection ∷ RequestedFileActionOk ∷ [])) (fetch_concluded form answer state)

-- the data connection is closed first; the error of an upload's close is the answer, and another's is discarded
abbrev pub closed_as : Option ErrorKind → Answer → Answer
closed_as None answer = answer
closed_as (Some kind) answer = Fault (Connection (Io kind))

abbrev pub fetch_closing_data : Fetch → Answer → State → Tree
fetch_closing_data form answer state = Move movement.Close (λ came. fetch_ending form (closed_as (told_of_close state.uploads came) answer) state)

-- so many bytes one read asks for; so many reads are enough, since each gives a byte but the last
abbrev pub chunk : ℕ
chunk = 65536

abbrev pub most_reads : ℕ
most_reads = 9223372036854775808

-- bytes came
abbrev pub grown : Fetch → List ℕ → (List ℕ → Tree) → (Answer → Tree) → Tree
grown form all on over = if nat_le (length all) most_bytes then on all else over (too_long form)

-- what a read resulted in: bytes, the end, a failure, or that there was no memory
abbrev pub on_data : Coding → Fetch → List ℕ → (List ℕ → Tree) → (Answer → Tree) → NetOutcome → Tree
on_data coding form all on over (came.Read []) = over (fetched coding form all)
on_data coding form all on over (came.Read (byte ∷ bytes)) = grown form (all ++ byte ∷ bytes) on over
on_data coding form all on over (came.Failed kind) = over (unfetched form kind)
on_data coding form all on over came.NoMemory = over (Fault OutOfMemory)
on_data coding form all on over other = over (too_long form)

-- the data connection is read to its end, by so many reads at most, after these bytes
unfoldable pub gathering : Coding → Fetch → ℕ → List ℕ → State → Tree
gathering coding form zero all state = fetch_closing_data form (too_long form) state
gathering coding form (suc left) all state =
    Move (movement.Read chunk) (on_data coding form all (λ more. gathering coding form left more state) (λ answer. fetch_closing_data form answer state))

-- all that it carries is read; it is closed; and the transfer's last reply is heard
abbrev pub fetching : Coding → Fetch → State → Tree
fetching coding form state = gathering coding form most_reads [] state

-- A whole upload: RFC 959, sections 3.1.1.1 and 4.1.3 (STOR, APPE)

-- where bytes can't be sent the transfer is left, and its last reply isn't heard
abbrev pub giving_up : FtpError → State → Tree
giving_up fault state = Leaf (Fault fault) (with_abandoned state)

-- what a write of bytes resulted in: so many of them have gone out, or a failure
abbrev pub on_sent : List ℕ → (List ℕ → Tree) → State → NetOutcome → Tree
on_sent rest on state (came.Wrote count) = on (drop count rest)
on_sent rest on state (came.Failed kind) = giving_up (Connection (Io kind)) state
on_sent rest on state other = giving_up (Connection (Io WriteZero)) state

-- bytes are sent, by so many writes at most, and then the answer is the number of all; as many writes as bytes are
-- enough, since each takes one
unfoldable pub sending : ℕ → ℕ → List ℕ → State → Tree
sending left total [] state = fetch_closing_data Whole (answer.Count total) state
sending zero total (byte ∷ rest) state = giving_up (Connection (Io WriteZero)) state
sending (suc left) total (byte ∷ rest) state =
    Move (movement.Write (byte ∷ rest)) (on_sent (byte ∷ rest) (λ more. sending left total more state) state)

-- how many bytes there are, where they can be sent
abbrev pub size_to_send : List ℕ → Option ℕ
size_to_send bytes = if nat_le (length bytes) most_bytes then Some (length bytes) else None

abbrev pub sending_all : Option ℕ → List ℕ → State → Tree
sending_all (Some total) bytes state = sending total total bytes state
sending_all None bytes state = giving_up (Connection SourceTooLarge) state

abbrev pub storing : List ℕ → State → Tree
storing bytes state = sending_all (size_to_send (wire_data state.settings.text bytes)) (wire_data state.settings.text bytes) state

-- what is done with a whole data connection
abbrev pub performing : Coding → Task → State → Tree
performing coding (task.Fetch form) state = fetching coding form state
performing coding (task.Store bytes) state = storing bytes state

-- Exchanges

-- what an accepted reply does, where `later` is the next exchange
abbrev pub accepted : Coding → Ending → State → Response → (State → Tree) → Tree
accepted coding Done state reply later = Leaf Unit state
accepted coding GivesReply state reply later = Leaf (Reply reply) state
accepted coding TakesReply state reply later = Leaf (Reply reply) (answered_by reply state)
accepted coding Greets state reply later = Leaf Unit (record state { welcome = Some (greeting_of coding reply.body) })
accepted coding GivesPath state reply later = Leaf (path_answer reply (path_of coding.decode reply.body)) state
accepted coding GivesSecondLine state reply later = Leaf (line_answer (second_line_of coding.decode reply.body)) state
accepted coding GivesTime state reply later = Leaf (time_answer (time_of reply.body)) state
accepted coding GivesSize state reply later = Leaf (size_answer (size_of reply.body)) state
accepted coding GivesFeatures state reply later = Leaf (features_answer (features_in reply.body)) state
accepted coding (SetsText text) state reply later = Leaf Unit (record state { settings = record state.settings { text = text } })
accepted coding (GoesOn status) state reply later = if code_of reply.status == code_of status then later state else Leaf Unit state
accepted coding Continues state reply later = later state
accepted coding GivesAddress state reply later = to_address state reply (later state) (passive_address_of reply.body)
accepted coding (GivesPort tries) state reply later =
    if falls_back tries reply then asking_passive coding state later else to_port state reply (later state) (extended_port_of reply.body)
accepted coding (Opens gives_reply) state reply later = opening state.settings.mode (Leaf (opened_answer gives_reply reply) (with_transfer state)) state
accepted coding (Performs task) state reply later = opening state.settings.mode (performing coding task state) state
accepted coding (Finishes close) state reply later = Leaf (finish_answer close) (with_finished state)
accepted coding Drains state reply later = Leaf Unit (with_drained state)
accepted coding Stops state reply later = if code_of reply.status == code_of TransferAborted then later state else Leaf Unit (with_aborted state)

-- a reply is accepted, or an error is the answer
abbrev pub concluded : Coding → Ending → State → (State → Tree) → Result Response FtpError → Tree
concluded coding ending state later (Ok reply) = accepted coding ending state reply later
concluded coding ending state later (Err fault) = Leaf (answer_to_fault ending fault) (after_fault_of ending fault state)

-- a reply is awaited
abbrev pub awaiting : Coding → Expected → Ending → State → (State → Tree) → Tree
awaiting coding expected ending state later = Hear expected (concluded coding ending state later)

-- a command is said first, where there is one
abbrev pub saying : Coding → Option Command → Tree → Tree
saying coding None next = next
saying coding (Some command) next = Say (wire coding.encode (text_of command)) next

-- one exchange, and what comes after it
abbrev pub exchanging : Coding → Exchange → State → (State → Tree) → Tree
exchanging coding exchange state later =
    saying coding exchange.says (awaiting coding (expected_of exchange.hears) exchange.ending state later)

-- the next transfer begins at this offset
abbrev pub armed : ℕ → State → State
armed offset state = record state { settings = record state.settings { restart_offset = offset } }

-- strictly as RFC 959, section 4.2, has it, or leniently
abbrev pub rule_by : Bool → ReplyRule
rule_by lenient = if lenient then Lenient else Strict

-- a setting changes
abbrev pub changed : Setting → Settings → Settings
changed (setting.Mode mode) s = record s { mode = mode }
changed (setting.PassiveNatWorkaround enabled) s = record s { passive_nat_workaround = enabled }
changed (setting.ActivePeerCheck check) s = record s { active_peer_check = check }
changed (setting.ActiveDeadline deadline) s = record s { active_deadline = deadline }
changed (setting.LenientReplies lenient) s = record s { reply_rule = rule_by lenient }

abbrev pub set_to : Setting → State → State
set_to setting state = record state { settings = changed setting state.settings }

-- A server that sent more replies than a dialogue reads, as after an abort: RFC 959, sections 4.2 and 4.1.3 (NOOP)

-- another reply than that to NOOP: the next one is read, unless the server closes the connection (421), or refuses NOOP
-- itself, as some do before a login (530)
abbrev pub ends_search : Response → Bool
ends_search reply = code_of reply.status == code_of NotAvailable || code_of reply.status == code_of NotLoggedIn

abbrev pub passing_over : Tree → State → Response → Tree
passing_over next state reply = if ends_search reply then Leaf (Fault (UnexpectedResponse reply)) state else next

-- the reply to NOOP was read, or another, or an error in its place
abbrev pub sought : (Response → Tree) → State → Result Response FtpError → Tree
sought others state (Ok reply) = Leaf Unit state
sought others state (Err (UnexpectedResponse reply)) = others reply
sought others state (Err fault) = Leaf (Fault fault) state

-- the reply to NOOP is read, before which so many others may come; one more is the answer
unfoldable pub seeking : ℕ → State → Tree
seeking zero state = Hear (expecting (CommandOk ∷ [])) (sought (λ reply. Leaf (Fault (UnexpectedResponse reply)) state) state)
seeking (suc left) state = Hear (expecting (CommandOk ∷ [])) (sought (passing_over (seeking left state) state) state)

abbrev pub most_passed_over : ℕ
most_passed_over = 7

-- NOOP is said, and its reply is read; beside a live transfer nothing is
abbrev pub resyncing : Coding → State → Tree
resyncing coding state =
    if some_live state.counts.owed then Leaf (Fault DataConnectionAlreadyOpen) state
    else saying coding (Some command.Noop) (seeking most_passed_over state)

-- a row, and what comes after it: one exchange, a change of settings, replies until that to NOOP, or bytes on the data
-- connection
abbrev pub doing : Coding → Row → State → (State → Tree) → Tree
doing coding (Exchanges exchange) state later = exchanging coding exchange state later
doing coding (Arms offset) state later = Leaf Unit (armed offset state)
doing coding Resyncs state later = resyncing coding state
doing coding (Sets setting) state later = Leaf Unit (set_to setting state)
doing coding (Moves movement) state later = carrying movement state

-- the last turn, and the one before it where an offset is told
abbrev pub last_turn : Coding → Call → State → Tree
last_turn coding call state = doing coding (row_of call Second) state (λ s. Leaf Unit s)

abbrev pub restart_turn : Coding → Call → ℕ → State → Tree
restart_turn coding call offset state =
    if restarts call && nat_lt 0 offset then doing coding (row_of call (Restart offset)) state (last_turn coding call)
    else last_turn coding call state

-- what comes after the row of this turn: the next one, or nothing
abbrev pub later : Coding → Call → Turn → State → Tree
later coding call First state = last_turn coding call state
later coding call Second state = Leaf Unit state
later coding call (Passive offset after) state = restart_turn coding call offset state
later coding call (ExtendedPassive offset tries) state = restart_turn coding call offset state
later coding call (Active address offset) state = restart_turn coding call offset state
later coding call (Restart offset) state = last_turn coding call state
later coding call (Closed close) state = Leaf Unit state
later coding call Aborted state = last_turn coding call state

-- the dialogue of a call from this turn on
abbrev pub from_turn : Coding → Call → Turn → State → Tree
from_turn coding call turn state = doing coding (row_of call turn) state (later coding call turn)

-- the client listens at its own end of the control connection, at any free port, and tells the server where
abbrev pub listening_at : Coding → Call → ℕ → State → SocketAddr → Tree
listening_at coding call offset state local =
    Ask (Listen (at_port 0 local)) (on_address state (λ bound. from_turn coding call (Active (at_port (socket_port bound) local) offset) state))

abbrev pub listening : Coding → Call → ℕ → State → Tree
listening coding call offset state = Look Here (listening_at coding call offset state)

-- the client asks by EPSV; over IPv4, which PASV has as well, by PASV where that is refused
abbrev pub choosing_for : Coding → Call → ℕ → State → SocketAddr → Tree
choosing_for coding call offset state peer = from_turn coding call (ExtendedPassive offset (is_ipv4 peer)) state

abbrev pub choosing : Coding → Call → ℕ → State → Tree
choosing coding call offset state = Look There (choosing_for coding call offset state)

-- who opens the data connection, and how it is asked for
abbrev pub opening_data : Mode → Coding → Call → ℕ → State → Tree
opening_data mode.Active coding call offset state = listening coding call offset state
opening_data mode.Passive coding call offset state = from_turn coding call (Passive offset false) state
opening_data mode.ExtendedPassive coding call offset state = from_turn coding call (ExtendedPassive offset false) state
opening_data mode.Automatic coding call offset state = choosing coding call offset state

-- a data connection is negotiated, for a transfer that begins at this offset, where it can be opened
abbrev pub negotiating_unless : Option FtpError → Coding → Call → ℕ → State → Tree
negotiating_unless (Some fault) coding call offset state = Leaf (Fault fault) state
negotiating_unless None coding call offset state = opening_data state.settings.mode coding call offset state

abbrev pub negotiating : Coding → Call → ℕ → State → Tree
negotiating coding call offset state = negotiating_unless (cannot_open state.counts) coding call offset state

-- the data connection is closed, and the transfer's last reply is heard
abbrev pub closing : Coding → Call → State → Tree
closing coding call state = Move movement.Close (λ came. from_turn coding call (Closed (told_of_close state.uploads came)) state)

-- ABOR goes out, the data connection is closed, and what the server says of it is heard
abbrev pub breaking_off : Coding → Call → State → Tree
breaking_off coding call state = Move movement.Close (λ came. from_turn coding call Aborted state)

abbrev pub aborting : Coding → Call → State → Tree
aborting coding call state = saying coding (Some command.Abor) (breaking_off coding call state)

-- how a transfer is brought to its end
abbrev pub closing_data : Coding → Call → State → Tree
closing_data coding call state = if aborts call then aborting coding call state else closing coding call state

-- whether a transfer is an upload, of the one that is opened, or of the one that is owed
abbrev pub uploads_beside : Owed → Bool → Bool → Bool
uploads_beside owed.Nothing opened before = opened
uploads_beside (owed.Live number) opened before = before
uploads_beside (owed.Left number) opened before = before

-- the state in which a call begins: one that opens a data connection takes the offset away; one that brings a transfer
-- to its end has left it
abbrev pub opened_from : Call → State → State
opened_from call state = record (armed 0 state) { uploads = uploads_beside state.counts.owed (uploads call) state.uploads }

abbrev pub entered : Call → State → State
entered call state = if negotiates call then opened_from call state else if finishes call then with_left state else state

-- the dialogue of a call; one that opens a data connection takes the offset away, whatever comes of it
abbrev pub dialogue : Coding → Call → State → Tree
dialogue coding call state =
    if negotiates call then negotiating coding call state.settings.restart_offset (opened_from call state)
    else if finishes call then closing_data coding call (with_left state)
    else from_turn coding call First state
