-- The stages of a call: what of its dialogue is left at each.
use Rattle.std.specs.Prelude.{◌≡◌, ◌<◌, ◌-◌, ◌+◌, ◌⊎◌, ◌&&◌, ℕ, suc, Bool, true, false, Option, Some, None, is_none, List, [], Result, Ok, Err}
use Rattle.futures.specs.declared.task.Poll.{Poll}
use Rattle.futures.specs.declared.task.Poll.TheVariants.{Ready, Pending}
use Rattle.ftp_base.specs.declared.command.Command.{Command}
use Rattle.ftp_base.specs.declared.command.Command.TheVariants.{Abor, Noop}
use Rattle.ftp_base.specs.Command.{text_of}
use Rattle.ftp_base.specs.Wire.{wire}
use Rattle.ftp_base.specs.declared.types.fault.FtpError.{FtpError}
use Rattle.ftp_base.specs.declared.types.fault.FtpError.TheVariants.{UnexpectedResponse}
use Rattle.ftp_base.specs.declared.types.reply.Response.{Response}
use Rattle.ftp_base.specs.declared.types.fault.ConnectionError.{ConnectionError as Cause}
use Rattle.ftp_control.specs.Refusal.{IsRefusalOf}
use Rattle.ftp_control.specs.Saying.{due}
use Rattle.ftp_dialogue.specs.declared.state.State.{State}
use Rattle.ftp_base.specs.declared.types.mode.Mode.{Mode}
use Rattle.ftp_base.specs.declared.types.mode.Mode.TheVariants as mode
use Rattle.ftp_calls.specs.declared.call.Call.{Call}
use Rattle.ftp_calls.specs.declared.call.Answer.{Answer}
use Rattle.ftp_calls.specs.declared.call.Answer.TheVariants as answer
use Rattle.ftp_calls.specs.declared.exchange.Turn.{Turn}
use Rattle.ftp_calls.specs.declared.exchange.Turn.TheVariants.{First, Second, Passive, ExtendedPassive, Active, Restart, Closed, Aborted}
use Rattle.ftp_calls.specs.declared.exchange.Exchange.{Exchange}
use Rattle.ftp_calls.specs.declared.exchange.Fetch.{Fetch}
use Rattle.ftp_calls.specs.declared.exchange.Fetch.TheVariants.{Whole}
use Rattle.ftp_calls.specs.declared.exchange.Task.{Task}
use Rattle.ftp_dialogue.specs.declared.stage.Awaits.{Awaits}
use Rattle.ftp_dialogue.specs.declared.stage.Stage.{Stage}
use Rattle.ftp_dialogue.specs.declared.stage.Stage.TheVariants.{At, Composing, Saying, Hearing, Seeking, SettingOffset, OpeningData, Transferring, Closing}
use Rattle.ftp_dialogue.specs.declared.stage.Recovery.{Recovery}
use Rattle.ftp_dialogue.specs.declared.stage.Recovery.TheVariants.{Abort, Resync}
use Rattle.ftp_dialogue.specs.declared.stage.AfterLine.{AfterLine}
use Rattle.ftp_dialogue.specs.declared.stage.AfterLine.TheVariants.{Hears, Recovers}
use Rattle.ftp_dialogue.specs.declared.stage.AfterClose.{AfterClose}
use Rattle.ftp_dialogue.specs.declared.stage.AfterClose.TheVariants.{Finishes, Aborts, Fetched as FetchedAll}
use Rattle.ftp_dialogue.specs.declared.stage.Transferring.{Transferring as Fetched}
use Rattle.ftp_dialogue.specs.declared.stage.Transferring.TheVariants.{Starting, Gathering, Sending as SendingData, Ending}
use Rattle.ftp_dialogue.specs.declared.stage.Opened.{Opened as Opening}
use Rattle.ftp_dialogue.specs.declared.stage.Opened.TheVariants.{Gives as GivesAnswer, Performs}
use Rattle.ftp_dialogue.specs.declared.stage.OpeningData.{OpeningData as Way}
use Rattle.ftp_dialogue.specs.declared.stage.OpeningData.TheVariants.{Negotiating, Choosing, Locating, Binding, Asking}
use Rattle.ftp_dialogue.specs.declared.stage.Asking.{Asking as Asked}
use Rattle.ftp_dialogue.specs.declared.stage.Asking.TheVariants.{PeerPort, Connection, Peer, Accepting, Securing}
use Rattle.ftp_dialogue.specs.declared.stage.Step.{Step}
use Rattle.ftp_dialogue.specs.declared.stage.Step.TheVariants as step
use Rattle.ftp_dialogue.specs.Coding.{Coding}
use Rattle.ftp_dialogue.specs.Promises.{IsFault}
use Rattle.ftp_dialogue.specs.Sound.{some_live}
use Rattle.std.specs.declared.io.ErrorKind.{ErrorKind}
use Rattle.ftp_calls.specs.declared.exchange.Row.{Row}
use Rattle.ftp_calls.specs.declared.exchange.Row.TheVariants.{Exchanges, Arms, Resyncs}
use Rattle.ftp_calls.specs.Exchanges.{row_of, aborting_row, aborts, finishes, is_local, is_read, negotiates, next_turn, Movements, Listings, Kind, kind_of_fetch, kind_of_task, Nothing, Replies, Texts, Times, Sizes, Lists, Connections, ending_of, given_by, says_of}
use Rattle.ftp_dialogue.specs.Dialogue.{expected_of, Tree, Say, Look, Secure, There, Leaf, armed, awaiting, aborting, breaking_off, ends_search, closed_as, closing, later, from_turn, negotiating, choosing, listening, listening_at, connecting_to, connecting_to_peer, accepting, fetch_ending, fetch_closing_data, gathering, most_reads, on_built, performing, resyncing, securing, seeking, most_passed_over, sending, strangers, with_transfer}

-- an exchange was made before
abbrev pub is_later : Turn → Bool
is_later First = false
is_later Second = true
is_later (Passive offset after) = after
is_later (ExtendedPassive offset tries) = false
is_later (Active address offset) = false
is_later (Restart offset) = true
is_later (Closed close) = false
is_later Aborted = true

-- the turn at which PASV follows a refusal of EPSV
abbrev pub falling_back : Turn → Turn
falling_back (ExtendedPassive offset tries) = Passive offset true
falling_back other = other

-- what follows once the data connection stands
abbrev pub opened_by : Coding → Opening → State → Tree
opened_by coding (GivesAnswer answer) state = Leaf answer (with_transfer state)
opened_by coding (Performs task) state = performing coding task state

-- what an outcome is awaited for, on the way to a data connection
abbrev pub asking_of : Coding → Asked → State → Tree → Tree
asking_of coding (PeerPort port) state next = connecting_to_peer port state next
asking_of coding (Connection address) state next = connecting_to address state next
asking_of coding (Peer opened) state next = Look There (λ peer. accepting (securing (opened_by coding opened state) state) peer strangers state)
asking_of coding (Accepting peer left opened) state next = accepting (securing (opened_by coding opened state) state) peer left state
asking_of coding (Securing opened) state next = Secure (on_built state (opened_by coding opened state))

-- a reply is awaited
abbrev pub awaited : Coding → Call → State → Awaits → Tree
awaited coding call state a = awaiting coding (expected_of a.hears) a.ending state (later coding call a.turn)

-- the first node on the way, by who opens the data connection
abbrev pub first_by : Mode → ℕ → Stage
first_by mode.Active offset = OpeningData (Locating offset)
first_by mode.Passive offset = At (Passive offset false)
first_by mode.ExtendedPassive offset = At (ExtendedPassive offset false)
first_by mode.Automatic offset = OpeningData (Choosing offset)

-- what is left of the way to a data connection, and of what comes after it
abbrev pub way_of : Coding → Call → State → Way → Tree
way_of coding call state (Negotiating offset) = negotiating coding call offset state
way_of coding call state (Choosing offset) = choosing coding call offset state
way_of coding call state (Locating offset) = listening coding call offset state
way_of coding call state (Binding local offset) = listening_at coding call offset state local
way_of coding call state (Asking turn asking) = asking_of coding asking state (later coding call turn state)

-- what is left where a command beside the exchanges is to be sent: ABOR, or NOOP
abbrev pub recovering : Coding → Call → State → Recovery → Tree
recovering coding call state Abort = aborting coding call state
recovering coding call state (Resync turn) = resyncing coding state

-- what is left once its line has gone out
abbrev pub recovered : Coding → Call → State → Recovery → Tree
recovered coding call state Abort = breaking_off coding call state
recovered coding call state (Resync turn) = seeking most_passed_over state

-- what is left once a line has gone out
abbrev pub said_left : Coding → Call → State → AfterLine → Tree
said_left coding call state (Hears a) = awaited coding call state a
said_left coding call state (Recovers recovery) = recovered coding call state recovery

-- what is left where the data connection is to be closed
abbrev pub close_left : Coding → Call → State → AfterClose → Tree
close_left coding call state Finishes = closing coding call state
close_left coding call state Aborts = breaking_off coding call state
close_left coding call state (FetchedAll form answer) = fetch_closing_data form answer state

-- what is left where a whole file or listing goes over the data connection
abbrev pub fetch_left : Coding → State → Fetched → Tree
fetch_left coding state (Starting task) = performing coding task state
fetch_left coding state (Gathering form left all) = gathering coding form left all state
fetch_left coding state (SendingData left total rest) = sending left total rest state
fetch_left coding state (Ending form answer) = fetch_ending form answer state

-- what is left of a call's dialogue
abbrev pub remaining : Coding → Call → State → Stage → Tree
remaining coding call state (At turn) = from_turn coding call turn state
remaining coding call state (Composing recovery) = recovering coding call state recovery
remaining coding call state (Saying line after) = Say (Ok (due line)) (said_left coding call state after)
remaining coding call state (Hearing a) = awaited coding call state a
remaining coding call state (Seeking turn left) = seeking left state
remaining coding call state (SettingOffset turn offset) = Leaf answer.Unit (armed offset state)
remaining coding call state (OpeningData opening_data) = way_of coding call state opening_data
remaining coding call state (Transferring transferring) = fetch_left coding state transferring
remaining coding call state (Closing after) = close_left coding call state after

-- the stage after a line that has gone out
abbrev pub stage_said : AfterLine → Stage
stage_said (Hears a) = Hearing (record a { begun = true })
stage_said (Recovers Abort) = Closing Aborts
stage_said (Recovers (Resync turn)) = Seeking turn most_passed_over

-- the stage after a close, by its error, where that is told
abbrev pub stage_closed : AfterClose → Option ErrorKind → Stage
stage_closed Finishes told = At (Closed told)
stage_closed Aborts told = At Aborted
stage_closed (FetchedAll form answer) told = Transferring (Ending form (closed_as told answer))

-- a reply was taken on that way
abbrev pub has_asked : Way → Bool
has_asked (Negotiating offset) = false
has_asked (Choosing offset) = false
has_asked (Locating offset) = false
has_asked (Binding local offset) = false
has_asked (Asking turn asking) = true

-- ABOR has gone out whole, where the call is an abort
abbrev pub is_out : Stage → Bool
is_out (Composing recovery) = false
is_out (Saying line (Recovers recovery)) = false
is_out (At First) = false
is_out stage = true

-- the command beside the exchanges
abbrev pub command_of : Recovery → Command
command_of Abort = Abor
command_of (Resync turn) = Noop

-- beside a live transfer NOOP isn't sent
abbrev pub is_barred : Recovery → State → Bool
is_barred Abort state = false
is_barred (Resync turn) state = some_live state.counts.owed

-- something was said or taken before it, before a line, or before a close
abbrev pub begun_for : Recovery → Bool
begun_for Abort = false
begun_for (Resync turn) = is_later turn

abbrev pub begun_before : AfterLine → Bool
begun_before (Hears a) = a.begun
begun_before (Recovers recovery) = begun_for recovery

abbrev pub begun_until : AfterClose → Bool
begun_until Finishes = false
begun_until Aborts = true
begun_until (FetchedAll form answer) = true

-- something of the dialogue was said or taken
abbrev pub begun_at : Stage → Bool
begun_at (At turn) = is_later turn
begun_at (Composing recovery) = begun_for recovery
begun_at (Saying None after) = true
begun_at (Saying (Some line) after) = begun_before after
begun_at (Hearing a) = a.begun
begun_at (Seeking turn left) = true
begun_at (SettingOffset turn offset) = is_later turn
begun_at (OpeningData opening_data) = has_asked opening_data
begun_at (Transferring transferring) = true
begun_at (Closing after) = begun_until after

-- the nodes that are left
abbrev pub many : ℕ
many = most_reads + strangers

abbrev pub nodes_from : Turn → ℕ
nodes_from First = many + 80
nodes_from (Passive offset after) = many + 40
nodes_from (ExtendedPassive offset tries) = many + 50
nodes_from (Active address offset) = many + 40
nodes_from (Restart offset) = many + 30
nodes_from Second = many + 20
nodes_from (Closed close) = many + 20
nodes_from Aborted = many + 25

abbrev pub nodes_asked : Asked → Turn → ℕ
nodes_asked (PeerPort port) turn = nodes_from turn - 3
nodes_asked (Connection address) turn = nodes_from turn - 4
nodes_asked (Peer opened) turn = nodes_from turn - 3
nodes_asked (Accepting peer left opened) turn = most_reads + left + 15
nodes_asked (Securing opened) turn = most_reads + 13

abbrev pub nodes_of : Way → ℕ
nodes_of (Negotiating offset) = many + 70
nodes_of (Choosing offset) = many + 60
nodes_of (Locating offset) = many + 60
nodes_of (Binding local offset) = many + 50
nodes_of (Asking turn asking) = nodes_asked asking turn

abbrev pub nodes_of_recovery : Recovery → ℕ
nodes_of_recovery Abort = many + 33
nodes_of_recovery (Resync turn) = nodes_from turn - 1

abbrev pub nodes_said : AfterLine → ℕ
nodes_said (Hears a) = nodes_from a.turn - 1
nodes_said (Recovers Abort) = many + 32
nodes_said (Recovers (Resync turn)) = nodes_from turn - 2

abbrev pub nodes_of_fetch : Fetched → ℕ
nodes_of_fetch (Starting task) = most_reads + 11
nodes_of_fetch (Gathering form left all) = left + 10
nodes_of_fetch (SendingData left total rest) = left + 10
nodes_of_fetch (Ending form answer) = 4

abbrev pub nodes_of_close : AfterClose → ℕ
nodes_of_close Finishes = many + 30
nodes_of_close Aborts = many + 31
nodes_of_close (FetchedAll form answer) = 5

abbrev pub nodes_left : Stage → ℕ
nodes_left (At turn) = nodes_from turn
nodes_left (Composing recovery) = nodes_of_recovery recovery
nodes_left (Saying line after) = nodes_said after
nodes_left (Hearing a) = nodes_from a.turn - 2
nodes_left (Seeking turn left) = left + 1
nodes_left (SettingOffset turn offset) = nodes_from turn - 1
nodes_left (OpeningData opening_data) = nodes_of opening_data
nodes_left (Transferring transferring) = nodes_of_fetch transferring
nodes_left (Closing after) = nodes_of_close after

-- the line of a command, where there is one
abbrev pub line_of : Coding → Option Command → Result (List ℕ) Cause
line_of coding None = Ok []
line_of coding (Some command) = wire coding.encode (text_of command)

-- the first node of an exchange, or the refusal of its line
abbrev pub awaits_of : Turn → Exchange → Awaits
awaits_of turn exchange = record { turn = turn; begun = is_later turn; hears = exchange.hears; ending = exchange.ending }

abbrev pub NodeOf : Coding → Turn → Exchange → Stage → Type 0
NodeOf coding turn exchange (Saying line (Hears a)) = (line_of coding exchange.says ≡ Ok (due line)) × (is_none line ≡ false) × (is_none exchange.says ≡ false) × (a ≡ awaits_of turn exchange)
NodeOf coding turn exchange (Hearing a) = (exchange.says ≡ None) × (a ≡ awaits_of turn exchange)
NodeOf coding turn exchange other = ⊥

-- an exchange doesn't begin: its line is refused, or there is no memory; what is said of an abort takes none
abbrev pub NotBegun : Coding → Row → FtpError → Type 0
NotBegun coding row fault = IsRefusalOf (line_of coding (says_of row)) fault × ((is_none (says_of row) && aborting_row row) ≡ false)

abbrev pub FirstNode : Coding → Turn → Exchange → Result Stage FtpError → Type 0
FirstNode coding turn exchange (Ok stage) = NodeOf coding turn exchange stage
FirstNode coding turn exchange (Err fault) = NotBegun coding (Exchanges exchange) fault

-- an answer of a kind, or an error
abbrev pub AnswersKind : Kind → Answer → Type 0
AnswersKind kind answer.Unit = kind ≡ Nothing
AnswersKind kind (answer.Reply reply) = kind ≡ Replies
AnswersKind kind (answer.Text text) = kind ≡ Texts
AnswersKind kind (answer.Time time) = kind ≡ Times
AnswersKind kind (answer.Size size) = kind ≡ Sizes
AnswersKind kind (answer.Features features) = kind ≡ Lists
AnswersKind kind answer.Opened = kind ≡ Connections
AnswersKind kind (answer.OpenedWith reply) = kind ≡ Connections
AnswersKind kind (answer.Bytes bytes) = kind ≡ Movements
AnswersKind kind (answer.Count count) = kind ≡ Movements
AnswersKind kind (answer.Lines lines) = kind ≡ Listings
AnswersKind kind answer.NoTransfer = kind ≡ Movements
AnswersKind kind (answer.Fault fault) = Unit {0}

-- the turns of a call that goes over the control connection: one that opens a data connection negotiates first, one that
-- brings a transfer to its end has closed its data connection, and a plain read has one exchange
abbrev pub TurnOf : Call → Turn → Type 0
TurnOf call First = (negotiates call ≡ false) × (is_local call ≡ false) × (finishes call ≡ false)
TurnOf call Second = (is_read call ≡ false) × (is_local call ≡ false)
TurnOf call (Passive offset after) = negotiates call ≡ true
TurnOf call (ExtendedPassive offset tries) = negotiates call ≡ true
TurnOf call (Active address offset) = negotiates call ≡ true
TurnOf call (Restart offset) = negotiates call ≡ true
TurnOf call (Closed close) = finishes call ≡ true
TurnOf call Aborted = aborts call ≡ true

-- the kind of an answer is that of some exchange of the call, or it is an error
abbrev pub MayAnswer : Call → Answer → Type 0
MayAnswer call answer = (turn : Turn) × (TurnOf call turn ⊎ IsFault answer) × AnswersKind (given_by (row_of call turn)) answer

-- a call may give what comes of a whole data connection
abbrev pub MayGive : Call → Kind → Type 0
MayGive call kind = (negotiates call ≡ true) × ((turn : Turn) × TurnOf call turn × (given_by (row_of call turn) ≡ kind))

abbrev pub MayFetch : Call → Fetch → Type 0
MayFetch call form = MayGive call (kind_of_fetch form)

abbrev pub MayPerform : Call → Task → Type 0
MayPerform call task = MayGive call (kind_of_task task)

-- what is kept while an outcome is awaited: the answer, which is no error, or what is done with the data connection
abbrev pub OpeningOf : Call → Opening → Type 0
OpeningOf call (GivesAnswer answer) = MayAnswer call answer × (IsFault answer → ⊥)
OpeningOf call (Performs task) = MayPerform call task

abbrev pub AskingOf : Call → Asked → Type 0
AskingOf call (PeerPort port) = Unit {0}
AskingOf call (Connection address) = Unit {0}
AskingOf call (Peer opened) = OpeningOf call opened
AskingOf call (Accepting peer left opened) = OpeningOf call opened
AskingOf call (Securing opened) = OpeningOf call opened

-- and while a whole file or listing goes over it
abbrev pub FetchOf : Call → Fetched → Type 0
FetchOf call (Starting task) = MayPerform call task
FetchOf call (Gathering form left all) = MayFetch call form
FetchOf call (SendingData left total rest) = MayFetch call Whole
FetchOf call (Ending form answer) = MayFetch call form × AnswersKind (kind_of_fetch form) answer

abbrev pub WayOf : Call → Way → Type 0
WayOf call (Negotiating offset) = Unit {0}
WayOf call (Choosing offset) = Unit {0}
WayOf call (Locating offset) = Unit {0}
WayOf call (Binding local offset) = Unit {0}
WayOf call (Asking turn asking) = AskingOf call asking

-- a reply is awaited
abbrev pub AwaitsOf : Call → Awaits → Type 0
AwaitsOf call a = (ending_of (row_of call a.turn) ≡ Some a.ending) × (a.begun ≡ true → is_read call ≡ false) × TurnOf call a.turn

-- a command beside the exchanges; what follows a line; and what follows a close
abbrev pub RecoveryOf : Call → Recovery → Type 0
RecoveryOf call Abort = aborts call ≡ true
RecoveryOf call (Resync turn) = (row_of call turn ≡ Resyncs) × TurnOf call turn

abbrev pub SaidOf : Call → AfterLine → Type 0
SaidOf call (Hears a) = (ending_of (row_of call a.turn) ≡ Some a.ending) × (is_read call ≡ false) × TurnOf call a.turn
SaidOf call (Recovers recovery) = RecoveryOf call recovery

abbrev pub CloseOf : Call → AfterClose → Type 0
CloseOf call Finishes = finishes call ≡ true
CloseOf call Aborts = aborts call ≡ true
CloseOf call (FetchedAll form answer) = FetchOf call (Ending form answer)

-- the stages of a call; a plain read says nothing
abbrev pub StageOf : Call → Stage → Type 0
StageOf call (At turn) = TurnOf call turn
StageOf call (Composing recovery) = RecoveryOf call recovery
StageOf call (Saying line after) = SaidOf call after
StageOf call (Hearing a) = AwaitsOf call a
StageOf call (Seeking turn left) = (row_of call turn ≡ Resyncs) × TurnOf call turn
StageOf call (SettingOffset turn offset) = (row_of call turn ≡ Arms offset) × TurnOf call turn
StageOf call (OpeningData opening_data) = (negotiates call ≡ true) × WayOf call opening_data
StageOf call (Transferring transferring) = FetchOf call transferring
StageOf call (Closing after) = CloseOf call after

-- where a call stands after a step that doesn't end it
abbrev pub StageAfter : Call → Stage → Step → Type 0
StageAfter call stage step.Next = StageOf call stage
StageAfter call stage step.Pending = StageOf call stage
StageAfter call stage (step.Done answer) = Unit {0}

abbrev pub StepAnswers : Call → Step → Type 0
StepAnswers call step.Next = Unit {0}
StepAnswers call step.Pending = Unit {0}
StepAnswers call (step.Done answer) = MayAnswer call answer

abbrev pub PollAnswers : Call → Poll Answer → Type 0
PollAnswers call (Ready answer) = MayAnswer call answer
PollAnswers call Pending = Unit {0}

-- an exchange begins: its first node, or the refusal of its line
pub record Begun (coding : Coding) (call : Call) (turn : Turn) (stage : Stage) : Type 0 where
  pub same : (state : State) → remaining coding call state stage ≡ from_turn coding call turn state
  pub fewer : nodes_left stage < nodes_from turn
  pub stage_of : StageOf call stage
  pub begun : begun_at stage ≡ is_later turn

abbrev pub Begins : Coding → Call → Turn → Result Stage FtpError → Type 0
Begins coding call turn (Ok stage) = Begun coding call turn stage
Begins coding call turn (Err fault) = NotBegun coding (row_of call turn) fault

-- the next turn begins, or the call is done
abbrev pub GoesOnTo : Call → Turn → Stage → Step → Type 0
GoesOnTo call turn stage step.Next = (next : Turn) × (next_turn call turn ≡ Some next) × (stage ≡ At next)
GoesOnTo call turn stage step.Pending = ⊥
GoesOnTo call turn stage (step.Done last) = (next_turn call turn ≡ None) × (last ≡ answer.Unit)

-- what follows another reply than that to NOOP, or an error in its place
abbrev pub FollowsSought : Turn → ℕ → FtpError → Stage → Step → Type 0
FollowsSought turn left fault stage step.Next =
    (rest : ℕ) × (reply : Response) × (left ≡ suc rest) × (fault ≡ UnexpectedResponse reply) × (ends_search reply ≡ false) × (stage ≡ Seeking turn rest)
FollowsSought turn left fault stage step.Pending = ⊥
FollowsSought turn left fault stage (step.Done last) =
    (last ≡ answer.Fault fault) × ((reply : Response) → fault ≡ UnexpectedResponse reply → (left ≡ 0) ⊎ (ends_search reply ≡ true))
