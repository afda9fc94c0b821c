-- What a step of a dialogue does: whatever the server still sends, and whatever room there is, the tree before it and
-- the tree after it result in the same. Beside what is promised it keeps how much is kept of a reply under way.
use Rattle.std.specs.Prelude.{◌++◌, ◌==◌, ◌≡◌, ◌<◌, ◌≤◌, ◌+◌, ◌⊎◌, nat_le, ◌∷◌, ℕ, Bool, true, false, ◌&&◌, if◌then◌else◌, Option, Some, None, List, [], drop, length, Result, Ok, Err}
use Rattle.futures.specs.declared.task.Poll.{Poll}
use Rattle.futures.specs.declared.task.Poll.TheVariants as poll
use Rattle.ftp_base.specs.declared.types.reply.Response.{Response}
use Rattle.ftp_base.specs.declared.types.fault.FtpError.{FtpError}
use Rattle.ftp_base.specs.declared.types.fault.FtpError.TheVariants.{ConnectionError, UnexpectedResponse, DataConnectionAlreadyOpen, OutOfMemory, SessionFailed}
use Rattle.ftp_base.specs.declared.types.fault.ConnectionError.{ConnectionError as Cause}
use Rattle.ftp_base.specs.Command.{text_of}
use Rattle.ftp_base.specs.Wire.{wire}
use Rattle.ftp_control.specs.Refusal.{IsRefusalOf}
use Rattle.ftp_transport.specs.Told.{IsDry, IsFull}
use Rattle.std.specs.declared.alloc.AllocError.{AllocError}
use Rattle.std.specs.declared.io.ErrorKind.{ErrorKind}
use Rattle.std.specs.declared.net.socket_addr.SocketAddr.{SocketAddr}
use Rattle.ftp_base.specs.declared.types.fault.ConnectionError.TheVariants.{Io, SourceTooLarge}
use Rattle.ftp_dialogue.specs.Play.{Taken, play}
use Rattle.ftp_control.specs.Channel.{untaken}
use Rattle.ftp_control.specs.Saying.{due, said}
use Rattle.ftp_dialogue.specs.declared.state.State.{State}
use Rattle.ftp_calls.specs.declared.call.Answer.{Answer}
use Rattle.ftp_calls.specs.declared.call.Answer.TheVariants.{Fault}
use Rattle.ftp_calls.specs.declared.call.Answer.TheVariants as answers
use Rattle.ftp_calls.specs.declared.call.Setting.{Setting}
use Rattle.ftp_calls.specs.declared.exchange.Movement.TheVariants as movement
use Rattle.ftp_calls.specs.declared.call.Call.{Call}
use Rattle.ftp_calls.specs.declared.exchange.Ending.{Ending}
use Rattle.ftp_calls.specs.declared.exchange.Ending.TheVariants.{Greets, GivesPath, GivesSecondLine, GivesFeatures, GivesAddress, GivesPort, Opens, Performs}
use Rattle.ftp_calls.specs.declared.exchange.Fetch.{Fetch}
use Rattle.ftp_calls.specs.declared.exchange.Task.{Task}
use Rattle.ftp_calls.specs.declared.exchange.Task.TheVariants as tasks
use Rattle.ftp_dialogue.specs.declared.gathered.More.{More}
use Rattle.ftp_dialogue.specs.declared.gathered.More.TheVariants as more
use Rattle.ftp_dialogue.specs.declared.stage.Transferring.TheVariants.{Gathering, Sending}
use Rattle.ftp_dialogue.specs.declared.stage.AfterClose.{AfterClose}
use Rattle.ftp_dialogue.specs.declared.stage.AfterClose.TheVariants.{Fetched}
use Rattle.ftp_dialogue.specs.declared.stage.AfterLine.TheVariants.{Recovers}
use Rattle.ftp_dialogue.specs.declared.stage.Recovery.{Recovery}
use Rattle.ftp_dialogue.specs.declared.stage.Stage.TheVariants.{Saying, Transferring, Closing}
use Rattle.ftp_dialogue.specs.declared.stage.Opened.{Opened as Opening}
use Rattle.ftp_dialogue.specs.declared.stage.Opened.TheVariants.{Gives as GivesAnswer, Performs as PerformsAll}
use Rattle.ftp_dialogue.specs.declared.model.NetOutcome.TheVariants as came
use Rattle.ftp_dialogue.specs.declared.nodes.Accepted.{Accepted}
use Rattle.ftp_dialogue.specs.declared.nodes.Accepted.TheVariants as accepts
use Rattle.ftp_dialogue.specs.declared.stage.Asking.{Asking}
use Rattle.ftp_dialogue.specs.declared.stage.Asking.TheVariants.{PeerPort, Connection, Peer, Accepting, Securing}
use Rattle.ftp_dialogue.specs.declared.stage.Awaits.{Awaits}
use Rattle.ftp_dialogue.specs.declared.stage.Stage.{Stage}
use Rattle.ftp_dialogue.specs.declared.stage.Step.{Step}
use Rattle.ftp_dialogue.specs.declared.stage.Step.TheVariants.{Next, Pending, Done}
use Rattle.ftp_dialogue.specs.State.{SessionValue, LetsGo}
use Rattle.ftp_dialogue.specs.Coding.{Coding}
use Rattle.ftp_dialogue.specs.NetEvents.{NetEvent, MovementIs, outcomes_of}
use Rattle.ftp_calls.specs.declared.exchange.Movement.{Movement}
use Rattle.ftp_dialogue.specs.declared.model.NetOutcome.{NetOutcome}
use Rattle.ftp_calls.specs.declared.exchange.Turn.{Turn}
use Rattle.ftp_calls.specs.declared.exchange.Turn.TheVariants.{First}
use Rattle.ftp_calls.specs.declared.exchange.Row.{Row}
use Rattle.ftp_calls.specs.declared.exchange.Row.TheVariants.{Exchanges, Arms}
use Rattle.ftp_calls.specs.declared.exchange.Row.TheVariants as row
use Rattle.ftp_calls.specs.Exchanges.{is_draining, is_local, is_read, row_of, Kind, Nothing, kind_of, kind_of_task}
use Rattle.ftp_dialogue.specs.Dialogue.{Expected, End, Tree, Say, Hear, Look, Ask, Build, Secure, Move, Leaf, accepted, asking_passive, chunk, fetched, first_fault, later, most_reads, moved_answer, performing, size_to_send, told_of_close, too_long, unfetched, wants_memory, with_abandoned, with_fetched, set_to, answer_to_fault, after_fault_of, with_left, dialogue}
use Rattle.ftp_base.specs.Ascii.{most_bytes, wire_data}
use Rattle.ftp_dialogue.specs.Resuming.{Modes, Resumes, Silent, modes_of}
use Rattle.ftp_dialogue.specs.Promises.{DrainsIf, due_of, AbortsRead, IsFault, Keeps, Leads, Completes, Aborts, However, SaidOrTaken, Untouched, Rests, IsRefused, begun_by, failed_from, refusal_of, IsApart}
use Rattle.ftp_dialogue.specs.Steps.Stages.{AnswersKind, Begun, NotBegun, StageAfter, StepAnswers, asking_of, begun_at, begun_for, command_of, is_barred, is_later, nodes_left, remaining, stage_closed}
use Rattle.ftp_dialogue.specs.Link.{Link}

-- no more lies ahead than lay there and came
abbrev pub Shrinks : List ℕ → SessionValue → SessionValue → Type 0
Shrinks came old new = length new.channel.ahead ≤ length old.channel.ahead + length came

-- the tree asks nothing of the transport, and does nothing on the data connection
abbrev pub Apart : Tree → Type 0
Apart (Say (Ok line) next) = Apart next
Apart (Say (Err cause) next) = Unit {0}
Apart (Hear codes next) = (heard : Result Response FtpError) → Apart (next heard)
Apart (Look end next) = (address : SocketAddr) → Apart (next address)
Apart (Ask request next) = ⊥
Apart (Build address next) = ⊥
Apart (Secure next) = ⊥
Apart (Move movement next) = ⊥
Apart (Leaf answer state) = Unit {0}

-- a line is said first
abbrev pub Speaks : Tree → Type 0
Speaks (Say (Ok line) next) = Unit {0}
Speaks (Say (Err cause) next) = ⊥
Speaks (Hear codes next) = ⊥
Speaks (Look end next) = ⊥
Speaks (Ask request next) = ⊥
Speaks (Build address next) = ⊥
Speaks (Secure next) = ⊥
Speaks (Move movement next) = ⊥
Speaks (Leaf answer state) = ⊥

-- the line that was said first still goes out, and that is all: what is kept of a reply doesn't matter yet
pub record StillSays (link : Link) (tree tree' : Tree) (came : List ℕ) (answered : List NetEvent) (line : List ℕ) (old new : SessionValue) : Type 0 where
  pub rest : List ℕ
  pub next : Tree
  pub is : tree' ≡ Say (Ok rest) next
  pub count : length (said new.channel) + length rest ≡ length (said old.channel) + length line
  pub resumes : (modes : Modes) (kept : List ℕ) → Resumes modes kept tree → Resumes modes kept tree'
  pub plays : However old came answered new (λ room s t. play room tree s ≡ play room tree' t)

-- all of a line has gone out
abbrev pub HasGoneOut : List ℕ → SessionValue → SessionValue → Type 0
HasGoneOut line old new = length (said old.channel) + length line ≤ length new.channel.told.sent

-- the line that a tree says first still goes out, or has gone out
abbrev pub SaysFirst : Link → Tree → Tree → List ℕ → List NetEvent → SessionValue → SessionValue → Type 0
SaysFirst link tree tree' came answered old new =
    (line : List ℕ) (next : Tree) → tree ≡ Say (Ok line) next → link.tells → StillSays link tree tree' came answered line old new ⊎ HasGoneOut line old new

-- one tree is left of another
pub record Moves (link : Link) (tree tree' : Tree) (old new : SessionValue) : Type 0 where
  pub leads : Leads link tree tree' old new
  pub state : new.state ≡ old.state
  pub keeps : (from to : State) → Silent from to tree' → Keeps (Silent from to tree) leads.came old new
  pub shrinks : Shrinks leads.came old new
  pub says : SaysFirst link tree tree' leads.came leads.answered old new
  pub apart : Apart tree → (outcomes_of leads.answered ≡ []) × Apart tree'

-- the same, and the session goes on
pub record Advances (link : Link) (tree tree' : Tree) (old new : SessionValue) : Type 0 where
  pub moves : Moves link tree tree' old new
  pub failed : new.channel.failed ≡ old.channel.failed

-- a tree reaches its answer
pub record Ends (link : Link) (tree : Tree) (answer : Answer) (old new : SessionValue) : Type 0 where
  pub completes : Completes link tree answer old new
  pub fails : new.channel.failed ≡ true → (old.channel.failed ≡ true) ⊎ IsFault answer
  pub keeps : Keeps (Silent old.state new.state tree) completes.came old new
  pub shrinks : Shrinks completes.came old new
  pub gone : (line : List ℕ) (next : Tree) → tree ≡ Say (Ok line) next → link.tells → HasGoneOut line old new

-- a tree waits: for room, for the line that is begun; or for bytes, where all were read and more may come
pub record WaitsToSay (link : Link) (tree : Tree) (v : SessionValue) : Type 0 where
  pub line : List ℕ
  pub next : Tree
  pub is : tree ≡ Say (Ok line) next
  pub some : v.channel.unsent ≡ [] → ⊥
  pub full : link.tells → IsFull v.channel.told

pub record WaitsToHear (link : Link) (tree : Tree) (v : SessionValue) : Type 0 where
  pub codes : Expected
  pub next : Result Response FtpError → Tree
  pub is : tree ≡ Hear codes next
  pub unended : v.channel.ended ≡ false
  pub none_ahead : v.channel.ahead ≡ []
  pub dry : link.tells → IsDry v.channel.told

-- or for an outcome, where requests may wait, and reads of the data connection
abbrev pub AsksFirst : Tree → Type 0
AsksFirst (Say line next) = ⊥
AsksFirst (Hear codes next) = ⊥
AsksFirst (Look end next) = ⊥
AsksFirst (Ask request next) = Unit {0}
AsksFirst (Build address next) = ⊥
AsksFirst (Secure next) = Unit {0}
AsksFirst (Move movement next) = Unit {0}
AsksFirst (Leaf answer state) = ⊥

pub record WaitsToAsk (link : Link) (tree : Tree) : Type 0 where
  pub asks : AsksFirst tree
  pub may : link.asks_wait

abbrev pub WaitsFor : Link → Tree → SessionValue → Type 0
WaitsFor link tree v = WaitsToSay link tree v ⊎ WaitsToHear link tree v ⊎ WaitsToAsk link tree

-- a step: the next node is reached, or the connection waits, or the dialogue has its answer or is aborted
abbrev pub Steps : Link → Bool → Tree → Tree → SessionValue → SessionValue → Step → Type 0
Steps link begun tree tree' old new Next = Advances link tree tree' old new
Steps link begun tree tree' old new Pending = Advances link tree tree' old new × WaitsFor link tree' new
Steps link begun tree tree' old new (Done answer) = Ends link tree answer old new ⊎ Aborts link begun tree answer old new

-- a poll: the call has its answer or is aborted, or the connection waits
abbrev pub PollSteps : Link → Bool → Tree → Tree → SessionValue → SessionValue → Poll Answer → Type 0
PollSteps link begun tree tree' old new (poll.Ready answer) = Ends link tree answer old new ⊎ Aborts link begun tree answer old new
PollSteps link begun tree tree' old new poll.Pending = Advances link tree tree' old new × WaitsFor link tree' new

-- a call that has its answer lets go of what it doesn't need
abbrev pub AfterPoll : Type 0 → Poll Answer → SessionValue → SessionValue → Type 0
AfterPoll tells (poll.Ready answer) v w = LetsGo tells v w
AfterPoll tells poll.Pending v w = w ≡ v

abbrev pub PollsTo : Link → Bool → Tree → Tree → SessionValue → SessionValue → Poll Answer → Type 0
PollsTo link begun tree tree' old new result = (last : SessionValue) × PollSteps link begun tree tree' old last result × AfterPoll link.tells result last new

-- the result of sending a line
abbrev pub step_of : Poll (Result (Unit {0}) FtpError) → Step
step_of (poll.Ready (Ok done)) = Next
step_of (poll.Ready (Err fault)) = Done (Fault fault)
step_of poll.Pending = Pending

-- what is left where a line goes out
abbrev pub after_line : Step → Option (List ℕ) → Tree → Tree
after_line Next line next = next
after_line Pending line next = Say (Ok (due line)) next
after_line (Done answer) line next = next

-- a line is said
abbrev pub SaysNode : Link → Option (List ℕ) → Option (List ℕ) → SessionValue → SessionValue → Step → Type 0
SaysNode link line line' old new result =
    (begun : Bool) (next : Tree) → Steps link begun (Say (Ok (due line)) next) (after_line result line' next) old new result

-- a reply was taken: fewer bytes are untaken than were and came
abbrev pub Takes : Link → Tree → SessionValue → SessionValue → Type 0
Takes link tree old new =
    link.tells → Resumes (modes_of old) old.channel.kept tree → length old.channel.told.received + length (untaken new.channel) < length new.channel.told.received + length (untaken old.channel)

-- nothing was said and no reply was taken: what came is untaken
abbrev pub NothingTouched : Link → SessionValue → SessionValue → Type 0
NothingTouched link old new =
    link.tells → (came : List ℕ) × (new.channel.told.received ≡ old.channel.told.received ++ came) × (said new.channel ≡ said old.channel) × (untaken new.channel ≡ untaken old.channel ++ came)

-- a line that was taken to go out: it was before, or it was said, and a line isn't empty
pub record TakesLine (link : Link) (line line' : Option (List ℕ)) (old new : SessionValue) (result : Step) : Type 0 where
  pub whole : (line' ≡ line) ⊎ (line' ≡ None)
  pub gone : result ≡ Next → line' ≡ None
  pub stays : line' ≡ line → NothingTouched link old new
  pub begins : line' ≡ None → (line ≡ None) ⊎ (link.tells → length (said old.channel) < length (said new.channel))

-- an error that was heard in place of a reply: memory didn't run out, and after a reply of another status the session
-- goes on
pub record HeardFault (fault : FtpError) (old new : SessionValue) : Type 0 where
  pub other : fault ≡ OutOfMemory → ⊥
  pub goes_on : (reply : Response) → fault ≡ UnexpectedResponse reply → new.channel.failed ≡ old.channel.failed

-- a reply is heard, or an error in its place; or it is waited for, or the read is aborted
abbrev pub Hears : Link → Expected → (Result Response FtpError → Tree) → SessionValue → SessionValue → Poll (Result Response FtpError) → Type 0
Hears link codes next old new (poll.Ready (Ok reply)) = Advances link (Hear codes next) (next (Ok reply)) old new × Takes link (Hear codes next) old new
Hears link codes next old new (poll.Ready (Err fault)) =
    (Moves link (Hear codes next) (next (Err fault)) old new × HeardFault fault old new) ⊎ AbortsRead link codes next fault old new
Hears link codes next old new poll.Pending = Advances link (Hear codes next) (Hear codes next) old new × WaitsFor link (Hear codes next) new × Rests link old new

-- an accepted reply: the next exchange, or the answer with the change of state
abbrev pub Accepts : Coding → Ending → Response → State → State → Accepted → Type 0
Accepts coding ending reply state state' accepts.GoesOn = (state' ≡ state) × ((later : State → Tree) → accepted coding ending state reply later ≡ later state)
Accepts coding ending reply state state' (accepts.Asks asking) = (state' ≡ state) × ((later : State → Tree) → accepted coding ending state reply later ≡ asking_of coding asking state (later state))
Accepts coding ending reply state state' accepts.FallsBack = (state' ≡ state) × ((later : State → Tree) → accepted coding ending state reply later ≡ asking_passive coding state later)
Accepts coding ending reply state state' (accepts.Performs task) = (state' ≡ state) × ((later : State → Tree) → accepted coding ending state reply later ≡ performing coding task state)
Accepts coding ending reply state state' (accepts.Done answer) = (later : State → Tree) → accepted coding ending state reply later ≡ Leaf answer state'
Accepts coding ending reply state state' accepts.NoMemory = state' ≡ state

-- an answer for which there may have been no memory
abbrev pub done_as : Result Answer AllocError → Accepted
done_as (Ok answer) = accepts.Done answer
done_as (Err full) = accepts.NoMemory

-- what an error that is heard in place of a reply results in: where memory ran out before the dialogue has begun
-- nothing more
abbrev pub FaultLeavesIf : Bool → Bool → Ending → FtpError → State → State → Answer → Type 0
FaultLeavesIf true begun ending fault state state' told = (told ≡ Fault fault) × (state' ≡ (if begun then after_fault_of ending fault state else state))
FaultLeavesIf false begun ending fault state state' told = (told ≡ answer_to_fault ending fault) × (state' ≡ after_fault_of ending fault state)

abbrev pub FaultLeaves : Bool → Ending → FtpError → State → State → Answer → Type 0
FaultLeaves begun ending fault state state' told = FaultLeavesIf (wants_memory fault) begun ending fault state state' told

-- out of memory after a dialogue has begun fails the session
abbrev pub after_fault : Bool → FtpError → SessionValue → SessionValue
after_fault begun fault v = if wants_memory fault && begun then failed_from v else v

-- a dialogue ends with an error in place of a reply
abbrev pub EndsFaulty : Bool → Ending → FtpError → SessionValue → SessionValue → Answer → Type 0
EndsFaulty begun ending fault old new told =
    (new ≡ record (after_fault begun fault old) { state = new.state }) × FaultLeaves begun ending fault (after_fault begun fault old).state new.state told

-- nothing was said or read, and this is left
pub record Still (link : Link) (tree tree' : Tree) (old new : SessionValue) : Type 0 where
  pub advances : Advances link tree tree' old new
  pub none : advances.moves.leads.came ≡ []
  pub untouched : Untouched link [] old new

-- as long as nothing was said or taken, the transport was asked at most; a plain read asks nothing
pub record NothingYet (link : Link) (coding : Coding) (call : Call) (stage stage' : Stage) (old new : SessionValue) : Type 0 where
  pub still : Still link (remaining coding call old.state stage) (remaining coding call old.state stage') old new
  pub begun : begun_at stage ≡ false
  pub speaks : Speaks (remaining coding call old.state stage) → Speaks (remaining coding call old.state stage')
  pub read : is_read call ≡ true → new ≡ old

-- the address of an end of the control connection was looked up; or that failed, which was counted
abbrev pub LooksUp : Link → End → SessionValue → SessionValue → Result SocketAddr ErrorKind → Type 0
LooksUp link end old new (Ok address) = (next : SocketAddr → Tree) → Still link (Look end next) (next address) old new
LooksUp link end old new (Err kind) = (begun : Bool) (next : SocketAddr → Tree) → Aborts link begun (Look end next) (Fault (ConnectionError (Io kind))) old new

-- something was done on the data connection
abbrev pub MovesBy : Link → Movement → SessionValue → SessionValue → NetOutcome → Type 0
MovesBy link movement old new outcome = (next : NetOutcome → Tree) → Still link (Move movement next) (next outcome) old new

-- a dialogue begins: a line that is said first is said, whatever is kept of a reply
abbrev pub BeginsHere : Link → Tree → SessionValue → SessionValue → Type 0
BeginsHere link tree old new = link.tells → Speaks tree ⊎ Resumes (modes_of old) old.channel.kept tree → SaidOrTaken old new

-- a dialogue that has begun had begun before, or something was said or taken; where it hasn't, nothing was
abbrev pub HasBegun : Link → Bool → Bool → Tree → SessionValue → SessionValue → Type 0
HasBegun link begun begun' tree old new =
    (begun' ≡ true → (begun ≡ true) ⊎ BeginsHere link tree old new) × (begun' ≡ false → (begun ≡ false) × NothingTouched link old new)

abbrev pub Tracks : Link → Bool → Bool → Tree → SessionValue → SessionValue → Step → Type 0
Tracks link begun begun' tree old new Next = HasBegun link begun begun' tree old new
Tracks link begun begun' tree old new Pending = HasBegun link begun begun' tree old new
Tracks link begun begun' tree old new (Done answer) = Unit {0}

abbrev pub Quiet : Link → Coding → Call → Stage → Stage → SessionValue → SessionValue → Step → Type 0
Quiet link coding call stage stage' old new Next = begun_at stage' ≡ false → NothingYet link coding call stage stage' old new
Quiet link coding call stage stage' old new Pending = Unit {0}
Quiet link coding call stage stage' old new (Done answer) = Unit {0}

-- a step of a call: what it makes of the dialogue, whether that has begun, and where the call stands after it
pub record MakesStep (link : Link) (coding : Coding) (call : Call) (stage stage' : Stage) (old new : SessionValue) (result : Step) : Type 0 where
  pub steps : Steps link (begun_at stage) (remaining coding call old.state stage) (remaining coding call old.state stage') old new result
  pub quiet : Quiet link coding call stage stage' old new result
  pub begun : Tracks link (begun_at stage) (begun_at stage') (remaining coding call old.state stage) old new result
  pub answers : StepAnswers call result
  pub fewer : result ≡ Next → nodes_left stage' < nodes_left stage
  pub stage_of : StageAfter call stage' result

-- an exchange begins, and nothing else happens; or its line is refused, or finds no memory
pub record IsRefusedLine (coding : Coding) (call : Call) (turn : Turn) (old new : SessionValue) (answer : Answer) : Type 0 where
  pub fault : FtpError
  pub is : answer ≡ Fault fault
  pub cause : NotBegun coding (row_of call turn) fault
  pub leaves : new ≡ after_fault (is_later turn) fault old

abbrev pub BeginsExchange : Coding → Call → Turn → Stage → SessionValue → SessionValue → Step → Type 0
BeginsExchange coding call turn stage old new Next = (new ≡ old) × Begun coding call turn stage
BeginsExchange coding call turn stage old new Pending = ⊥
BeginsExchange coding call turn stage old new (Done answer) = IsRefusedLine coding call turn old new answer

-- a command beside the exchanges is put into a line, and nothing else happens; or a live transfer keeps it from being
-- sent, or its line is refused, or finds no memory
abbrev pub line_to_recover : Coding → Recovery → Result (List ℕ) Cause
line_to_recover coding recovery = wire coding.encode (text_of (command_of recovery))

pub record ComposesNone (coding : Coding) (recovery : Recovery) (old new : SessionValue) (answer : Answer) : Type 0 where
  pub fault : FtpError
  pub is : answer ≡ Fault fault
  pub cause : ((is_barred recovery old.state ≡ true) × (fault ≡ DataConnectionAlreadyOpen) × (new ≡ old)) ⊎ ((is_barred recovery old.state ≡ false) × IsRefusalOf (line_to_recover coding recovery) fault × (new ≡ after_fault (begun_for recovery) fault old))

abbrev pub Composes : Coding → Recovery → Stage → SessionValue → SessionValue → Step → Type 0
Composes coding recovery stage old new Next = (is_barred recovery old.state ≡ false) × ((line : List ℕ) × (line_to_recover coding recovery ≡ Ok line) × (stage ≡ Saying (Some line) (Recovers recovery))) × (new ≡ old)
Composes coding recovery stage old new Pending = ⊥
Composes coding recovery stage old new (Done answer) = ComposesNone coding recovery old new answer

-- the data connection was closed, and this stage follows
pub record Closes (tells : Type 0) (after : AfterClose) (stage : Stage) (old new : SessionValue) : Type 0 where
  pub outcome : NetOutcome
  pub is : stage ≡ stage_closed after (told_of_close old.state.uploads outcome)
  pub beside : new ≡ record old { net = new.net }
  pub net_event : tells → MovementIs movement.Close outcome old.net new.net

-- an accepted reply leads to a data connection
abbrev pub agrees : Ending → Bool
agrees GivesAddress = true
agrees (GivesPort tries) = true
agrees (Opens replies) = true
agrees (Performs task) = true
agrees other = false

abbrev pub OpeningAnswers : Kind → Opening → Type 0
OpeningAnswers kind (GivesAnswer answer) = AnswersKind kind answer × (IsFault answer → ⊥)
OpeningAnswers kind (PerformsAll task) = kind ≡ kind_of_task task

abbrev pub AskingAnswers : Kind → Asking → Type 0
AskingAnswers kind (PeerPort port) = Unit {0}
AskingAnswers kind (Connection address) = Unit {0}
AskingAnswers kind (Peer opened) = OpeningAnswers kind opened
AskingAnswers kind (Accepting peer left opened) = ⊥
AskingAnswers kind (Securing opened) = OpeningAnswers kind opened

-- an answer is made of the reply's text, or the session keeps that, which takes memory
abbrev pub takes_memory : Ending → Bool
takes_memory Greets = true
takes_memory GivesPath = true
takes_memory GivesSecondLine = true
takes_memory GivesFeatures = true
takes_memory other = false

-- the kind of an answer is its ending's
abbrev pub AnswersAs : Ending → Accepted → Type 0
AnswersAs ending accepts.GoesOn = (kind_of ending ≡ Nothing) × (is_draining ending ≡ false)
AnswersAs ending (accepts.Asks asking) = (agrees ending ≡ true) × AskingAnswers (kind_of ending) asking
AnswersAs ending accepts.FallsBack = ending ≡ GivesPort true
AnswersAs ending (accepts.Performs task) = (agrees ending ≡ true) × (kind_of ending ≡ kind_of_task task)
AnswersAs ending (accepts.Done answer) = AnswersKind (kind_of ending) answer
AnswersAs ending accepts.NoMemory = takes_memory ending ≡ true

-- a reply that was heard is accepted: the next exchange is reached, or the answer with the change of state; where
-- memory ran out the session has failed
pub record EndsWith (coding : Coding) (call : Call) (a : Awaits) (reply : Response) (old new : SessionValue) (answer : Answer) : Type 0 where
  pub leaf : accepted coding a.ending old.state reply (later coding call a.turn) ≡ Leaf answer new.state
  pub channel : new.channel ≡ old.channel
  pub net : new.net ≡ old.net

abbrev pub Concludes : Coding → Call → Awaits → Response → Stage → SessionValue → SessionValue → Step → Type 0
Concludes coding call a reply stage old new Next = (new ≡ old) × (accepted coding a.ending old.state reply (later coding call a.turn) ≡ remaining coding call old.state stage)
Concludes coding call a reply stage old new Pending = ⊥
Concludes coding call a reply stage old new (Done answer) = EndsWith coding call a reply old new answer ⊎ ((answer ≡ Fault OutOfMemory) × (new ≡ failed_from old) × (takes_memory a.ending ≡ true))

-- a call, whole, with how much is kept afterwards
pub record IsMade (link : Link) (coding : Coding) (call : Call) (old new : SessionValue) (answer : Answer) : Type 0 where
  pub going : refusal_of call old ≡ Taken
  pub apart : is_local call ≡ true → new.channel ≡ old.channel
  pub last : SessionValue
  pub plays : Ends link (dialogue coding call old.state) answer (begun_by call old) last ⊎ Aborts link false (dialogue coding call old.state) answer (begun_by call old) last
  pub lets_go : LetsGo link.tells last new

abbrev pub Made : Link → Coding → Call → SessionValue → SessionValue → Answer → Type 0
Made link coding call old new answer = IsRefused link.tells call old new answer ⊎ IsMade link coding call old new answer

-- the same, after the last reply of a transfer that was left, where one is due
pub record MadeDrained (link : Link) (coding : Coding) (call : Call) (old new : SessionValue) (answer : Answer) : Type 0 where
  pub makes : DrainsIf (due_of call old) (Made link coding) call old new answer

-- why a call isn't made whose arguments found no memory
abbrev pub withheld : SessionValue → FtpError
withheld v = if v.channel.failed then SessionFailed else OutOfMemory

-- a stranger was dropped: another may come, or the one after so many was as good as the deadline
abbrev pub dropped : SessionValue → SessionValue
dropped v = record v { net = record v.net { data_conn = None } }

-- a setting changes; or there is no memory for a copy of it, and nothing does
abbrev pub Sets : Setting → SessionValue → SessionValue → Answer → Type 0
Sets setting old new answer =
    ((answer ≡ answers.Unit) × (new ≡ record old { state = set_to setting old.state })) ⊎ ((answer ≡ Fault OutOfMemory) × (new ≡ old))

-- the movement is of no byte
abbrev pub moves_nothing : Movement → Bool
moves_nothing (movement.Read most) = most == 0
moves_nothing (movement.Write bytes) = length bytes == 0
moves_nothing movement.Close = false

abbrev pub nothing_moved : Movement → Answer
nothing_moved (movement.Read most) = answers.Bytes []
nothing_moved (movement.Write bytes) = answers.Count 0
nothing_moved movement.Close = answers.Unit

-- what a movement answers, and leaves: after a close the transfer is left
abbrev pub answer_moved : Movement → NetOutcome → Answer
answer_moved (movement.Read most) outcome = moved_answer outcome
answer_moved (movement.Write bytes) outcome = moved_answer outcome
answer_moved movement.Close outcome = answers.Unit

abbrev pub state_moved : Movement → State → State
state_moved (movement.Read most) state = state
state_moved (movement.Write bytes) state = state
state_moved movement.Close state = with_left state

-- bytes went over the data connection, and that is the answer; or it was closed, and the transfer is left; or there were
-- no bytes to go, or no memory for those that are read, and nothing happened
pub record CarriesBy (tells : Type 0) (movement : Movement) (old new : SessionValue) (answer : Answer) : Type 0 where
  pub outcome : NetOutcome
  pub some : moves_nothing movement ≡ false
  pub is : answer ≡ answer_moved movement outcome
  pub beside : new ≡ record old { state = state_moved movement old.state; net = new.net }
  pub net_event : tells → MovementIs movement outcome old.net new.net
  pub apart : IsApart (answer_moved movement outcome)

-- a read needs memory for its bytes
abbrev pub needs_memory : Movement → Bool
needs_memory (movement.Read most) = true
needs_memory (movement.Write bytes) = false
needs_memory movement.Close = false

abbrev pub Carries : Type 0 → Movement → SessionValue → SessionValue → Answer → Type 0
Carries tells movement old new answer =
    CarriesBy tells movement old new answer ⊎ ((moves_nothing movement ≡ true) × (answer ≡ nothing_moved movement) × (new ≡ old)) ⊎ ((needs_memory movement ≡ true) × (answer ≡ Fault OutOfMemory) × (new ≡ old))

-- what a call does that is none of the control connection
abbrev pub DoesRow : Row → Type 0 → SessionValue → SessionValue → Answer → Type 0
DoesRow (Exchanges exchange) tells old new answer = ⊥
DoesRow (Arms offset) tells old new answer = ⊥
DoesRow row.Resyncs tells old new answer = ⊥
DoesRow (row.Sets setting) tells old new answer = Sets setting old new answer
DoesRow (row.Moves movement) tells old new answer = Carries tells movement old new answer

pub record CarriedOut (tells : Type 0) (call : Call) (old new : SessionValue) (answer : Answer) : Type 0 where
  pub going : refusal_of call old ≡ Taken
  pub last : SessionValue
  pub does : DoesRow (row_of call First) tells old last answer
  pub lets_go : LetsGo tells last new

-- it is refused, or carried out
abbrev pub CarriesOut : Type 0 → Call → SessionValue → SessionValue → Answer → Type 0
CarriesOut tells call old new answer = IsRefused tells call old new answer ⊎ CarriedOut tells call old new answer

-- A whole data connection

-- a read of the data connection resulted in this, and all that was read is this now
abbrev pub ReadsBy : Link → SessionValue → SessionValue → NetOutcome → Type 0
ReadsBy link old new outcome = MovesBy link (movement.Read chunk) old new outcome

abbrev pub Grows : Link → List ℕ → List ℕ → SessionValue → SessionValue → Poll More → Type 0
Grows link all all' old new (poll.Ready more.Grew) = (byte : ℕ) × (bytes : List ℕ) × (all' ≡ all ++ byte ∷ bytes) × ReadsBy link old new (came.Read (byte ∷ bytes))
Grows link all all' old new (poll.Ready more.Ended) = (all' ≡ all) × ReadsBy link old new (came.Read []) × ReadsBy link old new came.NoMemory
Grows link all all' old new (poll.Ready (more.Failed kind)) = ReadsBy link old new (came.Failed kind)
Grows link all all' old new (poll.Ready more.NoMemory) = ReadsBy link old new came.NoMemory
Grows link all all' old new poll.Pending = (all' ≡ all) × ((tree : Tree) → Still link tree tree old new) × link.asks_wait

-- a whole file or listing begins: no byte was read or written yet, or there are more than can be sent
abbrev pub StartsStore : Option ℕ → List ℕ → Stage → SessionValue → SessionValue → Step → Type 0
StartsStore (Some total) bytes stage old new result = (result ≡ Next) × (stage ≡ Transferring (Sending total total bytes)) × (new ≡ old)
StartsStore None bytes stage old new result = (result ≡ Done (Fault (ConnectionError SourceTooLarge))) × (new ≡ record old { state = with_abandoned old.state })

abbrev pub StartsTask : Task → Stage → SessionValue → SessionValue → Step → Type 0
StartsTask (tasks.Fetch form) stage old new result = (result ≡ Next) × (stage ≡ Transferring (Gathering form most_reads [])) × (new ≡ old)
StartsTask (tasks.Store bytes) stage old new result =
    let wire = wire_data old.state.settings.text bytes in
    StartsStore (size_to_send wire) wire stage old new result

-- the stage once all was read, or no more can be
abbrev pub closing_with : Fetch → Answer → Stage
closing_with form answer = Closing (Fetched form answer)

-- what follows a read
abbrev pub Follows : Coding → Fetch → ℕ → List ℕ → More → Stage → Type 0
Follows coding form left all more.Grew next = next ≡ (if nat_le (length all) most_bytes then Transferring (Gathering form left all) else closing_with form (too_long form))
Follows coding form left all more.Ended next = (next ≡ closing_with form (fetched coding form all)) ⊎ (next ≡ closing_with form (Fault OutOfMemory))
Follows coding form left all (more.Failed kind) next = next ≡ closing_with form (unfetched form kind)
Follows coding form left all more.NoMemory next = next ≡ closing_with form (Fault OutOfMemory)

-- bytes were written to the data connection, from the front, and the rest is left; or that failed; or it is waited for
abbrev pub Sends : Link → List ℕ → List ℕ → SessionValue → SessionValue → Result (Poll (Unit {0})) ErrorKind → Type 0
Sends link rest rest' old new (Ok (poll.Ready done)) = (count : ℕ) × (rest' ≡ drop count rest) × MovesBy link (movement.Write rest) old new (came.Wrote count)
Sends link rest rest' old new (Err kind) = MovesBy link (movement.Write rest) old new (came.Failed kind)
Sends link rest rest' old new (Ok poll.Pending) = (rest' ≡ rest) × ((tree : Tree) → Still link tree tree old new) × link.asks_wait

-- an error was heard in place of the last reply: what is answered, and what it leaves
abbrev pub FetchFailsIf : Bool → Fetch → Answer → FtpError → State → State → Answer → Type 0
FetchFailsIf true form answer fault state state' told = (told ≡ Fault fault) × (state' ≡ with_abandoned state)
FetchFailsIf false form answer fault state state' told = (told ≡ Fault (first_fault form answer fault)) × (state' ≡ with_fetched state)

abbrev pub EndsFetch : Fetch → Answer → FtpError → SessionValue → SessionValue → Answer → Type 0
EndsFetch form answer fault old new told =
    (new ≡ record (after_fault true fault old) { state = new.state }) × FetchFailsIf (wants_memory fault) form answer fault old.state new.state told
