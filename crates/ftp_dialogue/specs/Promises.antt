-- What a session promises of a call and of a list of calls: what their definition says of all that the server sends,
-- until the connection fails or memory runs out.
use Rattle.std.specs.Prelude.{◌≡◌, ◌⊎◌, ◌≤◌, ◌<◌, ◌+◌, ◌==◌, ◌||◌, is_none, ℕ, Bool, true, false, Option, Some, None, List, [], ◌∷◌, ◌++◌, length, Result, Ok, Err}
use Rattle.std.specs.declared.io.ErrorKind.{ErrorKind}
use Rattle.futures.specs.declared.task.Poll.{Poll}
use Rattle.futures.specs.declared.task.Poll.TheVariants.{Ready, Pending}
use Rattle.ftp_base.specs.declared.status.Status.TheVariants.{TransferAborted}
use Rattle.ftp_base.specs.Status.{code_of, status_of}
use Rattle.ftp_base.specs.declared.command.Command.{Command}
use Rattle.ftp_base.specs.Command.{text_of}
use Rattle.ftp_base.specs.Wire.{wire}
use Rattle.ftp_control.specs.declared.control.outcome.Outcome.TheVariants.{Whole}
use Rattle.ftp_control.specs.Grammar.{outcome, left_by}
use Rattle.ftp_control.specs.Answer.{is_among}
use Rattle.ftp_base.specs.declared.types.reply.Response.{Response}
use Rattle.ftp_base.specs.declared.types.fault.FtpError.{FtpError}
use Rattle.ftp_base.specs.declared.types.fault.FtpError.TheVariants.{ConnectionError, OutOfMemory, SessionFailed}
use Rattle.ftp_base.specs.declared.types.fault.ConnectionError.{ConnectionError as Cause}
use Rattle.ftp_base.specs.declared.types.fault.ConnectionError.TheVariants.{Io}
use Rattle.ftp_transport.specs.declared.room.Room.{Room}
use Rattle.ftp_dialogue.specs.declared.model.NetOutcome.{NetOutcome}
use Rattle.ftp_transport.specs.Told.{Told, HasRoomFor, HasFailed, IsDry, NoneFailed}
use Rattle.ftp_transport.specs.Memory.{IsGiven}
use Rattle.ftp_control.specs.Reading.{GoesOn as GoesBeyond}
use Rattle.ftp_control.specs.Channel.{untaken}
use Rattle.ftp_control.specs.declared.control.rule.ReplyRule.{ReplyRule}
use Rattle.ftp_control.specs.Saying.{said}
use Rattle.ftp_calls.specs.declared.call.Answer.{Answer}
use Rattle.ftp_calls.specs.declared.call.Answer.TheVariants.{Fault}
use Rattle.ftp_calls.specs.declared.call.Answer.TheVariants as answers
use Rattle.ftp_calls.specs.declared.exchange.Turn.TheVariants.{First, Second}
use Rattle.ftp_calls.specs.declared.exchange.Ending.{Ending}
use Rattle.ftp_calls.specs.declared.exchange.Ending.TheVariants.{GoesOn, Continues, GivesAddress, GivesPort, Stops}
use Rattle.ftp_calls.specs.declared.exchange.Exchange.{Exchange}
use Rattle.ftp_calls.specs.declared.exchange.Row.{Row}
use Rattle.ftp_calls.specs.declared.exchange.Row.TheVariants.{Exchanges, Arms, Resyncs, Sets, Moves}
use Rattle.ftp_calls.specs.declared.call.Call.{Call}
use Rattle.ftp_calls.specs.declared.call.Call.TheVariants.{Drain}
use Rattle.ftp_dialogue.specs.declared.model.PlayState.{PlayState}
use Rattle.ftp_dialogue.specs.declared.model.Played.TheVariants as played
use Rattle.ftp_dialogue.specs.State.{SessionValue, LetsGo}
use Rattle.ftp_dialogue.specs.Coding.{Coding}
use Rattle.ftp_dialogue.specs.NetEvents.{NetEvent, NetEvents, PartedIs, net_record_of, outcomes_of}
use Rattle.ftp_dialogue.specs.declared.state.State.{State}
use Rattle.ftp_calls.specs.Exchanges.{row_of, drains, finishes, is_local, negotiates}
use Rattle.ftp_dialogue.specs.Dialogue.{Expected, expected_of, Tree, Say, Hear, Look, Leaf, dialogue, entered, with_left}
use Rattle.ftp_dialogue.specs.Play.{Refusal, Taken, Lacking, Failing, is_due, is_unit, lacks, play, refusal}
use Rattle.ftp_dialogue.specs.Resuming.{Resumes, modes_of}
use Rattle.ftp_dialogue.specs.Within.{Within}
use Rattle.ftp_dialogue.specs.Link.{Link}

-- What a call that succeeded did on the wire

abbrev pub IsSuccess : Answer → Type 0
IsSuccess answers.NoTransfer = ⊥
IsSuccess (Fault fault) = ⊥
IsSuccess other = Unit {0}

-- a command's line was said after what was unsent, or nothing was
abbrev pub Says : Coding → Option Command → PlayState → PlayState → Type 0
Says coding None s t = (t.said ≡ s.said) × (t.unsent ≡ s.unsent)
Says coding (Some command) s t = (line : List ℕ) × (wire coding.encode (text_of command) ≡ Ok line) × (t.said ≡ s.said ++ s.unsent ++ line) × (t.unsent ≡ [])

-- one exchange: its line was said, if it has one, and then one reply of an accepted status was consumed
pub record Exchanged (coding : Coding) (exchange : Exchange) (reply : Response) (s t : PlayState) : Type 0 where
  pub says : Says coding exchange.says s t
  pub code : ℕ
  pub whole : outcome s.state.settings.reply_rule (expected_of exchange.hears).form s.bytes s.ended ≡ Whole reply.body code
  pub status : reply.status ≡ status_of code
  pub accepted : is_among (expected_of exchange.hears).statuses reply.status ≡ true
  pub consumed : t.bytes ≡ left_by (Whole reply.body code) s.bytes

-- a reply goes on to the second exchange
abbrev pub goes_on_with : Ending → Response → Bool
goes_on_with (GoesOn status) reply = code_of reply.status == code_of status
goes_on_with Continues reply = true
goes_on_with GivesAddress reply = true
goes_on_with (GivesPort tries) reply = true
goes_on_with Stops reply = code_of reply.status == code_of TransferAborted
goes_on_with other reply = false

-- nothing was said or consumed
abbrev pub IsSilent : PlayState → PlayState → Type 0
IsSilent s t = (t.said ≡ s.said) × (t.unsent ≡ s.unsent) × (t.bytes ≡ s.bytes)

-- an exchange where a row is one and it was made, else nothing
abbrev pub ExchangedIf : Bool → Coding → Row → PlayState → PlayState → Type 0
ExchangedIf true coding (Exchanges exchange) s t = (reply : Response) × Exchanged coding exchange reply s t
ExchangedIf true coding (Arms offset) s t = IsSilent s t
ExchangedIf true coding Resyncs s t = Unit {0}
ExchangedIf true coding (Sets setting) s t = IsSilent s t
ExchangedIf true coding (Moves movement) s t = IsSilent s t
ExchangedIf false coding row s t = IsSilent s t

-- an exchange, and the next row where its reply goes on
pub record ExchangesTwo (coding : Coding) (exchange : Exchange) (next : Row) (s t : PlayState) : Type 0 where
  pub reply : Response
  pub between : PlayState
  pub first : Exchanged coding exchange reply s between
  pub second : ExchangedIf (goes_on_with exchange.ending reply) coding next between t

-- a call that succeeded: its first row, and its second where the first is an exchange whose reply goes on
abbrev pub SucceedsBy : Coding → Row → Row → PlayState → PlayState → Type 0
SucceedsBy coding (Exchanges exchange) next s t = ExchangesTwo coding exchange next s t
SucceedsBy coding Resyncs next s t = Unit {0}
SucceedsBy coding other next s t = IsSilent s t

-- of a call that opens a data connection, or hears the end of a transfer, the dialogue alone says what it did
abbrev pub SucceedsUnless : Bool → Coding → Call → PlayState → PlayState → Type 0
SucceedsUnless true coding call s t = Unit {0}
SucceedsUnless false coding call s t = SucceedsBy coding (row_of call First) (row_of call Second) s t

abbrev pub Succeeds : Coding → Call → PlayState → PlayState → Type 0
Succeeds coding call s t = SucceedsUnless (negotiates call || finishes call || drains call) coding call s t

-- a call failed
abbrev pub IsFault : Answer → Type 0
IsFault (Fault fault) = Unit {0}
IsFault other = ⊥

-- an answer that a call may give which is none of the control connection
abbrev pub IsApart : Answer → Type 0
IsApart answers.Unit = Unit {0}
IsApart (answers.Bytes bytes) = Unit {0}
IsApart (answers.Count count) = Unit {0}
IsApart (Fault fault) = (fault ≡ OutOfMemory) ⊎ ((kind : ErrorKind) × (fault ≡ ConnectionError (Io kind)))
IsApart other = ⊥

-- where a run stands in a session, where these bytes are still to come, and these outcomes
abbrev pub play_state : SessionValue → List ℕ → Bool → List NetOutcome → PlayState
play_state v more ended outcomes = record {
  state = v.state;
  failed = v.channel.failed;
  said = v.channel.told.sent;
  unsent = v.channel.unsent;
  local = v.channel.told.given.local;
  peer = v.channel.told.given.peer;
  net_record = net_record_of v.net;
  bytes = untaken v.channel ++ more;
  ended = ended;
  outcomes = outcomes;
}

-- whatever still comes, and whatever room there is, this holds of where a run stood in a session and where it
-- stands now, where these bytes came between and this happened beside the control connection
abbrev pub However : SessionValue → List ℕ → List NetEvent → SessionValue → (Room → PlayState → PlayState → Type 0) → Type 0
However old came answered new Holds =
    (room : Room) (more : List ℕ) (ended : Bool) (outcomes : List NetOutcome)
    → HasRoomFor room (length new.channel.told.sent) → GoesBeyond new.channel.ended more ended
    → Holds room (play_state old (came ++ more) ended (outcomes_of answered ++ outcomes)) (play_state new more ended outcomes)

-- these bytes came, this happened beside the control connection, other bytes may have gone out, and no call failed;
-- what was said stays said, no more is untaken than was and came, and what is received was at hand, if it was before
pub record Goes (link : Link) (came : List ℕ) (answered : List NetEvent) (old new : SessionValue) : Type 0 where
  pub over : GoesBeyond old.channel.ended came new.channel.ended
  pub received : link.tells → new.channel.told.received ≡ old.channel.told.received ++ came
  pub given : link.tells → new.channel.told.given ≡ old.channel.told.given
  pub failures : link.tells → NoneFailed old.channel.told new.channel.told
  pub sent : link.tells → length old.channel.told.sent ≤ length new.channel.told.sent
  pub said : link.tells → length (said old.channel) ≤ length (said new.channel)
  pub untaken : length (untaken new.channel) ≤ length (untaken old.channel) + length came
  pub at_hand : link.tells → IsGiven old.channel.told → IsGiven new.channel.told
  pub net_events : link.tells → NetEvents link.beside answered old.net new.net

-- no reply is read first
abbrev pub Calm : Tree → Type 0
Calm (Hear codes next) = ⊥
Calm other = Unit {0}

-- what is kept of a reply afterwards: nothing, as after a whole one; or nothing was read, and what was kept and lay ahead
-- stays, by its rule
abbrev pub Keeps : Type 0 → List ℕ → SessionValue → SessionValue → Type 0
Keeps unread came old new = (new.channel.kept ≡ []) ⊎ ((new.channel.kept ≡ old.channel.kept) × (new.channel.ahead ≡ old.channel.ahead) × (came ≡ []) × unread × (new.channel.rule ≡ old.channel.rule))

-- one tree is left of another, and is a place of it; a reply under way there goes on as it began, and where none is read
-- next nothing is kept of one that wasn't before
pub record Leads (link : Link) (tree tree' : Tree) (old new : SessionValue) : Type 0 where
  pub came : List ℕ
  pub answered : List NetEvent
  pub within : Within (outcomes_of answered) tree' tree
  pub goes : Goes link came answered old new
  pub resumes : Resumes (modes_of old) old.channel.kept tree → Resumes (modes_of new) new.channel.kept tree'
  pub calm : Calm tree' → Keeps (Calm tree) came old new
  pub plays : link.tells → Resumes (modes_of old) old.channel.kept tree → However old came answered new (λ room s t. play room tree s ≡ play room tree' t)

-- these outcomes lead to a leaf of the tree with this answer and this state, or to a line that can't be said, whose error is
-- the answer
abbrev pub IsOf : List NetOutcome → Answer → State → Tree → Type 0
IsOf outcomes answer state tree =
    Within outcomes (Leaf answer state) tree ⊎ ((cause : Cause) × (next : Tree) × (answer ≡ Fault (ConnectionError cause)) × Within outcomes (Say (Err cause) next) tree)

-- a tree reaches its answer
pub record Completes (link : Link) (tree : Tree) (answer : Answer) (old new : SessionValue) : Type 0 where
  pub came : List ℕ
  pub answered : List NetEvent
  pub is_of : IsOf (outcomes_of answered) answer new.state tree
  pub goes : Goes link came answered old new
  pub keeps : Keeps (Calm tree) came old new
  pub plays : link.tells → Resumes (modes_of old) old.channel.kept tree → However old came answered new (λ room s t. play room tree s ≡ played.Done answer t)
  pub fails : new.channel.failed ≡ true → (old.channel.failed ≡ true) ⊎ IsFault answer

-- a node fails where a line is said, a reply is read or an address is looked up, with an error that the connection may
-- answer there
abbrev pub MayFailAt : Link → Tree → Told → ErrorKind → Type 0
MayFailAt link (Say line next) told kind = link.tells → link.writes told kind
MayFailAt link (Hear codes next) told kind = link.reads kind
MayFailAt link (Look end next) told kind = link.ends kind
MayFailAt link other told kind = ⊥

-- the session fails where a line or a reply may be lost, and goes on where an address isn't known
abbrev pub fails_at : Tree → Bool
fails_at (Look end next) = false
fails_at other = true

-- what a tree that is over answers, and leaves
abbrev pub answer_of : Tree → Answer → Answer
answer_of (Leaf answer state) other = answer
answer_of tree other = other

abbrev pub state_of : Tree → State → State
state_of (Leaf answer state) other = state
state_of tree other = other

-- where a reply is awaited an error takes its place; elsewhere it is the answer, and the state stays
abbrev pub answer_at : Tree → FtpError → Answer
answer_at (Hear codes next) fault = answer_of (next (Err fault)) (Fault fault)
answer_at tree fault = Fault fault

abbrev pub state_at : Tree → FtpError → State → State
state_at (Hear codes next) fault state = state_of (next (Err fault)) state
state_at tree fault state = state

-- the connection failed at this node, which was counted and is told, and nothing else happened but what the tree says of
-- such an error
pub record Fails (link : Link) (place : Tree) (fault : FtpError) (at new : SessionValue) : Type 0 where
  pub kind : ErrorKind
  pub is : Fault fault ≡ answer_at place (ConnectionError (Io kind))
  pub may : MayFailAt link place at.channel.told kind
  pub same : new ≡ record at { channel = record at.channel { told = new.channel.told; failed = fails_at place }; state = state_at place (ConnectionError (Io kind)) at.state }
  pub failed : link.tells → HasFailed kind at.channel.told new.channel.told

-- nothing was said and no reply was taken
pub record Untouched (link : Link) (came : List ℕ) (old new : SessionValue) : Type 0 where
  pub said : link.tells → said new.channel ≡ said old.channel
  pub untaken : untaken new.channel ≡ untaken old.channel ++ came

-- something was said, or a reply was taken: fewer bytes are untaken than were and came
abbrev pub SaidOrTaken : SessionValue → SessionValue → Type 0
SaidOrTaken old new =
    (length (said old.channel) < length (said new.channel)) ⊎ (length old.channel.told.received + length (untaken new.channel) < length new.channel.told.received + length (untaken old.channel))

abbrev pub Touched : Link → Tree → SessionValue → SessionValue → Type 0
Touched link tree old new = link.tells → Resumes (modes_of old) old.channel.kept tree → SaidOrTaken old new

abbrev pub failed_from : SessionValue → SessionValue
failed_from v = record v { channel = record v.channel { failed = true } }

-- what is left where memory runs out at this place: where a reply is awaited the dialogue says so
abbrev pub lacking_at : Tree → SessionValue → SessionValue
lacking_at place v = record v { state = state_at place OutOfMemory v.state }

-- memory ran out: where nothing of the dialogue was said or taken, nothing happened; where something was, in this
-- poll or before, the session has failed, and a transfer whose last reply was awaited is left, or aborted
pub record LacksMemory (link : Link) (begun : Bool) (tree place : Tree) (came : List ℕ) (fault : FtpError) (old at new : SessionValue) : Type 0 where
  pub is : fault ≡ OutOfMemory
  pub leaves : ((new ≡ at) × (begun ≡ false) × Untouched link came old at) ⊎ ((new ≡ failed_from (lacking_at place at)) × ((begun ≡ true) ⊎ Touched link tree old at))

-- a dialogue is aborted at some place of its tree; it may have begun before
pub record Aborts (link : Link) (begun : Bool) (tree : Tree) (answer : Answer) (old new : SessionValue) : Type 0 where
  pub place : Tree
  pub at : SessionValue
  pub leads : Leads link tree place old at
  pub state : at.state ≡ old.state
  pub going : at.channel.failed ≡ old.channel.failed
  pub fault : FtpError
  pub is : answer ≡ Fault fault
  pub cause : Fails link place fault at new ⊎ LacksMemory link begun tree place leads.came fault old at new

-- a call isn't made: nothing changes, but where the session has failed a call that would bring a transfer to its end
-- leaves it, and its data connection is closed
abbrev pub LeavesIf : Bool → Type 0 → SessionValue → SessionValue → Type 0
LeavesIf true tells old new = (new ≡ record old { state = with_left old.state; net = new.net }) × (tells → PartedIs old.net new.net)
LeavesIf false tells old new = new ≡ old

abbrev pub Refuses : Refusal → Type 0 → Call → SessionValue → SessionValue → Answer → Type 0
Refuses Taken tells call old new answer = ⊥
Refuses Lacking tells call old new answer = (answer ≡ answers.NoTransfer) × (new ≡ old)
Refuses Failing tells call old new answer = (answer ≡ Fault SessionFailed) × LeavesIf (finishes call) tells old new

abbrev pub lacks_of : Call → SessionValue → Bool
lacks_of call v = lacks call (is_none v.net.data_conn) v.state.counts.owed

abbrev pub refusal_of : Call → SessionValue → Refusal
refusal_of call v = refusal call v.channel.failed (lacks_of call v)

abbrev pub IsRefused : Type 0 → Call → SessionValue → SessionValue → Answer → Type 0
IsRefused tells call old new answer = Refuses (refusal_of call old) tells call old new answer

-- a call, whole: it is refused, or its dialogue reaches its answer or is aborted; one that is none of the control
-- connection says and hears nothing there

-- where a call begins
abbrev pub begun_by : Call → SessionValue → SessionValue
begun_by call v = record v { state = entered call v.state }

pub record IsPlayed (link : Link) (coding : Coding) (call : Call) (old new : SessionValue) (answer : Answer) : Type 0 where
  pub going : refusal_of call old ≡ Taken
  pub apart : is_local call ≡ true → new.channel ≡ old.channel
  pub last : SessionValue
  pub plays : Completes link (dialogue coding call old.state) answer (begun_by call old) last ⊎ Aborts link false (dialogue coding call old.state) answer (begun_by call old) last
  pub lets_go : LetsGo link.tells last new

-- its arguments found no memory, and nothing happened
pub record IsWithheld (old new : SessionValue) (answer : Answer) : Type 0 where
  pub going : old.channel.failed ≡ false
  pub is : answer ≡ Fault OutOfMemory
  pub unchanged : new ≡ old

-- what a call that succeeded did on the wire comes first: these lines were said, these replies were consumed
pub record Wired (link : Link) (coding : Coding) (call : Call) (old new : SessionValue) : Type 0 where
  pub last : SessionValue
  pub lets_go : LetsGo link.tells last new
  pub came : List ℕ
  pub answered : List NetEvent
  pub goes : Goes link came answered (begun_by call old) last
  pub succeeds : link.tells → Resumes (modes_of old) old.channel.kept (dialogue coding call old.state) → Succeeds coding call (play_state old came last.channel.ended (outcomes_of answered)) (play_state last [] last.channel.ended [])

pub record PlaysAlone (link : Link) (coding : Coding) (call : Call) (old new : SessionValue) (answer : Answer) : Type 0 where
  pub wired : IsSuccess answer → Wired link coding call old new
  pub made : IsRefused link.tells call old new answer ⊎ IsPlayed link coding call old new answer ⊎ IsWithheld old new answer
  pub fails : new.channel.failed ≡ true → (old.channel.failed ≡ true) ⊎ IsFault answer

-- whether the last reply of a transfer that was left is due before a call
abbrev pub due_of : Call → SessionValue → Bool
due_of call v = is_due call v.channel.failed v.state.counts.owed

-- what is made of a call after the drain: the call goes on, or an error of the drain is its answer
abbrev pub MakesAfter : Bool → Answer → (SessionValue → SessionValue → Answer → Type 0) → SessionValue → SessionValue → Answer → Type 0
MakesAfter true first Makes middle new answer = Makes middle new answer
MakesAfter false first Makes middle new answer = (answer ≡ first) × (new ≡ middle)

pub record DrainsFirst (Makes : Call → SessionValue → SessionValue → Answer → Type 0) (call : Call) (old new : SessionValue) (answer : Answer) : Type 0 where
  pub middle : SessionValue
  pub first : Answer
  pub drains : Makes Drain old middle first
  pub then_makes : MakesAfter (is_unit first) first (Makes call) middle new answer

abbrev pub DrainsIf : Bool → (Call → SessionValue → SessionValue → Answer → Type 0) → Call → SessionValue → SessionValue → Answer → Type 0
DrainsIf true Makes call old new answer = DrainsFirst Makes call old new answer
DrainsIf false Makes call old new answer = Makes call old new answer

-- a call, after the last reply of a transfer that was left, where one is due
pub record Plays (link : Link) (coding : Coding) (call : Call) (old new : SessionValue) (answer : Answer) : Type 0 where
  pub makes : DrainsIf (due_of call old) (PlaysAlone link coding) call old new answer

-- the rule by which a reply is read: its own, where a byte of it was kept, and else the setting
abbrev pub reply_rule_of : SessionValue → ReplyRule
reply_rule_of v = (modes_of v).under

-- a read that waits leaves a run where it stood: what came is untaken, and nothing else happened; all that
-- came was looked at, nothing more is there, and more may come; what is kept goes on by its rule
pub record Rests (link : Link) (old new : SessionValue) : Type 0 where
  pub came : List ℕ
  pub goes : Goes link came [] old new
  pub failed : new.channel.failed ≡ old.channel.failed
  pub stays : link.tells → (more : List ℕ) (ended : Bool) (outcomes : List NetOutcome) → play_state old (came ++ more) ended outcomes ≡ play_state new more ended outcomes
  pub unended : new.channel.ended ≡ false
  pub none_ahead : new.channel.ahead ≡ []
  pub dry : link.tells → IsDry new.channel.told
  pub rule : new.channel.rule ≡ reply_rule_of old

-- the connection failed in a read, which was counted
pub record FailsRead (link : Link) (fault : FtpError) (at new : SessionValue) : Type 0 where
  pub kind : ErrorKind
  pub is : fault ≡ ConnectionError (Io kind)
  pub may : link.reads kind
  pub same : new ≡ record at { channel = record at.channel { told = new.channel.told; failed = true } }
  pub failed : link.tells → HasFailed kind at.channel.told new.channel.told

-- a read is aborted: the connection failed, which was counted; or memory ran out, and nothing is lost
pub record AbortsRead (link : Link) (codes : Expected) (next : Result Response FtpError → Tree) (fault : FtpError) (old new : SessionValue) : Type 0 where
  pub at : SessionValue
  pub leads : Leads link (Hear codes next) (Hear codes next) old at
  pub state : at.state ≡ old.state
  pub going : at.channel.failed ≡ false
  pub cause : FailsRead link fault at new ⊎ ((fault ≡ OutOfMemory) × (new ≡ at) × Untouched link leads.came old at)

-- a read of one reply: it is heard, or an error in its place; or the read is aborted, or waits
abbrev pub Reads : Link → Expected → (Result Response FtpError → Tree) → SessionValue → SessionValue → Poll (Result Response FtpError) → Type 0
Reads link codes next old new (Ready (Ok reply)) = Leads link (Hear codes next) (next (Ok reply)) old new
Reads link codes next old new (Ready (Err fault)) =
    Leads link (Hear codes next) (next (Err fault)) old new ⊎ AbortsRead link codes next fault old new
Reads link codes next old new Pending = Leads link (Hear codes next) (Hear codes next) old new × Rests link old new

-- a read gives an error
abbrev pub GivesFault : Poll (Result Response FtpError) → Type 0
GivesFault (Ready (Ok reply)) = ⊥
GivesFault (Ready (Err fault)) = Unit {0}
GivesFault Pending = ⊥

-- some call failed
abbrev pub HasFault : List Answer → Type 0
HasFault [] = ⊥
HasFault (answer ∷ answers) = IsFault answer ⊎ HasFault answers

-- a session fails only where a call does
abbrev pub FailsWith : SessionValue → SessionValue → List Answer → Type 0
FailsWith v w answers = w.channel.failed ≡ true → (v.channel.failed ≡ true) ⊎ HasFault answers

-- a session that has failed refuses each call that goes over the control connection
abbrev pub IsRefusal : Answer → Type 0
IsRefusal answer = (answer ≡ Fault SessionFailed) ⊎ (answer ≡ answers.NoTransfer)
