-- How a session follows its script between two events.
use Rattle.std.specs.Prelude.{◌≤◌, ◌+◌, ◌≡◌, ◌⊎◌, ◌||◌, ◌&&◌, not, ℕ, Bool, true, false, Option, Some, None, is_none, List, [], ◌∷◌, ◌++◌, length}
use Rattle.ftp_control.specs.Saying.{said}
use Rattle.futures.specs.declared.task.Poll.{Poll}
use Rattle.futures.specs.declared.task.Poll.TheVariants.{Ready, Pending}
use Rattle.ftp_base.specs.declared.types.fault.FtpError.{FtpError}
use Rattle.ftp_base.specs.declared.types.fault.FtpError.TheVariants.{SessionFailed}
use Rattle.ftp_transport.specs.Told.{EndsAsTold}
use Rattle.ftp_dialogue.specs.NetEvents.{NetEvent, NetEvents, net_record_of, outcomes_of}
use Rattle.ftp_dialogue.specs.declared.model.NetOutcome.{NetOutcome}
use Rattle.ftp_control.specs.declared.control.outcome.Outcome.TheVariants.{Waits}
use Rattle.ftp_control.specs.Grammar.{outcome}
use Rattle.ftp_transport.specs.Memory.{IsGiven}
use Rattle.ftp_control.specs.Reading.{GoesOn}
use Rattle.ftp_control.specs.Channel.{IsSound, untaken}
use Rattle.ftp_calls.specs.declared.call.Answer.{Answer}
use Rattle.ftp_calls.specs.declared.call.Answer.TheVariants.{Fault, Unit as Nothing}
use Rattle.ftp_calls.specs.declared.call.Call.{Call}
use Rattle.ftp_calls.specs.declared.call.Call.TheVariants.{Drain, Finish, Leave}
use Rattle.ftp_calls.specs.declared.call.Event.{Event}
use Rattle.ftp_calls.specs.declared.call.Event.TheVariants.{Cancel, Feed, Poll as Polling}
use Rattle.ftp_calls.specs.declared.exchange.Turn.TheVariants.{First}
use Rattle.ftp_dialogue.specs.declared.stage.Stage.{Stage}
use Rattle.ftp_dialogue.specs.declared.stage.Stage.TheVariants.{At}
use Rattle.ftp_dialogue.specs.State.{SessionValue, LetsGo}
use Rattle.ftp_dialogue.specs.Coding.{Coding}
use Rattle.ftp_calls.specs.Exchanges.{drains, finishes, is_local, is_read}
use Rattle.ftp_dialogue.specs.CatchingUp.{CatchesUp, InStepIf, reads_dropped_first, is_plain_read}
use Rattle.ftp_dialogue.specs.Dropping.{DropsCall as DropsStage}
use Rattle.ftp_dialogue.specs.Dialogue.{dialogue}
use Rattle.ftp_dialogue.specs.Resuming.{Modes, Resumes, modes_of}
use Rattle.ftp_dialogue.specs.Sound.{holds}
use Rattle.ftp_runs.specs.declared.events.Course.{Course}
use Rattle.ftp_runs.specs.Scripted.{AreRefused, IsPolled, LeavesHeld, LeavesThen, SaysFrontOf, SaysNothing, SaysOrTakes, Stands, Reaches}
use Rattle.ftp_dialogue.specs.Play.{Taken, is_unit, needs_data}
use Rattle.ftp_dialogue.specs.Promises.{Aborts, HasFault, IsRefused, Rests, due_of, refusal_of}
use Rattle.ftp_dialogue.specs.Steps.Polls.{is_first, entered_state, entered_at, entered_tree, polled_answer, MayPollAt, StartsTo}
use Rattle.ftp_dialogue.specs.Steps.Stages.{remaining, begun_at, StageOf}
use Rattle.ftp_dialogue.specs.Steps.Moving.{Apart, CarriesOut, HasBegun, MadeDrained, PollsTo}
use Rattle.ftp_runs.specs.declared.model.Item.{Item}
use Rattle.ftp_runs.specs.declared.model.Item.TheVariants.{Hidden}
use Rattle.ftp_runs.specs.declared.model.Script.{Script}
use Rattle.ftp_runs.specs.Script.{unread, is_over, start_of, after_event, drops_begun, IsLawful, MayCancel}
use Rattle.ftp_dialogue.specs.Link.{Builds, Link, builds_nothing, over_memory, plain, unasked}

-- since the calls before it were done, no less of a call is said and taken than was; where it has begun, more is
pub record Since (coding : Coding) (old : SessionValue) (items : List Item) (answers : List Answer) (came : List ℕ) (answered : List NetEvent) (v : SessionValue) (begun : Bool) : Type 0 where
  pub start : SessionValue
  pub before : List ℕ
  pub later : List ℕ
  pub split : came ≡ before ++ later
  pub asked_before : List NetEvent
  pub asked_later : List NetEvent
  pub asked_split : answered ≡ asked_before ++ asked_later
  pub stands : Stands coding old items before asked_before start answers
  pub sent : length start.channel.told.sent ≤ length v.channel.told.sent
  pub over : (more : List ℕ) (ended : Bool) → GoesOn v.channel.ended more ended → GoesOn start.channel.ended (later ++ more) ended
  pub said : length (said start.channel) ≤ length (said v.channel)
  pub taken : length before + length (untaken v.channel) ≤ length came + length (untaken start.channel)
  pub has_begun : begun ≡ true → SaysOrTakes before came start v
  pub not_begun : begun ≡ false → SaysNothing later start v

-- a call that was polled; of a plain read no trace is left where it is dropped, and `Finish` has left its transfer
pub record UnderWay (coding : Coding) (old : SessionValue) (s : Script) (came : List ℕ) (answered : List NetEvent) (v : SessionValue) (call : Call) (stage : Stage) : Type 0 where
  pub stage_of : StageOf call stage
  pub polled : s.polled ≡ true
  pub undue : due_of call v ≡ false
  pub going : v.channel.failed ≡ false
  pub reaches : Reaches coding old s.items came answered v s.answers call (remaining coding call v.state stage)
  pub resumes : Resumes (modes_of v) v.channel.kept (remaining coding call v.state stage)
  pub apart : is_read call ≡ true → Apart (remaining coding call v.state stage)
  pub read : is_read call ≡ true → Stands coding old s.items came answered v s.answers
  pub since : Since coding old s.items s.answers came answered v (begun_at stage)
  pub leaves : call ≡ Finish → Stands coding old (s.items ++ Hidden Leave ∷ []) came answered v s.answers
  pub unsent : call ≡ Finish → v.channel.unsent ≡ since.start.channel.unsent

-- a call that was polled and has waited for room since, before it hears: its first line still goes out
pub record Unheard (coding : Coding) (old : SessionValue) (s : Script) (came : List ℕ) (answered : List NetEvent) (v : SessionValue) (call : Call) (stage : Stage) : Type 0 where
  pub plain : needs_data call ≡ false
  pub stage_of : StageOf call stage
  pub polled : s.polled ≡ true
  pub unheard : s.heard ≡ false
  pub undue : due_of call v ≡ false
  pub going : v.channel.failed ≡ false
  pub no_read : is_read call ≡ false
  pub reaches : Reaches coding old s.items came answered v s.answers call (remaining coding call v.state stage)
  pub resumes : (modes : Modes) (kept : List ℕ) → Resumes modes kept (dialogue coding call v.state) → Resumes modes kept (remaining coding call v.state stage)
  pub since : Since coding old s.items s.answers came answered v (begun_at stage)

-- a call that wasn't polled
pub record Started (coding : Coding) (old : SessionValue) (s : Script) (came : List ℕ) (answered : List NetEvent) (v : SessionValue) (call : Call) (stage : Stage) : Type 0 where
  pub at : stage ≡ At First
  pub unpolled : s.polled ≡ false
  pub unheard : s.heard ≡ false
  pub stands : Stands coding old s.items came answered v s.answers

abbrev pub Place : Coding → SessionValue → Script → List ℕ → List NetEvent → SessionValue → Option Call → Stage → Type 0
Place coding old s came answered v None stage = Stands coding old s.items came answered v s.answers
Place coding old s came answered v (Some call) stage = Started coding old s came answered v call stage ⊎ UnderWay coding old s came answered v call stage ⊎ Unheard coding old s came answered v call stage

-- the session follows the script; of all outcomes these are left
pub record Follows (builds : Builds) (coding : Coding) (outcomes left : List NetOutcome) (old : SessionValue) (s : Script) (v : SessionValue) (call : Option Call) (stage : Stage) (answers : List Answer) : Type 0 where
  pub came : List ℕ
  pub answered : List NetEvent
  pub net_events : NetEvents (plain builds) answered old.net v.net
  pub outcomes_are : outcomes ≡ outcomes_of answered ++ left
  pub net_record : s.net_record ≡ net_record_of v.net
  pub place : Place coding old s came answered v call stage
  pub rule : (v.channel.kept ≡ []) ⊎ (v.channel.rule ≡ s.rule)
  pub failures : v.channel.told.failures ≡ old.channel.told.failures
  pub given : IsGiven v.channel.told
  pub sound : IsSound (Unit {0}) v.channel
  pub bytes : s.bytes ≡ untaken old.channel ++ came ++ unread v.channel.told
  pub ended : s.ended ≡ is_over v.channel.told
  pub room : s.room ≡ v.channel.told.given.room
  pub sent : s.sent ≡ v.channel.told.sent
  pub said : SaysFrontOf v.channel s.said
  pub received : v.channel.told.received ≡ old.channel.told.received ++ came
  pub unsent : MayCancel call s.polled → s.unsent ≡ v.channel.unsent
  pub untaken : s.untaken ≡ untaken v.channel ++ unread v.channel.told
  pub seen : s.seen ≡ length v.channel.kept
  pub waits : outcome v.channel.rule s.form v.channel.kept false ≡ Waits
  pub state : s.state ≡ v.state
  pub failed : s.failed ≡ v.channel.failed
  pub call_is : s.call ≡ call
  pub answers_are : s.answers ≡ answers

abbrev pub given_answer : Option Answer → List Answer
given_answer None = []
given_answer (Some answer) = answer ∷ []

-- a call begins where none is under way
abbrev pub Starts : Call → Option Call → Option Call → Stage → Stage → Course → Course → Type 0
Starts call None call' stage stage' course course' = (call' ≡ Some call) × (stage' ≡ At First) × (course' ≡ record course { polled = false })
Starts call (Some other) call' stage stage' course course' = (call' ≡ Some other) × (stage' ≡ stage) × (course' ≡ course)

-- what is known of the call under way beside its stage is what its script says
pub record Attends (s : Script) (course : Course) : Type 0 where
  pub polled : s.polled ≡ course.polled
  pub leaving : s.leaving ≡ course.leaving
  pub resting : s.call ≡ None → s.polled ≡ false

-- what a poll over memory does, and what holds then
pub record PollsHere (builds : Builds) (coding : Coding) (call : Call) (stage stage' : Stage) (v w : SessionValue) (result : Poll Answer) : Type 0 where
  pub refused : is_first stage ≡ true → (refusal_of call v ≡ Taken → ⊥) → (answer : Answer) × (result ≡ Ready answer) × IsRefused (Unit {0}) call v w answer
  pub lost : is_first stage ≡ false → v.channel.failed ≡ true → (result ≡ Ready (Fault SessionFailed)) × (w ≡ v)
  pub polls : MayPollAt stage call v → PollsTo (over_memory builds) (begun_at stage) (entered_tree coding call stage v.state) (remaining coding call (entered_state call stage v.state) stage') (entered_at call stage v) w result
  pub rests : result ≡ Pending → is_read call ≡ true → Rests (over_memory builds) v w
  pub begun : result ≡ Pending → HasBegun (over_memory builds) (begun_at stage) (begun_at stage') (entered_tree coding call stage v.state) (entered_at call stage v) w
  pub fails : w.channel.failed ≡ true → (v.channel.failed ≡ true) ⊎ HasFault (polled_answer result)
  pub left_at : result ≡ Pending → StageOf call stage'
  pub end : EndsAsTold v.channel.ended w.channel.ended v.channel.told
  pub given : IsGiven w.channel.told
  pub sound : IsSound (Unit {0}) w.channel
  pub stays : v.channel.failed ≡ true → (w.channel.failed ≡ true) × (w.channel.told.failures ≡ v.channel.told.failures) × AreRefused (polled_answer result)
  pub starts : is_local call ≡ false → StartsTo (over_memory builds) (Unit {0}) coding call stage stage' v w result
  pub carries : is_local call ≡ true → is_first stage ≡ true → (answer : Answer) × (result ≡ Ready answer) × CarriesOut (Unit {0}) call v w answer

-- the drain was polled: it waits, and so does the call; it is over, and the call is polled; or its error is the answer
abbrev pub ThenPollsIf : Bool → Builds → Coding → Call → Stage → Stage → Bool → Answer → SessionValue → SessionValue → Poll Answer → Type 0
ThenPollsIf true builds coding call stage stage' polled first middle w result = PollsHere builds coding call stage stage' middle w result × (polled ≡ true)
ThenPollsIf false builds coding call stage stage' polled first middle w result = (result ≡ Ready first) × (w ≡ middle)

abbrev pub ThenPolls : Builds → Coding → Call → Stage → Stage → Bool → Poll Answer → SessionValue → SessionValue → Poll Answer → Type 0
ThenPolls builds coding call stage stage' polled (Ready first) middle w result = ThenPollsIf (is_unit first) builds coding call stage stage' polled first middle w result
ThenPolls builds coding call stage stage' polled Pending middle w result = (result ≡ Pending) × (w ≡ middle) × (stage' ≡ stage) × (polled ≡ false)

pub record DrainsHere (builds : Builds) (coding : Coding) (call : Call) (stage stage' : Stage) (polled : Bool) (v w : SessionValue) (result : Poll Answer) : Type 0 where
  pub middle : SessionValue
  pub first : Poll Answer
  pub at : Stage
  pub drains : PollsHere builds coding Drain (At First) at v middle first
  pub then_polls : ThenPolls builds coding call stage stage' polled first middle w result

abbrev pub PollsNextIf : Bool → Builds → Coding → Call → Stage → Stage → Bool → SessionValue → SessionValue → Poll Answer → Type 0
PollsNextIf true builds coding call stage stage' polled v w result = DrainsHere builds coding call stage stage' polled v w result
PollsNextIf false builds coding call stage stage' polled v w result = PollsHere builds coding call stage stage' v w result × (polled ≡ true)

-- a poll of a call, after the drain where one is due; and whether the call itself was polled
pub record PollsNext (builds : Builds) (coding : Coding) (call : Call) (stage stage' : Stage) (polled : Bool) (v w : SessionValue) (result : Poll Answer) : Type 0 where
  pub polls : PollsNextIf (due_of call v) builds coding call stage stage' polled v w result

-- a call is aborted at this stage
pub record AbortsCall (builds : Builds) (coding : Coding) (call : Call) (stage : Stage) (v w : SessionValue) (result : Option Answer) : Type 0 where
  pub fault : FtpError
  pub is : result ≡ Some (Fault fault)
  pub going : MayPollAt stage call v
  pub last : SessionValue
  pub aborts : Aborts (over_memory builds) (begun_at stage) (entered_tree coding call stage v.state) (Fault fault) (entered_at call stage v) last
  pub lets_go : LetsGo (Unit {0}) last w
  pub given : IsGiven w.channel.told
  pub sound : IsSound (Unit {0}) w.channel

-- a call is aborted that is polled: the one under way, or the drain that is due before it
pub record AbortsAt (builds : Builds) (coding : Coding) (outcomes : List NetOutcome) (old : SessionValue) (s : Script) (answers : List Answer) (gone : SessionValue) (result : Option Answer) : Type 0 where
  pub here : Script
  pub polled : IsPolled coding (start_of old outcomes) s.call s here
  pub leaving : here.leaving ≡ s.leaving
  pub left : List NetOutcome
  pub middle : SessionValue
  pub part : Call
  pub stage : Stage
  pub follows : Follows builds coding outcomes left old here middle (Some part) stage answers
  pub aborts : AbortsCall builds coding part stage middle gone result

-- and the transfer that was to be left once the call is over is left
pub record AbortsPart (builds : Builds) (coding : Coding) (outcomes : List NetOutcome) (old : SessionValue) (s : Script) (answers : List Answer) (w : SessionValue) (result : Option Answer) : Type 0 where
  pub gone : SessionValue
  pub at : AbortsAt builds coding outcomes old s answers gone result
  pub leaves : LeavesThen at.here.leaving gone w
  pub channel : w.channel ≡ gone.channel

-- a session that has failed fails no more, and refuses what it answers
abbrev pub FailedStays : SessionValue → SessionValue → Option Answer → Type 0
FailedStays v w answer = v.channel.failed ≡ true → (w.channel.failed ≡ true) × (w.channel.told.failures ≡ v.channel.told.failures) × AreRefused (given_answer answer)

-- only a Feed may need memory
pub record IsFeed (event : Event) : Type 0 where
  pub bytes : List ℕ
  pub is : event ≡ Feed bytes

-- what happened beside the control connection
abbrev pub Grows : Builds → SessionValue → SessionValue → Type 0
Grows builds v w = (answered : List NetEvent) × NetEvents (plain builds) answered v.net w.net

-- no call is under way, and no transfer is to be left
abbrev pub at_rest : Course
at_rest = record { polled = false; leaving = false }

-- the session follows the script, and so does what is known of the call under way
abbrev pub Attended : Builds → Coding → List NetOutcome → List NetOutcome → SessionValue → Script → SessionValue → Option Call → Stage → Course → List Answer → Type 0
Attended builds coding outcomes left old s v call stage course answers =
    Follows builds coding outcomes left old s v call stage answers × Attends s course

-- an event of a script: the session follows it, or the call under way is aborted
abbrev pub Happens : Builds → Coding → SessionValue → SessionValue → Option Call → Option Call → Stage → Stage → Course → Course → Event → Option Answer → Type 0
Happens builds coding v w call call' stage stage' course course' event result =
    (answered : List NetEvent) × NetEvents (plain builds) answered v.net w.net × ((outcomes left : List NetOutcome) (old : SessionValue) (s : Script) (answers : List Answer) → Attended builds coding outcomes (outcomes_of answered ++ left) old s v call stage course answers → IsLawful coding (start_of old outcomes) s event → Attended builds coding outcomes left old (after_event coding (start_of old outcomes) s event) w call' stage' course' (answers ++ given_answer result) ⊎ (AbortsPart builds coding outcomes old s answers w result × (call' ≡ None) × (course' ≡ at_rest) × (event ≡ Polling)))

-- the transfer that is held, if any, was left, as by a call of its own
pub record HasLeft (v w : SessionValue) : Type 0 where
  pub leaves : LeavesHeld v w
  pub channel : w.channel ≡ v.channel
  pub given : IsGiven w.channel.told
  pub sound : IsSound (Unit {0}) w.channel
  pub carries : holds (is_none v.net.data_conn) v.state.counts.owed ≡ true → CarriesOut (Unit {0}) Leave v w Nothing

abbrev pub HasLeftIf : Bool → SessionValue → SessionValue → Type 0
HasLeftIf true v w = HasLeft v w
HasLeftIf false v w = w ≡ v

-- a call that brings a transfer to its end is dropped: it leaves the transfer; where it was polled it has closed the data
-- connection
abbrev pub DropsEnd : Bool → SessionValue → SessionValue → Type 0
DropsEnd true v w = w ≡ v
DropsEnd false v w = HasLeft v w

-- a call is dropped that leaves no reply that is due
abbrev pub DropsUnder : Bool → Course → SessionValue → SessionValue → Type 0
DropsUnder true course v w = DropsEnd course.polled v w
DropsUnder false course v w = HasLeftIf course.leaving v w

-- one is dropped where it stands, and the transfer is left that was to be left once it is over
pub record DropsHere (call : Call) (course : Course) (stage : Stage) (v w : SessionValue) : Type 0 where
  pub gone : SessionValue
  pub drops : DropsStage (Unit {0}) call stage v gone
  pub leaves : HasLeftIf course.leaving gone w

abbrev pub DropsIf : Bool → Call → Course → Stage → SessionValue → SessionValue → Type 0
DropsIf true call course stage v w = DropsHere call course stage v w
DropsIf false call course stage v w = DropsUnder (finishes call) course v w

-- the call under way is dropped
abbrev pub DropsCall : Option Call → Course → Stage → SessionValue → SessionValue → Course → Type 0
DropsCall None course stage v w course' = (w ≡ v) × (course' ≡ course)
DropsCall (Some call) course stage v w course' = DropsIf (drops_begun (Some call) course.polled) call course stage v w × (course' ≡ at_rest)

-- the transfer that is held is left: behind a call under way that was polled, else before it, unless it took the transfer
abbrev pub LeavesBeside : Bool → Bool → Course → SessionValue → SessionValue → Course → Type 0
LeavesBeside true ends course v w course' = (w ≡ v) × (course' ≡ record course { leaving = course.leaving || holds (is_none v.net.data_conn) v.state.counts.owed })
LeavesBeside false true course v w course' = (w ≡ v) × (course' ≡ course)
LeavesBeside false false course v w course' = HasLeft v w × (course' ≡ course)

abbrev pub LeavesNow : Option Call → Course → SessionValue → SessionValue → Course → Type 0
LeavesNow None course v w course' = HasLeft v w × (course' ≡ course)
LeavesNow (Some call) course v w course' = LeavesBeside course.polled (finishes call) course v w course'

-- An event that ends the script

abbrev pub reads_here : Option Call → Course → SessionValue → Bool
reads_here None course v = false
reads_here (Some call) course v = not course.polled && reads_dropped_first call v

abbrev pub parts_here : Option Call → Course → SessionValue → Event → Bool
parts_here call course v Polling = reads_here call course v
parts_here call course v Cancel = drops_begun call course.polled
parts_here call course v other = false

-- a call is dropped that has begun
pub record DropsBegun (v w : SessionValue) (call call' : Option Call) (stage : Stage) (course course' : Course) (result : Option Answer) : Type 0 where
  pub part : Call
  pub is : call ≡ Some part
  pub drops : DropsHere part course stage v w
  pub over : call' ≡ None
  pub resting : course' ≡ at_rest
  pub none : result ≡ None

-- a call has read the replies that were due, and is polled, or was a read of one of them; an error in place of one is its
-- answer; or they are waited for
abbrev pub EndsOrPolls : Bool → Builds → Coding → Call → Option Call → Stage → Stage → Course → SessionValue → SessionValue → Option Answer → Type 0
EndsOrPolls true builds coding part call' stage stage' course' middle w result = (w ≡ middle) × (call' ≡ None) × (course' ≡ at_rest) × (result ≡ Some Nothing)
EndsOrPolls false builds coding part call' stage stage' course' middle w result = Happens builds coding middle w (Some part) call' stage stage' at_rest course' Polling result × FailedStays middle w result

abbrev pub CaughtThen : Poll (Option FtpError) → Builds → Coding → Call → Option Call → Stage → Stage → Course → SessionValue → SessionValue → Option Answer → Type 0
CaughtThen (Ready None) builds coding part call' stage stage' course' middle w result = EndsOrPolls (drains part) builds coding part call' stage stage' course' middle w result
CaughtThen (Ready (Some fault)) builds coding part call' stage stage' course' middle w result = (w ≡ middle) × (call' ≡ None) × (course' ≡ at_rest) × (result ≡ Some (Fault fault))
CaughtThen Pending builds coding part call' stage stage' course' middle w result = (w ≡ middle) × (call' ≡ Some part) × (stage' ≡ stage) × (course' ≡ at_rest) × (result ≡ None)

pub record CatchesUpHere (builds : Builds) (coding : Coding) (v w : SessionValue) (call call' : Option Call) (stage stage' : Stage) (course' : Course) (result : Option Answer) : Type 0 where
  pub part : Call
  pub is : call ≡ Some part
  pub middle : SessionValue
  pub caught : Poll (Option FtpError)
  pub catches_up : CatchesUp (over_memory builds_nothing) (is_plain_read part) v middle caught
  pub given : IsGiven middle.channel.told
  pub sound : IsSound (Unit {0}) middle.channel
  pub then : CaughtThen caught builds coding part call' stage stage' course' middle w result

abbrev pub PartsHere : Builds → Coding → SessionValue → SessionValue → Option Call → Option Call → Stage → Stage → Course → Course → Event → Option Answer → Type 0
PartsHere builds coding v w call call' stage stage' course course' Cancel result = DropsBegun v w call call' stage course course' result
PartsHere builds coding v w call call' stage stage' course course' Polling result = CatchesUpHere builds coding v w call call' stage stage' course' result
PartsHere builds coding v w call call' stage stage' course course' other result = ⊥

abbrev pub PassesIf : Bool → Builds → Coding → SessionValue → SessionValue → Option Call → Option Call → Stage → Stage → Course → Course → Event → Option Answer → Type 0
PassesIf true builds coding v w call call' stage stage' course course' event result = PartsHere builds coding v w call call' stage stage' course course' event result
PassesIf false builds coding v w call call' stage stage' course course' event result = Happens builds coding v w call call' stage stage' course course' event result

-- an event of a list: of a script, or one that ends it
abbrev pub Passes : Builds → Coding → SessionValue → SessionValue → Option Call → Option Call → Stage → Stage → Course → Course → Event → Option Answer → Type 0
Passes builds coding v w call call' stage stage' course course' event result =
    PassesIf (parts_here call course v event) builds coding v w call call' stage stage' course course' event result

-- A call of a list

-- it is made in step
abbrev pub MadeInStep : Link → Coding → Call → SessionValue → SessionValue → Answer → Type 0
MadeInStep link coding call old new answer = InStepIf (reads_dropped_first call old) (unasked link) (is_plain_read call) (drains call) (MadeDrained link coding call) old new answer

-- where replies were due at the list's beginning; else by itself
abbrev pub MadeAmong : Bool → Link → Coding → Call → SessionValue → SessionValue → Answer → Type 0
MadeAmong true link coding call old new answer = MadeInStep link coding call old new answer
MadeAmong false link coding call old new answer = MadeDrained link coding call old new answer
