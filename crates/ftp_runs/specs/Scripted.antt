-- What a session promises of a list of events: what their script says, until the connection fails or memory runs out.
use Rattle.std.specs.Prelude.{◌≡◌, ◌⊎◌, ◌<◌, ◌+◌, ◌||◌, ℕ, zero, suc, Bool, true, false, Option, Some, None, is_none, List, [], ◌∷◌, ◌++◌, length, if◌then◌else◌}
use Rattle.ftp_base.specs.declared.types.fault.FtpError.{FtpError}
use Rattle.ftp_control.specs.declared.control.form.ReplyForm.{ReplyForm}
use Rattle.ftp_transport.specs.declared.room.Room.{Room}
use Rattle.ftp_control.specs.declared.control.outcome.Outcome.TheVariants.{Waits}
use Rattle.ftp_control.specs.Grammar.{outcome}
use Rattle.ftp_transport.specs.Told.{HasRoomFor}
use Rattle.ftp_dialogue.specs.NetEvents.{NetEvent, NetEvents, net_record_of, outcomes_of, parted}
use Rattle.ftp_dialogue.specs.declared.model.NetOutcome.{NetOutcome}
use Rattle.ftp_control.specs.Reading.{GoesOn}
use Rattle.ftp_control.specs.Channel.{Channel, untaken}
use Rattle.ftp_control.specs.Saying.{said}
use Rattle.ftp_calls.specs.declared.call.Answer.{Answer}
use Rattle.ftp_calls.specs.declared.call.Answer.TheVariants.{Fault, Unit as Nothing}
use Rattle.ftp_calls.specs.declared.call.Call.{Call}
use Rattle.ftp_calls.specs.declared.call.Event.{Event}
use Rattle.ftp_calls.specs.declared.call.Event.TheVariants.{Cancel, Feed, Poll, Start}
use Rattle.futures.specs.declared.task.Poll.{Poll as Polled}
use Rattle.futures.specs.declared.task.Poll.TheVariants.{Ready, Pending}
use Rattle.ftp_runs.specs.declared.model.Script.{Script}
use Rattle.ftp_dialogue.specs.State.{SessionValue, LetsGo}
use Rattle.ftp_dialogue.specs.Coding.{Coding}
use Rattle.ftp_calls.specs.Exchanges.{drains, finishes}
use Rattle.ftp_dialogue.specs.CatchingUp.{CatchesUp, is_plain_read}
use Rattle.ftp_dialogue.specs.Dropping.{DropsCall}
use Rattle.ftp_dialogue.specs.Steps.Stages.{StageOf, begun_at, remaining}
use Rattle.ftp_dialogue.specs.declared.stage.Stage.{Stage}
use Rattle.ftp_dialogue.specs.Dialogue.{Tree, with_left}
use Rattle.ftp_dialogue.specs.Sound.{holds}
use Rattle.ftp_dialogue.specs.Play.{is_due, play, finally}
use Rattle.ftp_runs.specs.Run.{replay, and_then}
use Rattle.ftp_runs.specs.declared.model.Item.{Item}
use Rattle.ftp_runs.specs.declared.model.Item.TheVariants.{Shown}
use Rattle.ftp_runs.specs.declared.model.Ran.{Ran}
use Rattle.ftp_runs.specs.declared.model.Ran.TheVariants.{Finished, Waiting}
use Rattle.ftp_dialogue.specs.declared.model.PlayState.{PlayState}
use Rattle.ftp_calls.specs.declared.call.Call.TheVariants.{Drain}
use Rattle.ftp_dialogue.specs.Play.{Taken}
use Rattle.ftp_dialogue.specs.Promises.{play_state, begun_by, refusal_of, Aborts, IsApart, IsRefusal}
use Rattle.ftp_runs.specs.Runs.{before_all}
use Rattle.ftp_runs.specs.Script.{script, script_of, start_of, unread, is_over, draining, drained_to, dropped, drops_begun, parts_beyond, polled_as, run_with, still, succeeded, Lawful, MayCancel, Whole}
use Rattle.ftp_dialogue.specs.Link.{Builds, builds_nothing, over_memory, plain}

-- what was sent and what is unsent, joined, begin what was said; where they aren't all of it, the tail of an earlier
-- line is still unsent
pub record SaysFrontOf (c : Channel) (all : List ℕ) : Type 0 where
  pub rest : List ℕ
  pub is : all ≡ said c ++ rest
  pub whole : (rest ≡ []) ⊎ (c.unsent ≡ [] → ⊥)

-- the session stands where the script does, with these answers
pub record StandsAt (s : Script) (new : SessionValue) (answers : List Answer) : Type 0 where
  pub answers_are : answers ≡ s.answers
  pub sent : new.channel.told.sent ≡ s.sent
  pub said : SaysFrontOf new.channel s.said
  pub untaken : untaken new.channel ++ unread new.channel.told ≡ s.untaken
  pub net_record : net_record_of new.net ≡ s.net_record
  pub seen : length new.channel.kept ≡ s.seen
  pub waits : outcome new.channel.rule s.form new.channel.kept false ≡ Waits
  pub ended : is_over new.channel.told ≡ s.ended
  pub room : new.channel.told.given.room ≡ s.room
  pub unsent : MayCancel s.call s.polled → new.channel.unsent ≡ s.unsent
  pub state : new.state ≡ s.state
  pub failed : new.channel.failed ≡ s.failed

-- what happened beside the control connection since, with these outcomes first of all
pub record Answered (builds : Builds) (outcomes left : List NetOutcome) (old new : SessionValue) : Type 0 where
  pub answered : List NetEvent
  pub net_events : NetEvents (plain builds) answered old.net new.net
  pub outcomes_are : outcomes ≡ outcomes_of answered ++ left

-- the events make their script, where these are the outcomes of the transport's requests; what was received and what is
-- unread are the bytes that came; nothing fails, and what is kept of a reply was read by the rule that the script says
pub record HoldsAt (builds : Builds) (outcomes : List NetOutcome) (old : SessionValue) (s : Script) (new : SessionValue) (answers : List Answer) : Type 0 where
  pub at : StandsAt s new answers
  pub left : List NetOutcome
  pub answered : Answered builds outcomes left old new
  pub came : List ℕ
  pub received : new.channel.told.received ≡ old.channel.told.received ++ came
  pub bytes : s.bytes ≡ untaken old.channel ++ came ++ unread new.channel.told
  pub rule : (new.channel.kept ≡ []) ⊎ (new.channel.rule ≡ s.rule)
  pub failures : new.channel.told.failures ≡ old.channel.told.failures

-- a call under way leaves a transfer where it is dropped: it brings it to its end, or the transfer was to be left once the
-- call is over
abbrev pub leaves_dropped : Option Call → Bool → Bool
leaves_dropped None leaving = false
leaves_dropped (Some call) leaving = finishes call || leaving

-- the transfer that is held, if any, is left: its data connection is closed and handed back
abbrev pub LeavesHeldIf : Bool → SessionValue → SessionValue → Type 0
LeavesHeldIf true v w = (w ≡ record v { state = with_left v.state; net = w.net }) × (net_record_of w.net ≡ parted (net_record_of v.net))
LeavesHeldIf false v w = w ≡ v

abbrev pub LeavesHeld : SessionValue → SessionValue → Type 0
LeavesHeld v w = LeavesHeldIf (holds (is_none v.net.data_conn) v.state.counts.owed) v w

-- it is, where that was to be done once a call is over
abbrev pub LeavesThen : Bool → SessionValue → SessionValue → Type 0
LeavesThen true v w = LeavesHeld v w
LeavesThen false v w = w ≡ v

-- the calls that are done result in these answers, and the call under way in what is left of it, from here
abbrev pub Reaches : Coding → SessionValue → List Item → List ℕ → List NetEvent → SessionValue → List Answer → Call → Tree → Type 0
Reaches coding old items came answered v answers call tree =
    (later : List Item) (room : Room) (more : List ℕ) (ended : Bool) (outcomes : List NetOutcome)
    → HasRoomFor room (length v.channel.told.sent) → GoesOn v.channel.ended more ended
    → replay room coding (items ++ Shown call ∷ later) (play_state old (came ++ more) ended (outcomes_of answered ++ outcomes)) ≡ before_all answers (and_then (finally (play room tree (play_state v more ended outcomes))) (λ t. replay room coding later t))

-- the calls that are done result in these answers, and in whatever comes after them from here
abbrev pub Stands : Coding → SessionValue → List Item → List ℕ → List NetEvent → SessionValue → List Answer → Type 0
Stands coding old items came answered v answers =
    (later : List Item) (room : Room) (more : List ℕ) (ended : Bool) (outcomes : List NetOutcome)
    → HasRoomFor room (length v.channel.told.sent) → GoesOn v.channel.ended more ended
    → replay room coding (items ++ later) (play_state old (came ++ more) ended (outcomes_of answered ++ outcomes)) ≡ before_all answers (replay room coding later (play_state v more ended outcomes))

-- something was said since, or a reply was taken: fewer bytes are untaken than were and came
abbrev pub SaysOrTakes : List ℕ → List ℕ → SessionValue → SessionValue → Type 0
SaysOrTakes before came start v =
    (length (said start.channel) < length (said v.channel)) ⊎ (length before + length (untaken v.channel) < length came + length (untaken start.channel))

-- nothing was said since, and no reply was taken: what came is untaken
abbrev pub SaysNothing : List ℕ → SessionValue → SessionValue → Type 0
SaysNothing later start v = (said v.channel ≡ said start.channel) × (untaken v.channel ≡ untaken start.channel ++ later)

-- where the calls before it were done; since then something of a call was said, or a reply was taken, exactly if it has
-- begun
pub record CallHasBegun (coding : Coding) (old : SessionValue) (s : Script) (came : List ℕ) (answered : List NetEvent) (v : SessionValue) (begun : Bool) : Type 0 where
  pub start : SessionValue
  pub before : List ℕ
  pub later : List ℕ
  pub split : came ≡ before ++ later
  pub asked_before : List NetEvent
  pub asked_later : List NetEvent
  pub asked_split : answered ≡ asked_before ++ asked_later
  pub stands : Stands coding old s.items before asked_before start s.answers
  pub has_begun : begun ≡ true → SaysOrTakes before came start v
  pub not_begun : begun ≡ false → SaysNothing later start v

-- a call that wasn't polled begins; one that opens a data connection takes the offset away
abbrev pub entering : Bool → Call → SessionValue → SessionValue
entering polled call v = if polled then v else begun_by call v

-- a call that is polled for the first time isn't refused; one that was polled goes on
abbrev pub MayGoOn : Bool → Call → SessionValue → Type 0
MayGoOn true call v = v.channel.failed ≡ false
MayGoOn false call v = refusal_of call v ≡ Taken

-- a call was under way, and this is left of its dialogue
pub record LeftOf (builds : Builds) (coding : Coding) (old : SessionValue) (s : Script) (v : SessionValue) (call : Call) (begun : Bool) (tree : Tree) : Type 0 where
  pub call_is : s.call ≡ Some call
  pub going : MayGoOn s.polled call v
  pub came : List ℕ
  pub bytes : s.bytes ≡ untaken old.channel ++ came ++ unread v.channel.told
  pub answered : List NetEvent
  pub net_events : NetEvents (plain builds) answered old.net v.net
  pub reaches : Reaches coding old s.items came answered (entering s.polled call v) s.answers call tree
  pub since : CallHasBegun coding old s came answered v begun

-- the call under way has begun, and is dropped where it stands: a reply is due from then on exactly where one of its lines
-- was begun whose reply hasn't come; and the transfer is left that was to be left once the call is over
pub record DropsAt (builds : Builds) (coding : Coding) (old : SessionValue) (s : Script) (middle after : SessionValue) : Type 0 where
  pub call : Call
  pub stage : Stage
  pub stage_of : StageOf call stage
  pub under_way : LeftOf builds coding old s middle call (begun_at stage) (remaining coding call middle.state stage)
  pub gone : SessionValue
  pub drops : DropsCall (Unit {0}) call stage middle gone
  pub leaves : LeavesThen s.leaving gone after

-- where it leaves no reply that is due nothing goes over the control connection, and the session stands where the script does
-- after a Cancel
pub record DropsFree (builds : Builds) (coding : Coding) (outcomes : List NetOutcome) (old : SessionValue) (s : Script) (last new : SessionValue) (answers : List Answer) : Type 0 where
  pub channel : new.channel ≡ last.channel
  pub stays : leaves_dropped s.call s.leaving ≡ false → new ≡ last
  pub drops : HoldsAt builds outcomes old (dropped coding (start_of old outcomes) s.call s) new answers

abbrev pub DropsIf : Bool → Builds → Coding → List NetOutcome → SessionValue → Script → SessionValue → SessionValue → List Answer → Type 0
DropsIf true builds coding outcomes old s last new answers = DropsAt builds coding old s last new
DropsIf false builds coding outcomes old s last new answers = DropsFree builds coding outcomes old s last new answers

-- after the last event the call under way is dropped
pub record EndsAt (builds : Builds) (coding : Coding) (outcomes : List NetOutcome) (old : SessionValue) (s : Script) (new : SessionValue) (answers : List Answer) : Type 0 where
  pub last : SessionValue
  pub at : HoldsAt builds outcomes old s last answers
  pub drops : DropsIf (drops_begun s.call s.polled) builds coding outcomes old s last new answers

-- no event ends the script, and so it is that of the list
pub record ScriptHolds (builds : Builds) (coding : Coding) (outcomes : List NetOutcome) (old : SessionValue) (form : ReplyForm) (n : ℕ) (events : List Event) (new : SessionValue) (answers : List Answer) : Type 0 where
  pub whole : Whole coding (start_of old outcomes) n (script_of old form) events
  pub ends : EndsAt builds coding outcomes old (script coding (start_of old outcomes) (script_of old form) events) new answers

abbrev pub IsOfFailed : Answer → Type 0
IsOfFailed answer = IsRefusal answer ⊎ IsApart answer

-- each is refused, or is such an answer
abbrev pub AreRefused : List Answer → Type 0
AreRefused [] = Unit {0}
AreRefused (answer ∷ answers) = IsOfFailed answer × AreRefused answers

-- what is polled: the call under way; or the drain in its place, where it is due; or the call, once that is over
abbrev pub IsDrained : Ran → Call → Script → Script → Type 0
IsDrained (Finished answers t) call s here = (succeeded answers ≡ true) × (here ≡ drained_to call s (polled_as (Finished answers t) Drain (draining s)))
IsDrained (Waiting answers wait t) call s here = ⊥

abbrev pub IsPolledIf : Bool → Coding → PlayState → Call → Script → Script → Type 0
IsPolledIf true coding start call s here = (here ≡ draining s) ⊎ IsDrained (run_with coding start Drain (draining s)) call s here
IsPolledIf false coding start call s here = here ≡ s

abbrev pub IsPolled : Coding → PlayState → Option Call → Script → Script → Type 0
IsPolled coding start None s here = ⊥
IsPolled coding start (Some call) s here = IsPolledIf (is_due call s.failed s.state.counts.owed) coding start call s here

-- a call was aborted at a Poll, in a session that the events before had resulted in; the later events find no call
-- under way, and result in `Later`
pub record ScriptAborts (builds : Builds) (Later : ℕ → SessionValue → List Event → List Answer → Type 0) (coding : Coding) (outcomes : List NetOutcome) (old : SessionValue) (form : ReplyForm) (n : ℕ) (events : List Event) (new : SessionValue) (answers : List Answer) : Type 0 where
  pub before : List Event
  pub later : List Event
  pub split : events ≡ before ++ Poll ∷ later
  pub whole : Whole coding (start_of old outcomes) n (script_of old form) before
  pub reads_none : parts_beyond (still n before) (script coding (start_of old outcomes) (script_of old form) before) Poll ≡ false
  pub first : List Answer
  pub here : Script
  pub polled : IsPolled coding (start_of old outcomes) (script coding (start_of old outcomes) (script_of old form) before).call (script coding (start_of old outcomes) (script_of old form) before) here
  pub middle : SessionValue
  pub at : HoldsAt builds outcomes old here middle first
  pub call : Call
  pub begun : Bool
  pub tree : Tree
  pub under_way : LeftOf builds coding old here middle call begun tree
  pub fault : FtpError
  pub last : SessionValue
  pub aborts : Aborts (over_memory builds) begun tree (Fault fault) (entering here.polled call middle) last
  pub gone : SessionValue
  pub lets_go : LetsGo (Unit {0}) last gone
  pub after : SessionValue
  pub leaves : LeavesThen here.leaving gone after
  pub others : List Answer
  pub answers_are : answers ≡ first ++ Fault fault ∷ others
  pub goes_on : Later zero after later others
  pub failed : after.channel.failed ≡ true → (new.channel.failed ≡ true) × AreRefused others

-- a call that has begun was dropped, in a session that the events before had resulted in; the later events find no call
-- under way, and result in `Later`
pub record ScriptDrops (builds : Builds) (Later : ℕ → SessionValue → List Event → List Answer → Type 0) (coding : Coding) (outcomes : List NetOutcome) (old : SessionValue) (form : ReplyForm) (n : ℕ) (events : List Event) (answers : List Answer) : Type 0 where
  pub before : List Event
  pub later : List Event
  pub split : events ≡ before ++ Cancel ∷ later
  pub whole : Whole coding (start_of old outcomes) n (script_of old form) before
  pub begun : parts_beyond (still n before) (script coding (start_of old outcomes) (script_of old form) before) Cancel ≡ true
  pub first : List Answer
  pub middle : SessionValue
  pub at : HoldsAt builds outcomes old (script coding (start_of old outcomes) (script_of old form) before) middle first
  pub after : SessionValue
  pub drops : DropsAt builds coding old (script coding (start_of old outcomes) (script_of old form) before) middle after
  pub others : List Answer
  pub answers_are : answers ≡ first ++ others
  pub goes_on : Later zero after later others

-- an answer, and what follows after it
pub record AnswersThen (Rest : List Answer → Type 0) (answer : Answer) (others : List Answer) : Type 0 where
  pub rest : List Answer
  pub others_are : others ≡ answer ∷ rest
  pub goes_on : Rest rest

-- replies that were due were read: the call begins, and is polled at once, but for a read of the last reply of a transfer that
-- was left, which was among them
abbrev pub EndsOrBegins : Bool → (ℕ → SessionValue → List Event → List Answer → Type 0) → Call → SessionValue → List Event → List Answer → Type 0
EndsOrBegins true Later call after later others = AnswersThen (Later zero after later) Nothing others
EndsOrBegins false Later call after later others = Later 2 after (Start call ∷ Poll ∷ later) others

-- they are waited for, and so the call is still to be polled; or an error in place of one is its answer
abbrev pub BeginsThen : Polled (Option FtpError) → (ℕ → SessionValue → List Event → List Answer → Type 0) → Call → SessionValue → List Event → SessionValue → List Answer → Type 0
BeginsThen (Ready None) Later call after later new others = EndsOrBegins (drains call) Later call after later others
BeginsThen (Ready (Some fault)) Later call after later new others =
    AnswersThen (λ rest. Later zero after later rest × (after.channel.failed ≡ true → (new.channel.failed ≡ true) × AreRefused rest)) (Fault fault) others
BeginsThen Pending Later call after later new others = Later zero after (Start call ∷ later) others

-- a call first read the replies that were due to commands that were dropped, in a session that the events before had
-- resulted in, after the unsent tail of a line; the call and the later events result in `Later`
pub record ScriptCatchesUp (builds : Builds) (Later : ℕ → SessionValue → List Event → List Answer → Type 0) (coding : Coding) (outcomes : List NetOutcome) (old : SessionValue) (form : ReplyForm) (n : ℕ) (events : List Event) (new : SessionValue) (answers : List Answer) : Type 0 where
  pub before : List Event
  pub later : List Event
  pub split : events ≡ before ++ Poll ∷ later
  pub whole : Whole coding (start_of old outcomes) n (script_of old form) before
  pub due : parts_beyond (still n before) (script coding (start_of old outcomes) (script_of old form) before) Poll ≡ true
  pub first : List Answer
  pub middle : SessionValue
  pub at : HoldsAt builds outcomes old (script coding (start_of old outcomes) (script_of old form) before) middle first
  pub call : Call
  pub call_is : (script coding (start_of old outcomes) (script_of old form) before).call ≡ Some call
  pub after : SessionValue
  pub caught : Polled (Option FtpError)
  pub catches_up : CatchesUp (over_memory builds_nothing) (is_plain_read call) middle after caught
  pub others : List Answer
  pub answers_are : answers ≡ first ++ others
  pub goes_on : BeginsThen caught Later call after later new others

-- the script ends before the list does, and `Later` is what the later events result in
abbrev pub ScriptParts : Builds → (ℕ → SessionValue → List Event → List Answer → Type 0) → Coding → List NetOutcome → SessionValue → ReplyForm → ℕ → List Event → SessionValue → List Answer → Type 0
ScriptParts builds Later coding outcomes old form n events new answers =
    ScriptAborts builds Later coding outcomes old form n events new answers ⊎ ScriptDrops builds Later coding outcomes old form n events answers ⊎ ScriptCatchesUp builds Later coding outcomes old form n events new answers

-- what happened beside the control connection is told; with these outcomes, whatever others come after them, and for
-- every lawful list, where what an earlier read left of a reply says nothing yet as one of this form: the events make
-- their script; or they do up to where a call is aborted, or dropped that has begun, or reads what is due, and the later ones
-- are such a list again; that is said of so many scripts. So many first events end none
abbrev pub ScriptsHold : Builds → ℕ → Coding → ℕ → SessionValue → List Event → SessionValue → List Answer → Type 0
ScriptsHold builds zero coding n old events new answers = Unit {0}
ScriptsHold builds (suc depth) coding n old events new answers =
    (answered : List NetEvent) × NetEvents (plain builds) answered old.net new.net × ((form : ReplyForm) (left : List NetOutcome) → outcome old.channel.rule form old.channel.kept false ≡ Waits → Lawful coding (start_of old (outcomes_of answered ++ left)) n (script_of old form) events → ScriptHolds builds coding (outcomes_of answered ++ left) old form n events new answers ⊎ ScriptParts builds (λ m after later others. ScriptsHold builds depth coding m after later new others) coding (outcomes_of answered ++ left) old form n events new answers)

-- that is said of however many
abbrev pub IsScripted : Builds → Coding → SessionValue → List Event → SessionValue → List Answer → Type 0
IsScripted builds coding old events new answers = (depth : ℕ) → ScriptsHold builds depth coding zero old events new answers

-- memory ran out: for the answers, and nothing changed; or for the bytes of a Feed, and the events before it have
-- happened
pub record StopsAtFeed (builds : Builds) (coding : Coding) (old : SessionValue) (events : List Event) (new : SessionValue) : Type 0 where
  pub before : List Event
  pub bytes : List ℕ
  pub later : List Event
  pub split : events ≡ before ++ Feed bytes ∷ later
  pub answers : List Answer
  pub scripted : IsScripted builds coding old before new answers
