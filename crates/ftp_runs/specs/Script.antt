-- Polled runs: what a list of events makes of a session. Each Poll plays all calls anew, on all bytes that came by
-- then; no buffer and no state of a call under way occurs here.
use Rattle.std.specs.Prelude.{◌≡◌, ◌⊎◌, ℕ, zero, suc, Bool, true, false, ◌||◌, ◌&&◌, not, ◌==◌, Option, Some, None, is_none, List, [], ◌∷◌, ◌++◌, length, take, drop, if◌then◌else◌}
use Rattle.ftp_transport.specs.declared.room.Room.{Room}
use Rattle.ftp_transport.specs.declared.room.Room.TheVariants.{Any, UpTo}
use Rattle.ftp_transport.specs.Told.{Told}
use Rattle.ftp_transport.specs.Memory.{more_room}
use Rattle.ftp_calls.specs.declared.call.Call.{Call}
use Rattle.ftp_calls.specs.declared.call.Call.TheVariants.{Drain, Finish, Leave}
use Rattle.ftp_calls.specs.declared.call.Event.{Event}
use Rattle.ftp_calls.specs.declared.call.Event.TheVariants as event
use Rattle.ftp_runs.specs.declared.model.Script.{Script}
use Rattle.ftp_dialogue.specs.declared.model.PlayState.{PlayState}
use Rattle.ftp_dialogue.specs.declared.model.Wait.{Wait}
use Rattle.ftp_dialogue.specs.declared.model.Wait.TheVariants as wait
use Rattle.ftp_runs.specs.declared.model.Ran.{Ran}
use Rattle.ftp_runs.specs.declared.model.Ran.TheVariants.{Finished, Waiting}
use Rattle.ftp_control.specs.declared.control.form.ReplyForm.{ReplyForm}
use Rattle.ftp_dialogue.specs.Coding.{Coding}
use Rattle.ftp_calls.specs.Exchanges.{aborts, drains, drains_first, finishes, is_read}
use Rattle.ftp_dialogue.specs.CatchingUp.{opens_beside}
use Rattle.ftp_dialogue.specs.Dialogue.{dialogue}
use Rattle.ftp_dialogue.specs.declared.state.State.{State}
use Rattle.ftp_control.specs.declared.control.rule.ReplyRule.{ReplyRule}
use Rattle.ftp_dialogue.specs.Lenient.{SameForm}
use Rattle.ftp_dialogue.specs.Resuming.{Modes, Resumes, modes_in}
use Rattle.ftp_runs.specs.Run.{replay}
use Rattle.ftp_dialogue.specs.Play.{is_due, is_unit, needs_data}
use Rattle.ftp_runs.specs.declared.model.Item.TheVariants.{Shown, Hidden}
use Rattle.ftp_calls.specs.declared.call.Answer.{Answer}
use Rattle.ftp_dialogue.specs.Promises.{play_state}
use Rattle.ftp_control.specs.Channel.{untaken}
use Rattle.ftp_control.specs.Saying.{said}
use Rattle.ftp_dialogue.specs.NetEvents.{net_record_of}
use Rattle.ftp_dialogue.specs.declared.model.NetOutcome.{NetOutcome}
use Rattle.ftp_dialogue.specs.Sound.{holds}
use Rattle.ftp_dialogue.specs.State.{SessionValue}

-- what came on a connection and wasn't read yet
abbrev pub unread : Told → List ℕ
unread t = drop (length t.received) t.given.bytes

-- the input has ended: it was told so, or a read met the end
abbrev pub is_over : Told → Bool
is_over t = t.given.closed || t.ended

-- where a run begins, on what has come by then; these are the outcomes of its requests
abbrev pub start_of : SessionValue → List NetOutcome → PlayState
start_of v outcomes = play_state v (unread v.channel.told) (is_over v.channel.told) outcomes

-- a script begins; what an earlier read left was read as a reply of this form, by the channel's rule
abbrev pub script_of : SessionValue → ReplyForm → Script
script_of v form = record {
  items = [];
  answers = [];
  call = None;
  polled = false;
  leaving = false;
  heard = false;
  bytes = untaken v.channel ++ unread v.channel.told;
  ended = is_over v.channel.told;
  room = v.channel.told.given.room;
  said = said v.channel;
  sent = v.channel.told.sent;
  unsent = v.channel.unsent;
  untaken = untaken v.channel ++ unread v.channel.told;
  net_record = net_record_of v.net;
  seen = length v.channel.kept;
  form = form;
  rule = v.channel.rule;
  state = v.state;
  failed = v.channel.failed;
}

-- what goes out of what was said
abbrev pub front : Room → List ℕ → List ℕ
front Any all = all
front (UpTo most) all = take most all

-- how many of the untaken bytes are read: those of before, unless a reply was taken; or all, where more are awaited
abbrev pub seen_in : Script → List ℕ → ℕ
seen_in s left = if length left == length s.untaken then s.seen else 0

-- whether the call under way has heard: it had before, or a reply was taken, or one is awaited
abbrev pub heard_in : Script → List ℕ → Bool
heard_in s left = if length left == length s.untaken then s.heard else true

abbrev pub heard_at : Wait → Script → List ℕ → Bool
heard_at wait.Room s left = heard_in s left
heard_at (wait.Bytes form) s left = true
heard_at wait.Outcome s left = heard_in s left

abbrev pub form_at : Wait → Script → ReplyForm
form_at wait.Room s = s.form
form_at (wait.Bytes form) s = form
form_at wait.Outcome s = s.form

-- the rule by which they were read: where more are awaited, the setting
abbrev pub rule_at : Wait → Script → State → ReplyRule
rule_at wait.Room s state = s.rule
rule_at (wait.Bytes form) s state = state.settings.reply_rule
rule_at wait.Outcome s state = s.rule

abbrev pub seen_at : Wait → Script → List ℕ → ℕ
seen_at wait.Room s left = seen_in s left
seen_at (wait.Bytes form) s left = length left
seen_at wait.Outcome s left = seen_in s left

-- a Poll completes the call under way exactly if the run of all calls has its answer
abbrev pub polled_as : Ran → Call → Script → Script
polled_as (Finished answers t) call s = record s {
  items = s.items ++ Shown call ∷ [];
  answers = answers;
  call = None;
  polled = false;
  heard = false;
  said = t.said ++ t.unsent;
  sent = front s.room t.said;
  unsent = t.unsent;
  untaken = t.bytes;
  net_record = t.net_record;
  seen = seen_in s t.bytes;
  state = t.state;
  failed = t.failed;
}
polled_as (Waiting answers wait t) call s = record s {
  polled = true;
  heard = heard_at wait s t.bytes;
  said = t.said ++ t.unsent;
  sent = front s.room t.said;
  untaken = t.bytes;
  net_record = t.net_record;
  seen = seen_at wait s t.bytes;
  form = form_at wait s;
  rule = rule_at wait s t.state;
  state = t.state;
  failed = t.failed;
}

-- all calls are played anew, with this one, on the bytes that came by now
abbrev pub run_with : Coding → PlayState → Call → Script → Ran
run_with coding start call s = replay s.room coding (s.items ++ Shown call ∷ []) (record start { bytes = s.bytes; ended = s.ended })

abbrev pub poll_script : Coding → PlayState → Option Call → Script → Script
poll_script coding start None s = s
poll_script coding start (Some call) s = polled_as (run_with coding start call s) call s

-- A transfer that was left: its last reply comes before any other, so that a Poll takes it first; what was read of it stays
-- where the call is dropped

-- another call is under way in place of the one that wasn't polled
abbrev pub with_call : Call → Script → Script
with_call call s = record s { call = Some call; polled = false; heard = false }

abbrev pub without_call : Script → Script
without_call s = record s { call = None; polled = false; heard = false }

abbrev pub draining : Script → Script
draining s = with_call Drain s

-- a call was done that is an item whose answer is discarded, and this call is under way
abbrev pub hidden_to : Call → Option Call → Script → Script → Script
hidden_to hidden call before after = record after { items = before.items ++ Hidden hidden ∷ []; answers = before.answers; call = call }

-- the drain is over, and the call begins
abbrev pub drained_to : Call → Script → Script → Script
drained_to call before after = hidden_to Drain (Some call) before after

-- the last of these answers
abbrev pub last_of : Answer → List Answer → Answer
last_of answer [] = answer
last_of answer (next ∷ answers) = last_of next answers

abbrev pub succeeded : List Answer → Bool
succeeded [] = false
succeeded (answer ∷ answers) = is_unit (last_of answer answers)

-- the drain was polled: the call goes on where it is over; an error of it is the call's answer
abbrev pub drained_as : Coding → PlayState → Call → Script → Ran → Script
drained_as coding start call s (Finished answers t) =
    let done = polled_as (Finished answers t) Drain (draining s) in
    if succeeded answers then poll_script coding start (Some call) (drained_to call s done) else done
drained_as coding start call s (Waiting answers wait t) = with_call call (polled_as (Waiting answers wait t) Drain (draining s))

abbrev pub poll_if : Bool → Coding → PlayState → Call → Script → Script
poll_if true coding start call s = drained_as coding start call s (run_with coding start Drain (draining s))
poll_if false coding start call s = poll_script coding start (Some call) s

abbrev pub poll_next : Coding → PlayState → Option Call → Script → Script
poll_next coding start None s = s
poll_next coding start (Some call) s = poll_if (is_due call s.failed s.state.counts.owed) coding start call s

-- A transfer that is left without a call of its own: where it is held, that is an item whose answer is discarded

abbrev pub holds_in : Script → Bool
holds_in s = holds (is_none s.net_record.data_conn) s.state.counts.owed

abbrev pub left_as : Script → Ran → Script
left_as s (Finished answers t) = hidden_to Leave s.call s (polled_as (Finished answers t) Leave (with_call Leave s))
left_as s (Waiting answers wait t) = s

abbrev pub leave_if : Bool → Coding → PlayState → Script → Script
leave_if true coding start s = left_as s (run_with coding start Leave s)
leave_if false coding start s = s

-- the transfer that is held, if any, is left
abbrev pub leave_held : Coding → PlayState → Script → Script
leave_held coding start s = leave_if (holds_in s) coding start s

-- no call is under way; a transfer that was to be left once one is over is left
abbrev pub idle : Script → Script
idle s = record (without_call s) { leaving = false }

abbrev pub over_if : Bool → Coding → PlayState → Script → Script
over_if true coding start s = leave_held coding start (idle s)
over_if false coding start s = idle s

abbrev pub over : Coding → PlayState → Script → Script
over coding start s = over_if s.leaving coding start s

abbrev pub after_poll : Coding → PlayState → Option Call → Script → Script
after_poll coding start None s = over coding start s
after_poll coding start (Some call) s = s

abbrev pub poll_event : Coding → PlayState → Option Call → Script → Script
poll_event coding start None s = s
poll_event coding start (Some call) s =
    let polled = poll_next coding start (Some call) s in
    after_poll coding start polled.call polled

-- a call is dropped that brings a transfer to its end: it leaves it. Where it was polled it has closed the data connection
abbrev pub end_dropped : Bool → Coding → PlayState → Script → Script
end_dropped true coding start s = record (idle s) { items = s.items ++ Hidden Leave ∷ [] }
end_dropped false coding start s = leave_held coding start (idle s)

abbrev pub dropped_if : Bool → Coding → PlayState → Script → Script
dropped_if true coding start s = end_dropped s.polled coding start s
dropped_if false coding start s = over coding start s

abbrev pub dropped : Coding → PlayState → Option Call → Script → Script
dropped coding start None s = s
dropped coding start (Some call) s = dropped_if (finishes call) coding start s

-- the transfer that is held is left: behind the call under way if it was polled, and else before it, unless that call
-- took the transfer as it began
abbrev pub leave_beside : Bool → Bool → Coding → PlayState → Script → Script
leave_beside true ends coding start s = if holds_in s then record s { leaving = true } else s
leave_beside false true coding start s = s
leave_beside false false coding start s = leave_held coding start s

abbrev pub leave_now : Coding → PlayState → Option Call → Script → Script
leave_now coding start None s = leave_held coding start s
leave_now coding start (Some call) s = leave_beside s.polled (finishes call) coding start s

-- a call begins where none is under way
abbrev pub start_script : Call → Option Call → Script → Script
start_script call None s = record s { call = Some call; polled = false; heard = false }
start_script call (Some other) s = s

-- bytes come, unless the input has ended
abbrev pub fed : List ℕ → Script → Script
fed more s = if s.ended then s else record s { bytes = s.bytes ++ more; untaken = s.untaken ++ more }

-- what an event makes of it
abbrev pub after_event : Coding → PlayState → Script → Event → Script
after_event coding start s (event.Feed more) = fed more s
after_event coding start s event.End = record s { ended = true }
after_event coding start s (event.Room more) = record s { room = more_room more (length s.sent) s.room }
after_event coding start s (event.Start call) = start_script call s.call s
after_event coding start s event.Poll = poll_event coding start s.call s
after_event coding start s event.Cancel = dropped coding start s.call s
after_event coding start s event.Leave = leave_now coding start s.call s

abbrev pub script : Coding → PlayState → Script → List Event → Script
script coding start s [] = s
script coding start s (event ∷ events) = script coding start (after_event coding start s event) events

-- Where a script ends, and another begins: a server answers its commands in their order, so that the reply of a command
-- that was dropped comes before that of the next: RFC 959, sections 4.2 and 5.4

-- a call that was polled is dropped, and a reply of it may be due from now on: of a plain read none is, nor of `Finish`,
-- whose transfer is left
abbrev pub drops_begun : Option Call → Bool → Bool
drops_begun None polled = false
drops_begun (Some call) polled = polled && not (is_read call || (finishes call && not (aborts call)))

-- replies are due to commands that were dropped, and a call reads them first, in a session that goes on
abbrev pub reads_due : Call → Bool → State → Bool
reads_due call failed state = not (failed || (state.unanswered == 0)) && (drains_first call || drains call) && not (opens_beside call state.counts.owed)

-- it does at its first Poll
abbrev pub reads_first : Option Call → Bool → Bool → State → Bool
reads_first None polled failed state = false
reads_first (Some call) polled failed state = not polled && reads_due call failed state

-- the event ends the script
abbrev pub parts : Script → Event → Bool
parts s event.Poll = reads_first s.call s.polled s.failed s.state
parts s event.Cancel = drops_begun s.call s.polled
parts s other = false

-- but for so many first events: where a call has read what was due, its Start and its Poll are these
abbrev pub parts_beyond : ℕ → Script → Event → Bool
parts_beyond zero s event = parts s event
parts_beyond (suc n) s event = false

abbrev pub one_less : ℕ → ℕ
one_less zero = zero
one_less (suc n) = n

-- so many of the first events are left after these
abbrev pub still : ℕ → List Event → ℕ
still n [] = n
still n (event ∷ events) = still (one_less n) events

-- no event ends the script
abbrev pub Whole : Coding → PlayState → ℕ → Script → List Event → Type 0
Whole coding start n s [] = Unit {0}
Whole coding start n s (event ∷ events) = (parts_beyond n s event ≡ false) × Whole coding start (one_less n) (after_event coding start s event) events

-- Lawful lists: a reply under way is resumed in the mode in which it was read before, leniently as one of the form that it
-- was read as, unless it is no whole reply of the call's form. Of a session that has failed, of a call that is refused and
-- of one that needs no data connection and waits for room before it hears, nothing is asked

-- a call is dropped before its first Poll, or it is a plain read, or `Finish`: the script goes on
abbrev pub MayCancel : Option Call → Bool → Type 0
MayCancel None polled = Unit {0}
MayCancel (Some call) polled = (polled ≡ false) ⊎ (is_read call ≡ true) ⊎ (call ≡ Finish)

-- the call waits, and hasn't heard
abbrev pub HearsNothing : Ran → Script → Type 0
HearsNothing (Finished answers t) s = ⊥
HearsNothing (Waiting answers wait t) s = heard_at wait s t.bytes ≡ false

-- what was read of the reply under way, and the modes in which it was read and would be resumed
abbrev pub kept_in : Script → List ℕ
kept_in s = take s.seen s.untaken

abbrev pub modes_at : Script → Modes
modes_at s = modes_in (kept_in s) s.rule s.state

abbrev pub SameMode : Modes → Type 0
SameMode modes = modes.under ≡ modes.setting

abbrev pub MayPoll : Coding → PlayState → Option Call → Script → Type 0
MayPoll coding start None s = Unit {0}
MayPoll coding start (Some call) s =
    s.heard ≡ false → s.failed ≡ false → (SameMode (modes_at s) × SameForm s.state.settings.reply_rule call s.form) ⊎ Resumes (modes_at s) (kept_in s) (dialogue coding call s.state) ⊎ ((needs_data call ≡ false) × HearsNothing (run_with coding start call s) s)

-- where a drain is due it is the drain that is polled first
abbrev pub MayPollIf : Bool → Coding → PlayState → Call → Script → Type 0
MayPollIf true coding start call s = MayPoll coding start (Some Drain) (draining s)
MayPollIf false coding start call s = MayPoll coding start (Some call) s

abbrev pub MayPollNext : Coding → PlayState → Option Call → Script → Type 0
MayPollNext coding start None s = Unit {0}
MayPollNext coding start (Some call) s = MayPollIf (is_due call s.failed s.state.counts.owed) coding start call s

abbrev pub IsLawful : Coding → PlayState → Script → Event → Type 0
IsLawful coding start s (event.Feed more) = Unit {0}
IsLawful coding start s event.End = Unit {0}
IsLawful coding start s (event.Room more) = Unit {0}
IsLawful coding start s (event.Start call) = Unit {0}
IsLawful coding start s event.Poll = MayPollNext coding start s.call s
IsLawful coding start s event.Cancel = Unit {0}
IsLawful coding start s event.Leave = Unit {0}

-- nothing is asked of the event that ends the script, nor of later ones: those of each script are asked for themselves
abbrev pub Unless : Bool → Type 0 → Type 0
Unless true Asked = Unit {0}
Unless false Asked = Asked

abbrev pub Lawful : Coding → PlayState → ℕ → Script → List Event → Type 0
Lawful coding start n s [] = Unit {0}
Lawful coding start n s (event ∷ events) = Unless (parts_beyond n s event) (IsLawful coding start s event × Lawful coding start (one_less n) (after_event coding start s event) events)
