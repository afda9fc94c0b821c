-- A list of events that begins with no reply due, and whose drops leave none due, is one script.
use Rattle.std.proofs.Common.{◌≡◌, zero, Bool, true, false, ◌&&◌, ◌||◌, ◌==◌, cond, List, [], ◌∷◌, ◌++◌, Option, Some, None, refl, ap, ◌∙◌}
use Rattle.std.specs.Prelude.{not}
use Rattle.ftp_transport.specs.declared.room.Room.{Room}
use Rattle.ftp_calls.specs.Exchanges.{drains, drains_first, finishes}
use Rattle.ftp_calls.specs.declared.call.Answer.{Answer}
use Rattle.ftp_calls.specs.declared.call.Call.{Call}
use Rattle.ftp_calls.specs.declared.call.Call.TheVariants.{Drain, Leave}
use Rattle.ftp_calls.specs.declared.call.Event.{Event}
use Rattle.ftp_calls.specs.declared.call.Event.TheVariants as event
use Rattle.ftp_dialogue.specs.CatchingUp.{opens_beside}
use Rattle.ftp_dialogue.specs.Coding.{Coding}
use Rattle.ftp_dialogue.specs.Play.{is_due, play_call}
use Rattle.ftp_dialogue.specs.declared.model.Played.{Played}
use Rattle.ftp_dialogue.specs.declared.model.Played.TheVariants.{Done, Pending}
use Rattle.ftp_dialogue.specs.declared.model.PlayState.{PlayState}
use Rattle.ftp_dialogue.specs.declared.state.State.{State}
use Rattle.ftp_runs.specs.OneScript.{DropsFreely}
use Rattle.ftp_runs.specs.Run.{and_on, and_then, before, replay}
use Rattle.ftp_runs.specs.Script.{MayCancel, Whole, after_event, after_poll, drained_as, drained_to, draining, dropped, dropped_if, end_dropped, holds_in, idle, leave_beside, leave_held, leave_if, leave_now, left_as, over, over_if, parts, poll_event, poll_if, poll_next, poll_script, polled_as, reads_due, reads_first, run_with, start_script, succeeded}
use Rattle.ftp_runs.specs.declared.model.Item.{Item}
use Rattle.ftp_runs.specs.declared.model.Item.TheVariants.{Shown, Hidden}
use Rattle.ftp_runs.specs.declared.model.Ran.{Ran}
use Rattle.ftp_runs.specs.declared.model.Ran.TheVariants.{Finished, Waiting}
use Rattle.ftp_runs.specs.declared.model.Script.{Script}
use Rattle.ftp_runs.proofs.Drops.{may_free}
use Rattle.ftp_runs.proofs.NoneDue.{IsEven, PlayedEven, call_even}

-- A replay leaves none due

abbrev RanEven : Ran → Type 0
RanEven (Finished answers s) = IsEven s.state
RanEven (Waiting answers how s) = IsEven s.state

before_even : (answer : Answer) (ran : Ran) → RanEven ran → RanEven (before answer ran)
before_even answer (Finished answers s) even = even
before_even answer (Waiting answers how s) even = even

replay_even : (room : Room) (coding : Coding) (items : List Item) (s : PlayState) → IsEven s.state → RanEven (replay room coding items s)
unfolding replay
replay_even room coding [] s even = even
replay_even room coding (Shown call ∷ items) s even = go (λ t stays. replay_even room coding items t stays) (play_call room coding call s) (call_even room coding call s even)
  where
    go : ((t : PlayState) → IsEven t.state → RanEven (replay room coding items t)) → (played : Played) → PlayedEven played → RanEven (and_then played (λ t. replay room coding items t))
    go later (Done answer t) stays = before_even answer (replay room coding items t) (later t stays)
    go later (Pending how t) stays = stays
replay_even room coding (Hidden call ∷ items) s even = go (λ t stays. replay_even room coding items t stays) (play_call room coding call s) (call_even room coding call s even)
  where
    go : ((t : PlayState) → IsEven t.state → RanEven (replay room coding items t)) → (played : Played) → PlayedEven played → RanEven (and_on played (λ t. replay room coding items t))
    go later (Done answer t) stays = later t stays
    go later (Pending how t) stays = stays

-- An event leaves none due

module _ (coding : Coding) (start : PlayState) (begins : IsEven start.state) where
  run_even : (call : Call) (s : Script) → RanEven (run_with coding start call s)
  run_even call s = replay_even s.room coding (s.items ++ Shown call ∷ []) (record start { bytes = s.bytes; ended = s.ended }) begins

  polled_even : (ran : Ran) (call : Call) (s : Script) → RanEven ran → IsEven (polled_as ran call s).state
  polled_even (Finished answers t) call s even = even
  polled_even (Waiting answers how t) call s even = even

  drained_even : (call : Call) (s : Script) (ran : Ran) → RanEven ran → IsEven (drained_as coding start call s ran).state
  drained_even call s (Finished answers t) even =
      let done : Script = polled_as (Finished answers t) Drain (draining s) in
      elim (succeeded answers) as (λ b. IsEven (cond b (poll_script coding start (Some call) (drained_to call s done)) done).state) [
        | true ↦ polled_even (run_with coding start call (drained_to call s done)) call (drained_to call s done) (run_even call (drained_to call s done))
        | false ↦ even
      ]
  drained_even call s (Waiting answers how t) even = even

  next_even : (call : Call) (s : Script) → IsEven (poll_next coding start (Some call) s).state
  next_even call s = go (is_due call s.failed s.state.counts.owed)
    where
      go : (b : Bool) → IsEven (poll_if b coding start call s).state
      go true = drained_even call s (run_with coding start Drain (draining s)) (run_even Drain (draining s))
      go false = polled_even (run_with coding start call s) call s (run_even call s)

  left_even : (s : Script) (ran : Ran) → IsEven s.state → RanEven ran → IsEven (left_as s ran).state
  left_even s (Finished answers t) even stays = stays
  left_even s (Waiting answers how t) even stays = even

  held_even : (s : Script) → IsEven s.state → IsEven (leave_held coding start s).state
  held_even s even = go (holds_in s)
    where
      go : (b : Bool) → IsEven (leave_if b coding start s).state
      go true = left_even s (run_with coding start Leave s) even (run_even Leave s)
      go false = even

  over_even : (s : Script) → IsEven s.state → IsEven (over coding start s).state
  over_even s even = go s.leaving
    where
      go : (b : Bool) → IsEven (over_if b coding start s).state
      go true = held_even (idle s) even
      go false = even

  poll_even : (call : Option Call) (s : Script) → IsEven s.state → IsEven (poll_event coding start call s).state
  poll_even None s even = even
  poll_even (Some call) s even = go (poll_next coding start (Some call) s).call
    where
      go : (left : Option Call) → IsEven (after_poll coding start left (poll_next coding start (Some call) s)).state
      go None = over_even (poll_next coding start (Some call) s) (next_even call s)
      go (Some other) = next_even call s

  dropped_even : (call : Option Call) (s : Script) → IsEven s.state → IsEven (dropped coding start call s).state
  dropped_even None s even = even
  dropped_even (Some call) s even = go (finishes call)
    where
      ends : (b : Bool) → IsEven (end_dropped b coding start s).state
      ends true = even
      ends false = held_even (idle s) even

      go : (b : Bool) → IsEven (dropped_if b coding start s).state
      go true = ends s.polled
      go false = over_even s even

  leave_even : (call : Option Call) (s : Script) → IsEven s.state → IsEven (leave_now coding start call s).state
  leave_even None s even = held_even s even
  leave_even (Some call) s even = go s.polled (finishes call)
    where
      go : (polled ends : Bool) → IsEven (leave_beside polled ends coding start s).state
      go true ends = elim (holds_in s) as (λ b. IsEven (cond b (record s { leaving = true }) s).state) [
        | true ↦ even
        | false ↦ even
      ]
      go false true = even
      go false false = held_even s even

  event_even : (one : Event) (s : Script) → IsEven s.state → IsEven (after_event coding start s one).state
  event_even (event.Feed more) s even = elim s.ended as (λ b. IsEven (cond b s (record s { bytes = s.bytes ++ more; untaken = s.untaken ++ more })).state) [
    | true ↦ even
    | false ↦ even
  ]
  event_even event.End s even = even
  event_even (event.Room more) s even = even
  event_even (event.Start call) s even = go s.call
    where
      go : (other : Option Call) → IsEven (start_script call other s).state
      go None = even
      go (Some other) = even
  event_even event.Poll s even = poll_even s.call s even
  event_even event.Cancel s even = dropped_even s.call s even
  event_even event.Leave s even = leave_even s.call s even

-- and ends no script

and_none : (b : Bool) → (b && false) ≡ false
and_none true = refl
and_none false = refl

or_all : (b : Bool) → (b || true) ≡ true
or_all true = refl
or_all false = refl

none_due : (call : Call) (failed : Bool) (state : State) → IsEven state → reads_due call failed state ≡ false
none_due call failed state even =
    let is : (state.unanswered == 0) ≡ true = rw even refl in
    ap (λ n. not (failed || n) && (drains_first call || drains call) && not (opens_beside call state.counts.owed)) is
    ∙ ap (λ n. not n && (drains_first call || drains call) && not (opens_beside call state.counts.owed)) (or_all failed)

reads_none : (call : Option Call) (polled failed : Bool) (state : State) → IsEven state → reads_first call polled failed state ≡ false
reads_none None polled failed state even = refl
reads_none (Some call) polled failed state even = ap (λ b. not polled && b) (none_due call failed state even) ∙ and_none (not polled)

event_parts : (one : Event) (s : Script) → IsEven s.state → (one ≡ event.Cancel → MayCancel s.call s.polled) → parts s one ≡ false
event_parts event.Poll s even may = reads_none s.call s.polled s.failed s.state even
event_parts event.Cancel s even may = may_free s.call s.polled (may refl)
event_parts other s even may = refl

pub one_script : (coding : Coding) (start : PlayState) (s : Script) (events : List Event) → IsEven start.state → IsEven s.state → DropsFreely coding start s events → Whole coding start zero s events
one_script coding start s [] begins even frees = tt
one_script coding start s (one ∷ events) begins even frees =
    (event_parts one s even frees.0, one_script coding start (after_event coding start s one) events begins (event_even coding start begins one s even) frees.1)
