-- Lemmas on a transfer that is left in a script without a call of its own.
use Rattle.std.proofs.Common.{◌≡◌, ◌||◌, ℕ, Bool, true, false, cond, Option, Some, None, is_none, List, [], ◌∷◌, ◌++◌, inl, inr, ◌⊎◌, refl, ap, sym, ◌∙◌, subst, append-nil}
use Rattle.futures.specs.declared.task.Poll.TheVariants.{Ready, Pending}
use Rattle.ftp_calls.specs.declared.call.Answer.{Answer}
use Rattle.ftp_calls.specs.declared.call.Answer.TheVariants.{Unit as Nothing, Fault}
use Rattle.ftp_calls.specs.declared.call.Call.{Call}
use Rattle.ftp_calls.specs.declared.call.Call.TheVariants.{Leave, Drain}
use Rattle.ftp_calls.specs.declared.call.Event.TheVariants as event
use Rattle.ftp_calls.specs.declared.exchange.Turn.TheVariants.{First}
use Rattle.ftp_calls.specs.Exchanges.{finishes}
use Rattle.ftp_dialogue.specs.Coding.{Coding}
use Rattle.ftp_dialogue.specs.NetEvents.{NetEvent, NetEvents, net_record_of, outcomes_of, parted, settled, traffic_of}
use Rattle.ftp_dialogue.specs.declared.model.NetRecord.{NetRecord}
use Rattle.ftp_dialogue.specs.Dialogue.{dialogue, entered}
use Rattle.ftp_dialogue.specs.Link.{Builds, over_memory, plain}
use Rattle.ftp_dialogue.specs.Play.{Taken, Lacking, refused_if_failed, is_due}
use Rattle.ftp_dialogue.specs.Promises.{FailsWith, begun_by, refusal_of}
use Rattle.ftp_dialogue.specs.Resuming.{Resumes, modes_of}
use Rattle.ftp_dialogue.specs.Sound.{holds, left_of}
use Rattle.ftp_dialogue.specs.State.{SessionValue}
use Rattle.ftp_dialogue.specs.declared.model.NetOutcome.{NetOutcome}
use Rattle.ftp_runs.specs.declared.model.Ran.{Ran}
use Rattle.ftp_runs.specs.declared.model.Ran.TheVariants.{Finished, Waiting}
use Rattle.ftp_runs.specs.declared.model.Script.{Script}
use Rattle.ftp_dialogue.specs.declared.model.PlayState.{PlayState}
use Rattle.ftp_dialogue.specs.declared.stage.Stage.{Stage}
use Rattle.ftp_dialogue.specs.declared.stage.Stage.TheVariants.{At}
use Rattle.ftp_dialogue.specs.declared.state.Owed.{Owed}
use Rattle.ftp_dialogue.specs.declared.state.Owed.TheVariants as owed
use Rattle.ftp_dialogue.specs.Steps.Moving.{Carries, CarriesOut, PollsTo}
use Rattle.ftp_calls.specs.declared.exchange.Movement.TheVariants as movement
use Rattle.ftp_control.specs.Channel.{IsSound}
use Rattle.ftp_transport.specs.Memory.{IsGiven}
use Rattle.ftp_dialogue.specs.Steps.Stages.{remaining}
use Rattle.ftp_dialogue.proofs.CarryingLemmas.{close_left, lacks_alike, local_resumes}
use Rattle.ftp_dialogue.proofs.NetEvents.{net_record_moved, net_events-append, letting_beside, letting_settles}
use Rattle.ftp_dialogue.proofs.DrainingLemmas.{taken_unrefused}
use Rattle.ftp_dialogue.proofs.Moving.{Finishes, finishes as finishes_by}
use Rattle.ftp_runs.specs.Script.{after_event, after_poll, drained_as, drained_to, draining, hidden_to, holds_in, idle, leave_beside, leave_held, leave_if, leave_now, left_as, over, over_if, poll_event, poll_if, poll_next, poll_script, polled_as, run_with, start_of, succeeded, with_call, without_call}
use Rattle.ftp_runs.specs.Scripted.{AreRefused, LeavesHeldIf, LeavesThen}
use Rattle.ftp_runs.specs.Following.{AbortsPart, Attended, Attends, Follows, Happens, HasLeft, HasLeftIf, LeavesBeside, LeavesNow, Place, PollsHere, at_rest}
use Rattle.ftp_runs.specs.declared.events.Course.{Course}
use Rattle.ftp_runs.proofs.Carried.{outcomes_on}
use Rattle.ftp_runs.proofs.Drained.{NextFollows, NextHappens}
use Rattle.ftp_runs.proofs.EventLemmas.{LeavesNoTrace, begins_call, cancels, idles, leaves_later, stayed}
use Rattle.ftp_runs.proofs.Polling.{carried_here}
use Rattle.ftp_runs.proofs.HiddenCalls.{done, hidden_alone, hidden_before, hidden_ran}

-- What is known of the call under way

left_keeps : (s : Script) (r : Ran) → s.polled ≡ false → (left_as s r).polled ≡ false × (left_as s r).leaving ≡ s.leaving × (left_as s r).call ≡ s.call
left_keeps s (Finished answers t) unpolled = (refl, refl, refl)
left_keeps s (Waiting answers wait t) unpolled = (unpolled, refl, refl)

leave_keeps : (b : Bool) (coding : Coding) (start : PlayState) (s : Script) → s.polled ≡ false → (leave_if b coding start s).polled ≡ false × (leave_if b coding start s).leaving ≡ s.leaving × (leave_if b coding start s).call ≡ s.call
leave_keeps true coding start s unpolled = left_keeps s (run_with coding start Leave s) unpolled
leave_keeps false coding start s unpolled = (unpolled, refl, refl)

-- of one that wasn't polled nothing else is known after a transfer was left
pub leave_attends : (coding : Coding) (start : PlayState) (s : Script) (course : Course) → s.polled ≡ false → Attends s course → Attends (leave_held coding start s) course
leave_attends coding start s course unpolled a =
    let kept = leave_keeps (holds_in s) coding start s unpolled in
    record { polled = kept.0 ∙ sym unpolled ∙ a.polled; leaving = kept.1 ∙ a.leaving; resting = λ none. kept.0 }

-- once it is over, none is under way
pub over_attends : (coding : Coding) (start : PlayState) (s : Script) → Attends (over coding start s) at_rest
over_attends coding start s = go s.leaving
  where
    go : (b : Bool) → Attends (over_if b coding start s) at_rest
    go true = leave_attends coding start (idle s) at_rest refl (record { polled = refl; leaving = refl; resting = λ none. refl })
    go false = record { polled = refl; leaving = refl; resting = λ none. refl }

pub over_without : (b : Bool) (coding : Coding) (start : PlayState) (s : Script) → over_if b coding start (without_call s) ≡ over_if b coding start s
over_without true coding start s = refl
over_without false coding start s = refl

-- a poll changes nothing of what is to be left
polled_keeps : (r : Ran) (call : Call) (s : Script) → (polled_as r call s).leaving ≡ s.leaving
polled_keeps (Finished answers t) call s = refl
polled_keeps (Waiting answers wait t) call s = refl

pub poll_keeps : (coding : Coding) (start : PlayState) (call : Option Call) (s : Script) → (poll_next coding start call s).leaving ≡ s.leaving
poll_keeps coding start None s = refl
poll_keeps coding start (Some call) s = go (is_due call s.failed s.state.counts.owed)
  where
    drained : (r : Ran) → (drained_as coding start call s r).leaving ≡ s.leaving
    drained (Finished answers t) =
        let done : Script = polled_as (Finished answers t) Drain (draining s) in
        elim (succeeded answers) as (λ b. (cond b (poll_script coding start (Some call) (drained_to call s done)) done).leaving ≡ s.leaving) [
          | true ↦ polled_keeps (run_with coding start call (drained_to call s done)) call (drained_to call s done)
          | false ↦ refl
        ]
    drained (Waiting answers wait t) = refl

    go : (b : Bool) → (poll_if b coding start call s).leaving ≡ s.leaving
    go true = drained (run_with coding start Drain (draining s))
    go false = polled_keeps (run_with coding start call s) call s

-- Of a transfer that is held

held_some : (none : Bool) (o : Owed) → holds none o ≡ true → none ≡ false
held_some none owed.Nothing is = let clash : false ≡ true = is in cc
held_some none (owed.Left number) is = let clash : false ≡ true = is in cc
held_some true (owed.Live number) is = let clash : false ≡ true = is in cc
held_some false (owed.Live number) is = refl

-- a transfer that is held can be left
pub held_taken : (v : SessionValue) → holds (is_none v.net.data_conn) v.state.counts.owed ≡ true → refusal_of Leave v ≡ Taken
held_taken v held =
    ap (λ n. cond n Lacking (refused_if_failed true v.channel.failed)) (held_some (is_none v.net.data_conn) v.state.counts.owed held)

abbrev no_call : Option Call
no_call = None

or_true : (b : Bool) → (b || true) ≡ true
or_true true = refl
or_true false = refl

or_false : (b : Bool) → (b || false) ≡ b
or_false true = refl
or_false false = refl

module _ (builds : Builds) (coding : Coding) where
  -- the script knows of it
  held_in : (outcomes left : List NetOutcome) (old : SessionValue) (s : Script) (v : SessionValue) (call : Option Call) (stage : Stage) (answers : List Answer) → Follows builds coding outcomes left old s v call stage answers → holds_in s ≡ holds (is_none v.net.data_conn) v.state.counts.owed
  held_in outcomes left old s v call stage answers f =
      ap (λ d. holds (is_none d.data_conn) s.state.counts.owed) f.net_record
      ∙ ap (λ x. holds (is_none (net_record_of v.net).data_conn) x.counts.owed) f.state
      ∙ ap (λ n. holds n v.state.counts.owed) (lacks_alike traffic_of v.net.data_conn)

  -- where a call that wasn't polled is under way, or none is
  stands_here : (outcomes left : List NetOutcome) (old : SessionValue) (s : Script) (v : SessionValue) (call : Option Call) (stage : Stage) (answers : List Answer) → Follows builds coding outcomes left old s v call stage answers → s.polled ≡ false → LeavesNoTrace call s.polled
  stands_here outcomes left old s v None stage answers f unpolled = tt
  stands_here outcomes left old s v (Some other) stage answers f unpolled = inl unpolled

  pub first_stage : (outcomes left : List NetOutcome) (old : SessionValue) (s : Script) (v : SessionValue) (call : Call) (stage : Stage) (answers : List Answer) → Follows builds coding outcomes left old s v (Some call) stage answers → s.polled ≡ false → stage ≡ At First
  first_stage outcomes left old s v call stage answers f unpolled = go f.place
    where
      go : Place coding old s f.came f.answered v (Some call) stage → stage ≡ At First
      go (inl started) = started.at
      go (inr (inl u)) = let clash : false ≡ true = sym unpolled ∙ u.polled in cc
      go (inr (inr u)) = let clash : false ≡ true = sym unpolled ∙ u.polled in cc

  -- what is made of it, whatever is under way, as long as that wasn't polled
  abbrev pub LeftHappens : SessionValue → SessionValue → Type 0
  LeftHappens v w =
      (answered : List NetEvent) × NetEvents (plain builds) answered v.net w.net × ((outcomes left : List NetOutcome) (old : SessionValue) (s : Script) (call : Option Call) (stage : Stage) (answers : List Answer) → Follows builds coding outcomes (outcomes_of answered ++ left) old s v call stage answers → s.polled ≡ false → Follows builds coding outcomes left old (leave_held coding (start_of old outcomes) s) w call stage answers)

  -- none is held
  unheld_happens : (v w : SessionValue) → holds (is_none v.net.data_conn) v.state.counts.owed ≡ false → w ≡ v → LeftHappens v w
  unheld_happens v w none same = (
    [],
    ap (λ x. x.net) same,
    λ outcomes left old s call stage answers f unpolled.
        let P : Bool → Type 0 = λ b. Follows builds coding outcomes left old (leave_if b coding (start_of old outcomes) s) w call stage answers in
        subst P (sym (held_in outcomes left old s v call stage answers f ∙ none)) (stayed builds coding outcomes left old s v w call stage answers same f),
  )

  -- one is
  held_happens : (v w : SessionValue) (at : Stage) → holds (is_none v.net.data_conn) v.state.counts.owed ≡ true → PollsHere builds coding Leave (At First) at v w (Ready Nothing) → LeftHappens v w
  held_happens v w at held polled = (
    ends.answered,
    ends.goes.net_events tt,
    λ outcomes left old s call stage answers f unpolled. by outcomes left old s call stage answers f unpolled,
  )
    where
      takes : refusal_of Leave v ≡ Taken
      takes = held_taken v held

      resumes : Resumes (modes_of v) v.channel.kept (dialogue coding Leave v.state)
      resumes = local_resumes (modes_of v) v.channel.kept coding Leave v.state refl

      ends : Finishes (over_memory builds) (dialogue coding Leave v.state) Nothing (begun_by Leave v) w
      ends = go (polled.polls takes)
        where
          go : PollsTo (over_memory builds) false (dialogue coding Leave v.state) (remaining coding Leave (entered Leave v.state) at) (begun_by Leave v) w (Ready Nothing) → Finishes (over_memory builds) (dialogue coding Leave v.state) Nothing (begun_by Leave v) w
          go (last, inr aborts, lets_go) = let clash : Nothing ≡ Fault aborts.fault = aborts.is in cc
          go (last, inl done, lets_go) = finishes_by (over_memory builds) (dialogue coding Leave v.state) Nothing (begun_by Leave v) last w lets_go done

      by : (outcomes left : List NetOutcome) (old : SessionValue) (s : Script) (call : Option Call) (stage : Stage) (answers : List Answer) → Follows builds coding outcomes (outcomes_of ends.answered ++ left) old s v call stage answers → s.polled ≡ false → Follows builds coding outcomes left old (leave_held coding (start_of old outcomes) s) w call stage answers
      by outcomes left old s call stage answers f unpolled =
          let P : Bool → Type 0 = λ b. Follows builds coding outcomes left old (leave_if b coding (start_of old outcomes) s) w call stage answers in
          subst P (sym (held_in outcomes (outcomes_of ends.answered ++ left) old s v call stage answers f ∙ held)) under_way
        where
          due : List NetOutcome
          due = outcomes_of ends.answered ++ left

          d : Follows builds coding outcomes due old (with_call Leave s) v (Some Leave) (At First) answers
          d = begins_call builds coding outcomes due old (without_call s) v Leave stage answers (cancels builds coding outcomes due old s v call stage stage answers f (stands_here outcomes due old s v call stage answers f unpolled))

          go : (c : Option Call) → Follows builds coding outcomes due old s v c stage answers → Follows builds coding outcomes left old (hidden_to Leave c s (done builds coding outcomes left Leave Nothing old s v w at answers ends d takes resumes polled)) w c stage answers
          go None g = hidden_alone builds coding outcomes left Leave Nothing old s v w at answers ends d takes resumes polled stage
          go (Some other) g =
              let P : Stage → Type 0 = λ x. Follows builds coding outcomes left old (hidden_to Leave (Some other) s (done builds coding outcomes left Leave Nothing old s v w at answers ends d takes resumes polled)) w (Some other) x answers in
              subst P (sym (first_stage outcomes due old s v other stage answers g unpolled)) (hidden_before builds coding outcomes left Leave Nothing old s v w at answers ends d takes resumes polled other)

          under_way : Follows builds coding outcomes left old (left_as s (run_with coding (start_of old outcomes) Leave s)) w call stage answers
          under_way =
              let R : Ran → Type 0 = λ r. Follows builds coding outcomes left old (left_as s r) w call stage answers in
              let C : Option Call → Type 0 = λ c. Follows builds coding outcomes left old (hidden_to Leave c s (done builds coding outcomes left Leave Nothing old s v w at answers ends d takes resumes polled)) w call stage answers in
              subst R (sym (hidden_ran builds coding outcomes left Leave Nothing old s v w at answers ends d takes resumes polled)) (subst C (sym f.call_is) (go call f))

  pub left_happens : (v w : SessionValue) → HasLeft v w → LeftHappens v w
  left_happens v w has = go (holds (is_none v.net.data_conn) v.state.counts.owed) refl has.leaves
    where
      go : (b : Bool) → holds (is_none v.net.data_conn) v.state.counts.owed ≡ b → LeavesHeldIf b v w → LeftHappens v w
      go true held leaves = held_happens v w (At First) held (carried_here builds coding Leave (At First) (At First) v w Nothing refl (inr refl) (has.carries held) has.given has.sound)
      go false none same = unheld_happens v w none same

  -- a call is over, and a transfer is left that was to be left then
  abbrev pub OverHappens : Bool → SessionValue → SessionValue → Type 0
  OverHappens leaving v w =
      (answered : List NetEvent) × NetEvents (plain builds) answered v.net w.net × ((outcomes left : List NetOutcome) (old : SessionValue) (s : Script) (stage : Stage) (answers : List Answer) → Follows builds coding outcomes (outcomes_of answered ++ left) old s v None stage answers → s.leaving ≡ leaving → Follows builds coding outcomes left old (over coding (start_of old outcomes) s) w None stage answers)

  pub over_happens : (leaving : Bool) (v w : SessionValue) → HasLeftIf leaving v w → OverHappens leaving v w
  over_happens true v w has =
      let made = left_happens v w has in (
        made.0,
        made.1,
        λ outcomes left old s stage answers f leaving.
            let P : Bool → Type 0 = λ b. Follows builds coding outcomes left old (over_if b coding (start_of old outcomes) s) w None stage answers in
            subst P (sym leaving) (made.2 outcomes left old (idle s) None stage answers (idles builds coding outcomes (outcomes_of made.0 ++ left) old s v stage answers f) refl),
      )
  over_happens false v w same = (
    [],
    ap (λ x. x.net) same,
    λ outcomes left old s stage answers f leaving.
        let P : Bool → Type 0 = λ b. Follows builds coding outcomes left old (over_if b coding (start_of old outcomes) s) w None stage answers in
        subst P (sym leaving) (stayed builds coding outcomes left old (idle s) v w None stage answers same (idles builds coding outcomes left old s v stage answers f)),
  )

  left_channel : (leaving : Bool) (v w : SessionValue) → HasLeftIf leaving v w → w.channel ≡ v.channel
  left_channel true v w has = has.channel
  left_channel false v w same = ap (λ x. x.channel) same

  pub left_then : (leaving : Bool) (v w : SessionValue) → HasLeftIf leaving v w → LeavesThen leaving v w
  left_then true v w has = has.leaves
  left_then false v w same = same

  -- A poll

  pub ready_happens : (call : Call) (stage stage' : Stage) (polled' : Bool) (course : Course) (v gone w : SessionValue) (answer : Answer) → NextHappens builds coding call stage stage' polled' v gone (Ready answer) → HasLeftIf course.leaving gone w → Happens builds coding v w (Some call) None stage stage' course at_rest event.Poll (Some answer)
  ready_happens call stage stage' polled' course v gone w answer happens has = (
    happens.0 ++ left.0,
    net_events-append (plain builds) happens.0 left.0 v.net gone.net w.net happens.1 left.1,
    λ outcomes rest old s answers f may.
        let F : List NetOutcome → Type 0 = λ o. Follows builds coding outcomes o old s v (Some call) stage answers in
        go outcomes rest old s answers f.1 f.0.call_is (happens.2 outcomes (outcomes_of left.0 ++ rest) old s answers (subst F (outcomes_on happens.0 left.0 rest) f.0) may),
  )
    where
      left : OverHappens course.leaving gone w
      left = over_happens course.leaving gone w has

      go : (outcomes rest : List NetOutcome) (old : SessionValue) (s : Script) (answers : List Answer) → Attends s course → s.call ≡ Some call → NextFollows builds coding outcomes (outcomes_of left.0 ++ rest) old s gone call stage' polled' answers (Ready answer) → Attended builds coding outcomes rest old (after_event coding (start_of old outcomes) s event.Poll) w None stage' at_rest (answers ++ answer ∷ []) ⊎ (AbortsPart builds coding outcomes old s answers w (Some answer) × (no_call ≡ None) × (at_rest ≡ at_rest) × (event.Poll ≡ event.Poll))
      go outcomes rest old s answers attends is (inl f) =
          let start : PlayState = start_of old outcomes in
          let then : Script = poll_next coding start s.call s in
          let P : Option Call → Type 0 = λ c. Attended builds coding outcomes rest old (poll_event coding start c s) w None stage' at_rest (answers ++ answer ∷ []) in
          let N : Option Call → Type 0 = λ c. Attended builds coding outcomes rest old (after_poll coding start c (poll_next coding start (Some call) s)) w None stage' at_rest (answers ++ answer ∷ []) in
          let S : Option Call → Type 0 = λ c. Follows builds coding outcomes (outcomes_of left.0 ++ rest) old (poll_next coding start c s) gone None stage' (answers ++ answer ∷ []) in
          let g = subst S is f in
          inl (subst P (sym is) (subst N (sym g.call_is) (left.2 outcomes rest old (poll_next coding start (Some call) s) stage' (answers ++ answer ∷ []) g (poll_keeps coding start (Some call) s ∙ attends.leaving), over_attends coding start (poll_next coding start (Some call) s))))
      go outcomes rest old s answers attends is (inr aborts) =
          let L : Bool → Type 0 = λ b. LeavesThen b gone w in
          inr (record { gone = gone; at = aborts; leaves = subst L (sym (aborts.leaving ∙ attends.leaving)) (left_then course.leaving gone w has); channel = left_channel course.leaving gone w has }, refl, refl, refl)

  pub waits_happens : (call : Call) (stage stage' : Stage) (polled' : Bool) (course : Course) (v w : SessionValue) → NextHappens builds coding call stage stage' polled' v w Pending → Happens builds coding v w (Some call) (Some call) stage stage' course (record course { polled = polled' }) event.Poll None
  waits_happens call stage stage' polled' course v w happens = (
    happens.0,
    happens.1,
    λ outcomes rest old s answers f may. inl (go outcomes rest old s answers f.1 f.0.call_is (happens.2 outcomes rest old s answers f.0 may)),
  )
    where
      go : (outcomes rest : List NetOutcome) (old : SessionValue) (s : Script) (answers : List Answer) → Attends s course → s.call ≡ Some call → NextFollows builds coding outcomes rest old s w call stage' polled' answers Pending → Attended builds coding outcomes rest old (after_event coding (start_of old outcomes) s event.Poll) w (Some call) stage' (record course { polled = polled' }) (answers ++ [])
      go outcomes rest old s answers attends is (f, polled) =
          let start : PlayState = start_of old outcomes in
          let then : Script = poll_next coding start (Some call) s in
          let P : Option Call → Type 0 = λ c. Attended builds coding outcomes rest old (poll_event coding start c s) w (Some call) stage' (record course { polled = polled' }) (answers ++ []) in
          let N : Option Call → Type 0 = λ c. Attended builds coding outcomes rest old (after_poll coding start c then) w (Some call) stage' (record course { polled = polled' }) (answers ++ []) in
          let S : Option Call → Type 0 = λ c. Follows builds coding outcomes rest old (poll_next coding start c s) w (Some call) stage' answers × ((poll_next coding start c s).polled ≡ polled') in
          let A : List Answer → Type 0 = λ a. Follows builds coding outcomes rest old then w (Some call) stage' a in
          let g = subst S is (f, polled) in
          subst P (sym is) (subst N (sym g.0.call_is) (subst A (sym (append-nil answers)) g.0, record { polled = g.1; leaving = poll_keeps coding start (Some call) s ∙ attends.leaving; resting = λ none. (let clash : Some call ≡ None = sym g.0.call_is ∙ none in cc) }))

  pub idle_happens : (stage : Stage) (course : Course) (v : SessionValue) → Happens builds coding v v None None stage stage course course event.Poll None
  idle_happens stage course v = (
    [],
    refl,
    λ outcomes rest old s answers f may.
        let P : Option Call → Type 0 = λ c. Attended builds coding outcomes rest old (poll_event coding (start_of old outcomes) c s) v None stage course (answers ++ []) in
        let A : List Answer → Type 0 = λ a. Attended builds coding outcomes rest old s v None stage course a in
        inl (subst P (sym f.0.call_is) (subst A (sym (append-nil answers)) f)),
  )

  -- A transfer is left beside

  pub left_alone : (stage : Stage) (course : Course) (v w : SessionValue) → HasLeft v w → Happens builds coding v w None None stage stage course course event.Leave None
  left_alone stage course v w has =
      let left = left_happens v w has in (
        left.0,
        left.1,
        λ outcomes rest old s answers f may.
            let start : PlayState = start_of old outcomes in
            let unpolled = f.1.resting f.0.call_is in
            let P : Option Call → Type 0 = λ c. Attended builds coding outcomes rest old (leave_now coding start c s) w None stage course (answers ++ []) in
            let A : List Answer → Type 0 = λ a. Follows builds coding outcomes rest old (leave_held coding start s) w None stage a in
            inl (subst P (sym f.0.call_is) (subst A (sym (append-nil answers)) (left.2 outcomes rest old s None stage answers f.0 unpolled), leave_attends coding start s course unpolled f.1)),
      )

  -- before a call that wasn't polled
  pub left_before : (call : Call) (stage : Stage) (course : Course) (v w : SessionValue) → course.polled ≡ false → finishes call ≡ false → HasLeft v w → Happens builds coding v w (Some call) (Some call) stage stage course course event.Leave None
  left_before call stage course v w new goes_on has =
      let left = left_happens v w has in (
        left.0,
        left.1,
        λ outcomes rest old s answers f may.
            let start : PlayState = start_of old outcomes in
            let unpolled = f.1.polled ∙ new in
            let P : Option Call → Type 0 = λ c. Attended builds coding outcomes rest old (leave_now coding start c s) w (Some call) stage course (answers ++ []) in
            let Q : Bool → Type 0 = λ b. Attended builds coding outcomes rest old (leave_beside b (finishes call) coding start s) w (Some call) stage course (answers ++ []) in
            let R : Bool → Type 0 = λ b. Attended builds coding outcomes rest old (leave_beside false b coding start s) w (Some call) stage course (answers ++ []) in
            let A : List Answer → Type 0 = λ a. Follows builds coding outcomes rest old (leave_held coding start s) w (Some call) stage a in
            inl (subst P (sym f.0.call_is) (subst Q (sym unpolled) (subst R (sym goes_on) (subst A (sym (append-nil answers)) (left.2 outcomes rest old s (Some call) stage answers f.0 unpolled), leave_attends coding start s course unpolled f.1)))),
      )

  -- that call has taken it
  pub left_taken : (call : Call) (stage : Stage) (course : Course) (v : SessionValue) → course.polled ≡ false → finishes call ≡ true → Happens builds coding v v (Some call) (Some call) stage stage course course event.Leave None
  left_taken call stage course v new ends = (
    [],
    refl,
    λ outcomes rest old s answers f may.
        let start : PlayState = start_of old outcomes in
        let P : Option Call → Type 0 = λ c. Attended builds coding outcomes rest old (leave_now coding start c s) v (Some call) stage course (answers ++ []) in
        let Q : Bool → Type 0 = λ b. Attended builds coding outcomes rest old (leave_beside b (finishes call) coding start s) v (Some call) stage course (answers ++ []) in
        let R : Bool → Type 0 = λ b. Attended builds coding outcomes rest old (leave_beside false b coding start s) v (Some call) stage course (answers ++ []) in
        let A : List Answer → Type 0 = λ a. Attended builds coding outcomes rest old s v (Some call) stage course a in
        inl (subst P (sym f.0.call_is) (subst Q (sym (f.1.polled ∙ new)) (subst R (sym ends) (subst A (sym (append-nil answers)) f)))),
  )

  -- behind a call that was polled
  pub left_behind_call : (call : Call) (stage : Stage) (course course' : Course) (v : SessionValue) → course.polled ≡ true → course' ≡ record course { leaving = course.leaving || holds (is_none v.net.data_conn) v.state.counts.owed } → Happens builds coding v v (Some call) (Some call) stage stage course course' event.Leave None
  left_behind_call call stage course course' v polled is = (
    [],
    refl,
    λ outcomes rest old s answers f may.
        let start : PlayState = start_of old outcomes in
        let P : Option Call → Type 0 = λ c. Attended builds coding outcomes rest old (leave_now coding start c s) v (Some call) stage course' (answers ++ []) in
        let Q : Bool → Type 0 = λ b. Attended builds coding outcomes rest old (leave_beside b (finishes call) coding start s) v (Some call) stage course' (answers ++ []) in
        let A : List Answer → Type 0 = λ a. Attended builds coding outcomes rest old (leave_beside true (finishes call) coding start s) v (Some call) stage course' a in
        let C : Course → Type 0 = λ c. Attended builds coding outcomes rest old (leave_beside true (finishes call) coding start s) v (Some call) stage c answers in
        let H : Bool → Type 0 = λ h. Attended builds coding outcomes rest old (cond h (record s { leaving = true }) s) v (Some call) stage (record course { leaving = course.leaving || h }) answers in
        let go : (h : Bool) → H h = λ h. elim h as H [
          | true ↦ (leaves_later builds coding outcomes rest old s v (Some call) stage answers f.0, record { polled = f.1.polled; leaving = sym (or_true course.leaving); resting = f.1.resting })
          | false ↦ (f.0, record { polled = f.1.polled; leaving = f.1.leaving ∙ sym (or_false course.leaving); resting = f.1.resting })
        ] in
        let held = held_in outcomes rest old s v (Some call) stage answers f.0 in
        let G : Bool → Type 0 = λ h. Attended builds coding outcomes rest old (cond h (record s { leaving = true }) s) v (Some call) stage (record course { leaving = course.leaving || holds (is_none v.net.data_conn) v.state.counts.owed }) answers in
        inl (subst P (sym f.0.call_is) (subst Q (sym (f.1.polled ∙ polled)) (subst A (sym (append-nil answers)) (subst C (sym is) (subst G (sym held) (go (holds (is_none v.net.data_conn) v.state.counts.owed))))))),
  )

  pub now_happens : (call : Option Call) (stage : Stage) (course course' : Course) (v w : SessionValue) → LeavesNow call course v w course' → Happens builds coding v w call call stage stage course course' event.Leave None
  now_happens None stage course course' v w (has, kept) =
      let C : Course → Type 0 = λ x. Happens builds coding v w None None stage stage course x event.Leave None in
      subst C (sym kept) (left_alone stage course v w has)
  now_happens (Some call) stage course course' v w leaves = go course.polled (finishes call) refl refl leaves
    where
      go : (p e : Bool) → course.polled ≡ p → finishes call ≡ e → LeavesBeside p e course v w course' → Happens builds coding v w (Some call) (Some call) stage stage course course' event.Leave None
      go true e polled ends (same, is) =
          let V : SessionValue → Type 0 = λ x. Happens builds coding v x (Some call) (Some call) stage stage course course' event.Leave None in
          subst V (sym same) (left_behind_call call stage course course' v polled is)
      go false true new ends (same, kept) =
          let V : SessionValue → Type 0 = λ x. Happens builds coding v x (Some call) (Some call) stage stage course course' event.Leave None in
          let C : Course → Type 0 = λ x. Happens builds coding v v (Some call) (Some call) stage stage course x event.Leave None in
          subst V (sym same) (subst C (sym kept) (left_taken call stage course v new ends))
      go false false new on (has, kept) =
          let C : Course → Type 0 = λ x. Happens builds coding v w (Some call) (Some call) stage stage course x event.Leave None in
          subst C (sym kept) (left_before call stage course v w new on has)

-- what a transfer that is left changes of the control connection: nothing
pub fails_then : (v gone w : SessionValue) (answers : List Answer) → w.channel ≡ gone.channel → FailsWith v gone answers → FailsWith v w answers
fails_then v gone w answers same fails = λ failed. fails (sym (ap (λ c. c.failed) same) ∙ failed)

pub stays_then : (v gone w : SessionValue) (answers : List Answer) → w.channel ≡ gone.channel → (gone.channel.failed ≡ true) × (gone.channel.told.failures ≡ v.channel.told.failures) × AreRefused answers → (w.channel.failed ≡ true) × (w.channel.told.failures ≡ v.channel.told.failures) × AreRefused answers
stays_then v gone w answers same stays = (ap (λ c. c.failed) same ∙ stays.0, ap (λ c. c.told.failures) same ∙ stays.1, stays.2)

-- A transfer that is held is left

-- it is live, and so it is owed as one that was left
held_left : (o : Owed) (none : Bool) → holds none o ≡ true → (number : ℕ) × (o ≡ owed.Live number)
held_left owed.Nothing none is = let clash : false ≡ true = is in cc
held_left (owed.Left number) none is = let clash : false ≡ true = is in cc
held_left (owed.Live number) none is = (number, refl)

parted_twice : (number : ℕ) (o : Owed) (d : NetRecord) → o ≡ owed.Live number → settled (left_of o) (parted d) ≡ parted d
parted_twice number o d is = rw is refl

module _ (v w : SessionValue) (answer : Answer) (held : holds (is_none v.net.data_conn) v.state.counts.owed ≡ true) where
  pub record LeftSo : Type 0 where
    pub answered : answer ≡ Nothing
    pub leaves : LeavesHeldIf true v w
    pub channel : w.channel ≡ v.channel

  pub left_by : CarriesOut (Unit {0}) Leave v w answer → LeftSo
  left_by (inl refused) = absurd (taken_unrefused (Unit {0}) Leave v w answer (held_taken v held) refused)
  left_by (inr made) =
      let left = close_left (Unit {0}) v made.last answer made.does in
      let beside = letting_beside (Unit {0}) made.last w made.lets_go in
      let closed : net_record_of made.last.net ≡ parted (net_record_of v.net) = closed_by made.does in
      let is = held_left v.state.counts.owed (is_none v.net.data_conn) held in
      let S : SessionValue → Type 0 = λ x. w ≡ record x { net = w.net } in
      record {
        answered = left.0;
        leaves = (
          subst S left.1 beside,
          letting_settles (Unit {0}) made.last w tt made.lets_go
              ∙ ap (λ d. settled made.last.state.counts.owed d) closed
              ∙ ap (λ x. settled x.state.counts.owed (parted (net_record_of v.net))) left.1
              ∙ parted_twice is.0 v.state.counts.owed (net_record_of v.net) is.1,
        );
        channel = ap (λ x. x.channel) beside ∙ ap (λ x. x.channel) left.1;
      }
    where
      closed_by : Carries (Unit {0}) movement.Close v made.last answer → net_record_of made.last.net ≡ parted (net_record_of v.net)
      closed_by (inl by) = net_record_moved movement.Close by.outcome v.net made.last.net (by.net_event tt)
      closed_by (inr (inl none)) = let clash : false ≡ true = none.0 in cc
      closed_by (inr (inr lacks)) = let clash : false ≡ true = lacks.0 in cc

  pub has_left : CarriesOut (Unit {0}) Leave v w answer → IsGiven w.channel.told → IsSound (Unit {0}) w.channel → HasLeft v w
  has_left carries given sound =
      let so = left_by carries in
      let P : Answer → Type 0 = λ a. CarriesOut (Unit {0}) Leave v w a in
      let L : Bool → Type 0 = λ b. LeavesHeldIf b v w in
      record {
        leaves = subst L (sym held) so.leaves;
        channel = so.channel;
        given = given;
        sound = sound;
        carries = λ h. subst P so.answered carries;
      }

-- none is held
pub has_none : (v w : SessionValue) → holds (is_none v.net.data_conn) v.state.counts.owed ≡ false → w ≡ v → IsGiven w.channel.told → IsSound (Unit {0}) w.channel → HasLeft v w
has_none v w none same given sound =
    let L : Bool → Type 0 = λ b. LeavesHeldIf b v w in
    record {
      leaves = subst L (sym none) same;
      channel = ap (λ x. x.channel) same;
      given = given;
      sound = sound;
      carries = λ held. (let clash : true ≡ false = sym held ∙ none in cc);
    }

-- nothing of the control connection is changed
pub left_apart : (leaving : Bool) (v w : SessionValue) → HasLeftIf leaving v w → w.channel ≡ v.channel
left_apart true v w has = has.channel
left_apart false v w same = ap (λ x. x.channel) same

pub now_apart : (call : Option Call) (course course' : Course) (v w : SessionValue) → LeavesNow call course v w course' → w.channel ≡ v.channel
now_apart None course course' v w leaves = leaves.0.channel
now_apart (Some call) course course' v w leaves = go course.polled (finishes call) leaves
  where
    go : (p e : Bool) → LeavesBeside p e course v w course' → w.channel ≡ v.channel
    go true e leaves' = ap (λ x. x.channel) leaves'.0
    go false true leaves' = ap (λ x. x.channel) leaves'.0
    go false false leaves' = leaves'.0.channel
