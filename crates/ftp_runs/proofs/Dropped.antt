-- Lemmas on calls that are dropped in a script, or end one.
use Rattle.std.proofs.Common.{◌≡◌, ◌||◌, Bool, true, false, Option, Some, None, List, [], ◌++◌, inl, inr, refl, ap, sym, ◌∙◌, subst, append-nil}
use Rattle.futures.specs.declared.task.Poll.TheVariants.{Ready, Pending}
use Rattle.ftp_calls.specs.declared.call.Answer.{Answer}
use Rattle.ftp_calls.specs.declared.call.Call.{Call}
use Rattle.ftp_calls.specs.declared.call.Call.TheVariants.{Finish}
use Rattle.ftp_base.specs.declared.types.fault.FtpError.{FtpError}
use Rattle.futures.specs.declared.task.Poll.{Poll}
use Rattle.ftp_calls.specs.declared.call.Event.{Event}
use Rattle.ftp_calls.specs.declared.call.Event.TheVariants as event
use Rattle.ftp_dialogue.specs.CatchingUp.{is_plain_read}
use Rattle.ftp_runs.proofs.CaughtUp.{up_grows}
use Rattle.ftp_calls.specs.Exchanges.{drains, finishes}
use Rattle.ftp_dialogue.specs.Coding.{Coding}
use Rattle.ftp_dialogue.specs.NetEvents.{NetEvents, outcomes_of, parted}
use Rattle.ftp_dialogue.specs.Link.{Builds, plain}
use Rattle.ftp_dialogue.specs.State.{SessionValue}
use Rattle.ftp_dialogue.specs.declared.model.NetOutcome.{NetOutcome}
use Rattle.ftp_runs.specs.declared.model.Script.{Script}
use Rattle.ftp_dialogue.specs.declared.model.PlayState.{PlayState}
use Rattle.ftp_dialogue.specs.declared.stage.Stage.{Stage}
use Rattle.ftp_dialogue.specs.declared.state.Owed.{Owed}
use Rattle.ftp_dialogue.proofs.NetEvents.{net_events-append, drops as drops_of, letting_beside, letting_net_events}
use Rattle.ftp_dialogue.specs.Dropping.{left_by as left_where}
use Rattle.ftp_dialogue.proofs.Sorts.{read_finishes_none}
use Rattle.ftp_runs.specs.Script.{dropped, dropped_if, drops_begun, end_dropped, idle, leave_held, over, start_of, without_call, MayCancel}
use Rattle.ftp_runs.specs.Scripted.{leaves_dropped}
use Rattle.ftp_runs.specs.Following.{Attended, CatchesUpHere, CaughtThen, DropsCall, DropsEnd, DropsHere, DropsIf, DropsUnder, EndsOrPolls, Follows, Grows, Happens, HasLeftIf, PartsHere, PassesIf, at_rest}
use Rattle.ftp_runs.specs.declared.events.Course.{Course}
use Rattle.ftp_runs.proofs.EventLemmas.{LeavesNoTrace, cancels, idles, leaves_end, stayed}
use Rattle.ftp_runs.proofs.Drops.{may_drop}
use Rattle.ftp_runs.proofs.Leaving.{leave_attends, left_apart, left_happens, over_attends, over_happens, over_without, OverHappens}

module _ (builds : Builds) (coding : Coding) where
  pub none_dropped : (stage : Stage) (course : Course) (v : SessionValue) → Happens builds coding v v None None stage stage course course event.Cancel None
  none_dropped stage course v = (
    [],
    refl,
    λ outcomes rest old s answers f may.
        let P : Option Call → Type 0 = λ c. Attended builds coding outcomes rest old (dropped coding (start_of old outcomes) c s) v None stage course (answers ++ []) in
        let A : List Answer → Type 0 = λ a. Attended builds coding outcomes rest old s v None stage course a in
        inl (subst P (sym f.0.call_is) (subst A (sym (append-nil answers)) f)),
  )

  -- none is under way any more
  without : (outcomes rest : List NetOutcome) (old : SessionValue) (s : Script) (v : SessionValue) (call : Call) (stage : Stage) (answers : List Answer) → Follows builds coding outcomes rest old s v (Some call) stage answers → LeavesNoTrace (Some call) s.polled → Follows builds coding outcomes rest old (without_call s) v None stage answers
  without outcomes rest old s v call stage answers f may = cancels builds coding outcomes rest old s v (Some call) stage stage answers f may

  pub call_dropped : (call : Call) (stage : Stage) (course : Course) (v w : SessionValue) → finishes call ≡ false → drops_begun (Some call) course.polled ≡ false → HasLeftIf course.leaving v w → Happens builds coding v w (Some call) None stage stage course at_rest event.Cancel None
  call_dropped call stage course v w goes_on free has = (
    left.0,
    left.1,
    λ outcomes rest old s answers f may.
        let start : PlayState = start_of old outcomes in
        let P : Option Call → Type 0 = λ c. Attended builds coding outcomes rest old (dropped coding start c s) w None stage at_rest (answers ++ []) in
        let Q : Bool → Type 0 = λ b. Attended builds coding outcomes rest old (dropped_if b coding start s) w None stage at_rest (answers ++ []) in
        let A : List Answer → Type 0 = λ a. Follows builds coding outcomes rest old (over coding start s) w None stage a in
        let O : Script → Type 0 = λ x. Follows builds coding outcomes rest old x w None stage answers in
        let M : Bool → Type 0 = λ p. MayCancel (Some call) p in
        let g = left.2 outcomes rest old (without_call s) stage answers (without outcomes (outcomes_of left.0 ++ rest) old s v call stage answers f.0 (no_trace s.polled (subst M (sym f.1.polled) (may_drop call course.polled free)))) f.1.leaving in
        inl (subst P (sym f.0.call_is) (subst Q (sym goes_on) (subst A (sym (append-nil answers)) (subst O (over_without s.leaving coding start s) g), over_attends coding start s))),
  )
    where
      left : OverHappens builds coding course.leaving v w
      left = over_happens builds coding course.leaving v w has

      no_trace : (polled : Bool) → MayCancel (Some call) polled → LeavesNoTrace (Some call) polled
      no_trace polled (inl new) = inl new
      no_trace polled (inr (inl read)) = inr read
      no_trace polled (inr (inr is)) = let clash : true ≡ false = sym (ap finishes is) ∙ goes_on in cc

  -- one that brings a transfer to its end
  pub end_of_dropped : (call : Call) (stage : Stage) (course : Course) (v w : SessionValue) → finishes call ≡ true → drops_begun (Some call) course.polled ≡ false → DropsEnd course.polled v w → Happens builds coding v w (Some call) None stage stage course at_rest event.Cancel None
  end_of_dropped call stage course v w ends free drops = go course.polled refl drops
    where
      -- where it was polled it is `Finish`
      is_finish : course.polled ≡ true → MayCancel (Some call) course.polled → call ≡ Finish
      is_finish polled (inl new) = let clash : true ≡ false = sym polled ∙ new in cc
      is_finish polled (inr (inl read)) = let clash : true ≡ false = sym ends ∙ read_finishes_none call read in cc
      is_finish polled (inr (inr is)) = is

      go : (b : Bool) → course.polled ≡ b → DropsEnd b v w → Happens builds coding v w (Some call) None stage stage course at_rest event.Cancel None
      go true polled same = (
        [],
        ap (λ x. x.net) same,
        λ outcomes rest old s answers f may.
            let start : PlayState = start_of old outcomes in
            let is = is_finish polled (may_drop call course.polled free) in
            let P : Option Call → Type 0 = λ c. Attended builds coding outcomes rest old (dropped coding start c s) w None stage at_rest (answers ++ []) in
            let Q : Bool → Type 0 = λ b. Attended builds coding outcomes rest old (dropped_if b coding start s) w None stage at_rest (answers ++ []) in
            let R : Bool → Type 0 = λ b. Attended builds coding outcomes rest old (end_dropped b coding start s) w None stage at_rest (answers ++ []) in
            let there : Script = end_dropped true coding start s in
            let A : List Answer → Type 0 = λ a. Follows builds coding outcomes rest old there w None stage a in
            let left = stayed builds coding outcomes rest old there v w None stage answers same (leaves_end builds coding outcomes rest old s v call stage stage answers f.0 is (f.1.polled ∙ polled)) in
            inl (subst P (sym f.0.call_is) (subst Q (sym ends) (subst R (sym (f.1.polled ∙ polled)) (subst A (sym (append-nil answers)) left, record { polled = refl; leaving = refl; resting = λ none. refl })))),
      )
      go false is drops' =
          let left = left_happens builds coding v w drops' in (
            left.0,
            left.1,
            λ outcomes rest old s answers f may.
                let start : PlayState = start_of old outcomes in
                let P : Option Call → Type 0 = λ c. Attended builds coding outcomes rest old (dropped coding start c s) w None stage at_rest (answers ++ []) in
                let Q : Bool → Type 0 = λ b. Attended builds coding outcomes rest old (dropped_if b coding start s) w None stage at_rest (answers ++ []) in
                let R : Bool → Type 0 = λ b. Attended builds coding outcomes rest old (end_dropped b coding start s) w None stage at_rest (answers ++ []) in
                let A : List Answer → Type 0 = λ a. Follows builds coding outcomes rest old (leave_held coding start (idle s)) w None stage a in
                let due : List NetOutcome = outcomes_of left.0 ++ rest in
                let g = left.2 outcomes rest old (idle s) None stage answers (idles builds coding outcomes due old (without_call s) v stage answers (without outcomes due old s v call stage answers f.0 (inl (f.1.polled ∙ is)))) refl in
                inl (subst P (sym f.0.call_is) (subst Q (sym ends) (subst R (sym (f.1.polled ∙ is)) (subst A (sym (append-nil answers)) g, leave_attends coding start (idle s) at_rest refl (record { polled = refl; leaving = refl; resting = λ none. refl }))))),
          )

  -- one of which no reply is due
  pub drop_happens : (call : Call) (stage : Stage) (course : Course) (v w : SessionValue) → drops_begun (Some call) course.polled ≡ false → DropsUnder (finishes call) course v w → Happens builds coding v w (Some call) None stage stage course at_rest event.Cancel None
  drop_happens call stage course v w free drops = go (finishes call) refl drops
    where
      go : (b : Bool) → finishes call ≡ b → DropsUnder b course v w → Happens builds coding v w (Some call) None stage stage course at_rest event.Cancel None
      go true ends drops' = end_of_dropped call stage course v w ends free drops'
      go false on has = call_dropped call stage course v w on free has

  pub drop_passes : (call : Option Call) (stage : Stage) (course course' : Course) (v w : SessionValue) → DropsCall call course stage v w course' → PassesIf (drops_begun call course.polled) builds coding v w call None stage stage course course' event.Cancel None
  drop_passes None stage course course' v w (same, kept) =
      let V : SessionValue → Type 0 = λ x. Happens builds coding v x None None stage stage course course' event.Cancel None in
      let C : Course → Type 0 = λ x. Happens builds coding v v None None stage stage course x event.Cancel None in
      subst V (sym same) (subst C (sym kept) (none_dropped stage course v))
  drop_passes (Some call) stage course course' v w (drops, resting) = go (drops_begun (Some call) course.polled) refl drops
    where
      go : (b : Bool) → drops_begun (Some call) course.polled ≡ b → DropsIf b call course stage v w → PassesIf b builds coding v w (Some call) None stage stage course course' event.Cancel None
      go true begun here = record { part = call; is = refl; drops = here; over = refl; resting = resting; none = refl }
      go false free under =
          let C : Course → Type 0 = λ x. Happens builds coding v w (Some call) None stage stage course x event.Cancel None in
          subst C (sym resting) (drop_happens call stage course v w free under)

  -- what happens beside the control connection
  here_grows : (call : Call) (stage : Stage) (course : Course) (v w : SessionValue) → DropsHere call course stage v w → Grows builds v w
  here_grows call stage course v w here =
      let was : SessionValue = record v { state = left_where call stage v.state } in
      let owed : Owed = was.state.counts.owed in
      let left = over_happens builds coding course.leaving here.gone w here.leaves in
      let N : SessionValue → Type 0 = λ x. NetEvents (plain builds) (drops_of owed) v.net x.net in
      let closed = letting_net_events (Unit {0}) was here.drops.closed (plain builds) tt here.drops.lets_go in
      (drops_of owed ++ left.0, net_events-append (plain builds) (drops_of owed) left.0 v.net here.gone.net w.net (subst N (sym here.drops.ends) closed) left.1)

  pub parts_grow : (one : Event) (stage stage' : Stage) (course course' : Course) (v w : SessionValue) (call call' : Option Call) (result : Option Answer) → PartsHere builds coding v w call call' stage stage' course course' one result → Grows builds v w
  parts_grow one stage stage' course course' v w call call' result parted = go one parted
    where
      caught : (c : CatchesUpHere builds coding v w call call' stage stage' course' result) → Grows builds v w
      caught c = by c.caught c.then
        where
          up : Grows builds v c.middle
          up = up_grows builds (is_plain_read c.part) v c.middle c.caught c.catches_up

          still_at : w ≡ c.middle → Grows builds v w
          still_at same = let P : SessionValue → Type 0 = λ x. Grows builds v x in subst P (sym same) up

          ends : (d : Bool) → EndsOrPolls d builds coding c.part call' stage stage' course' c.middle w result → Grows builds v w
          ends true is = still_at is.0
          ends false polls = (up.0 ++ polls.0.0, net_events-append (plain builds) up.0 polls.0.0 v.net c.middle.net w.net up.1 polls.0.1)

          by : (told : Poll (Option FtpError)) → CaughtThen told builds coding c.part call' stage stage' course' c.middle w result → Grows builds v w
          by (Ready None) then = ends (drains c.part) then
          by (Ready (Some fault)) is = still_at is.0
          by Pending is = still_at is.0

      go : (e : Event) → PartsHere builds coding v w call call' stage stage' course course' e result → Grows builds v w
      go event.Cancel begun = here_grows begun.part stage course v w begun.drops
      go event.Poll c = caught c
      go (event.Feed more) none = absurd none
      go event.End none = absurd none
      go (event.Room more) none = absurd none
      go (event.Start next) none = absurd none
      go event.Leave none = absurd none

  abbrev pub passes_grow : (b : Bool) (one : Event) (stage stage' : Stage) (course course' : Course) (v w : SessionValue) (call call' : Option Call) (result : Option Answer) → PassesIf b builds coding v w call call' stage stage' course course' one result → Grows builds v w
  passes_grow false one stage stage' course course' v w call call' result happens = (happens.0, happens.1)
  passes_grow true one stage stage' course course' v w call call' result parted = parts_grow one stage stage' course course' v w call call' result parted

pub here_apart : (call : Call) (course : Course) (stage : Stage) (v w : SessionValue) → DropsHere call course stage v w → w.channel ≡ v.channel
here_apart call course stage v w here =
    left_apart course.leaving here.gone w here.leaves
    ∙ ap (λ x. x.channel) here.drops.ends
    ∙ ap (λ x. x.channel) (letting_beside (Unit {0}) (record v { state = left_where call stage v.state }) here.drops.closed here.drops.lets_go)

pub dropped_apart : (call : Option Call) (course course' : Course) (stage : Stage) (v w : SessionValue) → DropsCall call course stage v w course' → w.channel ≡ v.channel
dropped_apart None course course' stage v w drops = ap (λ x. x.channel) drops.0
dropped_apart (Some call) course course' stage v w drops = go (drops_begun (Some call) course.polled) drops.0
  where
    end : (p : Bool) → DropsEnd p v w → w.channel ≡ v.channel
    end true same = ap (λ x. x.channel) same
    end false has = has.channel

    under : (b : Bool) → DropsUnder b course v w → w.channel ≡ v.channel
    under true drops' = end course.polled drops'
    under false has = left_apart course.leaving v w has

    go : (b : Bool) → DropsIf b call course stage v w → w.channel ≡ v.channel
    go true here = here_apart call course stage v w here
    go false drops' = under (finishes call) drops'

pub dropped_stays : (call : Option Call) (course course' : Course) (stage : Stage) (v w : SessionValue) → DropsCall call course stage v w course' → drops_begun call course.polled ≡ false → leaves_dropped call course.leaving ≡ false → w ≡ v
dropped_stays None course course' stage v w drops free none = drops.0
dropped_stays (Some call) course course' stage v w drops free none = go (drops_begun (Some call) course.polled) free drops.0
  where
    over : (l : Bool) → HasLeftIf l v w → l ≡ false → w ≡ v
    over true has is = let clash : true ≡ false = is in cc
    over false same is = same

    under : (b : Bool) → DropsUnder b course v w → (b || course.leaving) ≡ false → w ≡ v
    under true drops' is = let clash : true ≡ false = is in cc
    under false has is = over course.leaving has is

    go : (b : Bool) → b ≡ false → DropsIf b call course stage v w → w ≡ v
    go true is here = let clash : true ≡ false = is in cc
    go false is drops' = under (finishes call) drops' none
