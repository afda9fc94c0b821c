-- Why a poll returns an error of a connection, or `SessionFailed`, and what a call that waits keeps for its answer.
use Rattle.std.proofs.Common.{◌≡◌, Bool, true, false, [], Option, Some, None, Result, Ok, inl, inr, ◌⊎◌, refl, ap, sym, ◌∙◌, subst, Err}
use Rattle.std.specs.declared.io.ErrorKind.{ErrorKind}
use Rattle.futures.specs.declared.task.Poll.{Poll}
use Rattle.futures.specs.declared.task.Poll.TheVariants.{Ready, Pending}
use Rattle.ftp_base.specs.declared.status.Status.TheVariants.{CommandOk}
use Rattle.ftp_base.specs.declared.types.fault.ConnectionError.TheVariants as cause
use Rattle.ftp_base.specs.declared.types.fault.FtpError.{FtpError}
use Rattle.ftp_base.specs.declared.types.fault.FtpError.TheVariants as faults
use Rattle.ftp_base.specs.declared.types.reply.Response.{Response}
use Rattle.ftp_calls.specs.Exchanges.{Movements, drains}
use Rattle.ftp_calls.specs.Kinds.{IsPlain}
use Rattle.ftp_calls.specs.declared.call.Answer.{Answer}
use Rattle.ftp_calls.specs.declared.call.Answer.TheVariants.{Fault}
use Rattle.ftp_calls.specs.declared.call.Answer.TheVariants as answer
use Rattle.ftp_calls.specs.declared.call.Call.{Call}
use Rattle.ftp_calls.specs.declared.call.Call.TheVariants as call
use Rattle.ftp_calls.specs.declared.exchange.Ending.{Ending}
use Rattle.ftp_calls.specs.declared.exchange.Ending.TheVariants as ending
use Rattle.ftp_calls.specs.declared.exchange.Fetch.{Fetch}
use Rattle.ftp_calls.specs.declared.exchange.Turn.TheVariants.{First, Closed}
use Rattle.ftp_transfer.specs.Mark.{End}
use Rattle.ftp_dialogue.specs.CatchingUp.{CatchesUp, reads_dropped_first, is_plain_read, CatchesUpReadIf, CatchesUpThenReads, PollsReadInStep, ReadsThen, has_dropped_replies}
use Rattle.ftp_dialogue.specs.Coding.{Coding}
use Rattle.ftp_dialogue.specs.Counted.{CountsFailure, IsGivenBeside, CountsFaults}
use Rattle.ftp_dialogue.specs.Dialogue.{Tree, Leaf, closed_as, concluded, fetch_ending, later, told_of_close, with_fetched, with_finished, Expected}
use Rattle.ftp_dialogue.specs.Link.{Link, unasked}
use Rattle.ftp_dialogue.specs.NetEvents.{Net, outcomes_of}
use Rattle.ftp_dialogue.specs.Play.{Lacking, is_unit}
use Rattle.ftp_dialogue.specs.Promises.{Aborts, Leads, due_of, refusal_of, PlaysAlone}
use Rattle.ftp_dialogue.specs.Sound.{cannot_open}
use Rattle.ftp_dialogue.specs.State.{SessionValue}
use Rattle.ftp_dialogue.specs.Steps.Moving.{Ends, PollsTo}
use Rattle.ftp_dialogue.specs.Steps.Polls.{RefusesFrom, StageIn, StartsTo, entered_at, entered_state, entered_tree, is_first}
use Rattle.ftp_dialogue.specs.Steps.Stages.{MayGive, begun_at, remaining}
use Rattle.ftp_dialogue.specs.Within.{MayHear, Within}
use Rattle.ftp_dialogue.specs.declared.model.NetOutcome.TheVariants as came
use Rattle.ftp_dialogue.specs.declared.stage.Stage.{Stage}
use Rattle.ftp_dialogue.specs.declared.stage.Stage.TheVariants.{At, Saying, Hearing, Transferring, Closing}
use Rattle.ftp_dialogue.specs.declared.stage.AfterClose.TheVariants.{Fetched}
use Rattle.ftp_dialogue.specs.declared.stage.AfterLine.TheVariants.{Hears}
use Rattle.ftp_dialogue.specs.declared.stage.Transferring.TheVariants.{Ending as LastReply}
use Rattle.ftp_dialogue.specs.declared.state.State.{State}
use Rattle.ftp_dialogue.specs.PollCauses.{CausesAnswer, CausesPoll, TakesNoMore, error_of, kept_by, kept_error}
use Rattle.ftp_session.specs.Polled.{CatchesUpThenPolls, CountsPoll, DrainsFirst, EndsOrPolls, LooksFirst, PollsCall, PollsInStep, PollsInStepIf, PollsNext, PollsNextIf, PollsUnless, ThenPolls, ThenStarts, ThenStartsIf, UnderWay, IfFails}
use Rattle.ftp_dialogue.proofs.Backed.{Any, Backed, IsGrave, Or, Since, Tells, io, place_backed, reason_of, took_no_more}
use Rattle.ftp_dialogue.proofs.EveryStage.{Carries, IsNothing, Never, Spent, drain_backed, entered_backed, plain_carries}
use Rattle.ftp_session.proofs.Calm.{Calm, calm_on, calm_same, given_after, calm_seen}
use Rattle.ftp_session.proofs.Grounds.{Grounds, Results, Why, after_calm, asked_caught, caught_up, drain_goes, drained_calm, drained_fault, either_as, ends_same, grounds_of, made_results, met_only, none_then, of_whole, refused_results, told_as, alone_results, given, never_to, read_faults, up_caught}
use Rattle.ftp_session.proofs.Reasons.{spent_no_io, to_counts}
use Rattle.ftp_dialogue.specs.Reading.{DrainsThenReads, PollsDrain, PollsRead, PollsReadIf, ReadsAlone, ReadsUnless, ThenReads, due_before_read}
use Rattle.ftp_session.specs.Handed.{ReadsSeen, as_seen}

-- What a stage keeps

some_reply : Response
some_reply = record { status = CommandOk; body = [] }

fault_is : (told : Answer) (fault : FtpError) → error_of told ≡ Some fault → told ≡ Fault fault
fault_is (Fault other) fault is = ap Fault (let same : other ≡ fault = cc in same)
fault_is good fault is = cc is

module _ (Asks : Type 0) (fault : FtpError) (grave : IsGrave fault) (coding : Coding) (state : State) where
  -- it has its reason
  abbrev HasReason : (State → FtpError → Type 0) → Type 0
  HasReason May = (left : State) × May left fault

  of_ending : (May : State → FtpError → Type 0) (how : Ending) (after : State → Tree) → kept_by how ≡ Some fault → ((heard : Result Response FtpError) → MayHear heard → Backed Asks May (concluded coding how state after heard)) → HasReason May
  of_ending May (ending.Finishes (Some kind)) after is backed = (with_finished state, let same : io kind ≡ fault = cc in subst (May (with_finished state)) same (backed (Ok some_reply) tt tt))
  of_ending May (ending.Finishes None) after is backed = cc is
  of_ending May other after is backed = cc is

  of_data : (May : State → FtpError → Type 0) (form : Fetch) (told : Answer) → error_of told ≡ Some fault → Backed Asks May (fetch_ending form told state) → HasReason May
  of_data May form told is backed = (with_fetched state, reason_of Any (May (with_fetched state)) told (backed.0 (Ok some_reply) tt) fault (fault_is told fault is) grave)

  of_closing : (May : State → FtpError → Type 0) (form : Fetch) (told : Answer) (uploads : Bool) → error_of told ≡ Some fault → Backed Asks (Or Asks May came.Closed) (fetch_ending form (closed_as (told_of_close uploads came.Closed) told) state) → HasReason May
  of_closing May form told uploads is backed = go uploads backed
    where
      but : HasReason (Or Asks May came.Closed) → HasReason May
      but (left, inl may) = (left, may)
      but (left, inr (asks, given)) = cc given

      go : (b : Bool) → Backed Asks (Or Asks May came.Closed) (fetch_ending form (closed_as (told_of_close b came.Closed) told) state) → HasReason May
      go true ending = but (of_data (Or Asks May came.Closed) form told is ending)
      go false ending = but (of_data (Or Asks May came.Closed) form told is ending)

  -- and the call has no answer yet
  of_stage : (May : State → FtpError → Type 0) (called : Call) (stage : Stage) → kept_error stage ≡ Some fault → (Backed Asks May (remaining coding called state stage) → HasReason May) × ((told : Answer) (left : State) → remaining coding called state stage ≡ Leaf told left → ⊥)
  of_stage May called (At (Closed (Some kind))) is = (λ backed. of_ending May (ending.Finishes (Some kind)) (later coding called (Closed (Some kind))) is backed.0, λ told left leaf. cc leaf)
  of_stage May called (At (Closed None)) is = cc is
  of_stage May called (At other) is = cc is
  of_stage May called (Saying line (Hears a)) is = (λ backed. of_ending May a.ending (later coding called a.turn) is backed.0, λ told left leaf. cc leaf)
  of_stage May called (Hearing a) is = (λ backed. of_ending May a.ending (later coding called a.turn) is backed.0, λ told left leaf. cc leaf)
  of_stage May called (Closing (Fetched form first)) is = (λ backed. of_closing May form first state.uploads is (backed came.Closed), λ told left leaf. cc leaf)
  of_stage May called (Transferring (LastReply form first)) is = (λ backed. of_data May form first is backed, λ told left leaf. cc leaf)
  of_stage May called other is = cc is

-- A call that starts or goes on

ready_is : (told other : Answer) → Ready told ≡ Ready other → told ≡ other
ready_is told other is = cc is

module _ (link : Link) (may_wait : Type 0) (coding : Coding) where
  module _ (Good : Answer → Type 0) (called : Call) (stage : Stage) (Asks : Type 0) (May : State → FtpError → Type 0) (stage' : Stage) (v w : SessionValue) (told : Answer) (lacks : refusal_of called v ≡ Lacking → Good answer.NoTransfer) (backed : Tells Good Asks May (entered_tree coding called stage v.state)) where
    refused_from : (first : Bool) (other : Answer) → RefusesFrom first link.tells called v w other → Results Good link Asks May v w other
    refused_from true other refuses = refused_results Good link Asks May coding called v w other lacks refuses
    refused_from false other refuses = told_as Good link Asks May v w other (Fault faults.SessionFailed) refuses.1 (λ grave. inl refuses.0)

    ready_results : StartsTo link may_wait coding called stage stage' v w (Ready told) → Results Good link Asks May v w told
    ready_results (inl (other, is, refuses)) = told_as Good link Asks May v w told other (ready_is told other is) (refused_from (is_first stage) other refuses)
    ready_results (inr on) = go on.polls
      where
        begun : SessionValue
        begun = entered_at called stage v

        tree : Tree
        tree = entered_tree coding called stage v.state

        made : (last : SessionValue) → Ends link tree told begun last ⊎ Aborts link (begun_at stage) tree told begun last → Results Good link Asks May begun last told
        made last (inl ends) = made_results Good link Asks May tree told begun last backed (begun_at stage) (inl ends.completes)
        made last (inr aborts) = made_results Good link Asks May tree told begun last backed (begun_at stage) (inr aborts)

        go : PollsTo link (begun_at stage) tree (remaining coding called (entered_state called stage v.state) stage') begun w (Ready told) → Results Good link Asks May v w told
        go (last, steps, lets) = of_whole Good link Asks May v begun last w told refl refl lets (made last steps)

  -- A poll: its answer has its grounds, or what its call keeps then was kept before, was given in it, or needs no other reason
  module _ (called : Call) (stage : Stage) (Asks : Type 0) (May : State → FtpError → Type 0) (Kept : FtpError → Type 0) where
    abbrev pub Follows : Option FtpError → SessionValue → SessionValue → Poll Answer → Type 0
    Follows kept old new (Ready told) = Results Any link Asks May old new told
    Follows kept old new Pending = (fault : FtpError) → kept ≡ Some fault → IsGrave fault → Kept fault ⊎ (Asks × IsGivenBeside link fault old.net new.net)

    after_follows : (kept : Option FtpError) (old middle new : SessionValue) (result : Poll Answer) → Calm link old middle → Follows kept middle new result → Follows kept old new result
    after_follows kept old middle new (Ready told) calm follows = after_calm Any link Asks May old middle new told calm follows
    after_follows kept old middle new Pending calm follows = λ fault is grave. go fault (follows fault is grave)
      where
        go : (fault : FtpError) → Kept fault ⊎ (Asks × IsGivenBeside link fault middle.net new.net) → Kept fault ⊎ (Asks × IsGivenBeside link fault old.net new.net)
        go fault (inl was) = inl was
        go fault (inr (asks, gives)) = inr (asks, given_after link fault old.net middle.net new.net calm.happens gives)

    -- an answer that is known
    ready_as : (kept : Option FtpError) (v w : SessionValue) (result : Poll Answer) (told : Answer) → result ≡ Ready told → Results Any link Asks May v w told → Follows kept v w result
    ready_as kept v w result told is results = (let P : Poll Answer → Type 0 = Follows kept v w in subst P (sym is) results)

    -- the tree is an error at once, or the error needs no reason
    abbrev pub AtOnce : State → State → FtpError → Type 0
    AtOnce state left fault = ((s : State) × (entered_tree coding called stage state ≡ Leaf (Fault fault) s)) ⊎ Kept fault

    module _ (backed : (state : State) → Backed Asks May (entered_tree coding called stage state)) (backed_kept : (state : State) → Backed Asks (AtOnce state) (entered_tree coding called stage state)) (still : (fault : FtpError) → kept_error stage ≡ Some fault → Kept fault) where
      starts_follows : (stage' : Stage) (v w : SessionValue) (result : Poll Answer) → StartsTo link may_wait coding called stage stage' v w result → Follows (kept_error stage') v w result
      starts_follows stage' v w (Ready told) starts = ready_results Any called stage Asks May stage' v w told (λ is. tt) (backed v.state) starts
      starts_follows stage' v w Pending (inl (other, is, refuses)) = cc is
      starts_follows stage' v w Pending (inr on) = λ fault is grave. reason fault is grave on.polls
        where
          tree : Tree
          tree = entered_tree coding called stage v.state

          left_then : State
          left_then = entered_state called stage v.state

          place : Tree
          place = remaining coding called left_then stage'

          reason : (fault : FtpError) → kept_error stage' ≡ Some fault → IsGrave fault → PollsTo link (begun_at stage) tree place (entered_at called stage v) w Pending → Kept fault ⊎ (Asks × IsGivenBeside link fault v.net w.net)
          reason fault is grave (last, (advances, waits), same) = go (kept.0 (place_backed Any Asks (AtOnce v.state) (outcomes_of leads.answered) place tree leads.within (backed_kept v.state)))
            where
              leads : Leads link tree place (entered_at called stage v) last
              leads = advances.moves.leads

              kept : (Backed Asks (Since Asks (AtOnce v.state) (outcomes_of leads.answered)) place → HasReason Asks fault grave coding left_then (Since Asks (AtOnce v.state) (outcomes_of leads.answered))) × ((told : Answer) (left : State) → place ≡ Leaf told left → ⊥)
              kept = of_stage Asks fault grave coding left_then (Since Asks (AtOnce v.state) (outcomes_of leads.answered)) called stage' is

              go : (left : State) × Since Asks (AtOnce v.state) (outcomes_of leads.answered) left fault → Kept fault ⊎ (Asks × IsGivenBeside link fault v.net w.net)
              go (left, inl (inl (s, leaf))) =
                  let P : Tree → Type 0 = Within (outcomes_of leads.answered) place in
                  let within : Within (outcomes_of leads.answered) place (Leaf (Fault fault) s) = subst P leaf leads.within in
                  absurd (kept.1 (Fault fault) s within.1)
              go (left, inl (inr was)) = inl was
              go (left, inr (asks, among)) =
                  let P : Net → Type 0 = IsGivenBeside link fault v.net in
                  inr (asks, subst P (sym (ap (λ x. x.net) same)) (record { answered = leads.answered; net_events = leads.goes.net_events; among = among }))

      -- a call that waits where it was
      waits_still : (stage' : Stage) (v w : SessionValue) (result : Poll Answer) → result ≡ Pending → stage' ≡ stage → Follows (kept_error stage') v w result
      waits_still stage' v w result is same =
          let P : Poll Answer → Type 0 = Follows (kept_error stage') v w in
          subst P (sym is) (λ fault kept grave. inl (still fault (ap kept_error (sym same) ∙ kept)))

      -- after the last reply of a transfer that was left
      pub next_follows : (stage' : Stage) (v w : SessionValue) (result : Poll Answer) → PollsNext link may_wait coding called stage stage' v w result → Follows (kept_error stage') v w result
      next_follows stage' v w result next = go (due_of called v) refl next.polls
        where
          drained : due_of called v ≡ true → (d : DrainsFirst link may_wait coding called stage stage' v w result) → Follows (kept_error stage') v w result
          drained due d = first d.first d.drains d.then_starts
            where
              then : (b : Bool) (one : Answer) → is_unit one ≡ b → Results IsNothing link ⊥ Never v d.middle one → ThenStartsIf b link may_wait coding called stage stage' one d.middle w result → Follows (kept_error stage') v w result
              then true one is drains starts = after_follows (kept_error stage') v d.middle w result (drained_calm link v d.middle one is drains) (starts_follows stage' d.middle w result starts)
              then false one is drains (same, stays) = ready_as (kept_error stage') v w result one same (ends_same Any link Asks May v d.middle w one stays (drained_fault Any link Asks May v d.middle one is drains))

              first : (one : Poll Answer) → StartsTo link may_wait coding call.Drain (At First) d.at v d.middle one → ThenStarts link may_wait coding called stage stage' one d.middle w result → Follows (kept_error stage') v w result
              first (Ready one) drains starts = then (is_unit one) one refl (ready_results IsNothing call.Drain (At First) ⊥ Never d.at v d.middle one (λ is. drain_goes called v due is) (drain_backed IsNothing tt coding v.state) drains) starts
              first Pending drains waits = waits_still stage' v w result waits.0 waits.2

          go : (b : Bool) → due_of called v ≡ b → PollsNextIf b link may_wait coding called stage stage' v w result → Follows (kept_error stage') v w result
          go false undue starts = starts_follows stage' v w result starts
          go true due d = drained due d

      -- and after the replies that are due to commands that were dropped
      pub step_follows : (stage' : Stage) (behind : Bool) (v w : SessionValue) (result : Poll Answer) → PollsInStep link may_wait coding called stage stage' behind v w result → Follows (kept_error stage') v w result
      step_follows stage' behind v w result step = go (reads_dropped_first called v) step.polls
        where
          caught : (c : CatchesUpThenPolls link may_wait coding called stage stage' behind v w result) → Follows (kept_error stage') v w result
          caught c = first c.caught c.catches_up c.then_polls
            where
              then : (ends : Bool) → CatchesUp (unasked link) (is_plain_read called) v c.middle (Ready None) → EndsOrPolls ends link may_wait coding called stage stage' c.middle w result → Follows (kept_error stage') v w result
              then true up (same, stays) = ready_as (kept_error stage') v w result answer.Unit same (tt, calm_on link v c.middle w (asked_caught link (is_plain_read called) v c.middle up) (calm_same link c.middle w stays))
              then false up polls = after_follows (kept_error stage') v c.middle w result (asked_caught link (is_plain_read called) v c.middle up) (next_follows stage' c.middle w result polls)

              first : (one : Poll (Option FtpError)) → CatchesUp (unasked link) (is_plain_read called) v c.middle one → ThenPolls link may_wait coding called stage stage' one c.middle w result → Follows (kept_error stage') v w result
              first (Ready None) up polls = then (drains called) up polls
              first (Ready (Some fault)) up (same, stays) = ready_as (kept_error stage') v w result (Fault fault) same (ends_same Any link Asks May v c.middle w (Fault fault) stays (λ grave. inl (met_only (unasked link) v c.middle fault (caught_up (unasked link) (is_plain_read called) v c.middle (Some fault) up grave))))
              first Pending up waits = waits_still stage' v w result waits.0 waits.2

          go : (b : Bool) → PollsInStepIf b link may_wait coding called stage stage' behind v w result → Follows (kept_error stage') v w result
          go false next = next_follows stage' v w result next.1
          go true c = caught c

  -- a call under way, with the look
  looked_calm : (looks : Bool) (mark after : Option End) (old seen : SessionValue) → LooksFirst looks mark after old seen → Calm link old seen
  looked_calm true mark after old seen look = (let P : SessionValue → Type 0 = Calm link old in subst P (sym look.1) (calm_seen link after old))
  looked_calm false mark after old seen look = calm_same link old seen look.1

  module _ (p : UnderWay) (Asks : Type 0) (May : State → FtpError → Type 0) (Kept : FtpError → Type 0) (backed : (state : State) → Backed Asks May (entered_tree coding p.call p.stage state)) (backed_kept : (state : State) → Backed Asks (AtOnce p.call p.stage Asks May Kept state) (entered_tree coding p.call p.stage state)) (still : (fault : FtpError) → kept_error p.stage ≡ Some fault → Kept fault) where
    seen_follow : (q : UnderWay) (mark after : Option End) (old new : SessionValue) (result : Poll Answer) → (polls : PollsUnless false link may_wait coding p q mark after old new result) → Follows p.call p.stage Asks May Kept (kept_error polls.stage) old new result
    seen_follow q mark after old new result polls = after_follows p.call p.stage Asks May Kept (kept_error polls.stage) old polls.seen new result (looked_calm p.looks mark after old polls.seen polls.looks) (step_follows p.call p.stage Asks May Kept backed backed_kept still polls.stage polls.behind polls.seen new result polls.polls)

    polls_follow : (q : UnderWay) (mark after : Option End) (old new : SessionValue) (result : Poll Answer) → PollsCall link may_wait coding p q mark after old new result → Follows p.call p.stage Asks May Kept (kept_error q.stage) old new result
    polls_follow q mark after old new (Ready told) polls = go p.over polls
      where
        go : (b : Bool) → PollsUnless b link may_wait coding p q mark after old new (Ready told) → Results Any link Asks May old new told
        go true over = told_as Any link Asks May old new told (Fault (faults.ConnectionError cause.AlreadyCompleted)) (ready_is told (Fault (faults.ConnectionError cause.AlreadyCompleted)) over.is) (λ grave. absurd grave)
        go false seen = seen_follow q mark after old new (Ready told) seen
    polls_follow q mark after old new Pending polls = go p.over polls
      where
        go : (b : Bool) → PollsUnless b link may_wait coding p q mark after old new Pending → Follows p.call p.stage Asks May Kept (kept_error q.stage) old new Pending
        go true over = cc over.is
        go false seen =
            let P : Option FtpError → Type 0 = λ kept. Follows p.call p.stage Asks May Kept kept old new Pending in
            subst P (ap (λ x. kept_error x.stage) (sym seen.next)) (seen_follow q mark after old new Pending seen)

-- A command

pub polls_counted : (link : Link) (may_wait : Type 0) (coding : Coding) (p q : UnderWay) (mark after : Option End) (old new : SessionValue) (result : Poll Answer) → StageIn (Some p.call) p.stage → PollsCall link may_wait coding p q mark after old new result → IsPlain p.call → CountsPoll link.tells old new result
polls_counted link may_wait coding p q mark after old new Pending at polls plain = tt
polls_counted link may_wait coding p q mark after old new (Ready told) at polls plain =
    to_counts link old new told (polls_follow link may_wait coding p ⊥ Never (λ fault. Unit {0}) backed kept (λ fault is. tt) q mark after old new (Ready told) polls)
  where
    none : Carries p.call → ⊥
    none carries = plain_carries p.call plain carries

    backed : (state : State) → Backed ⊥ Never (entered_tree coding p.call p.stage state)
    backed state = entered_backed ⊥ p.call none Never (λ gives. absurd (none (inl gives.0))) coding state p.stage at (λ carries. absurd (none carries)) (λ is. absurd (none (inl is)))

    kept : (state : State) → Backed ⊥ (AtOnce link may_wait coding p.call p.stage ⊥ Never (λ fault. Unit {0}) state) (entered_tree coding p.call p.stage state)
    kept state = entered_backed ⊥ p.call none (AtOnce link may_wait coding p.call p.stage ⊥ Never (λ fault. Unit {0}) state) (λ gives s. inr tt) coding state p.stage at (λ carries fault is s. inr tt) (λ is fault s cannot leaf. inr tt)

-- Any call

-- an error that was kept, or that of a data connection that takes no more bytes
abbrev Also : Call → Option FtpError → FtpError → Type 0
Also called kept fault = (kept ≡ Some fault) ⊎ (MayGive called Movements × (fault ≡ took_no_more))

abbrev SpentOr : (FtpError → Type 0) → State → FtpError → Type 0
SpentOr Other state fault = Spent state fault ⊎ Other fault

answer_caused : (link : Link) (called : Call) (kept : Option FtpError) (old new : SessionValue) (told : Answer) → Results Any link (Unit {0}) (SpentOr (Also called kept)) old new told → CausesAnswer link called kept old new told
answer_caused link called kept old new told results = record { counted = λ kind is h. go kind (grounds (io kind) is tt) h; had_failed = λ is. had (grounds faults.SessionFailed is tt) }
  where
    grounds : Grounds link (Unit {0}) (SpentOr (Also called kept)) old new told
    grounds = grounds_of link (Unit {0}) (SpentOr (Also called kept)) old new told results

    go : (kind : ErrorKind) → Why link (Unit {0}) (SpentOr (Also called kept)) old new (io kind) → link.tells → CountsFailure old.channel.told new.channel.told ⊎ IsGivenBeside link (io kind) old.net new.net ⊎ (kept ≡ Some (io kind)) ⊎ TakesNoMore called kind
    go kind (inl met) h = inl (met h)
    go kind (inr (inl (inl spent))) h = absurd (spent_no_io new.state kind spent)
    go kind (inr (inl (inr (inl was)))) h = inr (inr (inl was))
    go kind (inr (inl (inr (inr none)))) h = inr (inr (inr (none.0, let same : io kind ≡ took_no_more = none.1 in cc)))
    go kind (inr (inr gives)) h = inr (inl gives.1)

    had : Why link (Unit {0}) (SpentOr (Also called kept)) old new faults.SessionFailed → (old.channel.failed ≡ true) ⊎ (cannot_open new.state.counts ≡ Some faults.SessionFailed) ⊎ IsGivenBeside link faults.SessionFailed old.net new.net ⊎ (kept ≡ Some faults.SessionFailed)
    had (inl failed) = inl failed
    had (inr (inl (inl spent))) = inr (inl spent)
    had (inr (inl (inr (inl was)))) = inr (inr (inr was))
    had (inr (inl (inr (inr none)))) = cc none.1
    had (inr (inr gives)) = inr (inr (inl gives.1))

poll_caused : (link : Link) (may_wait : Type 0) (coding : Coding) (called : Call) (stage : Stage) (kept kept' : Option FtpError) (old new : SessionValue) (result : Poll Answer) → Follows link may_wait coding called stage (Unit {0}) (SpentOr (Also called kept)) (Also called kept) kept' old new result → CausesPoll link called kept kept' old new result
poll_caused link may_wait coding called stage kept kept' old new (Ready told) follows = answer_caused link called kept old new told follows
poll_caused link may_wait coding called stage kept kept' old new Pending follows = record { met = λ kind is. met kind (follows (io kind) is tt); had_failed = λ is. had (follows faults.SessionFailed is tt) }
  where
    met : (kind : ErrorKind) → Also called kept (io kind) ⊎ (Unit {0} × IsGivenBeside link (io kind) old.net new.net) → IsGivenBeside link (io kind) old.net new.net ⊎ (kept ≡ Some (io kind)) ⊎ TakesNoMore called kind
    met kind (inl (inl was)) = inr (inl was)
    met kind (inl (inr none)) = inr (inr (none.0, let same : io kind ≡ took_no_more = none.1 in cc))
    met kind (inr gives) = inl gives.1

    had : Also called kept faults.SessionFailed ⊎ (Unit {0} × IsGivenBeside link faults.SessionFailed old.net new.net) → IsGivenBeside link faults.SessionFailed old.net new.net ⊎ (kept ≡ Some faults.SessionFailed)
    had (inl (inl was)) = inr was
    had (inl (inr none)) = cc none.1
    had (inr gives) = inl gives.1

module _ (link : Link) (may_wait : Type 0) (coding : Coding) (called : Call) (stage : Stage) (at : StageIn (Some called) stage) where
  abbrev Others : FtpError → Type 0
  Others fault = Also called (kept_error stage) fault

  backed : (state : State) → Backed (Unit {0}) (SpentOr Others) (entered_tree coding called stage state)
  backed state = entered_backed (Unit {0}) called (λ carries. tt) (SpentOr Others) (λ gives left. inr (inr (gives, refl))) coding state stage at (λ carries fault is left. inr (inl is)) (λ is fault s none leaf. inl none)

  backed_kept : (state : State) → Backed (Unit {0}) (AtOnce link may_wait coding called stage (Unit {0}) (SpentOr Others) Others state) (entered_tree coding called stage state)
  backed_kept state = entered_backed (Unit {0}) called (λ carries. tt) (AtOnce link may_wait coding called stage (Unit {0}) (SpentOr Others) Others state) (λ gives left. inr (inr (gives, refl))) coding state stage at (λ carries fault is left. inr (inl is)) (λ is fault s none leaf. inl (s, leaf))

  pub next_caused : (stage' : Stage) (v w : SessionValue) (result : Poll Answer) → PollsNext link may_wait coding called stage stage' v w result → CausesPoll link called (kept_error stage) (kept_error stage') v w result
  next_caused stage' v w result next = poll_caused link may_wait coding called stage (kept_error stage) (kept_error stage') v w result (next_follows link may_wait coding called stage (Unit {0}) (SpentOr Others) Others backed backed_kept (λ fault is. inl is) stage' v w result next)

pub polls_caused : (link : Link) (may_wait : Type 0) (coding : Coding) (p q : UnderWay) (mark after : Option End) (old new : SessionValue) (result : Poll Answer) → StageIn (Some p.call) p.stage → PollsCall link may_wait coding p q mark after old new result → CausesPoll link p.call (kept_error p.stage) (kept_error q.stage) old new result
polls_caused link may_wait coding p q mark after old new result at polls =
    let Other : FtpError → Type 0 = Also p.call (kept_error p.stage) in
    poll_caused link may_wait coding p.call p.stage (kept_error p.stage) (kept_error q.stage) old new result (polls_follow link may_wait coding p (Unit {0}) (SpentOr Other) Other (backed link may_wait coding p.call p.stage at) (backed_kept link may_wait coding p.call p.stage at) (λ fault is. inl is) q mark after old new result polls)

-- Parts of a list of events

given_on : {R : Type 0} (link : Link) (fault : FtpError) (old middle new : SessionValue) → Calm link old middle → IsGivenBeside link fault middle.net new.net ⊎ R → IsGivenBeside link fault old.net new.net ⊎ R
given_on link fault old middle new calm gives = either_as (given_after link fault old.net middle.net new.net calm.happens) (λ other. other) gives

-- a poll after a part in which nothing failed
caused_on : (link : Link) (called : Call) (kept kept' : Option FtpError) (old middle new : SessionValue) (result : Poll Answer) → Calm link old middle → CausesPoll link called kept kept' middle new result → CausesPoll link called kept kept' old new result
caused_on link called kept kept' old middle new (Ready told) calm causes = record {
  counted = λ kind is h. either_as (none_then old.channel.told middle.channel.told new.channel.told (calm.none h)) (given_on link (io kind) old middle new calm) (causes.counted kind is h);
  had_failed = λ is. either_as calm.going (either_as (λ spent. spent) (given_on link faults.SessionFailed old middle new calm)) (causes.had_failed is);
}
caused_on link called kept kept' old middle new Pending calm causes = record {
  met = λ kind is. given_on link (io kind) old middle new calm (causes.met kind is);
  had_failed = λ is. given_on link faults.SessionFailed old middle new calm (causes.had_failed is);
}

pub caused_in_step : (link : Link) (called : Call) (plain : Bool) (kept kept' : Option FtpError) (old middle new : SessionValue) (result : Poll Answer) → CatchesUp (unasked link) plain old middle (Ready None) → CausesPoll link called kept kept' middle new result → CausesPoll link called kept kept' old new result
caused_in_step link called plain kept kept' old middle new result up causes = caused_on link called kept kept' old middle new result (asked_caught link plain old middle up) causes

pub fault_caused : (link : Link) (called : Call) (plain : Bool) (kept : Option FtpError) (old new : SessionValue) (fault : FtpError) → CatchesUp (unasked link) plain old new (Ready (Some fault)) → CausesAnswer link called kept old new (Fault fault)
fault_caused link called plain kept old new fault up = answer_caused link called kept old new (Fault fault) (λ grave. inl (met_only (unasked link) old new fault (caught_up (unasked link) plain old new (Some fault) up grave)))

-- nothing is to be told of
pub light_caused : (link : Link) (called : Call) (kept : Option FtpError) (old new : SessionValue) → CausesAnswer link called kept old new answer.Unit
light_caused link called kept old new = record { counted = λ kind is h. cc is; had_failed = λ is. cc is }

-- A polled read of one reply

-- its error is no other
error_is : {T : Type 0} → (fault other : FtpError) → ◌≡◌ {A = Poll (Result T FtpError)} (Ready (Err fault)) (Ready (Err other)) → fault ≡ other
error_is fault other is = cc is

-- the reasons of an error of a read
abbrev Counts : Link → SessionValue → SessionValue → FtpError → Type 0
Counts link old new fault = Results Any link ⊥ Never old new (Fault fault)

-- a part of it gave the error
of_part : (link : Link) (old middle new : SessionValue) (fault other : FtpError) → ◌≡◌ {A = Poll (Result Response FtpError)} (Ready (Err fault)) (Ready (Err other)) → new ≡ middle → Counts link old middle other → Counts link old new fault
of_part link old middle new fault other is same counts = told_as Any link ⊥ Never old new (Fault fault) (Fault other) (ap Fault (error_is fault other is)) (ends_same Any link ⊥ Never old middle new (Fault other) same counts)

module _ (link : Link) (codes : Expected) (fault : FtpError) where
  alone_faults : (old new : SessionValue) → ReadsAlone link codes old new (Ready (Err fault)) → Counts link old new fault
  alone_faults old new reads = go old.channel.failed refl reads
    where
      go : (b : Bool) → old.channel.failed ≡ b → ReadsUnless b link codes old new (Ready (Err fault)) → Counts link old new fault
      go true failed refuses = told_as Any link ⊥ Never old new (Fault fault) (Fault faults.SessionFailed) (ap Fault (error_is fault faults.SessionFailed refuses.0)) (λ grave. inl failed)
      go false going counted = never_to link old counted.last new fault (ap (λ v. v.channel.told) counted.counts) (read_faults link codes old counted.last fault (counted.reads (given old.state)))

  module _ (coding : Coding) where
    -- after the last reply of a transfer that was left
    drain_results : (old middle : SessionValue) (told : Answer) → PlaysAlone link coding call.Drain old middle told → Results Any link ⊥ Never old middle told
    drain_results old middle told drains = alone_results Any link ⊥ Never coding call.Drain old middle told (λ is. tt) (drain_backed Any tt coding) drains

    drained_faults : (old new : SessionValue) → DrainsThenReads link coding codes old new (Ready (Err fault)) → Counts link old new fault
    drained_faults old new d = go d.drained d.drains d.then_reads
      where
        go : (drained : Poll (Result (Unit {0}) FtpError)) → PollsDrain link coding old d.middle drained → ThenReads link codes drained d.middle new (Ready (Err fault)) → Counts link old new fault
        go (Ready (Ok done)) drains reads = after_calm Any link ⊥ Never old d.middle new (Fault fault) (drain_results old d.middle answer.Unit drains).1 (alone_faults d.middle new reads)
        go (Ready (Err why)) drains (is, same) = of_part link old d.middle new fault why is same (drain_results old d.middle (Fault why) drains)
        go Pending drains waits = (let wrong : ◌≡◌ {A = Poll (Result Response FtpError)} (Ready (Err fault)) Pending = waits.0 in cc)

    polled_faults : (old new : SessionValue) → PollsRead link coding codes old new (Ready (Err fault)) → Counts link old new fault
    polled_faults old new polls = go (due_before_read old) polls.reads
      where
        go : (b : Bool) → PollsReadIf b link coding codes old new (Ready (Err fault)) → Counts link old new fault
        go true drains = drained_faults old new drains
        go false reads = alone_faults old new reads

    -- after what is due before it
    caught_faults : (old new : SessionValue) → CatchesUpThenReads link coding codes old new (Ready (Err fault)) → Counts link old new fault
    caught_faults old new c = go c.caught c.catches_up c.then_reads
      where
        go : (caught : Poll (Option FtpError)) → CatchesUp link true old c.middle caught → ReadsThen caught link coding codes c.middle new (Ready (Err fault)) → Counts link old new fault
        go (Ready None) catches reads = after_calm Any link ⊥ Never old c.middle new (Fault fault) (up_caught link true old c.middle None catches) (polled_faults c.middle new reads)
        go (Ready (Some why)) catches (is, same) = of_part link old c.middle new fault why is same (caught_up link true old c.middle (Some why) catches)
        go Pending catches waits = (let wrong : ◌≡◌ {A = Poll (Result Response FtpError)} (Ready (Err fault)) Pending = waits.0 in cc)

    step_faults : (old new : SessionValue) → PollsReadInStep link coding codes old new (Ready (Err fault)) → Counts link old new fault
    step_faults old new step = go (has_dropped_replies old) step.reads
      where
        go : (b : Bool) → CatchesUpReadIf b link coding codes old new (Ready (Err fault)) → Counts link old new fault
        go true catches = caught_faults old new catches
        go false polls = polled_faults old new polls

-- after the look
pub reads_counted : (link : Link) (coding : Coding) (codes : Expected) (mark after : Option End) (old new : SessionValue) (result : Poll (Result Response FtpError)) → ReadsSeen link coding codes mark after old new result → IfFails result (λ fault. CountsFaults link.tells old new (Fault fault))
reads_counted link coding codes mark after old new (Ready (Ok reply)) seen = tt
reads_counted link coding codes mark after old new (Ready (Err fault)) seen = to_counts link old new (Fault fault) (after_calm Any link ⊥ Never old (as_seen after old) new (Fault fault) (calm_seen link after old) (step_faults link codes fault coding (as_seen after old) new seen.reads))
reads_counted link coding codes mark after old new Pending seen = tt
