-- Each event of a list has the cause of its error in itself, or the call under way kept it.
use Rattle.std.proofs.lemmas.List.{take_all, take_more}
use Rattle.std.proofs.Common.{◌≡◌, ◌⊎◌, ◌+◌, ◌<◌, ◌≤◌, ℕ, Bool, true, false, Option, Some, None, is_none, List, [], ◌∷◌, ◌++◌, length, take, get_or, inl, inr, refl, ap, sym, ◌∙◌, subst, append_assoc, append-nil}
use Rattle.std.specs.declared.io.ErrorKind.{ErrorKind}
use Rattle.std.specs.declared.io.ErrorKind.TheVariants.{WriteZero}
use Rattle.futures.specs.declared.task.Poll.{Poll as Polled}
use Rattle.futures.specs.declared.task.Poll.TheVariants.{Ready, Pending}
use Rattle.ftp_base.specs.declared.types.fault.ConnectionError.TheVariants as cause
use Rattle.ftp_base.specs.declared.types.fault.FtpError.{FtpError}
use Rattle.ftp_base.specs.declared.types.fault.FtpError.TheVariants as faults
use Rattle.ftp_transport.specs.Told.{Told}
use Rattle.ftp_calls.specs.Exchanges.{is_local}
use Rattle.ftp_calls.specs.declared.call.Answer.{Answer}
use Rattle.ftp_calls.specs.declared.call.Answer.TheVariants as answers
use Rattle.ftp_calls.specs.declared.call.Call.{Call}
use Rattle.ftp_calls.specs.declared.call.Call.TheVariants as calls
use Rattle.ftp_calls.specs.declared.call.Event.{Event}
use Rattle.ftp_calls.specs.declared.call.Event.TheVariants as event
use Rattle.ftp_calls.specs.declared.exchange.Turn.TheVariants.{First}
use Rattle.ftp_dialogue.specs.CatchingUp.{CatchesUp}
use Rattle.ftp_dialogue.specs.Coding.{Coding}
use Rattle.ftp_dialogue.specs.Counted.{CountsFailure, IsGivenBeside}
use Rattle.ftp_dialogue.specs.Link.{Builds, Link, builds_nothing, over_memory}
use Rattle.ftp_dialogue.specs.Play.{is_unit}
use Rattle.ftp_dialogue.specs.Promises.{FailsWith, due_of, refusal_of}
use Rattle.ftp_dialogue.specs.Sound.{cannot_open, holds}
use Rattle.ftp_dialogue.specs.State.{SessionValue}
use Rattle.ftp_dialogue.specs.Steps.Moving.{CarriesOut}
use Rattle.ftp_dialogue.specs.Steps.Polls.{StageIn, is_first}
use Rattle.ftp_dialogue.specs.declared.stage.Stage.{Stage}
use Rattle.ftp_dialogue.specs.declared.stage.Stage.TheVariants.{At}
use Rattle.ftp_dialogue.specs.declared.state.Owed.{Owed}
use Rattle.ftp_dialogue.specs.declared.state.Owed.TheVariants as owed
use Rattle.ftp_dialogue.proofs.CarryingLemmas.{carried_apart, carried_made}
use Rattle.ftp_dialogue.proofs.DrainingLemmas.{local_undue, made_plays}
use Rattle.ftp_dialogue.proofs.Sorts.{stage_no_local}
use Rattle.ftp_dialogue.specs.PollCauses.{sends}
use Rattle.ftp_dialogue.specs.PollCauses.{CausesAnswer, CausesPoll, TakesNoMore, kept_error}
use Rattle.ftp_session.specs.Polled.{PollsNext as PollsSession, PollsNextIf as PollsSessionIf, ThenStarts, ThenStartsIf}
use Rattle.ftp_session.proofs.Calm.{Happens, given_before}
use Rattle.ftp_session.proofs.PollGrounds.{caused_in_step, fault_caused, light_caused, next_caused}
use Rattle.ftp_runs.specs.Counting.{CausesEvent, CausesHere, CausesPolled, CountsEvent, CountsEvents, HasCause, NoFewer, kept_in, under_way_after}
use Rattle.ftp_runs.specs.Following.{FailedStays, Grows, HasLeftIf, Passes, PollsHere, PollsNext, PollsNextIf, Starts, ThenPolls, ThenPollsIf, given_answer, parts_here}
use Rattle.ftp_runs.specs.Scripted.{LeavesHeldIf}
use Rattle.ftp_runs.specs.declared.events.Course.{Course}
use Rattle.ftp_runs.proofs.CallCauses.{alone_cause}
use Rattle.ftp_runs.proofs.CaughtUp.{up_went}
use Rattle.ftp_runs.proofs.Dropped.{passes_grow}
use Rattle.ftp_runs.proofs.Leaving.{left_apart, over_happens}
use Rattle.ftp_runs.proofs.NoFewer.{as_many, no_fewer_on, refused_apart, starts_no_fewer}

-- A call that is none of the control connection

local_sends_none : (call : Call) → is_local call ≡ true → sends call ≡ false
local_sends_none (calls.PutFile path bytes) local = let clash : false ≡ true = local in cc
local_sends_none (calls.AppendFile path bytes) local = let clash : false ≡ true = local in cc
local_sends_none other local = refl

answer_is : (told other : Answer) → Ready told ≡ Ready other → told ≡ other
answer_is told other is = cc

module _ (builds : Builds) (coding : Coding) (call : Call) (stage : Stage) where
  abbrev mem : Link
  mem = over_memory builds

  module _ (local : is_local call ≡ true) (kept : Option FtpError) (v w : SessionValue) (answer : Answer) where
    carried_causes : HasCause mem call v w answer → CausesAnswer mem call kept v w answer
    carried_causes causes = record { counted = λ kind is h. counted kind (causes.counted kind is h); had_failed = λ is. had (causes.had_failed is) }
      where
        counted : (kind : ErrorKind) → CountsFailure v.channel.told w.channel.told ⊎ IsGivenBeside mem (faults.ConnectionError (cause.Io kind)) v.net w.net ⊎ ((sends call ≡ true) × (kind ≡ WriteZero)) → CountsFailure v.channel.told w.channel.told ⊎ IsGivenBeside mem (faults.ConnectionError (cause.Io kind)) v.net w.net ⊎ (kept ≡ Some (faults.ConnectionError (cause.Io kind))) ⊎ TakesNoMore call kind
        counted kind (inl since) = inl since
        counted kind (inr (inl gives)) = inr (inl gives)
        counted kind (inr (inr short)) = (let clash : true ≡ false = sym short.0 ∙ local_sends_none call local in cc)

        had : (v.channel.failed ≡ true) ⊎ (cannot_open w.state.counts ≡ Some faults.SessionFailed) ⊎ IsGivenBeside mem faults.SessionFailed v.net w.net → (v.channel.failed ≡ true) ⊎ (cannot_open w.state.counts ≡ Some faults.SessionFailed) ⊎ IsGivenBeside mem faults.SessionFailed v.net w.net ⊎ (kept ≡ Some faults.SessionFailed)
        had (inl failed) = inl failed
        had (inr (inl spent)) = inr (inl spent)
        had (inr (inr gives)) = inr (inr (inl gives))

    carried_caused : CarriesOut (Unit {0}) call v w answer → CausesAnswer mem call kept v w answer
    carried_caused carries = carried_causes (alone_cause mem coding call v w answer (made_plays mem coding call v w answer (carried_made mem coding call v w answer carries)))

    carried_no_fewer : CarriesOut (Unit {0}) call v w answer → NoFewer v.channel.told w.channel.told
    carried_no_fewer (inl refused) = as_many v.channel.told w.channel.told (ap (λ c. c.told.failures) (refused_apart (refusal_of call v) (Unit {0}) call v w answer refused))
    carried_no_fewer (inr made) = as_many v.channel.told w.channel.told (ap (λ c. c.told.failures) (carried_apart (Unit {0}) call v w answer made))

  local_first : is_local call ≡ true → StageIn (Some call) stage → is_first stage ≡ true
  local_first local (inl of) = let clash : true ≡ false = sym local ∙ stage_no_local call stage of in cc
  local_first local (inr at) = ap is_first at

  -- A poll of a call

  here_no_fewer : (stage' : Stage) (v w : SessionValue) (result : Polled Answer) → StageIn (Some call) stage → PollsHere builds coding call stage stage' v w result → NoFewer v.channel.told w.channel.told
  here_no_fewer stage' v w result at here = go (is_local call) refl
    where
      go : (b : Bool) → is_local call ≡ b → NoFewer v.channel.told w.channel.told
      go false abroad = starts_no_fewer builds coding call stage stage' v w result (here.starts abroad)
      go true local = let carries = here.carries local (local_first local at) in carried_no_fewer local None v w carries.0 carries.2

  drain_no_fewer : (at : Stage) (v w : SessionValue) (result : Polled Answer) → PollsHere builds coding calls.Drain (At First) at v w result → NoFewer v.channel.told w.channel.told
  drain_no_fewer at v w result here = starts_no_fewer builds coding calls.Drain (At First) at v w result (here.starts refl)

  pub next_no_fewer : (stage' : Stage) (polled : Bool) (v w : SessionValue) (result : Polled Answer) → StageIn (Some call) stage → PollsNext builds coding call stage stage' polled v w result → NoFewer v.channel.told w.channel.told
  next_no_fewer stage' polled v w result at next = go (due_of call v) next.polls
    where
      same : (middle : SessionValue) → w ≡ middle → NoFewer v.channel.told middle.channel.told → NoFewer v.channel.told w.channel.told
      same middle is none = let P : SessionValue → Type 0 = λ x. NoFewer v.channel.told x.channel.told in subst P (sym is) none

      go : (b : Bool) → PollsNextIf b builds coding call stage stage' polled v w result → NoFewer v.channel.told w.channel.told
      go false here = here_no_fewer stage' v w result at here.0
      go true d = then d.first d.then_polls (drain_no_fewer d.at v d.middle d.first d.drains)
        where
          over : (b : Bool) (first : Answer) → ThenPollsIf b builds coding call stage stage' polled first d.middle w result → NoFewer v.channel.told d.middle.channel.told → NoFewer v.channel.told w.channel.told
          over true first here none = no_fewer_on v.channel.told d.middle.channel.told w.channel.told none (here_no_fewer stage' d.middle w result at here.0)
          over false first is none = same d.middle is.1 none

          then : (first : Polled Answer) → ThenPolls builds coding call stage stage' polled first d.middle w result → NoFewer v.channel.told d.middle.channel.told → NoFewer v.channel.told w.channel.told
          then (Ready first) polls none = over (is_unit first) first polls none
          then Pending waits none = same d.middle waits.1 none

  -- the same, as a session polls it
  as_session : (stage' : Stage) (polled : Bool) (v w : SessionValue) (result : Polled Answer) → is_local call ≡ false → PollsNext builds coding call stage stage' polled v w result → PollsSession mem (Unit {0}) coding call stage stage' v w result
  as_session stage' polled v w result abroad next = record { polls = go (due_of call v) next.polls }
    where
      go : (b : Bool) → PollsNextIf b builds coding call stage stage' polled v w result → PollsSessionIf b mem (Unit {0}) coding call stage stage' v w result
      go false here = here.0.starts abroad
      go true d = record { middle = d.middle; first = d.first; at = d.at; drains = d.drains.starts refl; then_starts = then d.first d.then_polls }
        where
          over : (b : Bool) (first : Answer) → ThenPollsIf b builds coding call stage stage' polled first d.middle w result → ThenStartsIf b mem (Unit {0}) coding call stage stage' first d.middle w result
          over true first here = here.0.starts abroad
          over false first is = is

          then : (first : Polled Answer) → ThenPolls builds coding call stage stage' polled first d.middle w result → ThenStarts mem (Unit {0}) coding call stage stage' first d.middle w result
          then (Ready first) polls = over (is_unit first) first polls
          then Pending waits = (waits.0, waits.1, waits.2)

  next_causes : (stage' : Stage) (polled : Bool) (v w : SessionValue) (result : Polled Answer) → StageIn (Some call) stage → PollsNext builds coding call stage stage' polled v w result → CausesPoll mem call (kept_error stage) (kept_error stage') v w result
  next_causes stage' polled v w result at next = go (is_local call) refl
    where
      of_local : is_local call ≡ true → (b : Bool) → due_of call v ≡ b → PollsNextIf b builds coding call stage stage' polled v w result → CausesPoll mem call (kept_error stage) (kept_error stage') v w result
      of_local local true due d = let clash : true ≡ false = sym due ∙ local_undue call v local in cc
      of_local local false undue here =
          let carries = here.0.carries local (local_first local at) in
          let P : Polled Answer → Type 0 = λ r. CausesPoll mem call (kept_error stage) (kept_error stage') v w r in
          subst P (sym carries.1) (carried_caused local (kept_error stage) v w carries.0 carries.2)

      go : (b : Bool) → is_local call ≡ b → CausesPoll mem call (kept_error stage) (kept_error stage') v w result
      go false abroad = next_caused mem (Unit {0}) coding call stage at stage' v w result (as_session stage' polled v w result abroad next)
      go true local = of_local local (due_of call v) refl next.polls

  -- then the transfer is left that was to be left
  left_caused : (leaving : Bool) (kept : Option FtpError) (v gone w : SessionValue) (answer : Answer) → HasLeftIf leaving gone w → CausesAnswer mem call kept v gone answer → CausesAnswer mem call kept v w answer
  left_caused leaving kept v gone w answer left causes = record { counted = λ kind is h. counted kind (causes.counted kind is h); had_failed = λ is. had (causes.had_failed is) }
    where
      happens : Happens mem gone.net w.net
      happens = let over = over_happens builds coding leaving gone w left in record { answered = over.0; net_events = λ h. over.1 }

      counted : (kind : ErrorKind) → CountsFailure v.channel.told gone.channel.told ⊎ IsGivenBeside mem (faults.ConnectionError (cause.Io kind)) v.net gone.net ⊎ (kept ≡ Some (faults.ConnectionError (cause.Io kind))) ⊎ TakesNoMore call kind → CountsFailure v.channel.told w.channel.told ⊎ IsGivenBeside mem (faults.ConnectionError (cause.Io kind)) v.net w.net ⊎ (kept ≡ Some (faults.ConnectionError (cause.Io kind))) ⊎ TakesNoMore call kind
      counted kind (inl since) = let P : Told → Type 0 = λ t. CountsFailure v.channel.told t in inl (subst P (sym (ap (λ c. c.told) (left_apart leaving gone w left))) since)
      counted kind (inr (inl gives)) = inr (inl (given_before mem (faults.ConnectionError (cause.Io kind)) v.net gone.net w.net gives happens))
      counted kind (inr (inr other)) = inr (inr other)

      spent : cannot_open gone.state.counts ≡ Some faults.SessionFailed → cannot_open w.state.counts ≡ Some faults.SessionFailed
      spent is = go leaving left
        where
          held : (none : Bool) (owes : Owed) (opened : ℕ) → gone.state.counts.owed ≡ owes → holds none owes ≡ true → cannot_open w.state.counts ≡ Some faults.SessionFailed
          held none owed.Nothing opened same has = let clash : false ≡ true = has in cc
          held none (owed.Live number) opened same has = let clash : Some faults.DataConnectionAlreadyOpen ≡ Some faults.SessionFailed = sym (rw same refl) ∙ is in cc
          held none (owed.Left number) opened same has = let clash : false ≡ true = has in cc

          stays : w ≡ gone → cannot_open w.state.counts ≡ Some faults.SessionFailed
          stays same = ap (λ x. cannot_open x.state.counts) same ∙ is

          leaves : (b : Bool) → holds (is_none gone.net.data_conn) gone.state.counts.owed ≡ b → LeavesHeldIf b gone w → cannot_open w.state.counts ≡ Some faults.SessionFailed
          leaves true has gave = held (is_none gone.net.data_conn) gone.state.counts.owed gone.state.counts.opened refl has
          leaves false none same = stays same

          go : (b : Bool) → HasLeftIf b gone w → cannot_open w.state.counts ≡ Some faults.SessionFailed
          go true has = leaves (holds (is_none gone.net.data_conn) gone.state.counts.owed) refl has.leaves
          go false same = stays same

      had : (v.channel.failed ≡ true) ⊎ (cannot_open gone.state.counts ≡ Some faults.SessionFailed) ⊎ IsGivenBeside mem faults.SessionFailed v.net gone.net ⊎ (kept ≡ Some faults.SessionFailed) → (v.channel.failed ≡ true) ⊎ (cannot_open w.state.counts ≡ Some faults.SessionFailed) ⊎ IsGivenBeside mem faults.SessionFailed v.net w.net ⊎ (kept ≡ Some faults.SessionFailed)
      had (inl failed) = inl failed
      had (inr (inl is)) = inr (inl (spent is))
      had (inr (inr (inl gives))) = inr (inr (inl (given_before mem faults.SessionFailed v.net gone.net w.net gives happens)))
      had (inr (inr (inr was))) = inr (inr (inr was))

  -- Events of a call under way

  abbrev Here : SessionValue → SessionValue → Option Call → Stage → Option Answer → Type 0
  Here v w call' stage' given = CausesHere builds event.Poll v w (Some call) call' stage stage' given

  pub ready_here : (stage' : Stage) (polled leaving : Bool) (v gone w : SessionValue) (answer : Answer) → StageIn (Some call) stage → PollsNext builds coding call stage stage' polled v gone (Ready answer) → HasLeftIf leaving gone w → Here v w None stage' (Some answer)
  ready_here stage' polled leaving v gone w answer at next left = record {
    no_fewer = no_fewer_on v.channel.told gone.channel.told w.channel.told (next_no_fewer stage' polled v gone (Ready answer) at next) (as_many gone.channel.told w.channel.told (ap (λ c. c.told.failures) (left_apart leaving gone w left)));
    causes = (left_caused leaving (kept_error stage) v gone w answer left (next_causes stage' polled v gone (Ready answer) at next), refl);
    next = refl;
  }

  pub waits_here : (stage' : Stage) (polled : Bool) (v w : SessionValue) → StageIn (Some call) stage → PollsNext builds coding call stage stage' polled v w Pending → Here v w (Some call) stage' None
  waits_here stage' polled v w at next = record {
    no_fewer = next_no_fewer stage' polled v w Pending at next;
    causes = next_causes stage' polled v w Pending at next;
    next = refl;
  }

  -- after the replies that are due
  module _ (plain : Bool) (v middle : SessionValue) (caught : Polled (Option FtpError)) (up : CatchesUp (over_memory builds_nothing) plain v middle caught) where
    caught_no_fewer : NoFewer v.channel.told middle.channel.told
    caught_no_fewer = (up_went plain v middle caught up).no_fewer

    pub caught_waits : Here v middle (Some call) stage None
    caught_waits = record {
      no_fewer = caught_no_fewer;
      causes = record { met = λ kind is. inr (inl is); had_failed = λ is. inr is };
      next = refl;
    }

    pub caught_fault : (stage' : Stage) (fault : FtpError) → caught ≡ Ready (Some fault) → Here v middle None stage' (Some (answers.Fault fault))
    caught_fault stage' fault is = record {
      no_fewer = caught_no_fewer;
      causes = (let P : Polled (Option FtpError) → Type 0 = λ r. CatchesUp (over_memory builds_nothing) plain v middle r in fault_caused mem call plain (kept_error stage) v middle fault (subst P is up), refl);
      next = refl;
    }

    pub caught_ends : (stage' : Stage) → Here v middle None stage' (Some answers.Unit)
    caught_ends stage' = record {
      no_fewer = caught_no_fewer;
      causes = (light_caused mem call (kept_error stage) v middle, refl);
      next = refl;
    }

    pub caught_begins : (call' : Option Call) (stage' : Stage) (w : SessionValue) (given : Option Answer) → caught ≡ Ready None → Here middle w call' stage' given → Here v w call' stage' given
    caught_begins call' stage' w given is here = record {
      no_fewer = no_fewer_on v.channel.told middle.channel.told w.channel.told caught_no_fewer here.no_fewer;
      causes = go given here.causes;
      next = here.next;
    }
      where
        done : CatchesUp (over_memory builds_nothing) plain v middle (Ready None)
        done = let P : Polled (Option FtpError) → Type 0 = λ r. CatchesUp (over_memory builds_nothing) plain v middle r in subst P is up

        go : (g : Option Answer) → CausesPolled builds (Some call) (kept_error stage) (kept_in call' stage') middle w g → CausesPolled builds (Some call) (kept_error stage) (kept_in call' stage') v w g
        go (Some answer) causes = (caused_in_step mem call plain (kept_error stage) (kept_in call' stage') v middle w (Ready answer) done causes.0, causes.1)
        go None causes = caused_in_step mem call plain (kept_error stage) (kept_in call' stage') v middle w Pending done causes

-- Other events

module _ (builds : Builds) where
  -- no call is under way that could be polled
  pub idle_here : (stage : Stage) (v : SessionValue) → CausesHere builds event.Poll v v None None stage stage None
  idle_here stage v = record { no_fewer = as_many v.channel.told v.channel.told refl; causes = (refl, refl); next = refl }

  -- nothing is polled, and the call under way stays
  pub stays_here : (one kind : Event) (v w : SessionValue) (call call' : Option Call) (stage stage' : Stage) → one ≡ kind → CausesEvent builds kind call (kept_in call stage) (kept_in call stage) v w None → under_way_after kind None call ≡ call → w.channel.told.failures ≡ v.channel.told.failures → call' ≡ call → stage' ≡ stage → CausesHere builds one v w call call' stage stage' None
  stays_here one kind v w call call' stage stage' is causes after same call_is stage_is =
      let P : Event → Type 0 = λ e. CausesHere builds e v w call call' stage stage' None in
      let K : Option FtpError → Type 0 = λ k. CausesEvent builds kind call (kept_in call stage) k v w None in
      let kept : kept_in call' stage' ≡ kept_in call stage = ap (λ c. kept_in c stage') call_is ∙ ap (λ s. kept_in call s) stage_is in
      subst P (sym is) (record { no_fewer = as_many v.channel.told w.channel.told same; causes = subst K (sym kept) causes; next = call_is ∙ sym after })

  -- a call begins
  pub starts_here : (one : Event) (begins : Call) (v w : SessionValue) (call call' : Option Call) (stage stage' : Stage) (course course' : Course) → one ≡ event.Start begins → w ≡ v → Starts begins call call' stage stage' course course' → CausesHere builds one v w call call' stage stage' None
  starts_here one begins v w call call' stage stage' course course' is same starts =
      let P : Event → Type 0 = λ e. CausesHere builds e v w call call' stage stage' None in
      subst P (sym is) (go call starts)
    where
      go : (c : Option Call) → Starts begins c call' stage stage' course course' → CausesHere builds (event.Start begins) v w c call' stage stage' None
      go None (call_is, stage_is, course_is) = record {
        no_fewer = as_many v.channel.told w.channel.told (ap (λ x. x.channel.told.failures) same);
        causes = (refl, inr (ap (λ c. kept_in c stage') call_is ∙ ap (λ s. kept_in (Some begins) s) stage_is));
        next = call_is;
      }
      go (Some other) (call_is, stage_is, course_is) = record {
        no_fewer = as_many v.channel.told w.channel.told (ap (λ x. x.channel.told.failures) same);
        causes = (refl, inl (ap (λ c. kept_in c stage') call_is ∙ ap (λ s. kept_in (Some other) s) stage_is));
        next = call_is;
      }

  -- it is dropped
  pub drops_here : (one : Event) (v w : SessionValue) (call call' : Option Call) (stage stage' : Stage) → one ≡ event.Cancel → w.channel ≡ v.channel → call' ≡ None → CausesHere builds one v w call call' stage stage' None
  drops_here one v w call call' stage stage' is same none =
      let P : Event → Type 0 = λ e. CausesHere builds e v w call call' stage stage' None in
      subst P (sym is) (record { no_fewer = as_many v.channel.told w.channel.told (ap (λ c. c.told.failures) same); causes = (refl, inr (ap (λ c. kept_in c stage') none)); next = none })

-- A list of events

-- the events so far, and the call that is under way after them, with the error that it keeps
abbrev pub CountsTo : Builds → Option Call → Option FtpError → List Event → SessionValue → SessionValue → List Answer → Option Call → Option FtpError → Type 0
CountsTo builds call kept [] old new answers call' kept' = (answers ≡ []) × (new ≡ old) × (call' ≡ call) × (kept' ≡ kept)
CountsTo builds call kept (event ∷ events) old new answers call' kept' =
    (middle : SessionValue) × (given : Option Answer) × (between : Option FtpError) × (later : List Answer) × (answers ≡ given_answer given ++ later) × CountsEvent builds event call kept between old middle given × CountsTo builds (under_way_after event given call) between events middle new later call' kept'

module _ (builds : Builds) where
  one_more : (call : Option Call) (kept : Option FtpError) (done : List Event) (one : Event) (old mid new : SessionValue) (answers : List Answer) (given : Option Answer) (between : Option Call) (held held' : Option FtpError) → CountsTo builds call kept done old mid answers between held → CountsEvent builds one between held held' mid new given → CountsTo builds call kept (done ++ one ∷ []) old new (answers ++ given_answer given) (under_way_after one given between) held'
  one_more call kept [] one old mid new answers given between held held' none counts =
      let V : SessionValue → Type 0 = λ v. CountsEvent builds one between held held' v new given in
      let C : Option Call → Type 0 = λ c. CountsEvent builds one c held held' old new given in
      let K : Option FtpError → Type 0 = λ k. CountsEvent builds one call k held' old new given in
      (new, given, held', [], ap (λ l. l ++ given_answer given) none.0 ∙ sym (append-nil (given_answer given)), subst K none.3 (subst C none.2 (subst V none.1 counts)), (refl, refl, ap (under_way_after one given) none.2, refl))
  one_more call kept (first ∷ done) one old mid new answers given between held held' (middle, told, keeps', later, is, counted, each) counts =
      (middle, told, keeps', later ++ given_answer given, ap (λ l. l ++ given_answer given) is ∙ append_assoc (given_answer told) later (given_answer given), counted, one_more (under_way_after first told call) keeps' done one middle mid new later given between held held' each counts)

  -- the next event
  pub next_event : (coding : Coding) (old : SessionValue) (events : List Event) (i : ℕ) (one : Event) (v w : SessionValue) (call call' : Option Call) (stage stage' : Stage) (course course' : Course) (answers answers' : List Answer) (given : Option Answer) → i < length events → one ≡ get_or events i one → answers' ≡ answers ++ given_answer given → FailedStays v w given → FailsWith v w (given_answer given) → Passes builds coding v w call call' stage stage' course course' one given → CausesHere builds one v w call call' stage stage' given → CountsTo builds None None (take i events) old v answers call (kept_in call stage) → CountsTo builds None None (take (i + 1) events) old w answers' call' (kept_in call' stage')
  next_event coding old events i one v w call call' stage stage' course course' answers answers' given inside is pushed stays fails passes here so_far =
      let done : take (i + 1) events ≡ take i events ++ one ∷ [] = take_more events i one inside ∙ ap (λ e. take i events ++ e ∷ []) (sym is) in
      let P : List Event → Type 0 = λ l. CountsTo builds None None l old w answers' call' (kept_in call' stage') in
      let Q : List Answer → Type 0 = λ a. CountsTo builds None None (take i events ++ one ∷ []) old w a call' (kept_in call' stage') in
      let C : Option Call → Type 0 = λ c. CountsTo builds None None (take i events ++ one ∷ []) old w (answers ++ given_answer given) c (kept_in call' stage') in
      let counts : CountsEvent builds one call (kept_in call stage) (kept_in call' stage') v w given = record {
        no_fewer = here.no_fewer;
        beside = passes_grow builds coding (parts_here call course v one) one stage stage' course course' v w call call' given passes;
        failed = λ failed. (stays failed).0;
        fails = fails;
        causes = here.causes;
      } in
      subst P (sym done) (subst Q (sym pushed) (subst C (sym here.next) (one_more None None (take i events) one old v w answers given call (kept_in call stage) (kept_in call' stage') so_far counts)))

  ends_counted : (call : Option Call) (kept : Option FtpError) (done : List Event) (old mid new : SessionValue) (answers : List Answer) (call' : Option Call) (kept' : Option FtpError) → new.channel ≡ mid.channel → Grows builds mid new → CountsTo builds call kept done old mid answers call' kept' → CountsEvents builds call kept done old new answers
  ends_counted call kept [] old mid new answers call' kept' same grows none =
      let G : SessionValue → Type 0 = λ v. Grows builds v new in
      (none.0, same ∙ ap (λ v. v.channel) none.1, subst G none.1 grows)
  ends_counted call kept (first ∷ done) old mid new answers call' kept' same grows (middle, told, keeps', later, is, counted, each) =
      (middle, told, keeps', later, is, counted, ends_counted (under_way_after first told call) keeps' done middle mid new later call' kept' same grows each)

  -- no event is left, and the call under way is dropped
  pub all_counted : (old : SessionValue) (events : List Event) (i : ℕ) (mid new : SessionValue) (answers : List Answer) (call' : Option Call) (kept' : Option FtpError) → length events ≤ i → new.channel ≡ mid.channel → Grows builds mid new → CountsTo builds None None (take i events) old mid answers call' kept' → CountsEvents builds None None events old new answers
  all_counted old events i mid new answers call' kept' past same grows so_far =
      let P : List Event → Type 0 = λ e. CountsEvents builds None None e old new answers in
      subst P (take_all i events past) (ends_counted None None (take i events) old mid new answers call' kept' same grows so_far)
