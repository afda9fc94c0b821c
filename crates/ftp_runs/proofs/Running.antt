-- Lemmas on lists of calls.
use Rattle.std.proofs.Common.{◌≡◌, ℕ, ◌+◌, Bool, true, false, cond, List, [], ◌∷◌, ◌++◌, length, length-append, inl, inr, ◌⊎◌, refl, ap, sym, ◌∙◌, subst, append_assoc, append-nil}
use Rattle.ftp_control.specs.declared.control.rule.ReplyRule.{ReplyRule}
use Rattle.ftp_transport.specs.declared.room.Room.{Room}
use Rattle.ftp_dialogue.specs.NetEvents.{NetEvent, outcomes_of}
use Rattle.ftp_dialogue.proofs.NetEvents.{outcomes-append}
use Rattle.ftp_dialogue.specs.declared.state.State.{State}
use Rattle.ftp_calls.specs.declared.call.Answer.{Answer}
use Rattle.ftp_calls.specs.declared.call.Call.{Call}
use Rattle.ftp_calls.specs.declared.call.Call.TheVariants.{Drain}
use Rattle.ftp_dialogue.specs.declared.model.PlayState.{PlayState}
use Rattle.ftp_dialogue.specs.declared.model.Played.{Played}
use Rattle.ftp_dialogue.specs.declared.model.Played.TheVariants.{Done}
use Rattle.ftp_dialogue.specs.declared.model.Wait.{Wait}
use Rattle.ftp_runs.specs.declared.model.Ran.{Ran}
use Rattle.ftp_runs.specs.declared.model.Ran.TheVariants.{Finished, Waiting}
use Rattle.ftp_dialogue.specs.State.{SessionValue, LetsGo}
use Rattle.ftp_dialogue.specs.Coding.{Coding}
use Rattle.ftp_dialogue.specs.Dialogue.{dialogue, entered}
use Rattle.ftp_calls.specs.Exchanges.{drains_first, is_local}
use Rattle.ftp_dialogue.specs.declared.model.NetOutcome.{NetOutcome}
use Rattle.ftp_dialogue.specs.Play.{Taken, after_drain, is_unit, play_call, play_drained, play_drained_if}
use Rattle.ftp_dialogue.proofs.CarryingLemmas.{beside_goes, refused_so, taken_goes_on, taken_plays, taken_resumes}
use Rattle.ftp_dialogue.specs.Resuming.{Resumes, Silent, modes_in, modes_of}
use Rattle.ftp_runs.specs.Run.{run, before, and_then, MayBeSilent, OneView, ResumesDrain}
use Rattle.ftp_dialogue.specs.Promises.{begun_by, DrainsFirst, DrainsIf, However, MakesAfter, Goes, FailsWith, HasFault, play_state, Completes, Aborts, IsRefused, IsPlayed, due_of, refusal_of, Keeps}
use Rattle.ftp_runs.specs.Runs.{BeginsAfter, before_all, Agrees, RanTo, RunAborts, RunCatchesUp}
use Rattle.ftp_dialogue.specs.Steps.Moving.{Ends, IsMade, Made, MadeDrained}
use Rattle.ftp_dialogue.proofs.Hearing.{begun_resumes, nothing_resumes}
use Rattle.ftp_dialogue.proofs.DrainingLemmas.{Due, due_so, due_taken, goes_from, taken_unrefused, unit_is}
use Rattle.ftp_dialogue.proofs.Moving.{Finishes, finishes, nothing_goes, joined_goes, goes_after, fitted}
use Rattle.ftp_dialogue.specs.Link.{Link}

module _ (coding : Coding) where
  pub run-nil : (room : Room) (s : PlayState) → run room coding [] s ≡ Finished [] s
  unfolding run
  run-nil room s = refl

  pub run-cons : (room : Room) (call : Call) (calls : List Call) (s : PlayState) → run room coding (call ∷ calls) s ≡ and_then (play_drained room coding call s) (λ t. run room coding calls t)
  unfolding run
  run-cons room call calls s = refl

-- one answer more
pub before_all-snoc : (answers : List Answer) (answer : Answer) (ran : Ran) → before_all (answers ++ answer ∷ []) ran ≡ before_all answers (before answer ran)
before_all-snoc [] answer ran = refl
before_all-snoc (first ∷ answers) answer ran = ap (before first) (before_all-snoc answers answer ran)

pub before_all-Finished : (answers later : List Answer) (s : PlayState) → before_all answers (Finished later s) ≡ Finished (answers ++ later) s
before_all-Finished [] later s = refl
before_all-Finished (answer ∷ answers) later s = ap (before answer) (before_all-Finished answers later s)

pub before_all-Waiting : (answers later : List Answer) (wait : Wait) (s : PlayState) → before_all answers (Waiting later wait s) ≡ Waiting (answers ++ later) wait s
before_all-Waiting [] later wait s = refl
before_all-Waiting (answer ∷ answers) later wait s = ap (before answer) (before_all-Waiting answers later wait s)

-- A session fails only where a call does

fault_before : (first second : List Answer) → HasFault first → HasFault (first ++ second)
fault_before [] second one = absurd one
fault_before (answer ∷ first) second (inl here) = inl here
fault_before (answer ∷ first) second (inr later) = inr (fault_before first second later)

fault_after : (first second : List Answer) → HasFault second → HasFault (first ++ second)
fault_after [] second two = two
fault_after (answer ∷ first) second two = inr (fault_after first second two)

-- a session fails only where a call of one event more does
pub fails_more : (old v w : SessionValue) (first second all : List Answer) → all ≡ first ++ second → FailsWith old v first → FailsWith v w second → FailsWith old w all
fails_more old v w first second all is before here =
    let P : List Answer → Type 0 = FailsWith old w in
    subst P (sym is) (λ failed. go (here failed))
  where
    earlier : (old.channel.failed ≡ true) ⊎ HasFault first → (old.channel.failed ≡ true) ⊎ HasFault (first ++ second)
    earlier (inl was) = inl was
    earlier (inr fault) = inr (fault_before first second fault)

    go : (v.channel.failed ≡ true) ⊎ HasFault second → (old.channel.failed ≡ true) ⊎ HasFault (first ++ second)
    go (inl was) = earlier (before was)
    go (inr fault) = inr (fault_after first second fault)

keeps_from : (P : Type 0) (came : List ℕ) (call : Call) (old new : SessionValue) → Keeps P came (begun_by call old) new → Keeps P came old new
keeps_from P came call old new keeps = keeps

module _ (coding : Coding) where
  -- where nothing is kept, every list has the same view
  nothing_resumes_drain : (rule : ReplyRule) (first : Bool) (state : State) → ResumesDrain first (modes_in [] rule state) [] coding state
  nothing_resumes_drain rule true state = nothing_resumes state.settings.reply_rule (dialogue coding Drain state)
  nothing_resumes_drain rule false state = tt

  pub nothing_views : (rule : ReplyRule) (calls : List Call) (state : State) → OneView rule [] coding calls state
  nothing_views rule [] state = tt
  nothing_views rule (call ∷ calls) state = (nothing_resumes_drain rule (drains_first call) state, nothing_resumes state.settings.reply_rule (dialogue coding call state), λ to silent. nothing_views rule calls to)

  -- what these calls see of what is kept, the first of them without a drain
  abbrev pub SeesCall : Call → List Call → SessionValue → Type 0
  SeesCall call later v = Resumes (modes_of v) v.channel.kept (dialogue coding call v.state) × ((to : State) → MayBeSilent coding call v.state to → OneView v.channel.rule v.channel.kept coding later to)

  nothing_seen : (call : Call) (later : List Call) (v : SessionValue) → v.channel.kept ≡ [] → SeesCall call later v
  nothing_seen call later v none = (rw none (nothing_resumes v.state.settings.reply_rule (dialogue coding call v.state)), λ to silent. rw none (nothing_views v.channel.rule later to))

  -- the view of the calls after one that is done
  views_on : (call : Call) (later : List Call) (came : List ℕ) (mid new : SessionValue) → Keeps (Silent (entered call mid.state) new.state (dialogue coding call mid.state)) came mid new → SeesCall call later mid → OneView new.channel.rule new.channel.kept coding later new.state
  views_on call later came mid new (inl none) view = rw none (nothing_views new.channel.rule later new.state)
  views_on call later came mid new (inr same) view = rw (same.0, same.4) (view.1 new.state (inl same.3))

-- nothing was made yet
pub ran_nothing : (link : Link) (coding : Coding) (calls : List Call) (v : SessionValue) → RanTo link coding calls calls v v []
ran_nothing link coding calls v = record {
  done = [];
  split = refl;
  count = refl;
  came = [];
  answered = [];
  goes = nothing_goes link v;
  runs = λ h agrees room more ended outcomes fit on. refl;
  agrees = λ a. a;
}

-- a run so far, where these are left to make
abbrev pub RunsSoFar : Link → Coding → List Call → List Call → SessionValue → SessionValue → List Answer → Type 0
RunsSoFar link coding calls to_make old new answers = RanTo link coding calls to_make old new answers ⊎ RunAborts link coding calls to_make old new answers ⊎ RunCatchesUp link coding calls to_make old new answers

-- one call more is done
split_more : (calls later : List Call) (call : Call) (done : List Call) → calls ≡ done ++ call ∷ later → calls ≡ (done ++ call ∷ []) ++ later
split_more calls later call done is = is ∙ sym (append_assoc done (call ∷ []) later)

counts_more : (call : Call) (answers : List Answer) (done : List Call) (one : Answer) → length answers ≡ length done → length (answers ++ one ∷ []) ≡ length (done ++ call ∷ [])
counts_more call answers done one is = length-append answers (one ∷ []) ∙ ap (λ n. n + 1) is ∙ sym (length-append done (call ∷ []))

-- a run that got to a call, whose drain is done where one was due, with the view of what is left
pub record ReachedCall (link : Link) (coding : Coding) (calls : List Call) (call : Call) (later : List Call) (old new : SessionValue) (answers : List Answer) : Type 0 where
  pub done : List Call
  pub split : calls ≡ done ++ call ∷ later
  pub count : length answers ≡ length done
  pub came : List ℕ
  pub answered : List NetEvent
  pub goes : Goes link came answered old new
  pub runs : link.tells → Agrees coding old calls → However old came answered new (λ room s t. run room coding calls s ≡ before_all answers (and_then (play_call room coding call t) (λ u. run room coding later u)))
  pub agrees : Agrees coding old calls → new.channel.failed ≡ false → SeesCall coding call later new

module _ (link : Link) (coding : Coding) (calls later : List Call) (call : Call) (old mid : SessionValue) (answers : List Answer) (ran : RanTo link coding calls (call ∷ later) old mid answers) where
  -- where no drain is due the call comes next
  comes_next : due_of call mid ≡ false → ReachedCall link coding calls call later old mid answers
  comes_next none =
      record {
        done = ran.done;
        split = ran.split;
        count = ran.count;
        came = ran.came;
        answered = ran.answered;
        goes = ran.goes;
        runs = λ h agrees room more ended outcomes fit on.
            let s : PlayState = play_state mid more ended outcomes in
            let next : PlayState → Ran = λ u. run room coding later u in
            ran.runs h agrees room more ended outcomes fit on
            ∙ ap (before_all answers) (run-cons coding room call later s ∙ ap (λ b. and_then (play_drained_if b room coding call s) next) none);
        agrees = λ agrees going. let sees = ran.agrees agrees going in (sees.1, sees.2);
      }

  module _ (new : SessionValue) (first : Answer) (due : due_of call mid ≡ true) (drains : Finishes link (dialogue coding Drain mid.state) first (begun_by Drain mid) new) where
    taken : refusal_of Drain mid ≡ Taken
    taken = due_taken call mid due

    so : Due call mid.channel.failed mid.state.counts.owed
    so = due_so call mid.channel.failed mid.state.counts.owed due

    resumes : Agrees coding old calls → Resumes (modes_of mid) mid.channel.kept (dialogue coding Drain mid.state)
    resumes agrees =
        let P : Bool → Type 0 = λ b. ResumesDrain b (modes_of mid) mid.channel.kept coding mid.state in
        subst P so.first (ran.agrees agrees so.going).0

    goes : Goes link (ran.came ++ drains.came) (ran.answered ++ drains.answered) old new
    goes = joined_goes link ran.came drains.came ran.answered drains.answered old mid new ran.goes (goes_from link drains.came drains.answered Drain mid new drains.goes)

    -- the run results in what the drain leads to
    comes_to : link.tells → Agrees coding old calls → However old (ran.came ++ drains.came) (ran.answered ++ drains.answered) new (λ room s t. run room coding calls s ≡ before_all answers (and_then (after_drain (Done first t) (λ u. play_call room coding call u)) (λ u. run room coding later u)))
    comes_to h agrees room more ended outcomes fit on =
        let next : PlayState → Ran = λ u. run room coding later u in
        let then : PlayState → Played = λ u. play_call room coding call u in
        let s : PlayState = play_state mid (drains.came ++ more) ended (outcomes_of drains.answered ++ outcomes) in
        let t : PlayState = play_state new more ended outcomes in
        let before = ran.runs h agrees room (drains.came ++ more) ended (outcomes_of drains.answered ++ outcomes) (fitted room _ _ (drains.goes.sent h) fit) (goes_after mid.channel.ended drains.came more new.channel.ended ended drains.goes.over on) in
        let played = drains.plays h (resumes agrees) room more ended outcomes fit on in
        rw (append_assoc ran.came drains.came more, outcomes-append ran.answered drains.answered, append_assoc (outcomes_of ran.answered) (outcomes_of drains.answered) outcomes)
        (before
        ∙ ap (before_all answers) (run-cons coding room call later s
        ∙ ap (λ b. and_then (play_drained_if b room coding call s) next) due
        ∙ ap (λ p. and_then (after_drain p then) next) (taken_plays coding room Drain mid (drains.came ++ more) ended (outcomes_of drains.answered ++ outcomes) taken ∙ played)))

    -- nothing is kept after it
    nothing_kept : new.channel.kept ≡ []
    nothing_kept = go drains.keeps
      where
        go : Keeps (Silent mid.state new.state (dialogue coding Drain mid.state)) drains.came (begun_by Drain mid) new → new.channel.kept ≡ []
        go (inl none) = none
        go (inr same) = absurd same.3

    -- the drain is done, and the call goes on
    goes_on_next : is_unit first ≡ true → ReachedCall link coding calls call later old new answers
    goes_on_next unit =
        record {
          done = ran.done;
          split = ran.split;
          count = ran.count;
          came = ran.came ++ drains.came;
          answered = ran.answered ++ drains.answered;
          goes = goes;
          runs = λ h agrees room more ended outcomes fit on.
              let next : PlayState → Ran = λ u. run room coding later u in
              let t : PlayState = play_state new more ended outcomes in
              comes_to h agrees room more ended outcomes fit on ∙ ap (λ b. before_all answers (and_then (if_unit b room t) next)) unit;
          agrees = λ agrees going. nothing_seen coding call later new nothing_kept;
        }
      where
        if_unit : Bool → Room → PlayState → Played
        if_unit b room t = cond b (play_call room coding call t) (Done first t)

    -- the drain fails, and that is the call's answer
    fails_next : is_unit first ≡ false → RanTo link coding calls later old new (answers ++ first ∷ [])
    fails_next fault =
        record {
          done = ran.done ++ call ∷ [];
          split = split_more calls later call ran.done ran.split;
          count = counts_more call answers ran.done first ran.count;
          came = ran.came ++ drains.came;
          answered = ran.answered ++ drains.answered;
          goes = goes;
          runs = λ h agrees room more ended outcomes fit on.
              let next : PlayState → Ran = λ u. run room coding later u in
              let t : PlayState = play_state new more ended outcomes in
              comes_to h agrees room more ended outcomes fit on ∙ ap (λ b. before_all answers (and_then (if_unit b room t) next)) fault ∙ sym (before_all-snoc answers first (next t));
          agrees = λ agrees going. rw nothing_kept (nothing_views coding new.channel.rule later new.state);
        }
      where
        if_unit : Bool → Room → PlayState → Played
        if_unit b room t = cond b (play_call room coding call t) (Done first t)

module _ (link : Link) (coding : Coding) (calls later : List Call) (call : Call) (old mid new : SessionValue) (answers : List Answer) (answer : Answer) (reached : ReachedCall link coding calls call later old mid answers) where
  -- the next call is done
  completes_next : refusal_of call mid ≡ Taken → (is_local call ≡ true → new.channel ≡ mid.channel) → Finishes link (dialogue coding call mid.state) answer (begun_by call mid) new → RanTo link coding calls later old new (answers ++ answer ∷ [])
  completes_next taken apart done =
      record {
        done = reached.done ++ call ∷ [];
        split = split_more calls later call reached.done reached.split;
        count = counts_more call answers reached.done answer reached.count;
        came = reached.came ++ done.came;
        answered = reached.answered ++ done.answered;
        goes = joined_goes link reached.came done.came reached.answered done.answered old mid new reached.goes (goes_from link done.came done.answered call mid new done.goes);
        runs = λ h agrees room more ended outcomes fit on.
            let next : PlayState → Ran = λ u. run room coding later u in
            let resumes = begun_resumes call mid (dialogue coding call mid.state) (taken_resumes (modes_of mid) mid.channel.kept coding call mid taken (λ going. (reached.agrees agrees going).0)) in
            let first = reached.runs h agrees room (done.came ++ more) ended (outcomes_of done.answered ++ outcomes) (fitted room _ _ (done.goes.sent h) fit) (goes_after mid.channel.ended done.came more new.channel.ended ended done.goes.over on) in
            let played = done.plays h resumes room more ended outcomes fit on in
            rw (append_assoc reached.came done.came more, outcomes-append reached.answered done.answered, append_assoc (outcomes_of reached.answered) (outcomes_of done.answered) outcomes)
            (first
            ∙ ap (λ p. before_all answers (and_then p next)) (taken_plays coding room call mid (done.came ++ more) ended (outcomes_of done.answered ++ outcomes) taken ∙ played)
            ∙ sym (before_all-snoc answers answer (run room coding later (play_state new more ended outcomes))));
        agrees = λ agrees going'. views_on coding call later done.came mid new (keeps_from (Silent (entered call mid.state) new.state (dialogue coding call mid.state)) done.came call mid new done.keeps) (reached.agrees agrees (taken_goes_on call mid new taken apart going'));
      }

  -- it is refused
  refuses_next : IsRefused link.tells call mid new answer → RanTo link coding calls later old new (answers ++ answer ∷ [])
  refuses_next refused =
      let so = refused_so link.beside link.tells coding call mid new answer refused in
      let goes = beside_goes link so.answered mid new so.channel so.net_events in
      record {
        done = reached.done ++ call ∷ [];
        split = split_more calls later call reached.done reached.split;
        count = counts_more call answers reached.done answer reached.count;
        came = reached.came ++ [];
        answered = reached.answered ++ so.answered;
        goes = joined_goes link reached.came [] reached.answered so.answered old mid new reached.goes goes;
        runs = λ h agrees room more ended outcomes fit on.
            let next : PlayState → Ran = λ u. run room coding later u in
            let O : List NetOutcome → Ran = λ o. run room coding calls (play_state old (reached.came ++ more) ended o) in
            let same : outcomes_of (reached.answered ++ so.answered) ++ outcomes ≡ outcomes_of reached.answered ++ outcomes = ap (λ o. o ++ outcomes) (outcomes-append reached.answered so.answered ∙ ap (λ o. outcomes_of reached.answered ++ o) so.none ∙ append-nil (outcomes_of reached.answered)) in
            let first = reached.runs h agrees room more ended outcomes (fitted room _ _ (goes.sent h) fit) (goes_after mid.channel.ended [] more new.channel.ended ended goes.over on) in
            rw (append-nil reached.came)
            (ap O same
            ∙ first
            ∙ ap (λ p. before_all answers (and_then p next)) (so.plays h room more ended outcomes)
            ∙ sym (before_all-snoc answers answer (run room coding later (play_state new more ended outcomes))));
        agrees = λ agrees going.
            let on = so.goes_on going in
            let V : SessionValue → Type 0 = λ v. v.channel.failed ≡ false in
            let P : SessionValue → Type 0 = λ v. OneView v.channel.rule v.channel.kept coding later v.state in
            subst P (sym on.0) ((reached.agrees agrees (subst V on.0 going)).1 mid.state (inr (on.1, refl)));
      }

-- a dialogue of a call is aborted
aborts_next : (link : Link) (coding : Coding) (calls later : List Call) (call part : Call) (old before mid last new : SessionValue) (answers : List Answer) (answer : Answer) → RanTo link coding calls (call ∷ later) old before answers → BeginsAfter (due_of call before) link coding call part before mid → LetsGo link.tells last new → refusal_of part mid ≡ Taken → Aborts link false (dialogue coding part mid.state) answer (begun_by part mid) last → RunAborts link coding calls later old new (answers ++ answer ∷ [])
aborts_next link coding calls later call part old before mid last new answers answer ran begins lets_go going aborts = record {
  first = answers;
  call = call;
  made = [];
  before = before;
  ran = ran;
  part = part;
  middle = mid;
  begins = begins;
  going = going;
  fault = aborts.fault;
  last = last;
  aborts = let P : Answer → Type 0 = λ a. Aborts link false (dialogue coding part mid.state) a (begun_by part mid) last in subst P aborts.is aborts;
  after = new;
  lets_go = lets_go;
  later = [];
  answers_are = ap (λ a. answers ++ a ∷ []) aborts.is;
  makes = (refl, refl);
  failed = λ failed. (refl, refl);
}

module _ (link : Link) (coding : Coding) (calls later : List Call) (call : Call) (old mid : SessionValue) (answers : List Answer) (reached : RanTo link coding calls (call ∷ later) old mid answers) where
  -- what is made of a call by itself, where the run got to it
  call_answer : (start new : SessionValue) (answer : Answer) → ReachedCall link coding calls call later old start answers → BeginsAfter (due_of call mid) link coding call call mid start → Made link coding call start new answer → RunsSoFar link coding calls later old new (answers ++ answer ∷ [])
  call_answer start new answer there begins (inl refused) = inl (refuses_next link coding calls later call old start new answers answer there refused)
  call_answer start new answer there begins (inr made) = go made.plays
    where
      go : Ends link (dialogue coding call start.state) answer (begun_by call start) made.last ⊎ Aborts link false (dialogue coding call start.state) answer (begun_by call start) made.last → RunsSoFar link coding calls later old new (answers ++ answer ∷ [])
      go (inl ends) = inl (completes_next link coding calls later call old start new answers answer there made.going made.apart (finishes link (dialogue coding call start.state) answer (begun_by call start) made.last new made.lets_go ends))
      go (inr aborts) = inr (inl (aborts_next link coding calls later call call old mid start made.last new answers answer reached begins made.lets_go made.going aborts))

  -- the drain comes before it
  drain_answer : (due : due_of call mid ≡ true) (new : SessionValue) (answer : Answer) → DrainsFirst (Made link coding) call mid new answer → RunsSoFar link coding calls later old new (answers ++ answer ∷ [])
  drain_answer due new answer drains = go drains.drains
    where
      D : SessionValue → Type 0
      D v = Finishes link (dialogue coding Drain mid.state) drains.first (begun_by Drain mid) v

      A : SessionValue → Answer → Type 0
      A v a = RunsSoFar link coding calls later old v (answers ++ a ∷ [])

      ended_with : (b : Bool) → is_unit drains.first ≡ b → IsPlayed link coding Drain mid drains.middle drains.first → D drains.middle → MakesAfter b drains.first (Made link coding call) drains.middle new answer → A new answer
      ended_with true unit played done made =
          let P : Bool → Type 0 = λ b. BeginsAfter b link coding call call mid drains.middle in
          let Q : Answer → Type 0 = λ a. IsPlayed link coding Drain mid drains.middle a in
          call_answer drains.middle new answer (goes_on_next link coding calls later call old mid answers reached drains.middle drains.first due done unit) (subst P (sym due) (inr (refl, subst Q (unit_is drains.first unit) played))) made
      ended_with false fault played done ends =
          let P : SessionValue → Type 0 = λ v. A v answer in
          let Q : Answer → Type 0 = λ a. A drains.middle a in
          subst P (sym ends.1) (subst Q (sym ends.0) (inl (fails_next link coding calls later call old mid answers reached drains.middle drains.first due done fault)))

      failed_with : (b : Bool) → is_unit drains.first ≡ b → (last : SessionValue) → LetsGo link.tells last drains.middle → Aborts link false (dialogue coding Drain mid.state) drains.first (begun_by Drain mid) last → MakesAfter b drains.first (Made link coding call) drains.middle new answer → A new answer
      failed_with true unit last lets_go aborts made =
          let P : Answer → Type 0 = λ a. is_unit a ≡ true in
          let clash : false ≡ true = subst P aborts.is unit in
          cc
      failed_with false fault last lets_go aborts ends =
          let P : SessionValue → Type 0 = λ v. A v answer in
          let Q : Answer → Type 0 = λ a. A drains.middle a in
          let B : Bool → Type 0 = λ b. BeginsAfter b link coding call Drain mid mid in
          subst P (sym ends.1) (subst Q (sym ends.0) (inr (inl (aborts_next link coding calls later call Drain old mid mid last drains.middle answers drains.first reached (subst B (sym due) (inl (refl, refl))) lets_go (due_taken call mid due) aborts))))

      played : IsMade link coding Drain mid drains.middle drains.first → IsPlayed link coding Drain mid drains.middle drains.first
      played made = record { going = made.going; apart = made.apart; last = made.last; plays = ended made.plays; lets_go = made.lets_go }
        where
          ended : Ends link (dialogue coding Drain mid.state) drains.first (begun_by Drain mid) made.last ⊎ Aborts link false (dialogue coding Drain mid.state) drains.first (begun_by Drain mid) made.last → Completes link (dialogue coding Drain mid.state) drains.first (begun_by Drain mid) made.last ⊎ Aborts link false (dialogue coding Drain mid.state) drains.first (begun_by Drain mid) made.last
          ended (inl ends) = inl ends.completes
          ended (inr aborts) = inr aborts

      made_by : (made : IsMade link coding Drain mid drains.middle drains.first) → Ends link (dialogue coding Drain mid.state) drains.first (begun_by Drain mid) made.last ⊎ Aborts link false (dialogue coding Drain mid.state) drains.first (begun_by Drain mid) made.last → A new answer
      made_by made (inl ends) = ended_with (is_unit drains.first) refl (played made) (finishes link (dialogue coding Drain mid.state) drains.first (begun_by Drain mid) made.last drains.middle made.lets_go ends) drains.then_makes
      made_by made (inr aborts) = failed_with (is_unit drains.first) refl made.last made.lets_go aborts drains.then_makes

      go : Made link coding Drain mid drains.middle drains.first → A new answer
      go (inl refused) = absurd (taken_unrefused link.tells Drain mid drains.middle drains.first (due_taken call mid due) refused)
      go (inr made) = made_by made made.plays

  pub next_answer : (new : SessionValue) (answer : Answer) → MadeDrained link coding call mid new answer → RunsSoFar link coding calls later old new (answers ++ answer ∷ [])
  next_answer new answer made = go (due_of call mid) refl made.makes
    where
      go : (b : Bool) → due_of call mid ≡ b → DrainsIf b (Made link coding) call mid new answer → RunsSoFar link coding calls later old new (answers ++ answer ∷ [])
      go true due drains = drain_answer due new answer drains
      go false none made =
          let P : Bool → Type 0 = λ b. BeginsAfter b link coding call call mid mid in
          call_answer mid new answer (comes_next link coding calls later call old mid answers reached none) (subst P (sym none) (refl, refl)) made
