-- Lemmas on lists of events.
use Rattle.ftp_control.specs.declared.control.form.ReplyForm.{ReplyForm}
use Rattle.std.proofs.Common.{◌≡◌, Bool, true, false, ℕ, zero, suc, ◌+◌, ◌<◌, ◌≤◌, Option, Some, None, List, [], ◌∷◌, ◌++◌, length, take, drop, get_or, inl, inr, ◌⊎◌, refl, ap, sym, ◌∙◌, subst, append-nil, arith}
use Rattle.std.specs.Prelude.{OnErr, Result, Ok, Err}
use Rattle.std.proofs.lemmas.List.{drop_more, take_more, take_all, take-append-drop}
use Rattle.futures.specs.declared.task.Poll.{Poll as Polled}
use Rattle.futures.specs.declared.task.Poll.TheVariants.{Ready, Pending}
use Rattle.ftp_base.specs.declared.types.fault.FtpError.{FtpError}
use Rattle.ftp_control.specs.declared.control.outcome.Outcome.TheVariants.{Waits}
use Rattle.ftp_control.specs.Grammar.{outcome}
use Rattle.ftp_transport.specs.Memory.{IsGiven}
use Rattle.ftp_control.specs.Channel.{Channel, IsSound}
use Rattle.ftp_calls.specs.Exchanges.{drains}
use Rattle.ftp_calls.specs.declared.call.Answer.{Answer}
use Rattle.ftp_calls.specs.declared.call.Answer.TheVariants.{Fault}
use Rattle.ftp_calls.specs.declared.call.Call.{Call}
use Rattle.ftp_calls.specs.declared.call.Event.{Event}
use Rattle.ftp_calls.specs.declared.call.Event.TheVariants.{Cancel, Poll, Start}
use Rattle.ftp_calls.specs.declared.call.Event.TheVariants as kinds
use Rattle.ftp_calls.specs.declared.exchange.Turn.TheVariants.{First}
use Rattle.ftp_dialogue.specs.declared.stage.Stage.{Stage}
use Rattle.ftp_dialogue.specs.declared.stage.Stage.TheVariants.{At}
use Rattle.ftp_dialogue.specs.declared.model.PlayState.{PlayState}
use Rattle.ftp_runs.specs.declared.model.Script.{Script}
use Rattle.ftp_dialogue.specs.State.{SessionValue}
use Rattle.ftp_dialogue.specs.Coding.{Coding}
use Rattle.ftp_runs.specs.Script.{script, start_of, script_of, after_event, dropped, drops_begun, parts, parts_beyond, reads_first, still, Lawful, MayCancel, Whole}
use Rattle.ftp_dialogue.specs.NetEvents.{NetEvent, NetEvents, outcomes_of}
use Rattle.ftp_dialogue.proofs.NetEvents.{net_events-append}
use Rattle.ftp_dialogue.specs.declared.model.NetOutcome.{NetOutcome}
use Rattle.ftp_dialogue.specs.Link.{Builds, over_memory, plain}
use Rattle.ftp_dialogue.specs.Promises.{Aborts, FailsWith}
use Rattle.ftp_runs.specs.Scripted.{BeginsThen, DropsIf, EndsAt, EndsOrBegins, HoldsAt, ScriptHolds, ScriptAborts, ScriptCatchesUp, ScriptDrops, ScriptParts, ScriptsHold, IsScripted, StopsAtFeed, leaves_dropped}
use Rattle.ftp_dialogue.specs.Steps.Stages.{begun_at}
use Rattle.ftp_runs.specs.Following.{Attended, CatchesUpHere, CaughtThen, DropsBegun, DropsCall, EndsOrPolls, Grows, Follows, FailedStays, Happens, AbortsPart, IsFeed, PartsHere, Passes, PassesIf, at_rest, given_answer, parts_here}
use Rattle.ftp_runs.specs.declared.events.Course.{Course}
use Rattle.ftp_dialogue.specs.Steps.Polls.{entered_tree}
use Rattle.ftp_runs.proofs.Carried.{outcomes_on}
use Rattle.ftp_runs.proofs.EventLemmas.{begins, starts}
use Rattle.ftp_runs.proofs.Following.{entering_is, left_of}
use Rattle.ftp_runs.proofs.Dropped.{drop_passes, dropped_apart, dropped_stays, here_apart, passes_grow}
use Rattle.ftp_runs.proofs.Leaving.{first_stage}
use Rattle.ftp_runs.proofs.Stretches.{beyond_is, beyond_none, drops_at, drops_known, lawful-front, lawful-last, parts_known, parts_more, still_none, whole-snoc}

module _ (builds : Builds) (coding : Coding) where
  script-snoc : (start : PlayState) (s : Script) (events : List Event) (event : Event) → script coding start s (events ++ event ∷ []) ≡ after_event coding start (script coding start s events) event
  script-snoc start s [] event = refl
  script-snoc start s (first ∷ events) event = script-snoc start (after_event coding start s first) events event

  -- the session follows the script of these events, and none of them ends it
  abbrev pub Follows_on : List NetOutcome → List NetOutcome → ReplyForm → ℕ → SessionValue → List Event → SessionValue → Option Call → Stage → Course → List Answer → Type 0
  Follows_on outcomes left form n old done v call stage course answers =
      Whole coding (start_of old outcomes) n (script_of old form) done × Attended builds coding outcomes left old (script coding (start_of old outcomes) (script_of old form) done) v call stage course answers

  -- the events that happened so far, and what came of them: the session follows their script, or one of them ended it; that is said of so many scripts
  abbrev pub Happened : ℕ → ℕ → SessionValue → List Event → SessionValue → Option Call → Stage → Course → List Answer → Type 0
  Happened zero n old done v call stage course answers = Unit {0}
  Happened (suc depth) n old done v call stage course answers =
      (answered : List NetEvent) × NetEvents (plain builds) answered old.net v.net × ((form : ReplyForm) (left : List NetOutcome) → outcome old.channel.rule form old.channel.kept false ≡ Waits → Lawful coding (start_of old (outcomes_of answered ++ left)) n (script_of old form) done → Follows_on (outcomes_of answered ++ left) left form n old done v call stage course answers ⊎ ScriptParts builds (λ m after later rest. Happened depth m after later v call stage course rest) coding (outcomes_of answered ++ left) old form n done v answers)

  -- a script begins
  attends_first : (left : List NetOutcome) (form : ReplyForm) (old : SessionValue) (call : Option Call) (stage : Stage) (course : Course) → call ≡ None → course ≡ at_rest → IsGiven old.channel.told → IsSound (Unit {0}) old.channel → outcome old.channel.rule form old.channel.kept false ≡ Waits → Attended builds coding left left old (script_of old form) old call stage course []
  attends_first left form old call stage course none resting given sound waits =
      let P : Option Call → Type 0 = λ c. Attended builds coding left left old (script_of old form) old c stage course [] in
      let C : Course → Type 0 = λ x. Attended builds coding left left old (script_of old form) old None stage x [] in
      subst P (sym none) (subst C (sym resting) (begins builds coding left left old form stage refl given sound waits, record { polled = refl; leaving = refl; resting = λ is. refl }))

  -- nothing has happened
  pub starts_script : (depth n : ℕ) (old : SessionValue) (call : Option Call) (stage : Stage) (course : Course) → call ≡ None → course ≡ at_rest → IsGiven old.channel.told → IsSound (Unit {0}) old.channel → Happened depth n old [] old call stage course []
  starts_script zero n old call stage course none resting given sound = tt
  starts_script (suc depth) n old call stage course none resting given sound = (
    [],
    refl,
    λ form left waits lawful. inl (tt, attends_first left form old call stage course none resting given sound waits),
  )

  -- the session stands where its script does
  holds_at : (outcomes left : List NetOutcome) (old : SessionValue) (s : Script) (v : SessionValue) (call : Option Call) (stage : Stage) (answers : List Answer) → Follows builds coding outcomes left old s v call stage answers → HoldsAt builds outcomes old s v answers
  holds_at outcomes left old s v call stage answers f =
      record {
        at = record {
          answers_are = sym f.answers_are;
          sent = sym f.sent;
          said = f.said;
          untaken = sym f.untaken;
          net_record = sym f.net_record;
          seen = sym f.seen;
          waits = f.waits;
          ended = sym f.ended;
          room = sym f.room;
          unsent = λ may. sym (f.unsent (let P : Option Call → Type 0 = λ c. MayCancel c s.polled in subst P f.call_is may));
          state = sym f.state;
          failed = sym f.failed;
        };
        left = left;
        answered = record { answered = f.answered; net_events = f.net_events; outcomes_are = f.outcomes_are };
        came = f.came;
        received = f.received;
        bytes = f.bytes;
        rule = f.rule;
        failures = f.failures;
      }

  -- a call is aborted
  aborts_at : (Later : ℕ → SessionValue → List Event → List Answer → Type 0) (outcomes : List NetOutcome) (old : SessionValue) (form : ReplyForm) (n : ℕ) (done : List Event) (event : Event) (w : SessionValue) (answers : List Answer) (result : Option Answer) → Whole coding (start_of old outcomes) n (script_of old form) done → parts_beyond (still n done) (script coding (start_of old outcomes) (script_of old form) done) event ≡ false → (broke : AbortsPart builds coding outcomes old (script coding (start_of old outcomes) (script_of old form) done) answers w result) → event ≡ Poll → (IsGiven w.channel.told → IsSound (Unit {0}) w.channel → Later zero w [] []) → ScriptAborts builds Later coding outcomes old form n (done ++ event ∷ []) w (answers ++ given_answer result)
  aborts_at Later outcomes old form n done event w answers result whole unparted broke polled starts_anew =
      let at = broke.at in
      let aborts = at.aborts in
      let A : SessionValue → Type 0 = λ x. Aborts (over_memory builds) (begun_at at.stage) (entered_tree coding at.part at.stage at.middle.state) (Fault aborts.fault) x aborts.last in
      let G : Channel → Type 0 = λ c. IsGiven c.told in
      let S : Channel → Type 0 = λ c. IsSound (Unit {0}) c in
      let E : Event → Type 0 = λ e. parts_beyond (still n done) (script coding (start_of old outcomes) (script_of old form) done) e ≡ false in
      record {
        before = done;
        later = [];
        split = ap (λ e. done ++ e ∷ []) polled;
        whole = whole;
        reads_none = subst E polled unparted;
        first = answers;
        here = at.here;
        polled = at.polled;
        middle = at.middle;
        at = holds_at outcomes at.left old at.here at.middle (Some at.part) at.stage answers at.follows;
        call = at.part;
        begun = begun_at at.stage;
        tree = entered_tree coding at.part at.stage at.middle.state;
        under_way = left_of builds coding outcomes at.left old at.here at.middle at.part at.stage answers at.follows aborts.going;
        fault = aborts.fault;
        last = aborts.last;
        aborts = subst A (entering_is builds coding outcomes at.left old at.here at.middle at.part at.stage answers at.follows) aborts.aborts;
        gone = broke.gone;
        lets_go = aborts.lets_go;
        after = w;
        leaves = broke.leaves;
        others = [];
        answers_are = ap (λ r. answers ++ given_answer r) aborts.is;
        goes_on = starts_anew (subst G (sym broke.channel) aborts.given) (subst S (sym broke.channel) aborts.sound);
        failed = λ failed. (failed, tt);
      }

  -- an event of the script, where that goes on
  follows_more : (depth : ℕ) (outcomes left : List NetOutcome) (old : SessionValue) (form : ReplyForm) (n : ℕ) (done : List Event) (answers : List Answer) (event : Event) (v w : SessionValue) (call call' : Option Call) (stage stage' : Stage) (course course' : Course) (result : Option Answer) (happens : Happens builds coding v w call call' stage stage' course course' event result) → Follows_on outcomes (outcomes_of happens.0 ++ left) form n old done v call stage course answers → parts_beyond (still n done) (script coding (start_of old outcomes) (script_of old form) done) event ≡ false → Lawful coding (start_of old outcomes) n (script_of old form) (done ++ event ∷ []) → Follows_on outcomes left form n old (done ++ event ∷ []) w call' stage' course' (answers ++ given_answer result) ⊎ ScriptParts builds (λ m after later rest. Happened depth m after later w call' stage' course' rest) coding outcomes old form n (done ++ event ∷ []) w (answers ++ given_answer result)
  follows_more depth outcomes left old form n done answers event v w call call' stage stage' course course' result happens (whole, attended) unparted lawful = go (happens.2 outcomes left old s answers attended (lawful-last coding (start_of old outcomes) n (script_of old form) done event whole unparted lawful))
    where
      s : Script
      s = script coding (start_of old outcomes) (script_of old form) done

      go : Attended builds coding outcomes left old (after_event coding (start_of old outcomes) s event) w call' stage' course' (answers ++ given_answer result) ⊎ (AbortsPart builds coding outcomes old s answers w result × (call' ≡ None) × (course' ≡ at_rest) × (event ≡ Poll)) → Follows_on outcomes left form n old (done ++ event ∷ []) w call' stage' course' (answers ++ given_answer result) ⊎ ScriptParts builds (λ m after later rest. Happened depth m after later w call' stage' course' rest) coding outcomes old form n (done ++ event ∷ []) w (answers ++ given_answer result)
      go (inl later) =
          let P : Script → Type 0 = λ x. Attended builds coding outcomes left old x w call' stage' course' (answers ++ given_answer result) in
          inl (whole-snoc coding (start_of old outcomes) n (script_of old form) done event whole unparted, subst P (sym (script-snoc (start_of old outcomes) (script_of old form) done event)) later)
      go (inr broke) = inr (inl (aborts_at (λ m after later rest. Happened depth m after later w call' stage' course' rest) outcomes old form n done event w answers result whole unparted broke.0 broke.3 (λ given sound. starts_script depth zero w call' stage' course' broke.1 broke.2 given sound)))

  -- Where a call has read what was due

  -- it begins anew
  attends_call : (left : List NetOutcome) (form : ReplyForm) (old : SessionValue) (call : Call) (n : ℕ) → IsGiven old.channel.told → IsSound (Unit {0}) old.channel → outcome old.channel.rule form old.channel.kept false ≡ Waits → Follows_on left left form n old (Start call ∷ []) old (Some call) (At First) at_rest []
  attends_call left form old call n given sound waits = (
    (beyond_none n (script_of old form) (Start call) refl, tt),
    starts builds coding left left old (script_of old form) old call None (Some call) (At First) (At First) at_rest at_rest [] (attends_first left form old None (At First) at_rest refl refl given sound waits) (refl, refl, refl),
  )

  begins_anew : (depth n : ℕ) (old : SessionValue) (call : Call) → IsGiven old.channel.told → IsSound (Unit {0}) old.channel → Happened depth n old (Start call ∷ []) old (Some call) (At First) at_rest []
  begins_anew zero n old call given sound = tt
  begins_anew (suc depth) n old call given sound = ([], refl, λ form left waits lawful. inl (attends_call left form old call n given sound waits))

  -- and is polled
  polls_anew : (depth : ℕ) (old w : SessionValue) (call : Call) (call' : Option Call) (stage' : Stage) (course' : Course) (result : Option Answer) → Happens builds coding old w (Some call) call' (At First) stage' at_rest course' Poll result → IsGiven old.channel.told → IsSound (Unit {0}) old.channel → Happened depth 2 old (Start call ∷ Poll ∷ []) w call' stage' course' (given_answer result)
  polls_anew zero old w call call' stage' course' result happens given sound = tt
  polls_anew (suc depth) old w call call' stage' course' result happens given sound = (
    happens.0,
    happens.1,
    λ form left waits lawful. follows_more depth (outcomes_of happens.0 ++ left) left old form 2 (Start call ∷ []) [] Poll old w (Some call) call' (At First) stage' at_rest course' result happens (attends_call (outcomes_of happens.0 ++ left) form old call 2 given sound waits) refl lawful,
  )

  -- An event that ends a script

  module _ (depth : ℕ) (outcomes left : List NetOutcome) (old : SessionValue) (form : ReplyForm) (n : ℕ) (done : List Event) (answers : List Answer) (v w : SessionValue) (call call' : Option Call) (stage stage' : Stage) (course course' : Course) (result : Option Answer) (follows : Follows_on outcomes left form n old done v call stage course answers) (at_end_of : still n done ≡ zero) where
    abbrev s : Script
    s = script coding (start_of old outcomes) (script_of old form) done

    abbrev Later : ℕ → SessionValue → List Event → List Answer → Type 0
    Later m after later rest = Happened depth m after later w call' stage' course' rest

    drops_now : drops_begun call course.polled ≡ true → DropsBegun v w call call' stage course course' result → w.channel ≡ v.channel → ScriptDrops builds Later coding outcomes old form n (done ++ Cancel ∷ []) (answers ++ given_answer result)
    drops_now is begun same =
        let G : Channel → Type 0 = λ c. IsGiven c.told in
        let S : Channel → Type 0 = λ c. IsSound (Unit {0}) c in
        let f = follows.1 in
        let P : Option Call → Type 0 = λ c. Attended builds coding outcomes left old s v c stage course answers in
        let B : Option Call → Type 0 = λ c. drops_begun c course.polled ≡ true in
        record {
          before = done;
          later = [];
          split = refl;
          whole = follows.0;
          begun = beyond_is (still n done) s Cancel at_end_of (drops_known builds coding outcomes left old s v call stage course answers f ∙ is);
          first = answers;
          middle = v;
          at = holds_at outcomes left old s v call stage answers f.0;
          after = w;
          drops = drops_at builds coding outcomes left old s v begun.part stage course answers (subst P begun.is f) (subst B begun.is is) w begun.drops;
          others = [];
          answers_are = ap (λ r. answers ++ given_answer r) begun.none;
          goes_on = starts_script depth zero w call' stage' course' begun.over begun.resting (subst G (sym same) f.0.given) (subst S (sym same) f.0.sound);
        }

    catches_now : parts_here call course v Poll ≡ true → (c : CatchesUpHere builds coding v w call call' stage stage' course' result) → ScriptCatchesUp builds Later coding outcomes old form n (done ++ Poll ∷ []) w (answers ++ given_answer result)
    catches_now is c = record {
      before = done;
      later = [];
      split = refl;
      whole = follows.0;
      due = beyond_is (still n done) s Poll at_end_of due;
      first = answers;
      middle = v;
      at = holds_at outcomes left old s v call stage answers follows.1.0;
      call = c.part;
      call_is = follows.1.0.call_is ∙ c.is;
      after = c.middle;
      caught = c.caught;
      catches_up = c.catches_up;
      others = given_answer result;
      answers_are = refl;
      goes_on = by c.caught c.then;
    }
      where
        due : parts s Poll ≡ true
        due = parts_known builds coding outcomes left old s v call stage course answers follows.1 Poll ∙ is

        unpolled : (b : Bool) → s.polled ≡ b → s.polled ≡ false
        unpolled false is' = is'
        unpolled true is' =
            let none : (p : Bool) → p ≡ true → (x : Option Call) → reads_first x p s.failed s.state ≡ true → false ≡ true = λ p on x.
            let R : Bool → Type 0 = λ q. reads_first x q s.failed s.state ≡ true → false ≡ true in
            subst R (sym on) (elim x as (λ y. reads_first y true s.failed s.state ≡ true → false ≡ true) [ None ↦ λ e. e | Some one ↦ λ e. e ]) in
            let clash : false ≡ true = none s.polled is' s.call due in
            cc

        at_first : stage ≡ At First
        at_first =
            let F : Option Call → Type 0 = λ x. Follows builds coding outcomes left old s v x stage answers in
            first_stage builds coding outcomes left old s v c.part stage answers (subst F c.is follows.1.0) (unpolled s.polled refl)

        -- the call waits, and begins anew
        waits : w ≡ c.middle → call' ≡ Some c.part → stage' ≡ stage → course' ≡ at_rest → result ≡ None → Later zero c.middle (Start c.part ∷ []) (given_answer result)
        waits same is' stays resting none =
            let W : SessionValue → Type 0 = λ x. Happened depth zero c.middle (Start c.part ∷ []) x call' stage' course' (given_answer result) in
            let C : Option Call → Type 0 = λ x. Happened depth zero c.middle (Start c.part ∷ []) c.middle x stage' course' (given_answer result) in
            let T : Stage → Type 0 = λ x. Happened depth zero c.middle (Start c.part ∷ []) c.middle (Some c.part) x course' (given_answer result) in
            let R : Course → Type 0 = λ x. Happened depth zero c.middle (Start c.part ∷ []) c.middle (Some c.part) (At First) x (given_answer result) in
            let N : Option Answer → Type 0 = λ x. Happened depth zero c.middle (Start c.part ∷ []) c.middle (Some c.part) (At First) at_rest (given_answer x) in
            subst W (sym same) (subst C (sym is') (subst T (sym (stays ∙ at_first)) (subst R (sym resting) (subst N (sym none) (begins_anew depth zero c.middle c.part c.given c.sound)))))

        -- no call is under way
        over : w ≡ c.middle → call' ≡ None → course' ≡ at_rest → Later zero c.middle [] []
        over same none resting =
            let W : SessionValue → Type 0 = λ x. Happened depth zero c.middle [] x call' stage' course' [] in
            subst W (sym same) (starts_script depth zero c.middle call' stage' course' none resting c.given c.sound)

        ends : (d : Bool) → EndsOrPolls d builds coding c.part call' stage stage' course' c.middle w result → EndsOrBegins d Later c.part c.middle [] (given_answer result)
        ends true (same, none, resting, is') = record { rest = []; others_are = ap given_answer is'; goes_on = over same none resting }
        ends false (happens, stays) =
            let T : Stage → Type 0 = λ x. Happens builds coding c.middle w (Some c.part) call' x stage' at_rest course' Poll result in
            polls_anew depth c.middle w c.part call' stage' course' result (subst T at_first happens) c.given c.sound

        by : (caught : Polled (Option FtpError)) → CaughtThen caught builds coding c.part call' stage stage' course' c.middle w result → BeginsThen caught Later c.part c.middle [] w (given_answer result)
        by (Ready None) then = ends (drains c.part) then
        by (Ready (Some fault)) (same, none, resting, is') = record { rest = []; others_are = ap given_answer is'; goes_on = (over same none resting, λ failed. (ap (λ x. x.channel.failed) same ∙ failed, tt)) }
        by Pending (same, is', stays, resting, none) = waits same is' stays resting none

    parts_now : (event : Event) → parts_here call course v event ≡ true → PartsHere builds coding v w call call' stage stage' course course' event result → (event ≡ Cancel → w.channel ≡ v.channel) → ScriptParts builds Later coding outcomes old form n (done ++ event ∷ []) w (answers ++ given_answer result)
    parts_now kinds.Cancel is begun same = inr (inl (drops_now is begun (same refl)))
    parts_now kinds.Poll is c same = inr (inr (catches_now is c))
    parts_now (kinds.Feed more) is none same = absurd none
    parts_now kinds.End is none same = absurd none
    parts_now (kinds.Room more) is none same = absurd none
    parts_now (kinds.Start next) is none same = absurd none
    parts_now kinds.Leave is none same = absurd none

  -- one event more
  module _ (event : Event) (v w : SessionValue) (call call' : Option Call) (stage stage' : Stage) (course course' : Course) (result : Option Answer) (stays : FailedStays v w result) (passes : Passes builds coding v w call call' stage stage' course course' event result) where
    pub one_more : (depth n : ℕ) (old : SessionValue) (done : List Event) (answers : List Answer) → still n done ≡ zero → Happened depth n old done v call stage course answers → Happened depth n old (done ++ event ∷ []) w call' stage' course' (answers ++ given_answer result)
    one_more zero n old done answers beyond so_far = tt
    one_more (suc depth) n old done answers beyond so_far = by (one_more depth) (parts_here call course v event) refl passes
      where
        Before : ℕ → SessionValue → List Event → List Answer → Type 0
        Before m after later rest = Happened depth m after later v call stage course rest

        Now : ℕ → SessionValue → List Event → List Answer → Type 0
        Now m after later rest = Happened depth m after later w call' stage' course' rest

        by : ((m : ℕ) (later : SessionValue) (done' : List Event) (rest : List Answer) → still m done' ≡ zero → Happened depth m later done' v call stage course rest → Happened depth m later (done' ++ event ∷ []) w call' stage' course' (rest ++ given_answer result)) → (b : Bool) → parts_here call course v event ≡ b → PassesIf b builds coding v w call call' stage stage' course course' event result → Happened (suc depth) n old (done ++ event ∷ []) w call' stage' course' (answers ++ given_answer result)
        by again b is does = (
          so_far.0 ++ grown.0,
          net_events-append (plain builds) so_far.0 grown.0 old.net v.net w.net so_far.1 grown.1,
          λ form left waits lawful.
              let all : outcomes_of (so_far.0 ++ grown.0) ++ left ≡ outcomes_of so_far.0 ++ (outcomes_of grown.0 ++ left) = outcomes_on so_far.0 grown.0 left in
              let L : List NetOutcome → Type 0 = λ o. Lawful coding (start_of old o) n (script_of old form) (done ++ event ∷ []) in
              let R : List NetOutcome → Type 0 = λ o. Follows_on o left form n old (done ++ event ∷ []) w call' stage' course' (answers ++ given_answer result) ⊎ ScriptParts builds Now coding o old form n (done ++ event ∷ []) w (answers ++ given_answer result) in
              let outcomes : List NetOutcome = outcomes_of so_far.0 ++ (outcomes_of grown.0 ++ left) in
              let here = subst L all lawful in
              subst R (sym all) (go b is does form outcomes left here (so_far.2 form (outcomes_of grown.0 ++ left) waits (lawful-front coding (start_of old outcomes) n (script_of old form) done event here))),
        )
          where
            grown : Grows builds v w
            grown = passes_grow builds coding b event stage stage' course course' v w call call' result does

            next : (x : Bool) → (is' : parts_here call course v event ≡ x) → (does' : PassesIf x builds coding v w call call' stage stage' course course' event result) → (form : ReplyForm) (outcomes left : List NetOutcome) → Lawful coding (start_of old outcomes) n (script_of old form) (done ++ event ∷ []) → Follows_on outcomes (outcomes_of (passes_grow builds coding x event stage stage' course course' v w call call' result does').0 ++ left) form n old done v call stage course answers → Follows_on outcomes left form n old (done ++ event ∷ []) w call' stage' course' (answers ++ given_answer result) ⊎ ScriptParts builds Now coding outcomes old form n (done ++ event ∷ []) w (answers ++ given_answer result)
            next false is' happens form outcomes left lawful follows =
                let s : Script = script coding (start_of old outcomes) (script_of old form) done in
                let unparted : parts s event ≡ false = parts_known builds coding outcomes (outcomes_of happens.0 ++ left) old s v call stage course answers follows.1 event ∙ is' in
                follows_more depth outcomes left old form n done answers event v w call call' stage stage' course course' result happens follows (beyond_none (still n done) s event unparted) lawful
            next true is' parted form outcomes left lawful follows =
                inr (parts_now depth outcomes (outcomes_of (passes_grow builds coding true event stage stage' course course' v w call call' result parted).0 ++ left) old form n done answers v w call call' stage stage' course course' result follows beyond event is' parted (drop_apart event parted))
              where
                drop_apart : (e : Event) → PartsHere builds coding v w call call' stage stage' course course' e result → e ≡ Cancel → w.channel ≡ v.channel
                drop_apart kinds.Cancel begun same = here_apart begun.part course stage v w begun.drops
                drop_apart kinds.Poll c same = let clash : Poll ≡ Cancel = same in cc
                drop_apart (kinds.Feed more) none same = absurd none
                drop_apart kinds.End none same = absurd none
                drop_apart (kinds.Room more) none same = absurd none
                drop_apart (kinds.Start next') none same = absurd none
                drop_apart kinds.Leave none same = absurd none

            go : (x : Bool) → (is' : parts_here call course v event ≡ x) → (does' : PassesIf x builds coding v w call call' stage stage' course course' event result) → (form : ReplyForm) (outcomes left : List NetOutcome) → Lawful coding (start_of old outcomes) n (script_of old form) (done ++ event ∷ []) → Follows_on outcomes (outcomes_of (passes_grow builds coding x event stage stage' course course' v w call call' result does').0 ++ left) form n old done v call stage course answers ⊎ ScriptParts builds Before coding outcomes old form n done v answers → Follows_on outcomes left form n old (done ++ event ∷ []) w call' stage' course' (answers ++ given_answer result) ⊎ ScriptParts builds Now coding outcomes old form n (done ++ event ∷ []) w (answers ++ given_answer result)
            go x is' does' form outcomes left lawful (inl follows) = next x is' does' form outcomes left lawful follows
            go x is' does' form outcomes left lawful (inr broke) = inr (parts_more builds coding outcomes old form n Before Now (event ∷ []) (given_answer result) v w (λ failed. let is = stays failed in (is.0, is.2)) (λ m after later others beyond' had. again m after later others beyond' had) done answers broke)

  pub next_event : (depth : ℕ) (old : SessionValue) (events : List Event) (i : ℕ) (event : Event) (v w : SessionValue) (call call' : Option Call) (stage stage' : Stage) (course course' : Course) (answers answers' : List Answer) (result : Option Answer) → i < length events → event ≡ get_or events i event → answers' ≡ answers ++ given_answer result → FailedStays v w result → Passes builds coding v w call call' stage stage' course course' event result → Happened depth zero old (take i events) v call stage course answers → Happened depth zero old (take (i + 1) events) w call' stage' course' answers'
  next_event depth old events i event v w call call' stage stage' course course' answers answers' result inside is pushed stays passes so_far =
      let done : take (i + 1) events ≡ take i events ++ event ∷ [] = take_more events i event inside ∙ ap (λ e. take i events ++ e ∷ []) (sym is) in
      let P : List Event → Type 0 = λ l. Happened depth zero old l w call' stage' course' answers' in
      let Q : List Answer → Type 0 = λ a. Happened depth zero old (take i events ++ event ∷ []) w call' stage' course' a in
      subst P (sym done) (subst Q (sym pushed) (one_more event v w call call' stage stage' course course' result stays passes depth zero old (take i events) answers (still_none (take i events)) so_far))

  -- the call under way is dropped at the end
  pub record AtEnd (v new : SessionValue) (call : Option Call) (stage : Stage) (course : Course) : Type 0 where
    pub course' : Course
    pub drops : PassesIf (drops_begun call course.polled) builds coding v new call None stage stage course course' Cancel None
    pub channel : new.channel ≡ v.channel
    pub stays : drops_begun call course.polled ≡ false → leaves_dropped call course.leaving ≡ false → new ≡ v

  pub at_end : (v new : SessionValue) (call : Option Call) (stage : Stage) (course course' : Course) → DropsCall call course stage v new course' → AtEnd v new call stage course
  at_end v new call stage course course' drops = record {
    course' = course';
    drops = drop_passes builds coding call stage course course' v new drops;
    channel = dropped_apart call course course' stage v new drops;
    stays = dropped_stays call course course' stage v new drops;
  }

  abbrev no_call : Option Call
  no_call = None

  module _ (v new : SessionValue) (call : Option Call) (stage : Stage) (course : Course) (end : AtEnd v new call stage course) where
    abbrev grown_by : (b : Bool) → PassesIf b builds coding v new call None stage stage course end.course' Cancel None → Grows builds v new
    grown_by b does = passes_grow builds coding b Cancel stage stage course end.course' v new call None None does

    abbrev grows : Grows builds v new
    grows = grown_by (drops_begun call course.polled) end.drops

    -- the session stands where the script does; and where it does after a Cancel, or the call has begun that is dropped
    ends_at : (outcomes left : List NetOutcome) (old : SessionValue) (s : Script) (answers : List Answer) → Attended builds coding outcomes (outcomes_of grows.0 ++ left) old s v call stage course answers → EndsAt builds coding outcomes old s new answers
    ends_at outcomes left old s answers (f, attends) = record {
      last = v;
      at = holds_at outcomes (outcomes_of grows.0 ++ left) old s v call stage answers f;
      drops = let D : Bool → Type 0 = λ b. DropsIf b builds coding outcomes old s v new answers in subst D (sym (drops_known builds coding outcomes (outcomes_of grows.0 ++ left) old s v call stage course answers (f, attends))) (by (drops_begun call course.polled) refl end.drops (f, attends));
    }
      where
        free : (happens : Happens builds coding v new call None stage stage course end.course' Cancel None) → Attended builds coding outcomes (outcomes_of happens.0 ++ left) old s v call stage course answers → HoldsAt builds outcomes old (dropped coding (start_of old outcomes) s.call s) new answers
        free happens attended = go (happens.2 outcomes left old s answers attended tt)
          where
            go : Attended builds coding outcomes left old (after_event coding (start_of old outcomes) s Cancel) new None stage end.course' (answers ++ []) ⊎ (AbortsPart builds coding outcomes old s answers new None × (no_call ≡ None) × (end.course' ≡ at_rest) × (Cancel ≡ Poll)) → HoldsAt builds outcomes old (dropped coding (start_of old outcomes) s.call s) new answers
            go (inl g) =
                let A : List Answer → Type 0 = λ a. HoldsAt builds outcomes old (dropped coding (start_of old outcomes) s.call s) new a in
                subst A (append-nil answers) (holds_at outcomes left old (dropped coding (start_of old outcomes) s.call s) new None stage (answers ++ []) g.0)
            go (inr broke) = let clash : Cancel ≡ Poll = broke.3 in cc

        by : (b : Bool) → drops_begun call course.polled ≡ b → (does : PassesIf b builds coding v new call None stage stage course end.course' Cancel None) → Attended builds coding outcomes (outcomes_of (grown_by b does).0 ++ left) old s v call stage course answers → DropsIf b builds coding outcomes old s v new answers
        by true is begun attended =
            let due : List NetOutcome = outcomes_of (grown_by true begun).0 ++ left in
            let P : Option Call → Type 0 = λ c. Attended builds coding outcomes due old s v c stage course answers in
            let B : Option Call → Type 0 = λ c. drops_begun c course.polled ≡ true in
            drops_at builds coding outcomes due old s v begun.part stage course answers (subst P begun.is attended) (subst B begun.is is) new begun.drops
        by false is happens attended = record {
          channel = end.channel;
          stays = λ none. end.stays is (sym (ap (λ c. leaves_dropped c s.leaving) f.call_is ∙ ap (leaves_dropped call) attends.leaving) ∙ none);
          drops = free happens attended;
        }

    -- what has happened is what the events result in
    pub happened_scripted : (depth n : ℕ) (old : SessionValue) (done : List Event) (answers : List Answer) → Happened depth n old done v call stage course answers → ScriptsHold builds depth coding n old done new answers
    happened_scripted zero n old done answers so_far = tt
    happened_scripted (suc depth) n old done answers so_far = (
      so_far.0 ++ grows.0,
      net_events-append (plain builds) so_far.0 grows.0 old.net v.net new.net so_far.1 grows.1,
      λ form left waits lawful.
          let all : outcomes_of (so_far.0 ++ grows.0) ++ left ≡ outcomes_of so_far.0 ++ (outcomes_of grows.0 ++ left) = outcomes_on so_far.0 grows.0 left in
          let L : List NetOutcome → Type 0 = λ o. Lawful coding (start_of old o) n (script_of old form) done in
          let R : List NetOutcome → Type 0 = λ o. ScriptHolds builds coding o old form n done new answers ⊎ ScriptParts builds (λ m after later rest. ScriptsHold builds depth coding m after later new rest) coding o old form n done new answers in
          subst R (sym all) (go (happened_scripted depth) form left (outcomes_of so_far.0 ++ (outcomes_of grows.0 ++ left)) (so_far.2 form (outcomes_of grows.0 ++ left) waits (subst L all lawful))),
    )
      where
        go : ((m : ℕ) (later : SessionValue) (done' : List Event) (rest : List Answer) → Happened depth m later done' v call stage course rest → ScriptsHold builds depth coding m later done' new rest) → (form : ReplyForm) (left outcomes : List NetOutcome) → Follows_on outcomes (outcomes_of grows.0 ++ left) form n old done v call stage course answers ⊎ ScriptParts builds (λ m after later rest. Happened depth m after later v call stage course rest) coding outcomes old form n done v answers → ScriptHolds builds coding outcomes old form n done new answers ⊎ ScriptParts builds (λ m after later rest. ScriptsHold builds depth coding m after later new rest) coding outcomes old form n done new answers
        go again form left outcomes (inl follows) = inl (record { whole = follows.0; ends = ends_at outcomes left old (script coding (start_of old outcomes) (script_of old form) done) answers follows.1 })
        go again form left outcomes (inr broke) =
            let Then : ℕ → SessionValue → List Event → List Answer → Type 0 = λ m after later rest. ScriptsHold builds depth coding m after later new rest in
            let E : List Event → Type 0 = λ e. ScriptParts builds Then coding outcomes old form n e new answers in
            let A : List Answer → Type 0 = λ a. ScriptParts builds Then coding outcomes old form n (done ++ []) new a in
            let more = parts_more builds coding outcomes old form n (λ m after later rest. Happened depth m after later v call stage course rest) Then [] [] v new (λ failed. (ap (λ c. c.failed) end.channel ∙ failed, tt)) (λ m after later others beyond had.
            let F : List Event → Type 0 = λ e. Then m after e (others ++ []) in
            let B : List Answer → Type 0 = λ a. Then m after later a in
            subst F (sym (append-nil later)) (subst B (sym (append-nil others)) (again m after later others had))) done answers broke in
            inr (subst E (append-nil done) (subst A (append-nil answers) more))

    -- what happened beside the control connection by then
    pub has_grown : (old : SessionValue) (done : List Event) (answers : List Answer) → ((depth : ℕ) → Happened depth zero old done v call stage course answers) → Grows builds old new
    has_grown old done answers so_far =
        let all = so_far (suc zero) in
        (all.0 ++ grows.0, net_events-append (plain builds) all.0 grows.0 old.net v.net new.net all.1 grows.1)

    -- no event is left
    pub all_events : (old : SessionValue) (events : List Event) (i : ℕ) (answers : List Answer) → length events ≤ i → ((depth : ℕ) → Happened depth zero old (take i events) v call stage course answers) → IsScripted builds coding old events new answers
    all_events old events i answers past so_far = λ depth.
        let P : List Event → Type 0 = λ e. ScriptsHold builds depth coding zero old e new answers in
        subst P (take_all i events past) (happened_scripted depth zero old (take i events) answers (so_far depth))

    -- a session fails only where a call does
    pub fails_by_then : (old : SessionValue) (answers : List Answer) → FailsWith old v answers → FailsWith old new answers
    fails_by_then old answers fails = λ failed. fails (sym (ap (λ c. c.failed) end.channel) ∙ failed)

    -- memory ran out for the bytes of the next event
    pub stops_at : (old : SessionValue) (events : List Event) (i : ℕ) (event : Event) (answers : List Answer) → i < length events → event ≡ get_or events i event → IsFeed event → ((depth : ℕ) → Happened depth zero old (take i events) v call stage course answers) → StopsAtFeed builds coding old events new
    stops_at old events i event answers inside is feed so_far =
        let left : drop i events ≡ event ∷ drop (i + 1) events = drop_more events i event inside ∙ ap (λ e. e ∷ drop (i + 1) events) (sym is) in
        record {
          before = take i events;
          bytes = feed.bytes;
          later = drop (i + 1) events;
          split = sym (take-append-drop i events) ∙ ap (λ l. take i events ++ l) (left ∙ ap (λ e. e ∷ drop (i + 1) events) feed.is);
          answers = answers;
          scripted = λ depth. happened_scripted depth zero old (take i events) answers (so_far depth);
        }

  pub at_most_one : (answer : Option Answer) → length (given_answer answer) ≤ 1
  at_most_one None = omega arith
  at_most_one (Some answer) = omega arith

-- what holds where a call failed goes on to what follows from it
pub where_failed : (T E A B : Type 0) (result : Result T E) → (A → B) → OnErr result A → OnErr result B
where_failed T E A B (Ok value) more held = tt
where_failed T E A B (Err error) more held = more held
