-- Lemmas on polls after the last reply of a transfer that was left.
use Rattle.std.proofs.Common.{◌≡◌, ◌||◌, Bool, true, false, cond, Option, Some, None, List, [], ◌∷◌, ◌++◌, length, inl, inr, ◌⊎◌, refl, ap, sym, ◌∙◌, subst, Result, Ok, Err}
use Rattle.futures.specs.declared.task.Poll.{Poll}
use Rattle.futures.specs.declared.task.Poll.TheVariants.{Ready, Pending}
use Rattle.ftp_base.specs.declared.types.reply.Response.{Response}
use Rattle.ftp_base.specs.declared.types.fault.FtpError.{FtpError}
use Rattle.ftp_control.specs.declared.control.outcome.Outcome.{Outcome}
use Rattle.ftp_control.specs.declared.control.outcome.Outcome.TheVariants.{Whole, Bad, TooLarge, Ended, Waits}
use Rattle.ftp_transport.specs.declared.room.Room.{Room}
use Rattle.ftp_transport.specs.declared.room.Room.TheVariants.{Any}
use Rattle.ftp_control.specs.Grammar.{left_by, outcome}
use Rattle.ftp_control.specs.Answer.{expected_reply, is_among}
use Rattle.ftp_base.specs.Status.{status_of}
use Rattle.ftp_base.specs.declared.status.Status.{Status}
use Rattle.ftp_base.specs.declared.status.Status.TheVariants.{ClosingDataConnection, RequestedFileActionOk}
use Rattle.ftp_base.specs.declared.types.fault.FtpError.TheVariants as faults
use Rattle.ftp_base.specs.declared.types.fault.ConnectionError.TheVariants as connection
use Rattle.ftp_calls.specs.declared.call.Answer.{Answer}
use Rattle.ftp_calls.specs.declared.call.Answer.TheVariants.{Unit as Nothing, Fault}
use Rattle.ftp_calls.specs.declared.call.Call.{Call}
use Rattle.ftp_calls.specs.declared.call.Call.TheVariants.{Drain}
use Rattle.ftp_calls.specs.declared.exchange.Ending.TheVariants.{Drains}
use Rattle.ftp_calls.specs.declared.exchange.Turn.TheVariants.{First}
use Rattle.ftp_calls.specs.Exchanges.{drains_first}
use Rattle.ftp_dialogue.specs.Coding.{Coding}
use Rattle.ftp_dialogue.specs.NetEvents.{NetEvent, NetEvents, outcomes_of}
use Rattle.ftp_dialogue.specs.Dialogue.{answer_to_fault, entered, expecting, later, Expected, Tree, Hear, Leaf, concluded, dialogue, wants_memory, with_drained}
use Rattle.ftp_dialogue.specs.Link.{Builds, over_memory, plain}
use Rattle.ftp_dialogue.specs.Play.{Taken, finally, heard_then, is_due, is_unit, play, taken}
use Rattle.ftp_dialogue.specs.Promises.{FailsWith, HasFault, IsFault, begun_by, due_of, refusal_of, play_state, Keeps}
use Rattle.ftp_dialogue.specs.Resuming.{Resumes, Silent, modes_of}
use Rattle.ftp_runs.specs.Script.{is_over, start_of, unread, draining, drained_as, drained_to, last_of, poll_if, poll_next, poll_script, polled_as, run_with, succeeded, without_call, MayPoll, MayPollIf, MayPollNext}
use Rattle.ftp_runs.specs.Scripted.{AreRefused, IsDrained, IsPolledIf, IsPolled}
use Rattle.ftp_dialogue.specs.Sound.{none_left}
use Rattle.ftp_dialogue.specs.State.{SessionValue}
use Rattle.ftp_dialogue.specs.declared.model.NetOutcome.{NetOutcome}
use Rattle.ftp_dialogue.specs.declared.model.Played.{Played}
use Rattle.ftp_dialogue.specs.declared.model.Played.TheVariants as played
use Rattle.ftp_dialogue.specs.declared.model.Wait.TheVariants as wait
use Rattle.ftp_runs.specs.declared.model.Ran.{Ran}
use Rattle.ftp_runs.specs.declared.model.Ran.TheVariants.{Finished, Waiting}
use Rattle.ftp_runs.specs.declared.model.Script.{Script}
use Rattle.ftp_dialogue.specs.declared.model.PlayState.{PlayState}
use Rattle.ftp_dialogue.specs.declared.stage.Stage.{Stage}
use Rattle.ftp_dialogue.specs.declared.stage.Stage.TheVariants.{At}
use Rattle.ftp_dialogue.specs.declared.state.Owed.{Owed}
use Rattle.ftp_dialogue.specs.declared.state.Owed.TheVariants as owed
use Rattle.ftp_dialogue.specs.declared.state.State.{State}
use Rattle.ftp_runs.specs.Following.{AbortsAt, AbortsCall, DrainsHere, Follows, Place, PollsHere, PollsNext, PollsNextIf, Started, ThenPolls, ThenPollsIf}
use Rattle.ftp_dialogue.specs.Steps.Polls.{polled_answer}
use Rattle.ftp_dialogue.specs.Steps.Moving.{PollsTo}
use Rattle.ftp_dialogue.specs.Steps.Stages.{remaining}
use Rattle.ftp_runs.proofs.Carried.{outcomes_on}
use Rattle.ftp_dialogue.proofs.NetEvents.{net_events-append}
use Rattle.ftp_dialogue.proofs.DrainingLemmas.{due_taken, failed_undue, not_first, unit_is}
use Rattle.ftp_runs.proofs.EventLemmas.{begins_call, cancels, polls_here_fail}
use Rattle.ftp_runs.proofs.Following.{Goes_on, Kept, PollFollows, here, placed, poll_happens}
use Rattle.ftp_dialogue.proofs.Hearing.{nothing_resumes, play-Hear}
use Rattle.ftp_dialogue.proofs.Moving.{Finishes, finishes as finishes_by, play-Leaf}
use Rattle.ftp_runs.proofs.HiddenCalls.{done as done_hidden, hidden_before, hidden_ran}
use Rattle.ftp_dialogue.proofs.TransitionsLemmas.{given_by}

-- the last of several answers
last-snoc : (first : Answer) (answers : List Answer) (answer : Answer) → last_of first (answers ++ answer ∷ []) ≡ answer
last-snoc first [] answer = refl
last-snoc first (next ∷ answers) answer = last-snoc next answers answer

succeeded-snoc : (answers : List Answer) (answer : Answer) → succeeded (answers ++ answer ∷ []) ≡ is_unit answer
succeeded-snoc [] answer = refl
succeeded-snoc (first ∷ answers) answer = ap is_unit (last-snoc first answers answer)

-- After a drain nothing is owed that was left

drained_owed : (o : Owed) (state : State) → state.counts.owed ≡ o → none_left (with_drained state).counts.owed ≡ true
drained_owed o state is = go o is
  where
    go : (o : Owed) → state.counts.owed ≡ o → none_left (with_drained state).counts.owed ≡ true
    go owed.Nothing is = rw is refl
    go other is = rw is refl

-- where the drain is over, it has changed the state so
abbrev state_in : Played → State
state_in (played.Done answer s) = s.state
state_in (played.Pending wait s) = s.state

-- what a run hears in place of a reply isn't that memory ran out
abbrev Remembered : Result Response FtpError → Type 0
Remembered (Ok reply) = Unit {0}
Remembered (Err fault) = wants_memory fault ≡ false

remembered : (statuses : List Status) (reply : Response) → Remembered (expected_reply statuses reply)
remembered statuses reply = elim (is_among statuses reply.status) as (λ b. Remembered (cond b (Ok reply) (Err (faults.UnexpectedResponse reply)))) [
  | true ↦ tt
  | false ↦ refl
]

drained_state : (coding : Coding) (room : Room) (expected : Expected) (state : State) (later : State → Tree) (s t : PlayState) (answer : Answer) → finally (play room (Hear expected (concluded coding Drains state later)) s) ≡ played.Done answer t → t.state ≡ with_drained state
drained_state coding room expected state later s t answer is = go (outcome s.state.settings.reply_rule expected.form s.bytes s.ended) (sym (ap finally (play-Hear room expected (concluded coding Drains state later) s)) ∙ is)
  where
    next : Result Response FtpError → Tree
    next = concluded coding Drains state later

    leaf : (u : PlayState) (told : Answer) → finally (play room (Leaf told (with_drained state)) u) ≡ played.Done answer t → t.state ≡ with_drained state
    leaf u told done = sym (ap state_in (sym (ap finally (play-Leaf room told (with_drained state) u)) ∙ done))

    heard : (u : PlayState) (result : Result Response FtpError) → Remembered result → finally (play room (next result) u) ≡ played.Done answer t → t.state ≡ with_drained state
    heard u (Ok reply) had done = leaf u Nothing done
    heard u (Err fault) had done = leaf u (answer_to_fault Drains fault) (sym (ap (λ b. finally (play room (Leaf (answer_to_fault Drains fault) (cond b state (with_drained state))) u)) had) ∙ done)

    go : (o : Outcome) → finally (heard_then o expected s (λ heard u. play room (next heard) u)) ≡ played.Done answer t → t.state ≡ with_drained state
    go (Whole reply code) done = heard (taken (left_by (Whole reply code) s.bytes) s) (expected_reply expected.statuses (record { status = status_of code; body = reply })) (remembered expected.statuses (record { status = status_of code; body = reply })) done
    go (Bad line) done = heard (taken (left_by (Bad line) s.bytes) s) (Err faults.BadResponse) refl done
    go TooLarge done = heard (record (taken (left_by TooLarge s.bytes) s) { failed = true }) (Err (faults.ConnectionError connection.ReplyTooLarge)) refl done
    go Ended done = heard (record (taken (left_by Ended s.bytes) s) { failed = true }) (Err (faults.ConnectionError connection.UnexpectedEof)) refl done
    go Waits done = let clash : played.Pending (wait.Bytes expected.form) s ≡ played.Done answer t = done in cc

module _ (builds : Builds) (coding : Coding) (outcomes : List NetOutcome) where
  -- a drain is due before the call under way
  module _ (due : List NetOutcome) (old : SessionValue) (s : Script) (v : SessionValue) (call : Call) (stage : Stage) (answers : List Answer) (f : Follows builds coding outcomes due old s v (Some call) stage answers) (is_due' : due_of call v ≡ true) where
    abbrev start : PlayState
    start = start_of old outcomes

    started : Started coding old s f.came f.answered v call stage
    started = go f.place
      where
        go : Place coding old s f.came f.answered v (Some call) stage → Started coding old s f.came f.answered v call stage
        go (inl started) = started
        go (inr (inl u)) = let clash : true ≡ false = sym is_due' ∙ u.undue in cc
        go (inr (inr u)) = let clash : true ≡ false = sym is_due' ∙ u.undue in cc

    due_in : is_due call s.failed s.state.counts.owed ≡ true
    due_in = ap (λ b. is_due call b s.state.counts.owed) f.failed ∙ ap (λ x. is_due call v.channel.failed x.counts.owed) f.state ∙ is_due'

    -- the drain is polled in its place
    pub drains : Follows builds coding outcomes due old (draining s) v (Some Drain) (At First) answers
    drains =
        begins_call builds coding outcomes due old (without_call s) v Drain stage answers (cancels builds coding outcomes due old s v (Some call) stage stage answers f (inl started.unpolled))

    may_drain : MayPollNext coding start s.call s → MayPoll coding start (Some Drain) (draining s)
    may_drain may =
        let M : Option Call → Type 0 = λ c. MayPollNext coding start c s in
        let N : Bool → Type 0 = λ b. MayPollIf b coding start call s in
        subst N due_in (subst M f.call_is may)

    next_is : poll_next coding start s.call s ≡ drained_as coding start call s (run_with coding start Drain (draining s))
    next_is = ap (λ c. poll_next coding start c s) f.call_is ∙ ap (λ b. poll_if b coding start call s) due_in

    polled_is : (here : Script) → IsPolledIf true coding start call s here → IsPolled coding start s.call s here
    polled_is here is =
        let P : Option Call → Type 0 = λ c. IsPolled coding start c s here in
        let Q : Bool → Type 0 = λ b. IsPolledIf b coding start call s here in
        subst P (sym f.call_is) (subst Q (sym due_in) is)

    abbrev Next : SessionValue → Option Call → Stage → List Answer → List NetOutcome → Type 0
    Next w call' stage' answers' left = Follows builds coding outcomes left old (poll_next coding start s.call s) w call' stage' answers'

    to_next : (w : SessionValue) (call' : Option Call) (stage' : Stage) (answers' : List Answer) (left : List NetOutcome) → Follows builds coding outcomes left old (drained_as coding start call s (run_with coding start Drain (draining s))) w call' stage' answers' → Next w call' stage' answers' left
    to_next w call' stage' answers' left there =
        let P : Script → Type 0 = λ x. Follows builds coding outcomes left old x w call' stage' answers' in
        subst P (sym next_is) there

    -- the drain waits, and so does the call
    waits_too : (left : List NetOutcome) (w : SessionValue) (at : Stage) → Follows builds coding outcomes left old (poll_script coding start (Some Drain) (draining s)) w (Some Drain) at answers → Next w (Some call) (At First) answers left × ((poll_next coding start s.call s).polled ≡ false)
    waits_too left w at there =
        let P : Script → Type 0 = Waits_at in
        subst P (sym next_is) (go (run_with coding start Drain (draining s)) there)
      where
        Waits_at : Script → Type 0
        Waits_at = λ x. Follows builds coding outcomes left old x w (Some call) (At First) answers × (x.polled ≡ false)

        go : (r : Ran) → Follows builds coding outcomes left old (polled_as r Drain (draining s)) w (Some Drain) at answers → Waits_at (drained_as coding start call s r)
        go (Finished all t) g = let clash : None ≡ Some Drain = g.call_is in cc
        go (Waiting all wait t) g =
            let after : Script = polled_as (Waiting all wait t) Drain (draining s) in
            (begins_call builds coding outcomes left old (without_call after) w call at answers (cancels builds coding outcomes left old after w (Some Drain) at at answers g (inr refl)), refl)

    -- its error is the call's answer
    fails_too : (left : List NetOutcome) (w : SessionValue) (at stage' : Stage) (first : Answer) → is_unit first ≡ false → Follows builds coding outcomes left old (poll_script coding start (Some Drain) (draining s)) w None at (answers ++ first ∷ []) → Next w None stage' (answers ++ first ∷ []) left
    fails_too left w at stage' first fault there = to_next w None stage' (answers ++ first ∷ []) left (go (run_with coding start Drain (draining s)) there)
      where
        go : (r : Ran) → Follows builds coding outcomes left old (polled_as r Drain (draining s)) w None at (answers ++ first ∷ []) → Follows builds coding outcomes left old (drained_as coding start call s r) w None stage' (answers ++ first ∷ [])
        go (Waiting all wait t) g = let clash : Some Drain ≡ None = g.call_is in cc
        go (Finished all t) g =
            let done : Script = polled_as (Finished all t) Drain (draining s) in
            let P : Bool → Type 0 = λ b. Follows builds coding outcomes left old (cond b (poll_script coding start (Some call) (drained_to call s done)) done) w None stage' (answers ++ first ∷ []) in
            subst P (sym (ap succeeded g.answers_are ∙ succeeded-snoc answers first ∙ fault)) (cancels builds coding outcomes left old done w None at stage' (answers ++ first ∷ []) g tt)

    -- the drain is aborted
    aborts_too : (w : SessionValue) (result : Option Answer) → AbortsCall builds coding Drain (At First) v w result → AbortsAt builds coding outcomes old s answers w result
    aborts_too w result aborts = record { here = draining s; polled = polled_is (draining s) (inl refl); leaving = refl; left = due; middle = v; part = Drain; stage = At First; follows = drains; aborts = aborts }

  -- the drain is over, and the call is polled
  module _ (left : List NetOutcome) (old : SessionValue) (s : Script) (v w : SessionValue) (call : Call) (stage at : Stage) (answers : List Answer) (ends : Finishes (over_memory builds) (dialogue coding Drain v.state) Nothing (begun_by Drain v) w) (f : Follows builds coding outcomes (outcomes_of ends.answered ++ left) old s v (Some call) stage answers) (is_due' : due_of call v ≡ true) (may : MayPollNext coding (start_of old outcomes) s.call s) (polled : PollsHere builds coding Drain (At First) at v w (Ready Nothing)) where
    abbrev due : List NetOutcome
    due = outcomes_of ends.answered ++ left

    abbrev from_here : PlayState
    from_here = start_of old outcomes

    d : Follows builds coding outcomes due old (draining s) v (Some Drain) (At First) answers
    d = drains due old s v call stage answers f is_due'

    takes : refusal_of Drain v ≡ Taken
    takes = due_taken call v is_due'

    resumes : Resumes (modes_of v) v.channel.kept (dialogue coding Drain v.state)
    resumes = go (placed builds coding outcomes due old (draining s) v Drain (At First) answers d (may_drain due old s v call stage answers f is_due' may) takes)
      where
        go : Goes_on builds coding outcomes old (draining s) d.came d.answered v Drain (At First) ⊎ Kept builds coding outcomes old (draining s) d.came d.answered v Drain (At First) → Resumes (modes_of v) v.channel.kept (dialogue coding Drain v.state)
        go (inl from) = from.resumes
        go (inr from) = let clash : true ≡ false = from.plain in cc

    abbrev done : Script
    done = done_hidden builds coding outcomes left Drain Nothing old s v w at answers ends d takes resumes polled

    ran : run_with coding from_here Drain (draining s) ≡ Finished (s.answers ++ Nothing ∷ []) (play_state w (unread w.channel.told) (is_over w.channel.told) left)
    ran = hidden_ran builds coding outcomes left Drain Nothing old s v w at answers ends d takes resumes polled

    over : Follows builds coding outcomes left old (drained_to call s done) w (Some call) (At First) answers
    over = hidden_before builds coding outcomes left Drain Nothing old s v w at answers ends d takes resumes polled call

    over_is : poll_next coding from_here s.call s ≡ poll_script coding from_here (Some call) (drained_to call s done)
    over_is =
        next_is due old s v call stage answers f is_due'
        ∙ ap (drained_as coding from_here call s) ran
        ∙ ap (λ b. cond b (poll_script coding from_here (Some call) (drained_to call s done)) done) (succeeded-snoc s.answers Nothing)

    is_drained : IsPolled coding from_here s.call s (drained_to call s done)
    is_drained =
        let P : Ran → Type 0 = λ r. IsDrained r call s (drained_to call s done) in
        polled_is due old s v call stage answers f is_due' (drained_to call s done) (inr (subst P (sym ran) (succeeded-snoc s.answers Nothing, refl)))

    -- nothing is kept, and no other drain is due
    kept_none : w.channel.kept ≡ []
    kept_none = go ends.keeps
      where
        go : Keeps (Silent v.state w.state (dialogue coding Drain v.state)) ends.came (begun_by Drain v) w → w.channel.kept ≡ []
        go (inl none) = none
        go (inr same) = absurd same.3

    may_then : MayPoll coding from_here (Some call) (drained_to call s done)
    may_then unheard going =
        let seen : (drained_to call s done).seen ≡ 0 = over.seen ∙ ap length kept_none in
        inr (inl (rw seen (nothing_resumes (drained_to call s done).state.settings.reply_rule (dialogue coding call (drained_to call s done).state))))

    undue_then : due_of call w ≡ false
    undue_then = go (none_left w.state.counts.owed) refl
      where
        left_none : none_left w.state.counts.owed ≡ true
        left_none =
            let plays = ends.plays tt resumes Any [] w.channel.ended [] tt (record { nothing = λ e. refl; over = λ e. e }) in
            let state = drained_state coding Any (expecting (ClosingDataConnection ∷ RequestedFileActionOk ∷ [])) v.state (later coding Drain First) (play_state (begun_by Drain v) (ends.came ++ []) w.channel.ended (outcomes_of ends.answered ++ [])) (play_state w [] w.channel.ended []) Nothing plays in
            ap (λ x. none_left x.counts.owed) state ∙ drained_owed v.state.counts.owed v.state refl

        go : (b : Bool) → none_left w.state.counts.owed ≡ b → due_of call w ≡ false
        go false is = let clash : false ≡ true = sym is ∙ left_none in cc
        go true is = stop (w.channel.failed || none_left w.state.counts.owed) (either w.channel.failed is)
          where
            either : (b : Bool) → none_left w.state.counts.owed ≡ true → (b || none_left w.state.counts.owed) ≡ true
            either true is = refl
            either false is = is

            stop : (b : Bool) → b ≡ true → cond b false (drains_first call) ≡ false
            stop true is = refl
            stop false is = let clash : false ≡ true = is in cc

-- what a poll makes of a script, the drain before it included
abbrev pub NextFollows : Builds → Coding → List NetOutcome → List NetOutcome → SessionValue → Script → SessionValue → Call → Stage → Bool → List Answer → Poll Answer → Type 0
NextFollows builds coding outcomes left old s w call stage' polled' answers (Ready answer) =
    Follows builds coding outcomes left old (poll_next coding (start_of old outcomes) s.call s) w None stage' (answers ++ answer ∷ []) ⊎ AbortsAt builds coding outcomes old s answers w (Some answer)
NextFollows builds coding outcomes left old s w call stage' polled' answers Pending =
    Follows builds coding outcomes left old (poll_next coding (start_of old outcomes) s.call s) w (Some call) stage' answers × ((poll_next coding (start_of old outcomes) s.call s).polled ≡ polled')

abbrev pub NextHappens : Builds → Coding → Call → Stage → Stage → Bool → SessionValue → SessionValue → Poll Answer → Type 0
NextHappens builds coding call stage stage' polled' v w result =
    (answered : List NetEvent) × NetEvents (plain builds) answered v.net w.net × ((outcomes left : List NetOutcome) (old : SessionValue) (s : Script) (answers : List Answer) → Follows builds coding outcomes (outcomes_of answered ++ left) old s v (Some call) stage answers → MayPollNext coding (start_of old outcomes) s.call s → NextFollows builds coding outcomes left old s w call stage' polled' answers result)

module _ (builds : Builds) (coding : Coding) (call : Call) where
  -- a call that waits was polled
  polled_on : (outcomes left : List NetOutcome) (old : SessionValue) (s : Script) (w : SessionValue) (stage' : Stage) (answers : List Answer) → Follows builds coding outcomes left old (poll_script coding (start_of old outcomes) (Some call) s) w (Some call) stage' answers → (poll_script coding (start_of old outcomes) (Some call) s).polled ≡ true
  polled_on outcomes left old s w stage' answers follows = go (run_with coding (start_of old outcomes) call s) follows
    where
      go : (r : Ran) → Follows builds coding outcomes left old (polled_as r call s) w (Some call) stage' answers → (polled_as r call s).polled ≡ true
      go (Finished all t) f = let clash : None ≡ Some call = f.call_is in cc
      go (Waiting all wait t) f = refl

  -- no drain is due
  module _ (outcomes left due : List NetOutcome) (old : SessionValue) (s : Script) (v w : SessionValue) (stage stage' : Stage) (answers : List Answer) (f : Follows builds coding outcomes due old s v (Some call) stage answers) (undue : due_of call v ≡ false) where
    undue_in : is_due call s.failed s.state.counts.owed ≡ false
    undue_in = ap (λ b. is_due call b s.state.counts.owed) f.failed ∙ ap (λ x. is_due call v.channel.failed x.counts.owed) f.state ∙ undue

    may_call : MayPollNext coding (start_of old outcomes) s.call s → MayPoll coding (start_of old outcomes) (Some call) s
    may_call may =
        let M : Option Call → Type 0 = λ c. MayPollNext coding (start_of old outcomes) c s in
        let N : Bool → Type 0 = λ b. MayPollIf b coding (start_of old outcomes) call s in
        subst N undue_in (subst M f.call_is may)

    is_script : poll_next coding (start_of old outcomes) s.call s ≡ poll_script coding (start_of old outcomes) (Some call) s
    is_script = ap (λ c. poll_next coding (start_of old outcomes) c s) f.call_is ∙ ap (λ b. poll_if b coding (start_of old outcomes) call s) undue_in

    aborts_here : (answer : Answer) → AbortsCall builds coding call stage v w (Some answer) → AbortsAt builds coding outcomes old s answers w (Some answer)
    aborts_here answer aborts =
        let P : Option Call → Type 0 = λ c. IsPolled coding (start_of old outcomes) c s s in
        let Q : Bool → Type 0 = λ b. IsPolledIf b coding (start_of old outcomes) call s s in
        record { here = s; polled = subst P (sym f.call_is) (subst Q (sym undue_in) refl); leaving = refl; left = due; middle = v; part = call; stage = stage; follows = f; aborts = aborts }

    undue_follows : (polled' : Bool) → polled' ≡ true → (result : Poll Answer) → PollFollows builds coding outcomes left old s v w call stage stage' answers result → NextFollows builds coding outcomes left old s w call stage' polled' answers result
    undue_follows polled' is (Ready answer) (inl follows) =
        let S : Script → Type 0 = λ x. Follows builds coding outcomes left old x w None stage' (answers ++ answer ∷ []) in
        inl (subst S (sym is_script) follows)
    undue_follows polled' is (Ready answer) (inr aborts) = inr (aborts_here answer aborts)
    undue_follows polled' is Pending follows =
        let S : Script → Type 0 = λ x. Follows builds coding outcomes left old x w (Some call) stage' answers × (x.polled ≡ polled') in
        subst S (sym is_script) (follows, polled_on outcomes left old s w stage' answers follows ∙ sym is)

  undue_happens : (stage stage' : Stage) (polled' : Bool) (v w : SessionValue) (result : Poll Answer) → due_of call v ≡ false → polled' ≡ true → PollsHere builds coding call stage stage' v w result → NextHappens builds coding call stage stage' polled' v w result
  undue_happens stage stage' polled' v w result undue is here =
      let happens = poll_happens builds coding call stage stage' v w result here in (
        happens.0,
        happens.1,
        λ outcomes left old s answers f may.
            let due : List NetOutcome = outcomes_of happens.0 ++ left in
            undue_follows outcomes left due old s v w stage stage' answers f undue polled' is result (happens.2 outcomes left old s answers f (may_call outcomes left due old s v w stage stage' answers f undue may) undue),
      )

  -- a drain is due, and isn't over
  module _ (stage at : Stage) (v w : SessionValue) (is_due' : due_of call v ≡ true) where
    drain_undue : due_of Drain v ≡ false
    drain_undue = not_first Drain v.channel.failed v.state.counts.owed refl

    pending_happens : PollsHere builds coding Drain (At First) at v w Pending → NextHappens builds coding call stage stage false v w Pending
    pending_happens here =
        let happens = poll_happens builds coding Drain (At First) at v w Pending here in (
          happens.0,
          happens.1,
          λ outcomes left old s answers f may.
              let due : List NetOutcome = outcomes_of happens.0 ++ left in
              let P : Stage → Type 0 = λ x. Follows builds coding outcomes left old (poll_next coding (start_of old outcomes) s.call s) w (Some call) x answers × ((poll_next coding (start_of old outcomes) s.call s).polled ≡ false) in
              subst P (sym (started builds coding outcomes due old s v call stage answers f is_due').at) (waits_too builds coding outcomes due old s v call stage answers f is_due' left w at (happens.2 outcomes left old (draining s) answers (drains builds coding outcomes due old s v call stage answers f is_due') (may_drain builds coding outcomes due old s v call stage answers f is_due' may) drain_undue)),
        )

    fault_happens : (stage' : Stage) (polled' : Bool) (first : Answer) → is_unit first ≡ false → PollsHere builds coding Drain (At First) at v w (Ready first) → NextHappens builds coding call stage stage' polled' v w (Ready first)
    fault_happens stage' polled' first fault here =
        let happens = poll_happens builds coding Drain (At First) at v w (Ready first) here in (
          happens.0,
          happens.1,
          λ outcomes left old s answers f may.
              let due : List NetOutcome = outcomes_of happens.0 ++ left in
              go outcomes left due old s answers f (happens.2 outcomes left old (draining s) answers (drains builds coding outcomes due old s v call stage answers f is_due') (may_drain builds coding outcomes due old s v call stage answers f is_due' may) drain_undue),
        )
      where
        go : (outcomes left due : List NetOutcome) (old : SessionValue) (s : Script) (answers : List Answer) → (f : Follows builds coding outcomes due old s v (Some call) stage answers) → PollFollows builds coding outcomes left old (draining s) v w Drain (At First) at answers (Ready first) → NextFollows builds coding outcomes left old s w call stage' polled' answers (Ready first)
        go outcomes left due old s answers f (inl follows) = inl (fails_too builds coding outcomes due old s v call stage answers f is_due' left w at stage' first fault follows)
        go outcomes left due old s answers f (inr aborts) = inr (aborts_too builds coding outcomes due old s v call stage answers f is_due' w (Some first) aborts)

  -- a drain is due, and is over
  module _ (stage stage' at : Stage) (polled' : Bool) (v middle w : SessionValue) (result : Poll Answer) (is : polled' ≡ true) (is_due' : due_of call v ≡ true) (drained : PollsHere builds coding Drain (At First) at v middle (Ready Nothing)) (here : PollsHere builds coding call stage stage' middle w result) where
    abbrev Ends : Type 0
    Ends = Finishes (over_memory builds) (dialogue coding Drain v.state) Nothing (begun_by Drain v) middle

    drain_ends : Ends
    drain_ends = go (drained.polls (due_taken call v is_due'))
      where
        go : PollsTo (over_memory builds) false (dialogue coding Drain v.state) (remaining coding Drain (entered Drain v.state) at) (begun_by Drain v) middle (Ready Nothing) → Ends
        go (last, inr aborts, lets_go) = let clash : Nothing ≡ Fault aborts.fault = aborts.is in cc
        go (last, inl done, lets_go) = finishes_by (over_memory builds) (dialogue coding Drain v.state) Nothing (begun_by Drain v) last middle lets_go done

    over_happens : NextHappens builds coding call stage stage' polled' v w result
    over_happens =
        let ends = drain_ends in
        let happens = poll_happens builds coding call stage stage' middle w result here in (
          ends.answered ++ happens.0,
          net_events-append (plain builds) ends.answered happens.0 v.net middle.net w.net (ends.goes.net_events tt) happens.1,
          λ outcomes left old s answers f may.
              let rest : List NetOutcome = outcomes_of happens.0 ++ left in
              let F : List NetOutcome → Type 0 = λ o. Follows builds coding outcomes o old s v (Some call) stage answers in
              let f' = subst F (outcomes_on ends.answered happens.0 left) f in
              let first = (started builds coding outcomes (outcomes_of ends.answered ++ rest) old s v call stage answers f' is_due').at in
              let S : Stage → Type 0 = λ x. Follows builds coding outcomes rest old (drained_to call s (done builds coding outcomes rest old s v middle call stage at answers ends f' is_due' may drained)) middle (Some call) x answers in
              let begun = subst S (sym first) (over builds coding outcomes rest old s v middle call stage at answers ends f' is_due' may drained) in
              let polled = happens.2 outcomes left old (drained_to call s (done builds coding outcomes rest old s v middle call stage at answers ends f' is_due' may drained)) answers begun (may_then builds coding outcomes rest old s v middle call stage at answers ends f' is_due' may drained) (undue_then builds coding outcomes rest old s v middle call stage at answers ends f' is_due' may drained) in
              follows outcomes left rest old s answers (drained_to call s (done builds coding outcomes rest old s v middle call stage at answers ends f' is_due' may drained)) begun (over_is builds coding outcomes rest old s v middle call stage at answers ends f' is_due' may drained) (is_drained builds coding outcomes rest old s v middle call stage at answers ends f' is_due' may drained) refl result polled,
        )
      where
        follows : (outcomes left rest : List NetOutcome) (old : SessionValue) (s : Script) (answers : List Answer) (then : Script) → Follows builds coding outcomes rest old then middle (Some call) stage answers → poll_next coding (start_of old outcomes) s.call s ≡ poll_script coding (start_of old outcomes) (Some call) then → IsPolled coding (start_of old outcomes) s.call s then → then.leaving ≡ s.leaving → (r : Poll Answer) → PollFollows builds coding outcomes left old then middle w call stage stage' answers r → NextFollows builds coding outcomes left old s w call stage' polled' answers r
        follows outcomes left rest old s answers then begun next polled keeps (Ready answer) (inl f) =
            let S : Script → Type 0 = λ x. Follows builds coding outcomes left old x w None stage' (answers ++ answer ∷ []) in
            inl (subst S (sym next) f)
        follows outcomes left rest old s answers then begun next polled keeps (Ready answer) (inr aborts) =
            inr (record { here = then; polled = polled; leaving = keeps; left = rest; middle = middle; part = call; stage = stage; follows = begun; aborts = aborts })
        follows outcomes left rest old s answers then begun next polled keeps Pending f =
            let S : Script → Type 0 = λ x. Follows builds coding outcomes left old x w (Some call) stage' answers × (x.polled ≡ polled') in
            subst S (sym next) (f, polled_on outcomes left old then w stage' answers f ∙ sym is)

  pub next_happens : (stage stage' : Stage) (polled' : Bool) (v w : SessionValue) (result : Poll Answer) → PollsNext builds coding call stage stage' polled' v w result → NextHappens builds coding call stage stage' polled' v w result
  next_happens stage stage' polled' v w result polled = go (due_of call v) refl polled.polls
    where
      go : (b : Bool) → due_of call v ≡ b → PollsNextIf b builds coding call stage stage' polled' v w result → NextHappens builds coding call stage stage' polled' v w result
      go false undue here = undue_happens stage stage' polled' v w result undue here.1 here.0
      go true is_due' d = by d.first d.drains d.then_polls
        where
          then : (b : Bool) (first : Answer) → is_unit first ≡ b → PollsHere builds coding Drain (At First) d.at v d.middle (Ready first) → ThenPollsIf b builds coding call stage stage' polled' first d.middle w result → NextHappens builds coding call stage stage' polled' v w result
          then true first unit drained polls =
              let P : Answer → Type 0 = λ a. PollsHere builds coding Drain (At First) d.at v d.middle (Ready a) in
              over_happens stage stage' d.at polled' v d.middle w result polls.1 is_due' (subst P (unit_is first unit) drained) polls.0
          then false first fault drained ends =
              let P : SessionValue → Type 0 = λ x. NextHappens builds coding call stage stage' polled' v x result in
              let Q : Poll Answer → Type 0 = λ r. NextHappens builds coding call stage stage' polled' v d.middle r in
              subst P (sym ends.1) (subst Q (sym ends.0) (fault_happens stage d.at v d.middle is_due' stage' polled' first fault drained))

          by : (first : Poll Answer) → PollsHere builds coding Drain (At First) d.at v d.middle first → ThenPolls builds coding call stage stage' polled' first d.middle w result → NextHappens builds coding call stage stage' polled' v w result
          by (Ready first) drained polls = then (is_unit first) first refl drained polls
          by Pending drained (is, same, stays, unpolled) =
              let P : SessionValue → Type 0 = λ x. NextHappens builds coding call stage stage' polled' v x result in
              let Q : Poll Answer → Type 0 = λ r. NextHappens builds coding call stage stage' polled' v d.middle r in
              let R : Stage → Type 0 = λ x. NextHappens builds coding call stage x polled' v d.middle Pending in
              let B : Bool → Type 0 = λ b. NextHappens builds coding call stage stage b v d.middle Pending in
              subst P (sym same) (subst Q (sym is) (subst R (sym stays) (subst B (sym unpolled) (pending_happens stage d.at v d.middle is_due' drained))))

  -- a poll fails the session only where the call fails
  pub next_fails : (stage stage' : Stage) (polled' : Bool) (v w : SessionValue) (result : Poll Answer) → PollsNext builds coding call stage stage' polled' v w result → FailsWith v w (given_by result)
  next_fails stage stage' polled' v w result polled = go (due_of call v) polled.polls
    where
      go : (b : Bool) → PollsNextIf b builds coding call stage stage' polled' v w result → FailsWith v w (given_by result)
      go false here = polls_here_fail builds coding call stage stage' v w result here.0
      go true d = by d.first d.drains d.then_polls
        where
          no_more : FailsWith v d.middle [] → FailsWith d.middle w (given_by result) → FailsWith v w (given_by result)
          no_more first second failed = after (second failed)
            where
              none : (v.channel.failed ≡ true) ⊎ HasFault [] → v.channel.failed ≡ true
              none (inl was) = was
              none (inr fault) = absurd fault

              after : (d.middle.channel.failed ≡ true) ⊎ HasFault (given_by result) → (v.channel.failed ≡ true) ⊎ HasFault (given_by result)
              after (inl was) = inl (none (first was))
              after (inr fault) = inr fault

          then : (b : Bool) (first : Answer) → is_unit first ≡ b → FailsWith v d.middle (first ∷ []) → ThenPollsIf b builds coding call stage stage' polled' first d.middle w result → FailsWith v w (given_by result)
          then true first unit drain polls = no_more (λ failed. unfailing (drain failed)) (polls_here_fail builds coding call stage stage' d.middle w result polls.0)
            where
              unfailing : (v.channel.failed ≡ true) ⊎ HasFault (first ∷ []) → (v.channel.failed ≡ true) ⊎ HasFault []
              unfailing (inl was) = inl was
              unfailing (inr (inl fault)) = let P : Answer → Type 0 = IsFault in absurd (subst P (unit_is first unit) fault)
              unfailing (inr (inr none)) = absurd none
          then false first fault drain ends =
              let P : SessionValue → Type 0 = λ x. FailsWith v x (given_by result) in
              let Q : Poll Answer → Type 0 = λ r. FailsWith v d.middle (given_by r) in
              subst P (sym ends.1) (subst Q (sym ends.0) drain)

          by : (first : Poll Answer) → PollsHere builds coding Drain (At First) d.at v d.middle first → ThenPolls builds coding call stage stage' polled' first d.middle w result → FailsWith v w (given_by result)
          by (Ready first) drained polls = then (is_unit first) first refl (polls_here_fail builds coding Drain (At First) d.at v d.middle (Ready first) drained) polls
          by Pending drained polls =
              let P : SessionValue → Type 0 = λ x. FailsWith v x (given_by result) in
              let Q : Poll Answer → Type 0 = λ r. FailsWith v d.middle (given_by r) in
              subst P (sym polls.1) (subst Q (sym polls.0) (polls_here_fail builds coding Drain (At First) d.at v d.middle Pending drained))

  -- a session that has failed stays so
  pub next_stays : (stage stage' : Stage) (polled' : Bool) (v w : SessionValue) (result : Poll Answer) → PollsNext builds coding call stage stage' polled' v w result → v.channel.failed ≡ true → (w.channel.failed ≡ true) × (w.channel.told.failures ≡ v.channel.told.failures) × AreRefused (polled_answer result)
  next_stays stage stage' polled' v w result polls failed =
      let P : Bool → Type 0 = λ b. PollsNextIf b builds coding call stage stage' polled' v w result in
      (subst P (failed_undue call v failed) polls.polls).0.stays failed

-- what a poll does after the drain, or without one
module _ (builds : Builds) (coding : Coding) (call : Call) (stage stage' : Stage) (polled' : Bool) (v w : SessionValue) (result : Poll Answer) where
  pub next_undue : due_of call v ≡ false → polled' ≡ true → PollsHere builds coding call stage stage' v w result → PollsNext builds coding call stage stage' polled' v w result
  next_undue undue is polls =
      let P : Bool → Type 0 = λ b. PollsNextIf b builds coding call stage stage' polled' v w result in
      record { polls = subst P (sym undue) (polls, is) }

  next_due : due_of call v ≡ true → DrainsHere builds coding call stage stage' polled' v w result → PollsNext builds coding call stage stage' polled' v w result
  next_due due drains =
      let P : Bool → Type 0 = λ b. PollsNextIf b builds coding call stage stage' polled' v w result in
      record { polls = subst P (sym due) drains }

  module _ (middle : SessionValue) (at : Stage) (due : due_of call v ≡ true) where
    pub next_over : (first : Answer) → PollsHere builds coding Drain (At First) at v middle (Ready first) → is_unit first ≡ true → polled' ≡ true → PollsHere builds coding call stage stage' middle w result → PollsNext builds coding call stage stage' polled' v w result
    next_over first drains unit is polls =
        let T : Bool → Type 0 = λ b. ThenPollsIf b builds coding call stage stage' polled' first middle w result in
        next_due due (record { middle = middle; first = Ready first; at = at; drains = drains; then_polls = subst T (sym unit) (polls, is) })

    pub next_fault : (first : Answer) → PollsHere builds coding Drain (At First) at v middle (Ready first) → is_unit first ≡ false → result ≡ Ready first → w ≡ middle → PollsNext builds coding call stage stage' polled' v w result
    next_fault first drains fault is same =
        let T : Bool → Type 0 = λ b. ThenPollsIf b builds coding call stage stage' polled' first middle w result in
        next_due due (record { middle = middle; first = Ready first; at = at; drains = drains; then_polls = subst T (sym fault) (is, same) })

    pub next_waits : PollsHere builds coding Drain (At First) at v middle Pending → result ≡ Pending → w ≡ middle → stage' ≡ stage → polled' ≡ false → PollsNext builds coding call stage stage' polled' v w result
    next_waits drains is same stays unpolled = next_due due (record { middle = middle; first = Pending; at = at; drains = drains; then_polls = (is, same, stays, unpolled) })
