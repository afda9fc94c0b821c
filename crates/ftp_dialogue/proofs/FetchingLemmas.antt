-- Lemmas on the steps of a call that reads a whole data connection.
use Rattle.std.proofs.Common.{◌≡◌, ◌<◌, ◌-◌, ◌+◌, ◌⊎◌, ◌&&◌, Option, Some, ℕ, zero, suc, Bool, true, false, cond, nat_le, List, [], ◌∷◌, ◌++◌, length, Result, Err, inl, inr, refl, ap, sym, ◌∙◌, subst, arith}
use Rattle.futures.specs.declared.task.Poll.{Poll}
use Rattle.std.proofs.lemmas.Bool.{ne_eqb}
use Rattle.futures.specs.declared.task.Poll.TheVariants as poll
use Rattle.ftp_base.specs.declared.status.Status.TheVariants.{ClosingDataConnection, RequestedFileActionOk}
use Rattle.ftp_base.specs.declared.types.fault.FtpError.{FtpError}
use Rattle.ftp_base.specs.declared.types.fault.FtpError.TheVariants.{ConnectionError, OutOfMemory}
use Rattle.ftp_base.specs.declared.types.fault.ConnectionError.TheVariants.{Io}
use Rattle.ftp_base.specs.declared.types.reply.Response.{Response}
use Rattle.ftp_transport.specs.Told.{HasFailed, Told, after_end, after_read}
use Rattle.std.specs.declared.io.ErrorKind.{ErrorKind}
use Rattle.ftp_calls.specs.declared.call.Answer.{Answer}
use Rattle.ftp_calls.specs.declared.call.Answer.TheVariants.{Fault}
use Rattle.ftp_calls.specs.declared.call.Call.{Call}
use Rattle.ftp_calls.specs.declared.exchange.Fetch.{Fetch}
use Rattle.ftp_calls.specs.declared.exchange.Fetch.TheVariants.{Whole, Listed}
use Rattle.ftp_calls.specs.declared.exchange.Task.TheVariants as task
use Rattle.ftp_calls.specs.declared.exchange.Movement.TheVariants as movement
use Rattle.ftp_calls.specs.declared.exchange.Turn.TheVariants.{First}
use Rattle.ftp_calls.specs.Exchanges.{Kind, kind_of_fetch}
use Rattle.ftp_dialogue.specs.declared.gathered.More.{More}
use Rattle.ftp_dialogue.specs.declared.gathered.More.TheVariants as more
use Rattle.ftp_dialogue.specs.declared.model.NetOutcome.{NetOutcome}
use Rattle.ftp_dialogue.specs.declared.model.NetOutcome.TheVariants as came
use Rattle.ftp_dialogue.specs.declared.stage.Transferring.{Transferring as Fetched}
use Rattle.ftp_dialogue.specs.declared.stage.Transferring.TheVariants.{Starting, Gathering, Ending}
use Rattle.ftp_dialogue.specs.declared.stage.Stage.{Stage}
use Rattle.ftp_dialogue.specs.declared.stage.Stage.TheVariants.{Transferring}
use Rattle.ftp_dialogue.specs.declared.stage.Step.TheVariants.{Next, Pending, Done}
use Rattle.ftp_dialogue.specs.declared.state.State.{State}
use Rattle.ftp_dialogue.specs.Coding.{Coding}
use Rattle.ftp_dialogue.specs.NetEvents.{Net, ReadIs, answers}
use Rattle.ftp_dialogue.specs.Gathering.{GrowsBy}
use Rattle.ftp_dialogue.specs.Dialogue.{Tree, Move, Leaf, chunk, expecting, fetch_concluded, fetch_ending, fetch_closing_data, fetched, fetching, first_fault, gathering, grown, most_reads, on_data, sending, too_long, unfetched, wants_memory, with_abandoned, with_fetched}
use Rattle.ftp_base.specs.Ascii.{most_bytes}
use Rattle.ftp_dialogue.specs.Link.{Link}
use Rattle.ftp_dialogue.specs.Promises.{Aborts, AbortsRead, FailsRead, IsFault, Untouched, failed_from, state_at}
use Rattle.ftp_dialogue.specs.State.{SessionValue}
use Rattle.ftp_dialogue.specs.Steps.Moving.{Advances, AsksFirst, MakesStep, Ends, EndsFetch, FetchFailsIf, Follows, Grows, HeardFault, Hears, Moves, ReadsBy, Still, closing_with}
use Rattle.ftp_dialogue.specs.Steps.Stages.{AnswersKind, FetchOf, MayAnswer, MayFetch, StageOf, begun_at, fetch_left, nodes_left, nodes_of_fetch, remaining}
use Rattle.ftp_dialogue.proofs.Moving.{leaf_ends}
use Rattle.ftp_dialogue.proofs.NegotiationLemmas.{moved_through, unasked_through, still_fails, unchanged_still}
use Rattle.ftp_dialogue.proofs.TransitionsLemmas.{not_memory}

-- what is left after so many reads, and where no others are made
pub gathering_over : (coding : Coding) (form : Fetch) (all : List ℕ) (state : State) → gathering coding form zero all state ≡ fetch_closing_data form (too_long form) state
unfolding gathering
gathering_over coding form all state = refl

pub gathering_is : (coding : Coding) (form : Fetch) (left : ℕ) (all : List ℕ) (state : State) → gathering coding form (suc left) all state ≡ Move (movement.Read chunk) (on_data coding form all (λ more. gathering coding form left more state) (λ answer. fetch_closing_data form answer state))
unfolding gathering
gathering_is coding form left all state = refl

-- the kinds of what is answered
fetched_kind : (coding : Coding) (form : Fetch) (all : List ℕ) → AnswersKind (kind_of_fetch form) (fetched coding form all)
fetched_kind coding Whole all = refl
fetched_kind coding Listed all = refl

unfetched_kind : (form : Fetch) (kind : ErrorKind) → AnswersKind (kind_of_fetch form) (unfetched form kind)
unfetched_kind Whole kind = tt
unfetched_kind Listed kind = tt

too_long_kind : (form : Fetch) → AnswersKind (kind_of_fetch form) (too_long form)
too_long_kind Whole = tt
too_long_kind Listed = tt

-- where bytes go over the data connection no reply is awaited
pub gathering_unheard : (coding : Coding) (form : Fetch) (left : ℕ) (all : List ℕ) (state other : State) → state_at (gathering coding form left all state) OutOfMemory other ≡ other
unfolding gathering
gathering_unheard coding form zero all state other = refl
gathering_unheard coding form (suc left) all state other = refl

pub sending_unheard : (left total : ℕ) (rest : List ℕ) (state other : State) → state_at (sending left total rest state) OutOfMemory other ≡ other
unfolding sending
sending_unheard left total [] state other = refl
sending_unheard zero total (byte ∷ rest) state other = refl
sending_unheard (suc left) total (byte ∷ rest) state other = refl

module _ (link : Link) (coding : Coding) (call : Call) where
  -- the next node is reached
  pub fetch_on : (f : Fetched) (stage' : Stage) (old new : SessionValue) → Still link (fetch_left coding old.state f) (remaining coding call old.state stage') old new → begun_at stage' ≡ true → nodes_left stage' < nodes_of_fetch f → StageOf call stage' → MakesStep link coding call (Transferring f) stage' old new Next
  fetch_on f stage' old new still begun fewer of = record {
    steps = still.advances;
    quiet = λ none. let clash : true ≡ false = sym begun ∙ none in cc;
    begun = (λ has. inl refl, λ none. let clash : true ≡ false = sym begun ∙ none in cc);
    answers = tt;
    fewer = λ is. fewer;
    stage_of = of;
  }

  -- no byte was read yet
  pub fetch_starts : (form : Fetch) (v : SessionValue) → MayFetch call form → MakesStep link coding call (Transferring (Starting (task.Fetch form))) (Transferring (Gathering form most_reads [])) v v Next
  fetch_starts form v may =
      let tree : Tree = fetching coding form v.state in
      fetch_on (Starting (task.Fetch form)) (Transferring (Gathering form most_reads [])) v v (unchanged_still link tree tree v v refl refl) refl (omega arith) may

  -- too many reads were made
  pub fetch_full : (form : Fetch) (left : ℕ) (all : List ℕ) (v : SessionValue) → left ≡ 0 → MayFetch call form → MakesStep link coding call (Transferring (Gathering form left all)) (closing_with form (too_long form)) v v Next
  fetch_full form left all v none may =
      let P : ℕ → Type 0 = λ n. MakesStep link coding call (Transferring (Gathering form n all)) (closing_with form (too_long form)) v v Next in
      subst P (sym none) (fetch_on (Gathering form zero all) (closing_with form (too_long form)) v v (unchanged_still link (gathering coding form zero all v.state) (fetch_closing_data form (too_long form) v.state) v v refl (sym (gathering_over coding form all v.state))) refl (omega arith) (may, too_long_kind form))

  -- there is no data connection
  pub fetch_lacks : (f : Fetched) (stage' : Stage) (old : SessionValue) → state_at (fetch_left coding old.state f) OutOfMemory old.state ≡ old.state → old.channel.failed ≡ false → MakesStep link coding call (Transferring f) stage' old (failed_from old) (Done (Fault OutOfMemory))
  fetch_lacks f stage' old stays going =
      let tree : Tree = fetch_left coding old.state f in
      record {
        steps = inr (still_fails link tree old old stays going (unchanged_still link tree tree old old refl refl));
        quiet = tt;
        begun = tt;
        answers = (First, inr tt, tt);
        fewer = λ is. let clash : Done (Fault OutOfMemory) ≡ Next = is in cc;
        stage_of = tt;
      }

  module _ (form : Fetch) (n : ℕ) (all : List ℕ) (may : MayFetch call form) (old new : SessionValue) where
    abbrev on : List ℕ → Tree
    on more = gathering coding form n more old.state

    abbrev over : Answer → Tree
    over answer = fetch_closing_data form answer old.state

    abbrev here : Fetched
    here = Gathering form (suc n) all

    -- a read led here
    read_on : (outcome : NetOutcome) (next : Stage) → ReadsBy link old new outcome → on_data coding form all on over outcome ≡ remaining coding call old.state next → begun_at next ≡ true → nodes_left next < suc n + 10 → StageOf call next → MakesStep link coding call (Transferring here) next old new Next
    read_on outcome next reads is begun fewer of =
        let B : Tree → Type 0 = λ t. Still link t (remaining coding call old.state next) old new in
        let A : Tree → Type 0 = λ t. Still link (Move (movement.Read chunk) (on_data coding form all on over)) t old new in
        fetch_on here next old new (subst B (sym (gathering_is coding form n all old.state)) (subst A is (reads (on_data coding form all on over)))) begun fewer of

    -- there are more bytes
    grew_to : (byte : ℕ) (bytes all' : List ℕ) (next : Stage) → all' ≡ all ++ byte ∷ bytes → ReadsBy link old new (came.Read (byte ∷ bytes)) → Follows coding form n all' more.Grew next → MakesStep link coding call (Transferring here) next old new Next
    grew_to byte bytes all' next same reads is = go (nat_le (length all') most_bytes) refl
      where
        N : Stage → Type 0
        N s = MakesStep link coding call (Transferring here) s old new Next

        grows : Stage
        grows = Transferring (Gathering form n all')

        stops : Stage
        stops = closing_with form (too_long form)

        go : (b : Bool) → nat_le (length all') most_bytes ≡ b → N next
        go true fits =
            let to : next ≡ grows = is ∙ ap (λ x. cond x grows stops) fits in
            let led : grown form (all ++ byte ∷ bytes) on over ≡ gathering coding form n all' old.state = ap (λ l. grown form l on over) (sym same) ∙ ap (λ x. cond x (on all') (over (too_long form))) fits in
            subst N (sym to) (read_on (came.Read (byte ∷ bytes)) grows reads led refl (omega arith) may)
        go false long =
            let to : next ≡ stops = is ∙ ap (λ x. cond x grows stops) long in
            let led : grown form (all ++ byte ∷ bytes) on over ≡ over (too_long form) = ap (λ l. grown form l on over) (sym same) ∙ ap (λ x. cond x (on all') (over (too_long form))) long in
            subst N (sym to) (read_on (came.Read (byte ∷ bytes)) stops reads led refl (omega arith) (may, too_long_kind form))

    -- there are no others, or a read failed, or there was no memory
    over_to : (outcome : NetOutcome) (answer : Answer) (next : Stage) → ReadsBy link old new outcome → on_data coding form all on over outcome ≡ over answer → AnswersKind (kind_of_fetch form) answer → next ≡ closing_with form answer → MakesStep link coding call (Transferring here) next old new Next
    over_to outcome answer next reads led kind is =
        let N : Stage → Type 0 = λ s. MakesStep link coding call (Transferring here) s old new Next in
        subst N (sym is) (read_on outcome (closing_with form answer) reads led refl (omega arith) (may, kind))

    lacked_to : (next : Stage) → ReadsBy link old new came.NoMemory → next ≡ closing_with form (Fault OutOfMemory) → MakesStep link coding call (Transferring here) next old new Next
    lacked_to next reads is = over_to came.NoMemory (Fault OutOfMemory) next reads refl (memory_kind form) is
      where
        memory_kind : (f : Fetch) → AnswersKind (kind_of_fetch f) (Fault OutOfMemory)
        memory_kind f = tt

    ended_to : (all' : List ℕ) (next : Stage) → all' ≡ all → ReadsBy link old new (came.Read []) → ReadsBy link old new came.NoMemory → Follows coding form n all' more.Ended next → MakesStep link coding call (Transferring here) next old new Next
    ended_to all' next same reads lacks (inl is) =
        over_to (came.Read []) (fetched coding form all) next reads refl (fetched_kind coding form all) (is ∙ ap (λ l. closing_with form (fetched coding form l)) same)
    ended_to all' next same reads lacks (inr is) = lacked_to next lacks is

    pub fetch_read : (all' : List ℕ) (m : More) (next : Stage) → Grows link all all' old new (poll.Ready m) → Follows coding form n all' m next → MakesStep link coding call (Transferring here) next old new Next
    fetch_read all' more.Grew next grows is = grew_to grows.0 grows.1 all' next grows.2 grows.3 is
    fetch_read all' more.Ended next grows is = ended_to all' next grows.0 grows.1 grows.2 is
    fetch_read all' (more.Failed kind) next reads is = over_to (came.Failed kind) (unfetched form kind) next reads refl (unfetched_kind form kind) is
    fetch_read all' more.NoMemory next reads is = lacked_to next reads is

    pub fetch_waits : (all' : List ℕ) → Grows link all all' old new poll.Pending → MakesStep link coding call (Transferring here) (Transferring (Gathering form (suc n) all')) old new Pending
    fetch_waits all' (same, still, waits) =
        let P : List ℕ → Type 0 = λ l. MakesStep link coding call (Transferring here) (Transferring (Gathering form (suc n) l)) old new Pending in
        let A : Tree → Type 0 = AsksFirst in
        subst P (sym same) (record {
          steps = ((still (gathering coding form (suc n) all old.state)).advances, inr (inr (record { asks = subst A (sym (gathering_is coding form n all old.state)) tt; may = waits })));
          quiet = tt;
          begun = (λ has. inl refl, λ none. let clash : true ≡ false = none in cc);
          answers = tt;
          fewer = λ is. let clash : Pending ≡ Next = is in cc;
          stage_of = may;
        })

  -- the same after any number of reads
  pub fetch_read_at : (form : Fetch) (left : ℕ) (all : List ℕ) (old new : SessionValue) (all' : List ℕ) (m : More) (next : Stage) → MayFetch call form → (left ≡ 0 → ⊥) → Grows link all all' old new (poll.Ready m) → Follows coding form (left - 1) all' m next → MakesStep link coding call (Transferring (Gathering form left all)) next old new Next
  fetch_read_at form zero all old new all' m next may some grows is = absurd (some refl)
  fetch_read_at form (suc n) all old new all' m next may some grows is =
      let e : suc n - 1 ≡ n = omega arith in
      let F : ℕ → Type 0 = λ k. Follows coding form k all' m next in
      fetch_read form n all may old new all' m next grows (subst F e is)

  pub fetch_waits_at : (form : Fetch) (left : ℕ) (all : List ℕ) (old new : SessionValue) (all' : List ℕ) → MayFetch call form → (left ≡ 0 → ⊥) → Grows link all all' old new poll.Pending → MakesStep link coding call (Transferring (Gathering form left all)) (Transferring (Gathering form left all')) old new Pending
  fetch_waits_at form zero all old new all' may some grows = absurd (some refl)
  fetch_waits_at form (suc n) all old new all' may some grows = fetch_waits form n all may old new all' grows

  -- The last reply

  fetch_answers : (form : Fetch) (answer : Answer) → FetchOf call (Ending form answer) → MayAnswer call answer
  fetch_answers form answer (may, kind) =
      let found = may.1 in
      let K : Kind → Type 0 = λ k. AnswersKind k answer in
      (found.0, inl found.1, subst K (sym found.2) kind)

  -- it was heard
  pub fetch_heard : (form : Fetch) (answer : Answer) (stage' : Stage) (old mid new : SessionValue) → FetchOf call (Ending form answer) → Advances link (fetch_ending form answer old.state) (Leaf answer (with_fetched old.state)) old mid → new ≡ record mid { state = with_fetched mid.state } → MakesStep link coding call (Transferring (Ending form answer)) stage' old new (Done answer)
  fetch_heard form answer stage' old mid new of heard same =
      let tree : Tree = fetch_ending form answer old.state in
      let T : Tree → Type 0 = λ t. Moves link tree t old mid in
      let state : with_fetched old.state ≡ new.state = ap with_fetched (sym heard.moves.state) ∙ sym (ap (λ v. v.state) same) in
      record {
        steps = inl (leaf_ends link tree answer old mid new (subst T (ap (λ s. Leaf answer s) state) heard.moves) (λ f. inl (sym heard.failed ∙ f)) (ap (λ v. v.channel) same) (ap (λ v. v.net) same));
        quiet = tt;
        begun = tt;
        answers = fetch_answers form answer of;
        fewer = λ is. let clash : Done answer ≡ Next = is in cc;
        stage_of = tt;
      }

  -- it is waited for
  pub fetch_awaits : (form : Fetch) (answer : Answer) (old new : SessionValue) → FetchOf call (Ending form answer) → Hears link (expecting (ClosingDataConnection ∷ RequestedFileActionOk ∷ [])) (fetch_concluded form answer old.state) old new poll.Pending → MakesStep link coding call (Transferring (Ending form answer)) (Transferring (Ending form answer)) old new Pending
  fetch_awaits form answer old new of heard = record {
    steps = (heard.0, heard.1);
    quiet = tt;
    begun = (λ has. inl refl, λ none. let clash : true ≡ false = none in cc);
    answers = tt;
    fewer = λ is. let clash : Pending ≡ Next = is in cc;
    stage_of = of;
  }

-- what a read adds is a read of the data connection
pub grows_so : (link : Link) (view old : SessionValue) (t u : Told) (all all' : List ℕ) (r : Poll More) → view ≡ old → view.net.data_conn ≡ Some t → GrowsBy link.tells all all' t u r → (r ≡ poll.Pending → link.asks_wait) → Grows link all all' old (record view { net = record view.net { data_conn = Some u } }) r
grows_so link view old t u all all' r same held grows waits = go r grows waits
  where
    net' : Net
    net' = record view.net { data_conn = Some u }

    by : (outcome : NetOutcome) → answers (movement.Read chunk) outcome ≡ true → (link.tells → ReadIs chunk outcome t u) → ReadsBy link old (record view { net = net' }) outcome
    by outcome fits tie next = moved_through link (movement.Read chunk) outcome view old net' same (λ h. (fits, (t, u, held, refl, tie h))) next

    go : (r : Poll More) → GrowsBy link.tells all all' t u r → (r ≡ poll.Pending → link.asks_wait) → Grows link all all' old (record view { net = net' }) r
    go (poll.Ready more.Grew) ([], is, some, most, tie) waits = absurd (no some)
      where
        no : 0 < 0 → ⊥
        no some = omega (arith, some)
    go (poll.Ready more.Grew) (byte ∷ bytes, is, some, most, tie) waits =
        let l : List ℕ = byte ∷ bytes in
        (byte, bytes, is, by (came.Read l) refl (λ h. (most, tie h ∙ ap (λ b. cond b (after_end t) (after_read l t)) (sym (ne_eqb (length l) 0 (λ e. omega (arith, e, some)))))))
    go (poll.Ready more.Ended) (is, tie) waits = (is, by (came.Read []) refl (λ h. (omega arith, tie h)), by came.NoMemory refl (λ h. inr (tie h)))
    go (poll.Ready (more.Failed kind)) tie waits = by (came.Failed kind) refl tie
    go (poll.Ready more.NoMemory) tie waits = by came.NoMemory refl (λ h. inl (tie h))
    go poll.Pending (is, tie) waits =
        let D : Option Told → Net = λ d. record view.net { data_conn = d } in
        (is, λ tree. unasked_through link view old net' same (λ h. ap (λ x. D (Some x)) (tie h) ∙ ap D (sym held)) tree, waits refl)

-- an error was heard in its place
module _ (link : Link) (coding : Coding) (call : Call) (form : Fetch) (answer : Answer) (fault : FtpError) (told : Answer) (old mid new : SessionValue) (going : old.channel.failed ≡ false) where
  abbrev next : Result Response FtpError → Tree
  next = fetch_concluded form answer old.state

  abbrev tree : Tree
  tree = fetch_ending form answer old.state

  abbrev So : Type 0
  So = Ends link tree told old new ⊎ Aborts link true tree told old new

  -- what is left, by whether memory ran out
  abbrev LeftBy : Bool → Type 0
  LeftBy memory = FetchFailsIf memory form answer fault mid.state new.state told × (new ≡ record (cond (memory && true) (failed_from mid) mid) { state = new.state })

  fault_heard : Moves link tree (next (Err fault)) old mid → HeardFault fault old mid → LeftBy false → So
  fault_heard moves heard left =
      let T : Tree → Type 0 = λ t. Moves link tree t old mid in
      let A : Answer → Type 0 = λ a. (old.channel.failed ≡ true) ⊎ IsFault a in
      let is : next (Err fault) ≡ Leaf told new.state =
      ap (λ b. Leaf (Fault (first_fault form answer fault)) (cond b (with_abandoned old.state) (with_fetched old.state))) (not_memory fault heard.other)
      ∙ ap (λ a. Leaf a (with_fetched old.state)) (sym left.0.0)
      ∙ ap (λ s. Leaf told (with_fetched s)) (sym moves.state)
      ∙ ap (λ s. Leaf told s) (sym left.0.1) in
      inl (leaf_ends link tree told old mid new (subst T is moves) (λ f. subst A (sym left.0.0) (inr tt)) (ap (λ v. v.channel) left.1) (ap (λ v. v.net) left.1))

  fault_failed : (aborts : AbortsRead link (expecting (ClosingDataConnection ∷ RequestedFileActionOk ∷ [])) next fault old mid) → FailsRead link fault aborts.at mid → LeftBy false → So
  fault_failed aborts fails left =
      let io : FtpError = ConnectionError (Io fails.kind) in
      let state : new.state ≡ with_fetched old.state = left.0.1 ∙ ap (λ v. with_fetched v.state) fails.same ∙ ap with_fetched aborts.state in
      let channel : new.channel.told ≡ mid.channel.told = ap (λ v. v.channel.told) left.1 in
      let V : State → Told → SessionValue = λ s t. record aborts.at { channel = record aborts.at.channel { told = t; failed = true }; state = s } in
      let S : SessionValue → SessionValue = λ v. record v { state = new.state } in
      let F : Told → Type 0 = λ t. link.tells → HasFailed fails.kind aborts.at.channel.told t in
      inr (record {
        place = tree;
        at = aborts.at;
        leads = aborts.leads;
        state = aborts.state;
        going = aborts.going ∙ sym going;
        fault = first_fault form answer io;
        is = left.0.0 ∙ ap (λ f. Fault (first_fault form answer f)) fails.is;
        cause = inl (record {
          kind = fails.kind;
          is = refl;
          may = fails.may;
          same = left.1 ∙ ap S fails.same ∙ ap (λ t. V new.state t) (sym channel) ∙ ap (λ s. V s new.channel.told) state;
          failed = subst F (sym channel) fails.failed;
        });
      })

  fault_lacks : (aborts : AbortsRead link (expecting (ClosingDataConnection ∷ RequestedFileActionOk ∷ [])) next fault old mid) → (fault ≡ OutOfMemory) × (mid ≡ aborts.at) × Untouched link aborts.leads.came old aborts.at → LeftBy true → So
  fault_lacks aborts lacks left =
      let P : SessionValue → Type 0 = λ v. Aborts link true tree told old v in
      let S : State → SessionValue = λ s. record (failed_from mid) { state = s } in
      let same : new ≡ failed_from (record mid { state = with_abandoned mid.state }) = left.1 ∙ ap S left.0.1 in
      let is : told ≡ Fault OutOfMemory = left.0.0 ∙ ap Fault lacks.0 in
      inr (subst P (sym same) (record { place = tree; at = aborts.at; leads = aborts.leads; state = aborts.state; going = aborts.going ∙ sym going; fault = OutOfMemory; is = is; cause = inr (record { is = refl; leaves = inr (ap (λ v. failed_from (record v { state = with_abandoned v.state })) lacks.1 ∙ ap (λ s. failed_from (record aborts.at { state = with_abandoned s })) aborts.state, inl refl) }) }))

  fault_so : Hears link (expecting (ClosingDataConnection ∷ RequestedFileActionOk ∷ [])) next old mid (poll.Ready (Err fault)) → LeftBy (wants_memory fault) → So
  fault_so (inl (moves, heard)) left = fault_heard moves heard (subst LeftBy (not_memory fault heard.other) left)
  fault_so (inr aborts) left = go aborts.cause
    where
      go : FailsRead link fault aborts.at mid ⊎ ((fault ≡ OutOfMemory) × (mid ≡ aborts.at) × Untouched link aborts.leads.came old aborts.at) → So
      go (inl fails) = fault_failed aborts fails (subst LeftBy (ap wants_memory fails.is) left)
      go (inr lacks) = fault_lacks aborts lacks (subst LeftBy (ap wants_memory lacks.0) left)

  told_answers : (memory : Bool) → FetchFailsIf memory form answer fault mid.state new.state told → MayAnswer call told
  told_answers true left = (let M : Answer → Type 0 = λ a. MayAnswer call a in subst M (sym left.0) (First, inr tt, tt))
  told_answers false left = (let M : Answer → Type 0 = λ a. MayAnswer call a in subst M (sym left.0) (First, inr tt, tt))

  pub fetch_fails : (stage' : Stage) → Hears link (expecting (ClosingDataConnection ∷ RequestedFileActionOk ∷ [])) next old mid (poll.Ready (Err fault)) → EndsFetch form answer fault mid new told → MakesStep link coding call (Transferring (Ending form answer)) stage' old new (Done told)
  fetch_fails stage' heard ends = record {
    steps = fault_so heard (ends.1, ends.0);
    quiet = tt;
    begun = tt;
    answers = told_answers (wants_memory fault) ends.1;
    fewer = λ is. let clash : Done told ≡ Next = is in cc;
    stage_of = tt;
  }
