-- Lemmas on the commands beside the exchanges: ABOR, and NOOP, whose reply is sought.
use Rattle.std.proofs.Common.{◌≡◌, ◌<◌, ◌⊎◌, ◌∙◌, ℕ, zero, suc, [], ◌∷◌, Bool, true, false, ◌&&◌, cond, Some, List, Result, Ok, Err, inl, inr, ap, sym, subst, refl, arith}
use Rattle.futures.specs.declared.task.Poll.{Poll}
use Rattle.futures.specs.declared.task.Poll.TheVariants as poll
use Rattle.ftp_base.specs.declared.status.Status.TheVariants.{CommandOk}
use Rattle.ftp_base.specs.declared.types.reply.Response.{Response}
use Rattle.ftp_base.specs.declared.types.fault.FtpError.{FtpError}
use Rattle.ftp_base.specs.declared.types.fault.FtpError.TheVariants.{ConnectionError, SecureError, UnexpectedResponse, BadResponse, InvalidAddress, DataConnectionAlreadyOpen, OutOfMemory, SessionFailed}
use Rattle.ftp_base.specs.declared.types.fault.ConnectionError.{ConnectionError as Cause}
use Rattle.ftp_base.specs.declared.types.fault.ConnectionError.TheVariants.{Io}
use Rattle.ftp_calls.specs.declared.call.Answer.{Answer}
use Rattle.ftp_calls.specs.declared.call.Answer.TheVariants.{Unit, Fault}
use Rattle.ftp_calls.specs.declared.call.Call.{Call}
use Rattle.ftp_calls.specs.declared.exchange.Row.TheVariants.{Resyncs}
use Rattle.ftp_calls.specs.declared.exchange.Turn.{Turn}
use Rattle.ftp_calls.specs.declared.exchange.Turn.TheVariants.{First}
use Rattle.ftp_calls.specs.Exchanges.{given_by, row_of}
use Rattle.ftp_control.specs.Refusal.{IsRefusalOf}
use Rattle.ftp_dialogue.specs.declared.stage.Stage.{Stage}
use Rattle.ftp_dialogue.specs.declared.stage.Stage.TheVariants.{Composing, Saying, Seeking}
use Rattle.ftp_dialogue.specs.declared.stage.AfterLine.TheVariants.{Recovers}
use Rattle.ftp_dialogue.specs.declared.stage.Recovery.{Recovery}
use Rattle.ftp_dialogue.specs.declared.stage.Recovery.TheVariants.{Abort, Resync}
use Rattle.ftp_dialogue.specs.declared.stage.Step.{Step}
use Rattle.ftp_dialogue.specs.declared.stage.Step.TheVariants.{Next, Pending, Done}
use Rattle.ftp_dialogue.specs.declared.state.State.{State}
use Rattle.ftp_dialogue.specs.Coding.{Coding}
use Rattle.ftp_dialogue.specs.Dialogue.{Tree, Say, Hear, Leaf, ends_search, expecting, most_passed_over, passing_over, seeking, sought}
use Rattle.ftp_dialogue.specs.Link.{Link}
use Rattle.ftp_dialogue.specs.Promises.{Aborts, FailsRead, Untouched, failed_from}
use Rattle.ftp_dialogue.specs.State.{SessionValue}
use Rattle.ftp_dialogue.specs.Steps.Moving.{Advances, Composes, Ends, Hears, MakesStep, Moves, WaitsFor, after_fault, line_to_recover}
use Rattle.ftp_dialogue.specs.Steps.Stages.{FollowsSought, RecoveryOf, TurnOf, begun_for, is_barred, nodes_of_recovery, nodes_said, recovered, recovering}
use Rattle.ftp_dialogue.proofs.Moving.{lacks_memory_at, lacks_memory_first, leaf_ends, refused_line, stays_put, untouched}
use Rattle.ftp_dialogue.proofs.NegotiationLemmas.{unchanged_still}
use Rattle.ftp_dialogue.proofs.Stages.{line_fewer}
use Rattle.ftp_dialogue.proofs.TransitionsLemmas.{fault_apart, not_memory}

-- what comes after another reply, where so many more may come
abbrev pub others : ℕ → State → Response → Tree
others zero state = λ reply. Leaf (Fault (UnexpectedResponse reply)) state
others (suc left) state = passing_over (seeking left state) state

abbrev awaited : ℕ → State → Tree
awaited left state = Hear (expecting (CommandOk ∷ [])) (sought (others left state) state)

pub seeking_is : (left : ℕ) (state : State) → seeking left state ≡ awaited left state
unfolding seeking
seeking_is zero state = refl
seeking_is (suc left) state = refl

-- a reply that ends the search, or an error in its place, is the answer
fault_is : (left : ℕ) (state : State) (fault : FtpError) → ((reply : Response) → fault ≡ UnexpectedResponse reply → (left ≡ 0) ⊎ (ends_search reply ≡ true)) → sought (others left state) state (Err fault) ≡ Leaf (Fault fault) state
fault_is left state (ConnectionError cause) last = refl
fault_is left state (SecureError text) last = refl
fault_is left state BadResponse last = refl
fault_is left state InvalidAddress last = refl
fault_is left state DataConnectionAlreadyOpen last = refl
fault_is left state OutOfMemory last = refl
fault_is left state SessionFailed last = refl
fault_is zero state (UnexpectedResponse reply) last = refl
fault_is (suc left) state (UnexpectedResponse reply) last = go (last reply refl)
  where
    go : (suc left ≡ 0) ⊎ (ends_search reply ≡ true) → passing_over (seeking left state) state reply ≡ Leaf (Fault (UnexpectedResponse reply)) state
    go (inl none) = let clash : suc left ≡ 0 = none in cc
    go (inr closed) = ap (λ b. cond b (Leaf (Fault (UnexpectedResponse reply)) state) (seeking left state)) closed

-- A command is put into a line

module _ (link : Link) (coding : Coding) (call : Call) where
  -- where no live transfer keeps it from being sent it is said first
  spoken : (recovery : Recovery) (state : State) → is_barred recovery state ≡ false → recovering coding call state recovery ≡ Say (line_to_recover coding recovery) (recovered coding call state recovery)
  spoken Abort state free = refl
  spoken (Resync turn) state free = ap (λ b. cond b (Leaf (Fault DataConnectionAlreadyOpen) state) (Say (line_to_recover coding (Resync turn)) (seeking most_passed_over state))) free

  fewer_then : (recovery : Recovery) → nodes_said (Recovers recovery) < nodes_of_recovery recovery
  fewer_then Abort = omega arith
  fewer_then (Resync turn) = line_fewer turn

  -- its line is made
  worded : (recovery : Recovery) → RecoveryOf call recovery → (line : List ℕ) (v : SessionValue) → is_barred recovery v.state ≡ false → line_to_recover coding recovery ≡ Ok line → MakesStep link coding call (Composing recovery) (Saying (Some line) (Recovers recovery)) v v Next
  worded recovery of line v free is =
      let tree : Tree = recovering coding call v.state recovery in
      let next : Tree = Say (Ok line) (recovered coding call v.state recovery) in
      let there : next ≡ tree = ap (λ l. Say l (recovered coding call v.state recovery)) (sym is) ∙ sym (spoken recovery v.state free) in
      record {
        steps = stays_put link tree next v there;
        quiet = λ begun. record { still = unchanged_still link tree next v v refl there; begun = begun; speaks = λ speaks. tt; read = λ read. refl };
        begun = (λ has. inl has, λ none. (none, untouched link v));
        answers = tt;
        fewer = λ is. fewer_then recovery;
        stage_of = of;
      }

  -- it has none
  abbrev EndsUnsaid : Recovery → Tree → FtpError → SessionValue → SessionValue → Type 0
  EndsUnsaid recovery tree fault v new = Ends link tree (Fault fault) v new ⊎ Aborts link (begun_for recovery) tree (Fault fault) v new

  unworded : (recovery : Recovery) (fault : FtpError) (next : Tree) (v : SessionValue) → IsRefusalOf (line_to_recover coding recovery) fault → EndsUnsaid recovery (Say (line_to_recover coding recovery) next) fault v (after_fault (begun_for recovery) fault v)
  unworded recovery (ConnectionError cause) next v is =
      let P : Result (List ℕ) Cause → Type 0 = λ line. Ends link (Say line next) (Fault (ConnectionError cause)) v v in
      inl (subst P (sym is) (refused_line link cause next v))
  unworded recovery OutOfMemory next v is =
      let tree : Tree = Say (line_to_recover coding recovery) next in
      inr (elim (begun_for recovery) as (λ b. Aborts link b tree (Fault OutOfMemory) v (after_fault b OutOfMemory v)) [
        | true ↦ lacks_memory_at link true tree tree v v refl (inl refl) (stays_put link tree tree v refl).moves refl
        | false ↦ lacks_memory_first link tree v
      ])
  unworded recovery (SecureError text) next v is = absurd is
  unworded recovery other next v is = absurd is

  -- a live transfer keeps it from being sent
  barred : (recovery : Recovery) (v : SessionValue) → is_barred recovery v.state ≡ true → Ends link (recovering coding call v.state recovery) (Fault DataConnectionAlreadyOpen) v v
  barred Abort v live = cc live
  barred (Resync turn) v live =
      let leaf : Tree = Leaf (Fault DataConnectionAlreadyOpen) v.state in
      let P : Bool → Type 0 = λ b. Ends link (cond b leaf (Say (line_to_recover coding (Resync turn)) (seeking most_passed_over v.state))) (Fault DataConnectionAlreadyOpen) v v in
      subst P (sym live) (leaf_ends link leaf (Fault DataConnectionAlreadyOpen) v v v (stays_put link leaf leaf v refl).moves (λ f. inl f) refl refl)

  -- an error is the answer
  unsaid : (recovery : Recovery) (fault : FtpError) (stage' : Stage) (old new : SessionValue) → EndsUnsaid recovery (recovering coding call old.state recovery) fault old new → MakesStep link coding call (Composing recovery) stage' old new (Done (Fault fault))
  unsaid recovery fault stage' old new ends = record {
    steps = ends;
    quiet = tt;
    begun = tt;
    answers = (First, inr tt, tt);
    fewer = λ is. let clash : Done (Fault fault) ≡ Next = is in cc;
    stage_of = tt;
  }

  pub composed : (recovery : Recovery) (stage' : Stage) (old new : SessionValue) (result : Step) → RecoveryOf call recovery → Composes coding recovery stage' old new result → MakesStep link coding call (Composing recovery) stage' old new result
  composed recovery stage' old new Next of (free, (line, is, at), same) =
      let S : Stage → Type 0 = λ s. MakesStep link coding call (Composing recovery) s old new Next in
      let V : SessionValue → Type 0 = λ v. MakesStep link coding call (Composing recovery) (Saying (Some line) (Recovers recovery)) old v Next in
      subst S (sym at) (subst V (sym same) (worded recovery of line old free is))
  composed recovery stage' old new Pending of composes = absurd composes
  composed recovery stage' old new (Done answer) of composes = go composes.cause
    where
      fault : FtpError
      fault = composes.fault

      A : Answer → Type 0
      A a = MakesStep link coding call (Composing recovery) stage' old new (Done a)

      go : ((is_barred recovery old.state ≡ true) × (fault ≡ DataConnectionAlreadyOpen) × (new ≡ old)) ⊎ ((is_barred recovery old.state ≡ false) × IsRefusalOf (line_to_recover coding recovery) fault × (new ≡ after_fault (begun_for recovery) fault old)) → A answer
      go (inl (live, is, same)) =
          let V : FtpError → SessionValue → Type 0 = λ f v. Ends link (recovering coding call old.state recovery) (Fault f) old v in
          let F : FtpError → Type 0 = λ f. V f old in
          let N : SessionValue → Type 0 = V fault in
          subst A (sym composes.is) (unsaid recovery fault stage' old new (inl (subst N (sym same) (subst F (sym is) (barred recovery old live)))))
      go (inr (free, refused, leaves)) =
          let P : Tree → SessionValue → Type 0 = λ t v. EndsUnsaid recovery t fault old v in
          let T : Tree → Type 0 = λ t. P t (after_fault (begun_for recovery) fault old) in
          let N : SessionValue → Type 0 = P (recovering coding call old.state recovery) in
          subst A (sym composes.is) (unsaid recovery fault stage' old new (subst N (sym leaves) (subst T (sym (spoken recovery old.state free)) (unworded recovery fault (recovered coding call old.state recovery) old refused))))

-- nothing is waited for, and nothing is done beside the control connection
pub never_waits : (coding : Coding) (recovery : Recovery) (stage' : Stage) (result : Step) (old new : SessionValue) → result ≡ Pending → Composes coding recovery stage' old new result → ⊥
never_waits coding recovery stage' Next old new is composes = cc is
never_waits coding recovery stage' Pending old new is composes = composes
never_waits coding recovery stage' (Done answer) old new is composes = cc is

pub composed_apart : (coding : Coding) (recovery : Recovery) (stage' : Stage) (result : Step) (old new : SessionValue) → Composes coding recovery stage' old new result → (new.net ≡ old.net) × (new.channel.ended ≡ old.channel.ended)
composed_apart coding recovery stage' Next old new composes = (ap (λ v. v.net) composes.2, ap (λ v. v.channel.ended) composes.2)
composed_apart coding recovery stage' Pending old new composes = absurd composes
composed_apart coding recovery stage' (Done answer) old new composes = go composes.cause
  where
    fault : FtpError
    fault = composes.fault

    go : ((is_barred recovery old.state ≡ true) × (fault ≡ DataConnectionAlreadyOpen) × (new ≡ old)) ⊎ ((is_barred recovery old.state ≡ false) × IsRefusalOf (line_to_recover coding recovery) fault × (new ≡ after_fault (begun_for recovery) fault old)) → (new.net ≡ old.net) × (new.channel.ended ≡ old.channel.ended)
    go (inl (live, is, same)) = (ap (λ v. v.net) same, ap (λ v. v.channel.ended) same)
    go (inr (free, refused, leaves)) =
        let apart = fault_apart (begun_for recovery) fault old in
        (ap (λ v. v.net) leaves ∙ apart.0, ap (λ v. v.channel.ended) leaves ∙ apart.1)

-- The reply to NOOP is sought

module _ (link : Link) (coding : Coding) (call : Call) (turn : Turn) (of : (row_of call turn ≡ Resyncs) × TurnOf call turn) where
  module _ (left : ℕ) (old : SessionValue) where
    abbrev next : Result Response FtpError → Tree
    next = sought (others left old.state) old.state

    abbrev tree : Tree
    tree = awaited left old.state

    abbrev SoughtBy : SessionValue → Poll (Result Response FtpError) → Type 0
    SoughtBy mid heard = Hears link (expecting (CommandOk ∷ [])) next old mid heard

    -- it is that to NOOP
    pub noop_heard : (stage' : Stage) (reply : Response) (new : SessionValue) → SoughtBy new (poll.Ready (Ok reply)) → MakesStep link coding call (Seeking turn left) stage' old new (Done Unit)
    noop_heard stage' reply new heard =
        let T : Tree → Type 0 = λ t. Moves link tree t old new in
        let E : Tree → Type 0 = λ t. Ends link t Unit old new in
        record {
          steps = inl (subst E (sym (seeking_is left old.state)) (leaf_ends link tree Unit old new new (subst T (ap (λ s. Leaf Unit s) (sym heard.0.moves.state)) heard.0.moves) (λ f. inl (sym heard.0.failed ∙ f)) refl refl));
          quiet = tt;
          begun = tt;
          answers = (turn, inl of.1, ap given_by of.0);
          fewer = λ is. let clash : Done Unit ≡ Next = is in cc;
          stage_of = tt;
        }

    -- it is waited for
    pub noop_awaited : (new : SessionValue) → SoughtBy new poll.Pending → MakesStep link coding call (Seeking turn left) (Seeking turn left) old new Pending
    noop_awaited new heard =
        let P : Tree → Type 0 = λ t. Advances link t t old new × WaitsFor link t new in
        record {
          steps = subst P (sym (seeking_is left old.state)) (heard.0, heard.1);
          quiet = tt;
          begun = (λ has. inl refl, λ none. let clash : true ≡ false = none in cc);
          answers = tt;
          fewer = λ is. let clash : Pending ≡ Next = is in cc;
          stage_of = of;
        }

    -- it is another, and the next one is read
    goes_on_is : (rest : ℕ) (reply : Response) (fault : FtpError) → left ≡ suc rest → fault ≡ UnexpectedResponse reply → ends_search reply ≡ false → next (Err fault) ≡ seeking rest old.state
    goes_on_is rest reply fault more is open_still =
        ap (λ l. sought (others l old.state) old.state (Err fault)) more
        ∙ ap (λ f. sought (others (suc rest) old.state) old.state (Err f)) is
        ∙ ap (λ b. cond b (Leaf (Fault (UnexpectedResponse reply)) old.state) (seeking rest old.state)) open_still

    other_advances : (rest : ℕ) (reply : Response) (fault : FtpError) (mid : SessionValue) → left ≡ suc rest → fault ≡ UnexpectedResponse reply → ends_search reply ≡ false → SoughtBy mid (poll.Ready (Err fault)) → Advances link tree (seeking rest old.state) old mid
    other_advances rest reply fault mid more is open_still (inl (moves, heard)) =
        let T : Tree → Type 0 = λ t. Moves link tree t old mid in
        record { moves = subst T (goes_on_is rest reply fault more is open_still) moves; failed = heard.goes_on reply is }
    other_advances rest reply fault mid more is open_still (inr aborts) = go aborts.cause
      where
        go : FailsRead link fault aborts.at mid ⊎ ((fault ≡ OutOfMemory) × (mid ≡ aborts.at) × Untouched link aborts.leads.came old aborts.at) → Advances link tree (seeking rest old.state) old mid
        go (inl fails) = let clash : UnexpectedResponse reply ≡ ConnectionError (Io fails.kind) = sym is ∙ fails.is in cc
        go (inr lacks) = let clash : UnexpectedResponse reply ≡ OutOfMemory = sym is ∙ lacks.0 in cc

    other_heard : (rest : ℕ) (reply : Response) (fault : FtpError) (mid new : SessionValue) → left ≡ suc rest → fault ≡ UnexpectedResponse reply → ends_search reply ≡ false → SoughtBy mid (poll.Ready (Err fault)) → new ≡ after_fault true fault mid → MakesStep link coding call (Seeking turn left) (Seeking turn rest) old new Next
    other_heard rest reply fault mid new more is open_still heard leaves =
        let same : new ≡ mid = leaves ∙ ap (λ f. after_fault true f mid) is in
        let V : SessionValue → Type 0 = λ v. Advances link tree (seeking rest old.state) old v in
        let A : Tree → Type 0 = λ t. Advances link t (seeking rest old.state) old new in
        record {
          steps = subst A (sym (seeking_is left old.state)) (subst V (sym same) (other_advances rest reply fault mid more is open_still heard));
          quiet = λ none. let clash : true ≡ false = none in cc;
          begun = (λ has. inl refl, λ none. let clash : true ≡ false = none in cc);
          answers = tt;
          fewer = λ on. omega (arith, more);
          stage_of = of;
        }

    -- it is the last, or an error is heard in its place
    fault_ends : (fault : FtpError) (mid new : SessionValue) → old.channel.failed ≡ false → next (Err fault) ≡ Leaf (Fault fault) old.state → SoughtBy mid (poll.Ready (Err fault)) → new ≡ after_fault true fault mid → Ends link tree (Fault fault) old new ⊎ Aborts link true tree (Fault fault) old new
    fault_ends fault mid new going is (inl (moves, heard)) leaves =
        let T : Tree → Type 0 = λ t. Moves link tree t old mid in
        let V : SessionValue → Type 0 = λ v. Ends link tree (Fault fault) old v in
        let same : new ≡ mid = leaves ∙ ap (λ b. cond (b && true) (failed_from mid) mid) (not_memory fault heard.other) in
        inl (subst V (sym same) (leaf_ends link tree (Fault fault) old mid mid (subst T (is ∙ ap (λ s. Leaf (Fault fault) s) (sym moves.state)) moves) (λ f. inr tt) refl refl))
    fault_ends fault mid new going is (inr aborts) leaves = go aborts.cause
      where
        go : FailsRead link fault aborts.at mid ⊎ ((fault ≡ OutOfMemory) × (mid ≡ aborts.at) × Untouched link aborts.leads.came old aborts.at) → Ends link tree (Fault fault) old new ⊎ Aborts link true tree (Fault fault) old new
        go (inl fails) =
            let same : new ≡ mid = leaves ∙ ap (λ f. after_fault true f mid) fails.is in
            let V : State → SessionValue = λ s. record aborts.at { channel = record aborts.at.channel { told = mid.channel.told; failed = true }; state = s } in
            let N : SessionValue → Type 0 = λ v. Aborts link true tree (Fault fault) old v in
            inr (subst N (sym same) (record { place = tree; at = aborts.at; leads = aborts.leads; state = aborts.state; going = aborts.going ∙ sym going; fault = ConnectionError (Io fails.kind); is = ap Fault fails.is; cause = inl (record { kind = fails.kind; is = refl; may = fails.may; same = fails.same ∙ ap V aborts.state; failed = fails.failed }) }))
        go (inr lacks) =
            let same : new ≡ failed_from mid = leaves ∙ ap (λ f. after_fault true f mid) lacks.0 in
            inr (record { place = tree; at = aborts.at; leads = aborts.leads; state = aborts.state; going = aborts.going ∙ sym going; fault = OutOfMemory; is = ap Fault lacks.0; cause = inr (record { is = refl; leaves = inr (same ∙ ap failed_from lacks.1 ∙ ap (λ s. failed_from (record aborts.at { state = s })) aborts.state, inl refl) }) })

    pub fault_heard : (fault : FtpError) (stage' : Stage) (mid new : SessionValue) → old.channel.failed ≡ false → ((reply : Response) → fault ≡ UnexpectedResponse reply → (left ≡ 0) ⊎ (ends_search reply ≡ true)) → SoughtBy mid (poll.Ready (Err fault)) → new ≡ after_fault true fault mid → MakesStep link coding call (Seeking turn left) stage' old new (Done (Fault fault))
    fault_heard fault stage' mid new going last heard leaves =
        let P : Tree → Type 0 = λ t. Ends link t (Fault fault) old new ⊎ Aborts link true t (Fault fault) old new in
        record {
          steps = subst P (sym (seeking_is left old.state)) (fault_ends fault mid new going (fault_is left old.state fault last) heard leaves);
          quiet = tt;
          begun = tt;
          answers = (First, inr tt, tt);
          fewer = λ is. let clash : Done (Fault fault) ≡ Next = is in cc;
          stage_of = tt;
        }

    -- what follows a reply of another status, or an error
    pub sought_on : (fault : FtpError) (stage' : Stage) (step : Step) (mid new : SessionValue) → old.channel.failed ≡ false → FollowsSought turn left fault stage' step → SoughtBy mid (poll.Ready (Err fault)) → new ≡ after_fault true fault mid → MakesStep link coding call (Seeking turn left) stage' old new step
    sought_on fault stage' Next mid new going (rest, reply, more, is, open_still, at) heard leaves =
        let S : Stage → Type 0 = λ s. MakesStep link coding call (Seeking turn left) s old new Next in
        subst S (sym at) (other_heard rest reply fault mid new more is open_still heard leaves)
    sought_on fault stage' Pending mid new going follows heard leaves = absurd follows
    sought_on fault stage' (Done last) mid new going (told, ends) heard leaves =
        let A : Answer → Type 0 = λ a. MakesStep link coding call (Seeking turn left) stage' old new (Done a) in
        subst A (sym told) (fault_heard fault stage' mid new going ends heard leaves)
