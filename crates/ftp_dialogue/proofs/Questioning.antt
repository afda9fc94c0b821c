-- What is asked on the way to a data connection, and what follows what was found.
use Rattle.std.proofs.Common.{◌≡◌, ℕ, zero, suc, ◌+◌, ◌-◌, ◌<◌, Bool, true, false, cond, Option, Some, None, Result, Ok, Err, inl, inr, ◌⊎◌, refl, ap, sym, ◌∙◌, subst, arith}
use Rattle.std.specs.declared.io.ErrorKind.{ErrorKind}
use Rattle.std.specs.declared.net.socket_addr.SocketAddr.{SocketAddr}
use Rattle.std.specs.declared.time.Duration.{Duration}
use Rattle.ftp_base.specs.declared.types.fault.FtpError.{FtpError}
use Rattle.ftp_base.specs.declared.types.fault.FtpError.TheVariants.{ConnectionError, OutOfMemory}
use Rattle.ftp_base.specs.declared.types.fault.ConnectionError.TheVariants.{Io, TimedOut}
use Rattle.ftp_base.specs.declared.types.mode.Mode.{Mode}
use Rattle.ftp_base.specs.declared.types.mode.Mode.TheVariants as mode
use Rattle.ftp_transport.specs.declared.request.Request.TheVariants.{Accept, Connect}
use Rattle.ftp_transport.specs.declared.request.RequestOutcome.{RequestOutcome}
use Rattle.ftp_transport.specs.declared.request.RequestOutcome.TheVariants.{Done as Made, Address, Refused}
use Rattle.ftp_calls.proofs.Openings.{read_opens_none}
use Rattle.ftp_calls.specs.declared.call.Answer.{Answer}
use Rattle.ftp_calls.specs.declared.call.Answer.TheVariants.{Fault}
use Rattle.ftp_calls.specs.declared.call.Call.{Call}
use Rattle.ftp_calls.specs.declared.exchange.Turn.{Turn}
use Rattle.ftp_calls.specs.declared.exchange.Turn.TheVariants.{First, Passive}
use Rattle.ftp_calls.specs.Exchanges.{negotiates, next_turn}
use Rattle.ftp_dialogue.specs.declared.negotiation.Reached.{Reached}
use Rattle.ftp_dialogue.specs.declared.negotiation.Reached.TheVariants as reached
use Rattle.ftp_dialogue.specs.declared.questions.Asked.TheVariants as asked
use Rattle.ftp_dialogue.specs.declared.questions.Found.{Found}
use Rattle.ftp_dialogue.specs.declared.questions.Found.TheVariants as found
use Rattle.ftp_dialogue.specs.declared.questions.Question.{Question}
use Rattle.ftp_dialogue.specs.declared.questions.Question.TheVariants as question
use Rattle.ftp_dialogue.specs.declared.stage.Asking.TheVariants.{PeerPort, Connection, Peer, Accepting, Securing}
use Rattle.ftp_dialogue.specs.declared.stage.Opened.{Opened as Opening}
use Rattle.ftp_dialogue.specs.declared.stage.Opened.TheVariants.{Gives, Performs}
use Rattle.ftp_dialogue.specs.declared.stage.OpeningData.{OpeningData as Way}
use Rattle.ftp_dialogue.specs.declared.stage.OpeningData.TheVariants.{Negotiating, Choosing, Locating, Binding, Asking}
use Rattle.ftp_dialogue.specs.declared.stage.Stage.{Stage}
use Rattle.ftp_dialogue.specs.declared.stage.Stage.TheVariants.{OpeningData}
use Rattle.ftp_dialogue.specs.declared.stage.Step.{Step}
use Rattle.ftp_dialogue.specs.declared.stage.Step.TheVariants.{Next, Pending, Done}
use Rattle.ftp_dialogue.specs.declared.state.State.{State}
use Rattle.ftp_dialogue.specs.Coding.{Coding}
use Rattle.ftp_dialogue.specs.Dialogue.{Here, There, Tree, Ask, Build, Secure, Leaf, accepting, admitting, connecting_to, later, lets_in, most_reads, negotiating, negotiating_unless, on_address, on_built, on_connection, opening_data, securing, with_transfer}
use Rattle.ftp_dialogue.specs.Link.{Link}
use Rattle.ftp_dialogue.specs.Promises.{Aborts, failed_from, state_at}
use Rattle.ftp_dialogue.specs.Sound.{cannot_open}
use Rattle.ftp_dialogue.specs.State.{SessionValue}
use Rattle.ftp_dialogue.specs.Steps.Moving.{AsksFirst, Ends, LooksUp, Moves, Speaks, Still, MakesStep, dropped}
use Rattle.ftp_dialogue.specs.Steps.Questions.{AcceptsNext, Arrives, AsksNode, Continues, Fits, Reaches, admitted_as, after_found, asked_by, builds_as, connects_as, first_unless, listens_as, looked_as, met_as, question_at, stands_as, to_turn, turned_as}
use Rattle.ftp_dialogue.specs.Steps.Stages.{OpeningOf, StageOf, StepAnswers, WayOf, begun_at, first_by, has_asked, nodes_from, nodes_left, nodes_of, opened_by, remaining, way_of}
use Rattle.ftp_dialogue.proofs.Moving.{leaf_ends}
use Rattle.ftp_dialogue.proofs.NegotiationLemmas.{NextFits, dropped_still, next_fits, still_fails, still_lacks, still_on, still_touched}

-- A question is the first node of what is left

-- who makes a connection
dials : (address : SocketAddr) (state : State) (next : Tree) → state.settings.stream_builder ≡ false → connecting_to address state next ≡ Ask (Connect address None) (on_connection state next)
dials address state next is = ap (λ b. cond b (Build address (on_built state next)) (Ask (Connect address None) (on_connection state next))) is

constructs : (address : SocketAddr) (state : State) (next : Tree) → state.settings.stream_builder ≡ true → connecting_to address state next ≡ Build address (on_built state next)
constructs address state next is = ap (λ b. cond b (Build address (on_built state next)) (Ask (Connect address None) (on_connection state next))) is

-- what is left where a peer isn't let in
abbrev others_of : Tree → SocketAddr → ℕ → State → Tree
others_of opened peer zero state = Leaf (Fault (ConnectionError TimedOut)) state
others_of opened peer (suc left) state = accepting opened peer left state

abbrev knocks : Tree → SocketAddr → ℕ → State → RequestOutcome → Tree
knocks opened peer left state = on_address state (λ from. admitting (lets_in state peer from) opened (others_of opened peer left state))

accepting_is : (opened : Tree) (peer : SocketAddr) (left : ℕ) (state : State) → accepting opened peer left state ≡ Ask (Accept state.settings.active_deadline) (knocks opened peer left state)
unfolding accepting
accepting_is opened peer zero state = refl
accepting_is opened peer (suc left) state = refl

-- a tree that begins with a question, by what it finds
abbrev Begins : Question → Duration → Tree → Type 0
Begins asks deadline tree = tree ≡ asked_by asks deadline (λ came. after_found came tree)

pub begins : (coding : Coding) (call : Call) (state : State) (way : Way) → way_of coding call state way ≡ asked_by (question_at state way) state.settings.active_deadline (λ came. after_found came (way_of coding call state way))
begins coding call state (Negotiating offset) = refl
begins coding call state (Asking turn (Connection address)) =
    let next : Tree = later coding call turn state in
    elim state.settings.stream_builder as (λ b. Begins (cond b (question.Building address) (question.Connection address)) state.settings.active_deadline (cond b (Build address (on_built state next)) (Ask (Connect address None) (on_connection state next)))) [
      | true ↦ refl
      | false ↦ refl
    ]
begins coding call state (Asking turn (Peer opened)) = refl
begins coding call state (Asking turn (Accepting peer left opened)) =
    subst (Begins question.Peer state.settings.active_deadline) (sym (accepting_is (securing (opened_by coding opened state) state) peer left state)) refl
begins coding call state (Asking turn (Securing opened)) = refl
begins coding call state other = refl

-- a line that is said first comes after no question
speaks_on : (asks : Question) (came : Found) (deadline : Duration) (next : Found → Tree) → Fits asks came → Speaks (asked_by asks deadline next) → Speaks (next came)
speaks_on question.Room found.Room deadline next fits s = s
speaks_on question.Room (found.Address address) deadline next fits s = absurd fits
speaks_on question.Room (found.Outcome outcome) deadline next fits s = absurd fits
speaks_on question.Room (found.Made fault) deadline next fits s = absurd fits
speaks_on question.OwnAddress came deadline next fits s = absurd s
speaks_on question.PeerAddress came deadline next fits s = absurd s
speaks_on (question.Connection address) came deadline next fits s = absurd s
speaks_on (question.Building address) came deadline next fits s = absurd s
speaks_on (question.Listener address) came deadline next fits s = absurd s
speaks_on question.Peer came deadline next fits s = absurd s
speaks_on question.Handshake came deadline next fits s = absurd s

-- where a reply was taken before no other is awaited
unheard : (coding : Coding) (call : Call) (state other : State) (way : Way) → has_asked way ≡ true → state_at (way_of coding call state way) OutOfMemory other ≡ other
unheard coding call state other (Negotiating offset) is = let clash : false ≡ true = is in cc
unheard coding call state other (Choosing offset) is = refl
unheard coding call state other (Locating offset) is = refl
unheard coding call state other (Binding local offset) is = refl
unheard coding call state other (Asking turn (PeerPort port)) is = refl
unheard coding call state other (Asking turn (Connection address)) is =
    elim state.settings.stream_builder as (λ b. state_at (cond b (Build address (on_built state (later coding call turn state))) (Ask (Connect address None) (on_connection state (later coding call turn state)))) OutOfMemory other ≡ other) [
      | true ↦ refl
      | false ↦ refl
    ]
unheard coding call state other (Asking turn (Peer opened)) is = refl
unheard coding call state other (Asking turn (Accepting peer left opened)) is =
    ap (λ tree. state_at tree OutOfMemory other) (accepting_is (securing (opened_by coding opened state) state) peer left state)
unheard coding call state other (Asking turn (Securing opened)) is = refl

-- It is asked

pub looked_local : (link : Link) (old new : SessionValue) (result : Result SocketAddr ErrorKind) → LooksUp link Here old new result → AsksNode link question.OwnAddress old new (looked_as result)
looked_local link old new (Ok address) looks = (tt, λ next. looks (λ a. next (found.Address a)))
looked_local link old new (Err kind) looks = λ begun next. looks begun (λ a. next (found.Address a))

pub looked_peer : (link : Link) (old new : SessionValue) (result : Result SocketAddr ErrorKind) → LooksUp link There old new result → AsksNode link question.PeerAddress old new (looked_as result)
looked_peer link old new (Ok address) looks = (tt, λ next. looks (λ a. next (found.Address a)))
looked_peer link old new (Err kind) looks = λ begun next. looks begun (λ a. next (found.Address a))

-- What a step makes of it

module _ (link : Link) (coding : Coding) (call : Call) (way : Way) (opens : negotiates call ≡ true) where
  abbrev place : State → Tree
  place state = way_of coding call state way

  -- the next node is reached
  step_on : (stage' : Stage) (old new : SessionValue) → Still link (place old.state) (remaining coding call old.state stage') old new → begun_at stage' ≡ has_asked way → (Speaks (place old.state) → Speaks (remaining coding call old.state stage')) → nodes_left stage' < nodes_of way → StageOf call stage' → MakesStep link coding call (OpeningData way) stage' old new Next
  step_on stage' old new still same speaks fewer stage_of = record {
    steps = still.advances;
    quiet = λ none. record { still = still; begun = sym same ∙ none; speaks = speaks; read = λ read. let clash : true ≡ false = sym read ∙ read_opens_none call opens in cc };
    begun = (λ has. inl (sym same ∙ has), λ none. (sym same ∙ none, still_touched link _ _ old new still));
    answers = tt;
    fewer = λ is. fewer;
    stage_of = stage_of;
  }

  -- the call has its answer
  step_ends : (stage' : Stage) (answer : Answer) (old new : SessionValue) → Ends link (place old.state) answer old new ⊎ Aborts link (has_asked way) (place old.state) answer old new → StepAnswers call (Done answer) → MakesStep link coding call (OpeningData way) stage' old new (Done answer)
  step_ends stage' answer old new made answers = record {
    steps = made;
    quiet = tt;
    begun = tt;
    answers = answers;
    fewer = λ is. let clash : Done answer ≡ Next = is in cc;
    stage_of = tt;
  }

  -- it waits
  pub waits_there : (old new : SessionValue) → WayOf call way → AsksNode link (question_at old.state way) old new asked.Waits → MakesStep link coding call (OpeningData way) (OpeningData way) old new Pending
  waits_there old new of waits =
      let tree : Tree = place old.state in
      let T : Tree → Type 0 = λ t. Still link t t old new × AsksFirst t in
      let here : T tree = subst T (sym (begins coding call old.state way)) (waits.0 (λ came. after_found came tree)) in
      record {
        steps = (here.0.advances, inr (inr (record { asks = here.1; may = waits.1 })));
        quiet = tt;
        begun = (λ has. inl has, λ none. (none, still_touched link _ _ old new here.0));
        answers = tt;
        fewer = λ is. let clash : Pending ≡ Next = is in cc;
        stage_of = (opens, of);
      }

  -- the control connection failed
  pub fails_there : (stage' : Stage) (kind : ErrorKind) (old new : SessionValue) → AsksNode link (question_at old.state way) old new (asked.Failed kind) → MakesStep link coding call (OpeningData way) stage' old new (Done (Fault (ConnectionError (Io kind))))
  fails_there stage' kind old new fails =
      let tree : Tree = place old.state in
      let T : Tree → Type 0 = λ t. Aborts link (has_asked way) t (Fault (ConnectionError (Io kind))) old new in
      step_ends stage' (Fault (ConnectionError (Io kind))) old new (inr (subst T (sym (begins coding call old.state way)) (fails (has_asked way) (λ came. after_found came tree)))) (First, inr tt, tt)

  -- memory ran out
  pub lacks_memory_there : (stage' : Stage) (old mid : SessionValue) → old.channel.failed ≡ false → AsksNode link (question_at old.state way) old mid asked.NoMemory → MakesStep link coding call (OpeningData way) stage' old (cond (has_asked way) (failed_from mid) mid) (Done (Fault OutOfMemory))
  lacks_memory_there stage' old mid going lacks = go (has_asked way) refl
    where
      tree : Tree
      tree = place old.state

      here : Still link tree tree old mid
      here = (let T : Tree → Type 0 = λ t. Still link t t old mid in subst T (sym (begins coding call old.state way)) (lacks (λ came. after_found came tree)))

      go : (b : Bool) → has_asked way ≡ b → MakesStep link coding call (OpeningData way) stage' old (cond b (failed_from mid) mid) (Done (Fault OutOfMemory))
      go true is =
          let A : Bool → Type 0 = λ b. Aborts link b tree (Fault OutOfMemory) old (failed_from mid) in
          step_ends stage' (Fault OutOfMemory) old (failed_from mid) (inr (subst A (sym is) (still_fails link tree old mid (unheard coding call old.state mid.state way is) going here))) (First, inr tt, tt)
      go false is =
          let A : Bool → Type 0 = λ b. Aborts link b tree (Fault OutOfMemory) old mid in
          step_ends stage' (Fault OutOfMemory) old mid (inr (subst A (sym is) (still_lacks link tree old mid going here))) (First, inr tt, tt)

  -- something was found, and the machine gets to what follows
  pub found_there : (came : Found) (follows : Reached) (stage' : Stage) (old mid new : SessionValue) (result : Step) → AsksNode link (question_at old.state way) old mid (asked.Found came) → Continues coding call way came mid.state follows → Arrives follows stage' mid new result → MakesStep link coding call (OpeningData way) stage' old new result
  found_there came follows stage' old mid new result finds continues arrives = go follows (subst C here.advances.moves.state continues) arrives
    where
      tree : Tree
      tree = place old.state

      here : Still link tree (after_found came tree) old mid
      here = (let T : Tree → Type 0 = λ t. Still link t (after_found came tree) old mid in subst T (sym (begins coding call old.state way)) (finds.1 (λ found. after_found found tree)))

      C : State → Type 0
      C state = Continues coding call way came state follows

      speaks : Speaks tree → Speaks (after_found came tree)
      speaks s = (let S : Tree → Type 0 = Speaks in speaks_on (question_at old.state way) came old.state.settings.active_deadline (λ found. after_found found tree) finds.0 (subst S (begins coding call old.state way) s))

      on : (stage : Stage) (last : SessionValue) → Reaches coding call way came old.state stage → Still link tree (remaining coding call old.state stage) old last → MakesStep link coding call (OpeningData way) stage old last Next
      on stage last reaches still =
          let S : Tree → Type 0 = λ t. Speaks tree → Speaks t in
          step_on stage old last still reaches.begun (subst S reaches.same speaks) reaches.fewer reaches.stage_of

      W : Stage → SessionValue → Step → Type 0
      W stage last step = MakesStep link coding call (OpeningData way) stage old last step

      go : (follows : Reached) → Continues coding call way came old.state follows → Arrives follows stage' mid new result → W stage' new result
      go (reached.Node stage) reaches (is, at, same) =
          let T : Tree → Type 0 = λ t. Still link tree t old mid in
          rw (is, at, same) (on stage mid reaches (subst T reaches.same here))
      go (reached.Turned stage) (reaches, next) (is, at, same) =
          let T : Tree → Type 0 = λ t. Still link tree t old mid in
          let D : State → Type 0 = λ s. AcceptsNext (remaining coding call old.state stage) s.settings.active_deadline in
          let A : Tree → Type 0 = λ t. Still link t t mid (dropped mid) in
          let again : A (remaining coding call old.state stage) = subst A (sym next.is) (dropped_still link old.state.settings.active_deadline next.next mid) in
          rw (is, at, same) (on stage (dropped mid) reaches (still_on link tree (remaining coding call old.state stage) (remaining coding call old.state stage) old mid (dropped mid) (subst T reaches.same here) again))
      go (reached.Opens answer) (leaf, answers) (is, same) =
          let M : Tree → Type 0 = λ t. Moves link tree t old mid in
          let L : State → Tree = λ s. Leaf answer (with_transfer s) in
          let moves = subst M (leaf ∙ ap L (sym here.advances.moves.state)) here.advances.moves in
          rw (is, same) (step_ends stage' answer old (record mid { state = with_transfer mid.state }) (inl (leaf_ends link tree answer old mid (record mid { state = with_transfer mid.state }) moves (λ f. inl (sym here.advances.failed ∙ f)) refl refl)) answers)
      go (reached.Answers answer) (leaf, answers) (is, same) =
          let M : Tree → Type 0 = λ t. Moves link tree t old mid in
          let L : State → Tree = λ s. Leaf answer s in
          let moves = subst M (leaf ∙ ap L (sym here.advances.moves.state)) here.advances.moves in
          rw (is, same) (step_ends stage' answer old mid (inl (leaf_ends link tree answer old mid mid moves (λ f. inl (sym here.advances.failed ∙ f)) refl refl)) answers)

-- What follows what was found

-- fewer nodes are left
pub reached_fewer : (turn : Turn) → nodes_from turn - 4 < nodes_from turn - 3
reached_fewer First = omega arith
reached_fewer other = omega arith

module _ (coding : Coding) (call : Call) (opens : negotiates call ≡ true) (state : State) where
  -- the first node, by who opens the data connection
  pub first_continues : (offset : ℕ) → Continues coding call (Negotiating offset) found.Room state (first_unless (cannot_open state.counts) state.settings.mode offset)
  first_continues offset = go (cannot_open state.counts) refl
    where
      by : (m : Mode) → negotiating coding call offset state ≡ opening_data m coding call offset state → Reaches coding call (Negotiating offset) found.Room state (first_by m offset)
      by mode.Active same = record { same = same; begun = refl; fewer = omega arith; stage_of = (opens, tt) }
      by mode.Passive same = record { same = same; begun = refl; fewer = omega arith; stage_of = opens }
      by mode.ExtendedPassive same = record { same = same; begun = refl; fewer = omega arith; stage_of = opens }
      by mode.Automatic same = record { same = same; begun = refl; fewer = omega arith; stage_of = (opens, tt) }

      go : (cannot : Option FtpError) → cannot_open state.counts ≡ cannot → Continues coding call (Negotiating offset) found.Room state (first_unless cannot state.settings.mode offset)
      go (Some fault) is = (ap (λ o. negotiating_unless o coding call offset state) is, (First, inr tt, tt))
      go None is = by state.settings.mode (ap (λ o. negotiating_unless o coding call offset state) is)

  pub listens_continues : (local : SocketAddr) (offset : ℕ) (outcome : RequestOutcome) → Continues coding call (Binding local offset) (found.Outcome outcome) state (listens_as local offset outcome)
  listens_continues local offset (Address bound) = record { same = refl; begun = refl; fewer = omega arith; stage_of = opens }
  listens_continues local offset (Refused fault) = (refl, (First, inr tt, tt))
  listens_continues local offset Made = (refl, (First, inr tt, tt))

  -- the next turn begins, or the call is done
  turn_continues : (way : Way) (came : Found) (turn : Turn) → after_found came (way_of coding call state way) ≡ later coding call turn state → has_asked way ≡ true → nodes_of way ≡ nodes_from turn - 4 → Continues coding call way came state (to_turn (next_turn call turn))
  turn_continues way came turn same asked nodes = go (next_turn call turn) (next_fits coding call turn)
    where
      go : (next : Option Turn) → NextFits coding call (nodes_from turn) (later coding call turn) next → Continues coding call way came state (to_turn next)
      go None done = (same ∙ done state, (Passive 0 false, inl opens, refl))
      go (Some next) fits = record { same = same ∙ fits.3 state; begun = fits.1 ∙ sym asked; fewer = rw nodes fits.0; stage_of = fits.2 opens }

  pub connects_continues : (turn : Turn) (address : SocketAddr) (outcome : RequestOutcome) → Fits (question_at state (Asking turn (Connection address))) (found.Outcome outcome) → Continues coding call (Asking turn (Connection address)) (found.Outcome outcome) state (connects_as (next_turn call turn) outcome)
  connects_continues turn address outcome fits = go state.settings.stream_builder refl fits
    where
      way : Way
      way = Asking turn (Connection address)

      next : Tree
      next = later coding call turn state

      by : (outcome : RequestOutcome) → after_found (found.Outcome outcome) (connecting_to address state next) ≡ on_connection state next outcome → Continues coding call way (found.Outcome outcome) state (connects_as (next_turn call turn) outcome)
      by (Refused fault) same = (same, (First, inr tt, tt))
      by (Address other) same = turn_continues way (found.Outcome (Address other)) turn same refl refl
      by Made same = turn_continues way (found.Outcome Made) turn same refl refl

      go : (b : Bool) → state.settings.stream_builder ≡ b → Fits (cond b (question.Building address) (question.Connection address)) (found.Outcome outcome) → Continues coding call way (found.Outcome outcome) state (connects_as (next_turn call turn) outcome)
      go true is fits = absurd fits
      go false is fits = by outcome (ap (after_found (found.Outcome outcome)) (dials address state next is))

  pub builds_continues : (turn : Turn) (address : SocketAddr) (fault : Option FtpError) → Fits (question_at state (Asking turn (Connection address))) (found.Made fault) → Continues coding call (Asking turn (Connection address)) (found.Made fault) state (builds_as (next_turn call turn) fault)
  builds_continues turn address fault fits = go state.settings.stream_builder refl fits
    where
      way : Way
      way = Asking turn (Connection address)

      next : Tree
      next = later coding call turn state

      by : (fault : Option FtpError) → after_found (found.Made fault) (connecting_to address state next) ≡ on_built state next fault → Continues coding call way (found.Made fault) state (builds_as (next_turn call turn) fault)
      by (Some fault) same = (same, (First, inr tt, tt))
      by None same = turn_continues way (found.Made None) turn same refl refl

      go : (b : Bool) → state.settings.stream_builder ≡ b → Fits (cond b (question.Building address) (question.Connection address)) (found.Made fault) → Continues coding call way (found.Made fault) state (builds_as (next_turn call turn) fault)
      go true is fits = by fault (ap (after_found (found.Made fault)) (constructs address state next is))
      go false is fits = absurd fits

  -- the data connection stands
  stands_continues : (way : Way) (came : Found) (opened : Opening) → after_found came (way_of coding call state way) ≡ opened_by coding opened state → has_asked way ≡ true → most_reads + 11 < nodes_of way → OpeningOf call opened → Continues coding call way came state (stands_as opened)
  stands_continues way came (Gives answer) same asked fewer may = (same, may.0)
  stands_continues way came (Performs task) same asked fewer may = record { same = same; begun = sym asked; fewer = fewer; stage_of = may }

  pub met_continues : (turn : Turn) (peer : SocketAddr) (left : ℕ) (opened : Opening) (outcome : RequestOutcome) → OpeningOf call opened → Continues coding call (Asking turn (Accepting peer left opened)) (found.Outcome outcome) state (met_as state turn peer left opened outcome)
  met_continues turn peer left opened outcome may = go outcome (ap (after_found (found.Outcome outcome)) (accepting_is stands peer left state))
    where
      stands : Tree
      stands = securing (opened_by coding opened state) state

      C : ℕ → RequestOutcome → Reached → Type 0
      C left outcome follows = Continues coding call (Asking turn (Accepting peer left opened)) (found.Outcome outcome) state follows

      -- what is left where one came
      S : ℕ → SocketAddr → Tree → Type 0
      S left from tree = after_found (found.Outcome (Address from)) (accepting stands peer left state) ≡ tree

      turned : (left : ℕ) (from : SocketAddr) → S left from (others_of stands peer left state) → C left (Address from) (turned_as turn peer left opened)
      turned zero from same = (same, (First, inr tt, tt))
      turned (suc left) from same = (record { same = same; begun = refl; fewer = omega arith; stage_of = (opens, may) }, record { next = knocks stands peer left state; is = accepting_is stands peer left state })

      admitted : (b : Bool) (from : SocketAddr) → S left from (cond b (Secure (on_built state (opened_by coding opened state))) (opened_by coding opened state)) → C left (Address from) (admitted_as b turn opened)
      admitted true from same = record { same = same; begun = refl; fewer = omega arith; stage_of = (opens, may) }
      admitted false from same = stands_continues (Asking turn (Accepting peer left opened)) (found.Outcome (Address from)) opened same refl (omega arith) may

      allowed : (b : Bool) (from : SocketAddr) → S left from (admitting b stands (others_of stands peer left state)) → C left (Address from) (cond b (admitted_as state.settings.secure turn opened) (turned_as turn peer left opened))
      allowed true from same = admitted state.settings.secure from same
      allowed false from same = turned left from same

      go : (outcome : RequestOutcome) → after_found (found.Outcome outcome) (accepting stands peer left state) ≡ knocks stands peer left state outcome → C left outcome (met_as state turn peer left opened outcome)
      go (Address from) same = allowed (lets_in state peer from) from same
      go (Refused fault) same = (same, (First, inr tt, tt))
      go Made same = (same, (First, inr tt, tt))
