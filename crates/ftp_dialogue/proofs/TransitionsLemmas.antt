-- Lemmas on the machine's steps and polls.
use Rattle.std.proofs.Common.{◌∷◌, ◌++◌, append-nil, ◌≡◌, ◌<◌, ◌+◌, ◌&&◌, ℕ, length, ◌==◌, is_none, Bool, true, false, cond, Option, Some, None, List, [], Result, Ok, Err, inl, inr, ◌⊎◌, refl, ap, sym, ◌∙◌, subst, arith}
use Rattle.futures.specs.declared.task.Poll.{Poll}
use Rattle.futures.specs.declared.task.Poll.TheVariants as poll
use Rattle.ftp_base.specs.declared.command.Command.{Command}
use Rattle.ftp_base.specs.declared.types.reply.Response.{Response}
use Rattle.ftp_base.specs.declared.types.fault.FtpError.{FtpError}
use Rattle.ftp_base.specs.declared.types.fault.FtpError.TheVariants.{ConnectionError, SecureError, DataConnectionAlreadyOpen, OutOfMemory, SessionFailed}
use Rattle.ftp_base.specs.declared.types.fault.ConnectionError.{ConnectionError as Cause}
use Rattle.ftp_base.specs.declared.types.fault.ConnectionError.TheVariants.{Io}
use Rattle.ftp_calls.specs.declared.exchange.Ending.{Ending}
use Rattle.ftp_calls.specs.declared.exchange.Ending.TheVariants as ending
use Rattle.ftp_transport.specs.Told.{Told, EndsAsTold, HasFailed}
use Rattle.ftp_dialogue.specs.declared.state.State.{State}
use Rattle.ftp_calls.specs.declared.call.Answer.{Answer}
use Rattle.ftp_calls.specs.declared.call.Answer.TheVariants.{Unit, Fault}
use Rattle.ftp_calls.specs.declared.call.Answer.TheVariants as answer
use Rattle.ftp_calls.specs.declared.exchange.Movement.{Movement}
use Rattle.ftp_calls.specs.declared.exchange.Movement.TheVariants as movement
use Rattle.ftp_calls.specs.declared.call.Call.{Call}
use Rattle.ftp_calls.specs.declared.call.Call.TheVariants.{Drain}
use Rattle.ftp_calls.specs.declared.exchange.Turn.{Turn}
use Rattle.ftp_calls.specs.declared.exchange.Turn.TheVariants.{First, Second, Passive, ExtendedPassive, Active, Restart, Closed, Aborted}
use Rattle.ftp_dialogue.specs.declared.stage.Awaits.{Awaits}
use Rattle.ftp_dialogue.specs.declared.stage.Stage.{Stage}
use Rattle.ftp_dialogue.specs.declared.stage.Stage.TheVariants.{At, Composing, Saying, Hearing, Seeking, SettingOffset, OpeningData, Transferring, Closing}
use Rattle.ftp_dialogue.specs.declared.stage.AfterLine.TheVariants.{Hears as HearsThen, Recovers}
use Rattle.ftp_dialogue.specs.declared.stage.AfterClose.TheVariants.{Finishes, Aborts as AbortsThen, Fetched as FetchedAll}
use Rattle.ftp_dialogue.specs.declared.stage.Recovery.TheVariants.{Abort, Resync}
use Rattle.ftp_dialogue.specs.declared.stage.Step.{Step}
use Rattle.ftp_dialogue.specs.declared.stage.Step.TheVariants.{Next, Pending, Done}
use Rattle.ftp_dialogue.specs.State.{SessionValue, LetsGo}
use Rattle.ftp_dialogue.specs.Coding.{Coding}
use Rattle.ftp_calls.specs.declared.exchange.Row.{Row}
use Rattle.ftp_calls.specs.declared.exchange.Row.TheVariants.{Exchanges, Arms, Resyncs, Sets}
use Rattle.ftp_calls.specs.declared.exchange.Row.TheVariants as row
use Rattle.ftp_calls.specs.Exchanges.{aborting_row, finishes, is_aborting, is_local, is_read, negotiates, of_transfer, row_of, says_of}
use Rattle.ftp_dialogue.proofs.Sorts.{fetch_opens, read_finishes_none, aborts_finish, finishing_no_read}
use Rattle.ftp_dialogue.proofs.CarryingLemmas.{failing_refuses, plain_entered}
use Rattle.ftp_dialogue.proofs.Faults.{told_failure, told_fails}
use Rattle.ftp_dialogue.specs.Play.{Taken}
use Rattle.ftp_calls.proofs.Openings.{read_opens_none}
use Rattle.ftp_dialogue.proofs.Stages.{later_is_no_read, resync_unread}
use Rattle.ftp_dialogue.specs.Dialogue.{Expected, expected_of, most_passed_over, seeking, Tree, Say, Hear, Leaf, Move, carrying, moved_answer, saying, after_fault_of, answer_to_fault, armed, awaiting, concluded, doing, accepted, later, from_turn, opened_from, wants_memory, with_left, dialogue}
use Rattle.ftp_dialogue.proofs.DrainingLemmas.{failed_undue, makes_undue}
use Rattle.ftp_dialogue.specs.Promises.{DrainsIf, PlaysAlone, due_of, AbortsRead, FailsRead, IsFault, Aborts, Fails, SaidOrTaken, Touched, Untouched, LacksMemory, Plays, GivesFault, Reads, Rests, begun_by, failed_from, lacking_at, refusal_of, state_at}
use Rattle.ftp_control.specs.Channel.{untaken}
use Rattle.ftp_dialogue.specs.Resuming.{Resumes, modes_of}
use Rattle.ftp_dialogue.specs.Steps.Polls.{entered_at, entered_state, entered_tree, is_first}
use Rattle.ftp_dialogue.specs.Steps.Stages.{MayAnswer, NotBegun, StageAfter, StageOf, StepAnswers, awaited, begun_at, is_later, line_of, nodes_from, nodes_left, remaining}
use Rattle.ftp_dialogue.specs.Steps.Moving.{Moves, Advances, Ends, Steps, PollSteps, Hears, BeginsExchange, Concludes, Made, MakesStep, NothingTouched, NothingYet, Quiet, Still, HasBegun, HeardFault, BeginsHere, EndsFaulty, FaultLeaves, FaultLeavesIf, Speaks, Takes, Tracks, takes_memory, withheld, after_fault}
use Rattle.ftp_dialogue.proofs.Moving.{advances_on, leads_on, leaf_ends, refused_line, lacks_memory_first, lacks_memory_at, stays_put, ends_on, aborts_on, said_or_taken_on, untouched, untouched_after}
use Rattle.ftp_dialogue.proofs.NegotiationLemmas.{still_on, unchanged_still}
use Rattle.ftp_dialogue.specs.Link.{Link}
use Rattle.ftp_base.specs.Wire.{wire}
use Rattle.ftp_base.specs.Command.{text_of}
use Rattle.ftp_dialogue.specs.Sound.{some_live}
use Rattle.ftp_base.specs.declared.command.Command.TheVariants.{Noop}

-- An exchange begins

-- a line that is refused is the answer
line_refused : (link : Link) (coding : Coding) (command : Option Command) (cause : Cause) (next : Tree) (v : SessionValue) → line_of coding command ≡ Err cause → Ends link (saying coding command next) (Fault (ConnectionError cause)) v v
line_refused link coding None cause next v is = let clash : Ok [] ≡ Err cause = is in cc
line_refused link coding (Some command) cause next v is =
    let P : Result (List ℕ) Cause → Type 0 = λ line. Ends link (Say line next) (Fault (ConnectionError cause)) v v in
    subst P (sym is) (refused_line link cause next v)

-- a row whose line is refused
row_refused : (link : Link) (coding : Coding) (row : Row) (cause : Cause) (later : State → Tree) (v : SessionValue) → line_of coding (says_of row) ≡ Err cause → Ends link (doing coding row v.state later) (Fault (ConnectionError cause)) v v
row_refused link coding (Exchanges e) cause later v is = line_refused link coding e.says cause (awaiting coding (expected_of e.hears) e.ending v.state later) v is
row_refused link coding other cause later v is = let clash : Ok [] ≡ Err cause = is in cc

-- where an exchange doesn't begin since memory ran out the state stays, since no reply of an abort is awaited
fault_stays : (ending : Ending) (state : State) → is_aborting ending ≡ false → after_fault_of ending OutOfMemory state ≡ state
fault_stays ending.Stops state none = let clash : true ≡ false = none in cc
fault_stays other state none = refl

saying_stays : (coding : Coding) (command : Option Command) (expected : Expected) (ending : Ending) (state : State) (next : State → Tree) → (is_none command && is_aborting ending) ≡ false → state_at (saying coding command (awaiting coding expected ending state next)) OutOfMemory state ≡ state
saying_stays coding None expected ending state next none = fault_stays ending state none
saying_stays coding (Some command) expected ending state next none = refl

carrying_stays : (m : Movement) (state : State) → state_at (carrying m state) OutOfMemory state ≡ state
carrying_stays (movement.Read most) state = elim (most == 0) as (λ b. state_at (cond b (Leaf (answer.Bytes []) state) (Move (movement.Read most) (λ came. Leaf (moved_answer came) state))) OutOfMemory state ≡ state) [
  | true ↦ refl
  | false ↦ refl
]
carrying_stays (movement.Write bytes) state = elim (length bytes == 0) as (λ b. state_at (cond b (Leaf (answer.Count 0) state) (Move (movement.Write bytes) (λ came. Leaf (moved_answer came) state))) OutOfMemory state ≡ state) [
  | true ↦ refl
  | false ↦ refl
]
carrying_stays movement.Close state = refl

row_stays : (coding : Coding) (row : Row) (next : State → Tree) (state : State) → (is_none (says_of row) && aborting_row row) ≡ false → state_at (doing coding row state next) OutOfMemory state ≡ state
row_stays coding (Exchanges e) next state none = saying_stays coding e.says (expected_of e.hears) e.ending state next none
row_stays coding (Arms offset) next state none = refl
row_stays coding Resyncs next state none = elim (some_live state.counts.owed) as (λ b. state_at (cond b (Leaf (Fault DataConnectionAlreadyOpen) state) (Say (wire coding.encode (text_of Noop)) (seeking most_passed_over state))) OutOfMemory state ≡ state) [
  | true ↦ refl
  | false ↦ refl
]
row_stays coding (Sets setting) next state none = refl
row_stays coding (row.Moves m) next state none = carrying_stays m state

-- an accepted reply whose answer takes memory is the last
accepted_unheard : (coding : Coding) (ending : Ending) (state other : State) (reply : Response) (next : State → Tree) → takes_memory ending ≡ true → state_at (accepted coding ending state reply next) OutOfMemory other ≡ other
accepted_unheard coding ending.Greets state other reply next takes = refl
accepted_unheard coding ending.GivesPath state other reply next takes = refl
accepted_unheard coding ending.GivesSecondLine state other reply next takes = refl
accepted_unheard coding ending.GivesFeatures state other reply next takes = refl
accepted_unheard coding another state other reply next takes = let clash : false ≡ true = takes in cc

-- an exchange that doesn't begin
pub refused_ends : (link : Link) (coding : Coding) (call : Call) (turn : Turn) (fault : FtpError) (v : SessionValue) → v.channel.failed ≡ false → NotBegun coding (row_of call turn) fault → Ends link (from_turn coding call turn v.state) (Fault fault) v (after_fault (is_later turn) fault v) ⊎ Aborts link (is_later turn) (from_turn coding call turn v.state) (Fault fault) v (after_fault (is_later turn) fault v)
refused_ends link coding call turn (ConnectionError cause) v going is =
    inl (row_refused link coding (row_of call turn) cause (later coding call turn) v is.0)
refused_ends link coding call turn (SecureError text) v going is = absurd is.0
refused_ends link coding call turn OutOfMemory v going is =
    let tree = from_turn coding call turn v.state in
    inr (elim (is_later turn) as (λ b. Aborts link b tree (Fault OutOfMemory) v (after_fault b OutOfMemory v)) [
      | true ↦ lacks_memory_at link true tree tree v v (row_stays coding (row_of call turn) (later coding call turn) v.state is.1) (inl refl) (stays_put link tree tree v refl).moves refl
      | false ↦ lacks_memory_first link tree v
    ])
refused_ends link coding call turn SessionFailed v going is = absurd is.0
refused_ends link coding call turn other v going is = absurd is.0

-- an exchange begins
exchange_begins : (link : Link) (coding : Coding) (call : Call) (turn : Turn) (stage' : Stage) (old new : SessionValue) (step : Step) → old.channel.failed ≡ false → BeginsExchange coding call turn stage' old new step → Steps link (is_later turn) (from_turn coding call turn old.state) (remaining coding call old.state stage') old new step
exchange_begins link coding call turn stage' old new Next going begins =
    let P : SessionValue → Type 0 = λ v. Advances link (from_turn coding call turn old.state) (remaining coding call old.state stage') old v in
    subst P (sym begins.0) (stays_put link (from_turn coding call turn old.state) (remaining coding call old.state stage') old (begins.1.same old.state))
exchange_begins link coding call turn stage' old new Pending going begins = absurd begins
exchange_begins link coding call turn stage' old new (Done answer) going refused =
    let P : SessionValue → Answer → Type 0 = λ v a. Ends link (from_turn coding call turn old.state) a old v ⊎ Aborts link (is_later turn) (from_turn coding call turn old.state) a old v in
    let Q : SessionValue → Type 0 = λ v. P v answer in
    let R : Answer → Type 0 = P (after_fault (is_later turn) refused.fault old) in
    subst Q (sym refused.leaves) (subst R (sym refused.is) (refused_ends link coding call turn refused.fault old going refused.cause))

-- once something was said or taken no step is a first one
pub begun_is_quiet : (link : Link) (coding : Coding) (call : Call) (stage stage' : Stage) (old new : SessionValue) (result : Step) → (result ≡ Next → begun_at stage' ≡ true) → Quiet link coding call stage stage' old new result
begun_is_quiet link coding call stage stage' old new Next goes = λ none. let clash : true ≡ false = sym (goes refl) ∙ none in cc
begun_is_quiet link coding call stage stage' old new Pending goes = tt
begun_is_quiet link coding call stage stage' old new (Done answer) goes = tt

exchange_is_quiet : (link : Link) (coding : Coding) (call : Call) (turn : Turn) (stage' : Stage) (old new : SessionValue) (step : Step) → BeginsExchange coding call turn stage' old new step → Quiet link coding call (At turn) stage' old new step
exchange_is_quiet link coding call turn stage' old new Next begins = λ begun.
    let is : remaining coding call old.state stage' ≡ from_turn coding call turn old.state = begins.1.same old.state in
    record {
      still = unchanged_still link (from_turn coding call turn old.state) (remaining coding call old.state stage') old new begins.0 is;
      begun = sym begins.1.begun ∙ begun;
      speaks = λ speaks. (let P : Tree → Type 0 = Speaks in subst P (sym is) speaks);
      read = λ read. begins.0;
    }
exchange_is_quiet link coding call turn stage' old new Pending begins = tt
exchange_is_quiet link coding call turn stage' old new (Done answer) begins = tt

exchange_tracks : (link : Link) (coding : Coding) (call : Call) (turn : Turn) (stage' : Stage) (tree : Tree) (old new : SessionValue) (step : Step) → BeginsExchange coding call turn stage' old new step → Tracks link (is_later turn) (begun_at stage') tree old new step
exchange_tracks link coding call turn stage' tree old new Next begins =
    let P : SessionValue → Type 0 = λ v. NothingTouched link old v in
    (λ has. inl (sym begins.1.begun ∙ has), λ none. (sym begins.1.begun ∙ none, subst P (sym begins.0) (untouched link old)))
exchange_tracks link coding call turn stage' tree old new Pending begins = absurd begins
exchange_tracks link coding call turn stage' tree old new (Done answer) begins = tt

exchange_answers : (coding : Coding) (call : Call) (turn : Turn) (stage' : Stage) (result : Step) (old new : SessionValue) → BeginsExchange coding call turn stage' old new result → StepAnswers call result
exchange_answers coding call turn stage' (Done answer) old new refused =
    let A : Answer → Type 0 = λ a. MayAnswer call a in
    subst A (sym refused.is) (First, inr tt, tt)
exchange_answers coding call turn stage' other old new begins = tt

exchange_stage : (coding : Coding) (call : Call) (turn : Turn) (stage' : Stage) (result : Step) (old new : SessionValue) → BeginsExchange coding call turn stage' old new result → StageAfter call stage' result
exchange_stage coding call turn stage' Next old new begins = begins.1.stage_of
exchange_stage coding call turn stage' Pending old new begins = absurd begins
exchange_stage coding call turn stage' (Done answer) old new refused = tt

exchange_fewer : (coding : Coding) (call : Call) (turn : Turn) (stage' : Stage) (result : Step) (old new : SessionValue) → BeginsExchange coding call turn stage' old new result → result ≡ Next → nodes_left stage' < nodes_from turn
exchange_fewer coding call turn stage' Next old new begins is = begins.1.fewer
exchange_fewer coding call turn stage' Pending old new begins is = absurd begins
exchange_fewer coding call turn stage' (Done answer) old new refused is = let clash : Done answer ≡ Next = is in cc

pub exchange_makes : (link : Link) (coding : Coding) (call : Call) (turn : Turn) (stage' : Stage) (result : Step) (old new : SessionValue) → old.channel.failed ≡ false → BeginsExchange coding call turn stage' old new result → MakesStep link coding call (At turn) stage' old new result
exchange_makes link coding call turn stage' result old new going begins = record {
  steps = exchange_begins link coding call turn stage' old new result going begins;
  quiet = exchange_is_quiet link coding call turn stage' old new result begins;
  begun = exchange_tracks link coding call turn stage' (from_turn coding call turn old.state) old new result begins;
  answers = exchange_answers coding call turn stage' result old new begins;
  fewer = exchange_fewer coding call turn stage' result old new begins;
  stage_of = exchange_stage coding call turn stage' result old new begins;
}

-- it never waits, and nothing is done beside the control connection
pub exchange_goes : (coding : Coding) (call : Call) (turn : Turn) (stage' : Stage) (result : Step) (old new : SessionValue) → BeginsExchange coding call turn stage' old new result → result ≡ Pending → ⊥
exchange_goes coding call turn stage' Next old new begins is = cc is
exchange_goes coding call turn stage' Pending old new begins is = begins
exchange_goes coding call turn stage' (Done answer) old new refused is = cc is

pub fault_apart : (begun : Bool) (fault : FtpError) (v : SessionValue) → ((after_fault begun fault v).net ≡ v.net) × ((after_fault begun fault v).channel.ended ≡ v.channel.ended)
fault_apart begun fault v = elim (wants_memory fault && begun) as (λ b. ((cond b (failed_from v) v).net ≡ v.net) × ((cond b (failed_from v) v).channel.ended ≡ v.channel.ended)) [
  | true ↦ (refl, refl)
  | false ↦ (refl, refl)
]

pub exchange_apart : (coding : Coding) (call : Call) (turn : Turn) (stage' : Stage) (result : Step) (old new : SessionValue) → BeginsExchange coding call turn stage' old new result → (new.net ≡ old.net) × (new.channel.ended ≡ old.channel.ended)
exchange_apart coding call turn stage' Next old new begins = (ap (λ v. v.net) begins.0, ap (λ v. v.channel.ended) begins.0)
exchange_apart coding call turn stage' Pending old new begins = absurd begins
exchange_apart coding call turn stage' (Done answer) old new refused =
    let apart = fault_apart (is_later turn) refused.fault old in
    (ap (λ v. v.net) refused.leaves ∙ apart.0, ap (λ v. v.channel.ended) refused.leaves ∙ apart.1)

-- A reply is heard

-- a reply that was heard is accepted
pub concludes : (link : Link) (coding : Coding) (call : Call) (a : Awaits) (reply : Response) (stage' : Stage) (old mid new : SessionValue) (step : Step) → old.channel.failed ≡ false → Advances link (awaited coding call old.state a) (accepted coding a.ending old.state reply (later coding call a.turn)) old mid → Takes link (awaited coding call old.state a) old mid → Concludes coding call a reply stage' mid new step → Steps link a.begun (awaited coding call old.state a) (remaining coding call old.state stage') old new step
concludes link coding call a reply stage' old mid new Next going heard takes done =
    let P : SessionValue → Type 0 = λ v. Advances link (awaited coding call old.state a) (remaining coding call old.state stage') old v in
    let Q : State → Type 0 = λ s. accepted coding a.ending s reply (later coding call a.turn) ≡ remaining coding call s stage' in
    let T : Tree → Type 0 = λ t. Advances link (awaited coding call old.state a) t old mid in
    subst P (sym done.0) (subst T (subst Q heard.moves.state done.1) heard)
concludes link coding call a reply stage' old mid new Pending going heard takes done = absurd done
concludes link coding call a reply stage' old mid new (Done answer) going heard takes (inl ends) =
    let leaf : accepted coding a.ending old.state reply (later coding call a.turn) ≡ Leaf answer new.state = ap (λ s. accepted coding a.ending s reply (later coding call a.turn)) (sym heard.moves.state) ∙ ends.leaf in
    let T : Tree → Type 0 = λ t. Moves link (awaited coding call old.state a) t old mid in
    inl (leaf_ends link (awaited coding call old.state a) answer old mid new (subst T leaf heard.moves) (λ f. inl (sym heard.failed ∙ f)) ends.channel ends.net)
concludes link coding call a reply stage' old mid new (Done answer) going heard takes (inr lacks) =
    let A : Answer → Type 0 = λ x. Aborts link a.begun (awaited coding call old.state a) x old new in
    let V : SessionValue → Type 0 = λ v. Aborts link a.begun (awaited coding call old.state a) (Fault OutOfMemory) old v in
    inr (subst A (sym lacks.0) (subst V (sym lacks.1) (lacks_memory_at link a.begun (awaited coding call old.state a) (accepted coding a.ending old.state reply (later coding call a.turn)) old mid (accepted_unheard coding a.ending old.state mid.state reply (later coding call a.turn) lacks.2) (inr (λ h resumes. inr (takes h resumes))) heard.moves heard.failed)))

-- a dialogue that goes on after a reply has begun with it
pub accepted_begins : (link : Link) (coding : Coding) (call : Call) (a : Awaits) (reply : Response) (stage' : Stage) (old mid new : SessionValue) (step : Step) → Takes link (awaited coding call old.state a) old mid → (step ≡ Next → begun_at stage' ≡ true) → Concludes coding call a reply stage' mid new step → Tracks link a.begun (begun_at stage') (awaited coding call old.state a) old new step
accepted_begins link coding call a reply stage' old mid new Next takes on done =
    let P : SessionValue → Type 0 = λ v. Takes link (awaited coding call old.state a) old v in
    let here = subst P (sym done.0) takes in
    (λ has. inr (λ h first. heard h first (here h)), λ none. let clash : true ≡ false = sym (on refl) ∙ none in cc)
  where
    heard : link.tells → Speaks (awaited coding call old.state a) ⊎ Resumes (modes_of old) old.channel.kept (awaited coding call old.state a) → (Resumes (modes_of old) old.channel.kept (awaited coding call old.state a) → length old.channel.told.received + length (untaken new.channel) < length new.channel.told.received + length (untaken old.channel)) → SaidOrTaken old new
    heard h (inl speaks) takes = absurd speaks
    heard h (inr resumes) takes = inr (takes resumes)
accepted_begins link coding call a reply stage' old mid new Pending takes on done = absurd done
accepted_begins link coding call a reply stage' old mid new (Done answer) takes on done = tt

pub not_memory : (fault : FtpError) → (fault ≡ OutOfMemory → ⊥) → wants_memory fault ≡ false
not_memory OutOfMemory other = absurd (other refl)
not_memory another other = refl

-- a read that ends with an error
module _ (link : Link) (coding : Coding) (codes : Expected) (ending : Ending) (later : State → Tree) (begun : Bool) (fault : FtpError) (told : Answer) (old mid new : SessionValue) (going : old.channel.failed ≡ false) where
  abbrev heard_next : Result Response FtpError → Tree
  heard_next = concluded coding ending old.state later

  abbrev Ending_so : Type 0
  Ending_so = Ends link (Hear codes heard_next) told old new ⊎ Aborts link begun (Hear codes heard_next) told old new

  -- what is left, by whether memory ran out
  abbrev LeftBy : Bool → Type 0
  LeftBy memory = FaultLeavesIf memory begun ending fault (cond (memory && begun) (failed_from mid) mid).state new.state told × (new ≡ record (cond (memory && begun) (failed_from mid) mid) { state = new.state })

  fault_heard : Moves link (Hear codes heard_next) (heard_next (Err fault)) old mid → HeardFault fault old mid → LeftBy false → Ending_so
  fault_heard moves heard left =
      let T : Tree → Type 0 = λ t. Moves link (Hear codes heard_next) t old mid in
      let A : Answer → Type 0 = λ a. (old.channel.failed ≡ true) ⊎ IsFault a in
      let is : heard_next (Err fault) ≡ Leaf told new.state =
      ap (λ a. Leaf a (after_fault_of ending fault old.state)) (sym left.0.0)
      ∙ ap (λ s. Leaf told (after_fault_of ending fault s)) (sym moves.state)
      ∙ ap (λ s. Leaf told s) (sym left.0.1) in
      inl (leaf_ends link (Hear codes heard_next) told old mid new (subst T is moves) (λ f. subst A (sym left.0.0) (told_fails ending fault old mid heard f)) (ap (λ v. v.channel) left.1) (ap (λ v. v.net) left.1))

  fault_failed : (aborts : AbortsRead link codes heard_next fault old mid) → FailsRead link fault aborts.at mid → LeftBy false → Ending_so
  fault_failed aborts fails left =
      let io : FtpError = ConnectionError (Io fails.kind) in
      let state : new.state ≡ after_fault_of ending io old.state = left.0.1 ∙ ap (λ f. after_fault_of ending f mid.state) fails.is ∙ ap (λ v. after_fault_of ending io v.state) fails.same ∙ ap (λ s. after_fault_of ending io s) aborts.state in
      let channel : new.channel.told ≡ mid.channel.told = ap (λ v. v.channel.told) left.1 in
      let V : State → Told → SessionValue = λ s t. record aborts.at { channel = record aborts.at.channel { told = t; failed = true }; state = s } in
      let S : SessionValue → SessionValue = λ v. record v { state = new.state } in
      let F : Told → Type 0 = λ t. link.tells → HasFailed fails.kind aborts.at.channel.told t in
      inr (record {
        place = Hear codes heard_next;
        at = aborts.at;
        leads = aborts.leads;
        state = aborts.state;
        going = aborts.going ∙ sym going;
        fault = (told_failure ending fails.kind).0;
        is = left.0.0 ∙ ap (λ f. answer_to_fault ending f) fails.is ∙ (told_failure ending fails.kind).1;
        cause = inl (record {
          kind = fails.kind;
          is = sym (told_failure ending fails.kind).1;
          may = fails.may;
          same = left.1 ∙ ap S fails.same ∙ ap (λ t. V new.state t) (sym channel) ∙ ap (λ s. V s new.channel.told) state;
          failed = subst F (sym channel) fails.failed;
        });
      })

  -- the state of before may be read off after the failure as well
  fault_left : fault ≡ OutOfMemory → record (cond begun (failed_from mid) mid) { state = cond begun (after_fault_of ending fault (cond begun (failed_from mid) mid).state) (cond begun (failed_from mid) mid).state } ≡ record (cond begun (failed_from mid) mid) { state = cond begun (after_fault_of ending OutOfMemory mid.state) mid.state }
  fault_left is = ap (λ f. record (cond begun (failed_from mid) mid) { state = cond begun (after_fault_of ending f (cond begun (failed_from mid) mid).state) (cond begun (failed_from mid) mid).state }) is ∙ (elim begun as (λ b. record (cond b (failed_from mid) mid) { state = cond b (after_fault_of ending OutOfMemory (cond b (failed_from mid) mid).state) (cond b (failed_from mid) mid).state } ≡ record (cond b (failed_from mid) mid) { state = cond b (after_fault_of ending OutOfMemory mid.state) mid.state }) [
    | true ↦ refl
    | false ↦ refl
  ])

  fault_lacks : (aborts : AbortsRead link codes heard_next fault old mid) → (fault ≡ OutOfMemory) × (mid ≡ aborts.at) × Untouched link aborts.leads.came old aborts.at → LeftBy true → Ending_so
  fault_lacks aborts lacks left =
      let P : SessionValue → Type 0 = λ v. Aborts link begun (Hear codes heard_next) told old v in
      let L : Bool → FtpError → SessionValue → SessionValue = λ b f v. record (cond b (failed_from v) v) { state = cond b (after_fault_of ending f v.state) v.state } in
      let S : State → SessionValue = λ s. record (cond begun (failed_from mid) mid) { state = s } in
      let same : new ≡ L begun OutOfMemory mid = left.1 ∙ ap S left.0.1 ∙ fault_left lacks.0 in
      let is : told ≡ Fault OutOfMemory = left.0.0 ∙ ap Fault lacks.0 in
      inr (subst P (sym same) (elim begun as (λ b. Aborts link b (Hear codes heard_next) told old (L b OutOfMemory mid)) [
        | true ↦ record { place = Hear codes heard_next; at = aborts.at; leads = aborts.leads; state = aborts.state; going = aborts.going ∙ sym going; fault = OutOfMemory; is = is; cause = inr (record { is = refl; leaves = inr (ap (λ v. failed_from (record v { state = after_fault_of ending OutOfMemory v.state })) lacks.1 ∙ ap (λ s. failed_from (record aborts.at { state = after_fault_of ending OutOfMemory s })) aborts.state, inl refl) }) }
        | false ↦ record { place = Hear codes heard_next; at = aborts.at; leads = aborts.leads; state = aborts.state; going = aborts.going ∙ sym going; fault = OutOfMemory; is = is; cause = inr (record { is = refl; leaves = inl (lacks.1, refl, lacks.2) }) }
      ]))

  pub fault_ends : Hears link codes heard_next old mid (poll.Ready (Err fault)) → FaultLeaves begun ending fault (after_fault begun fault mid).state new.state told → new ≡ record (after_fault begun fault mid) { state = new.state } → Ending_so
  fault_ends (inl (moves, heard)) leaves same = fault_heard moves heard (subst LeftBy (not_memory fault heard.other) (leaves, same))
  fault_ends (inr aborts) leaves same = go aborts.cause
    where
      go : FailsRead link fault aborts.at mid ⊎ ((fault ≡ OutOfMemory) × (mid ≡ aborts.at) × Untouched link aborts.leads.came old aborts.at) → Ending_so
      go (inl fails) = fault_failed aborts fails (subst LeftBy (ap wants_memory fails.is) (leaves, same))
      go (inr lacks) = fault_lacks aborts lacks (subst LeftBy (ap wants_memory lacks.0) (leaves, same))

-- the same of the reply that a call awaits
pub fault_awaited : (link : Link) (coding : Coding) (call : Call) (a : Awaits) (fault : FtpError) (told : Answer) (old mid new : SessionValue) → old.channel.failed ≡ false → EndsFaulty a.begun a.ending fault mid new told → Hears link (expected_of a.hears) (concluded coding a.ending old.state (later coding call a.turn)) old mid (poll.Ready (Err fault)) → Ends link (awaited coding call old.state a) told old new ⊎ Aborts link a.begun (awaited coding call old.state a) told old new
fault_awaited link coding call a fault told old mid new going ends heard =
    fault_ends link coding (expected_of a.hears) a.ending (later coding call a.turn) a.begun fault told old mid new going heard ends.1 ends.0

-- A poll of many steps

-- the state of a session is that of its call's beginning
pub steps_from : (link : Link) (coding : Coding) (begun : Bool) (call : Call) (state state' : State) (stage stage' : Stage) (b c : SessionValue) (step : Step) → state' ≡ state → Steps link begun (remaining coding call state' stage) (remaining coding call state' stage') b c step → Steps link begun (remaining coding call state stage) (remaining coding call state stage') b c step
steps_from link coding begun call state state' stage stage' b c step same steps =
    let P : State → Type 0 = λ s. Steps link begun (remaining coding call s stage) (remaining coding call s stage') b c step in
    subst P same steps

-- what was made of a call in a poll: as long as nothing was said or taken, the transport was asked at most
pub record SoFar (link : Link) (coding : Coding) (call : Call) (stage stage' : Stage) (old new : SessionValue) : Type 0 where
  pub moved : Advances link (remaining coding call old.state stage) (remaining coding call old.state stage') old new
  pub quiet : begun_at stage' ≡ false → NothingYet link coding call stage stage' old new
  pub stage_of : StageOf call stage'
  pub begun : HasBegun link (begun_at stage) (begun_at stage') (remaining coding call old.state stage) old new
  pub net : negotiates call ≡ false → finishes call ≡ false → new.net ≡ old.net

pub nothing_so_far : (link : Link) (coding : Coding) (call : Call) (stage : Stage) (v : SessionValue) → StageOf call stage → SoFar link coding call stage stage v v
nothing_so_far link coding call stage v stage_of =
    let tree = remaining coding call v.state stage in
    record {
      moved = stays_put link tree tree v refl;
      quiet = λ begun. record { still = unchanged_still link tree tree v v refl refl; begun = begun; speaks = λ speaks. speaks; read = λ read. refl };
      stage_of = stage_of;
      begun = (λ has. inl has, λ none. (none, untouched link v));
      net = λ none ends. refl;
    }

-- what was said or taken after nothing was
back_to : (link : Link) {tree tree' : Tree} (a b c : SessionValue) → Still link tree tree' a b → link.tells → SaidOrTaken b c → SaidOrTaken a c
back_to link a b c still h (inl more) = inl (omega (arith, more, ap length (still.untouched.said h)))
back_to link a b c still h (inr fewer) =
    let received = still.advances.moves.leads.goes.received h ∙ ap (λ l. a.channel.told.received ++ l) still.none ∙ append-nil a.channel.told.received in
    let left = still.untouched.untaken ∙ append-nil (untaken a.channel) in
    inr (omega (arith, fewer, ap length received, ap length left))

-- a change of settings is the answer
pub arms : (link : Link) (offset : ℕ) (old new : SessionValue) → old.channel.failed ≡ false → new ≡ record old { state = armed offset old.state } → Ends link (Leaf Unit (armed offset old.state)) Unit old new
arms link offset old new going is =
    let tree = Leaf Unit (armed offset old.state) in
    let P : SessionValue → Type 0 = λ v. Ends link tree Unit old v in
    subst P (sym is) (leaf_ends link tree Unit old old (record old { state = armed offset old.state }) (stays_put link tree tree old refl).moves (λ f. inl f) refl refl)

later_none : (call : Call) (turn : Turn) → (is_later turn ≡ true → is_read call ≡ false) → is_read call ≡ true → is_later turn ≡ false
later_none call turn none read = go (is_later turn) refl
  where
    go : (b : Bool) → is_later turn ≡ b → is_later turn ≡ false
    go true is = let clash : true ≡ false = sym read ∙ none is in cc
    go false is = is

-- a dialogue that is aborted where nothing was said or read before
aborts_after : (link : Link) (tree tree' : Tree) (a b c : SessionValue) (begun : Bool) (answer : Answer) → Still link tree tree' a b → Aborts link begun tree' answer b c → Aborts link begun tree answer a c
unfolding leads_on
aborts_after link tree tree' a b c begun answer still second = record {
  place = second.place;
  at = second.at;
  leads = leads_on link tree tree' a b second.at still.advances.moves second.place second.leads;
  state = second.state ∙ still.advances.moves.state;
  going = second.going ∙ still.advances.failed;
  fault = second.fault;
  is = second.is;
  cause = go second.cause;
}
  where
    came : List ℕ
    came = still.advances.moves.leads.came ++ second.leads.came

    touched : Touched link tree' b second.at → Touched link tree a second.at
    touched here = λ h resumes. back_to link a b second.at still h (here h (still.advances.moves.leads.resumes resumes))

    quiet : Untouched link second.leads.came b second.at → Untouched link came a second.at
    quiet here = record {
      said = λ h. here.said h ∙ still.untouched.said h;
      untaken = here.untaken ∙ ap (λ l. l ++ second.leads.came) (still.untouched.untaken ∙ append-nil (untaken a.channel)) ∙ ap (λ l. untaken a.channel ++ (l ++ second.leads.came)) (sym still.none);
    }

    go : Fails link second.place second.fault second.at c ⊎ LacksMemory link begun tree' second.place second.leads.came second.fault b second.at c → Fails link second.place second.fault second.at c ⊎ LacksMemory link begun tree second.place came second.fault a second.at c
    go (inl fails) = inl fails
    go (inr lacks) = inr (record { is = lacks.is; leaves = leaves lacks.leaves })
      where
        leaves : ((c ≡ second.at) × (begun ≡ false) × Untouched link second.leads.came b second.at) ⊎ ((c ≡ failed_from (lacking_at second.place second.at)) × ((begun ≡ true) ⊎ Touched link tree' b second.at)) → ((c ≡ second.at) × (begun ≡ false) × Untouched link came a second.at) ⊎ ((c ≡ failed_from (lacking_at second.place second.at)) × ((begun ≡ true) ⊎ Touched link tree a second.at))
        leaves (inl quietly) = inl (quietly.0, quietly.1, quiet quietly.2)
        leaves (inr (failed, inl before)) = inr (failed, inl before)
        leaves (inr (failed, inr here)) = inr (failed, inr (touched here))

-- a plain read that goes on has said and taken nothing
pub read_is_quiet : (call : Call) (stage : Stage) → StageOf call stage → is_read call ≡ true → begun_at stage ≡ false
read_is_quiet call (At First) stage_of read = refl
read_is_quiet call (At Second) stage_of read = let clash : true ≡ false = sym read ∙ stage_of.0 in cc
read_is_quiet call (At (Passive offset after)) stage_of read = let clash : true ≡ false = sym read ∙ read_opens_none call stage_of in cc
read_is_quiet call (At (ExtendedPassive offset tries)) stage_of read = refl
read_is_quiet call (At (Active address offset)) stage_of read = refl
read_is_quiet call (At (Restart offset)) stage_of read = let clash : true ≡ false = sym read ∙ read_opens_none call stage_of in cc
read_is_quiet call (At (Closed close)) stage_of read = refl
read_is_quiet call (At Aborted) stage_of read = let clash : true ≡ false = sym read ∙ finishing_no_read call (aborts_finish call stage_of) in cc
read_is_quiet call (Composing Abort) stage_of read = refl
read_is_quiet call (Composing (Resync turn)) stage_of read = let clash : true ≡ false = sym read ∙ resync_unread call turn stage_of.0 stage_of.1 in cc
read_is_quiet call (Saying line (HearsThen a)) stage_of read = let clash : true ≡ false = sym read ∙ stage_of.1 in cc
read_is_quiet call (Saying line (Recovers Abort)) stage_of read = let clash : true ≡ false = sym read ∙ finishing_no_read call (aborts_finish call stage_of) in cc
read_is_quiet call (Saying line (Recovers (Resync turn))) stage_of read = let clash : true ≡ false = sym read ∙ resync_unread call turn stage_of.0 stage_of.1 in cc
read_is_quiet call (Seeking turn left) stage_of read = let clash : true ≡ false = sym read ∙ resync_unread call turn stage_of.0 stage_of.1 in cc
read_is_quiet call (SettingOffset turn offset) stage_of read = later_none call turn (λ later. later_is_no_read call turn stage_of.1 later) read
read_is_quiet call (OpeningData way) stage_of read = let clash : true ≡ false = sym read ∙ read_opens_none call stage_of.0 in cc
read_is_quiet call (Transferring fetching) stage_of read = let clash : true ≡ false = sym read ∙ read_opens_none call (fetch_opens call fetching stage_of) in cc
read_is_quiet call (Closing Finishes) stage_of read = refl
read_is_quiet call (Closing AbortsThen) stage_of read = let clash : true ≡ false = sym read ∙ finishing_no_read call (aborts_finish call stage_of) in cc
read_is_quiet call (Closing (FetchedAll form answer)) stage_of read = let clash : true ≡ false = sym read ∙ read_opens_none call stage_of.0.0 in cc
read_is_quiet call (Hearing a) stage_of read = go a.begun refl
  where
    go : (b : Bool) → a.begun ≡ b → a.begun ≡ false
    go true is = let clash : true ≡ false = sym read ∙ stage_of.1 is in cc
    go false is = is

module _ (link : Link) (coding : Coding) (call : Call) (stage stage' : Stage) (a b : SessionValue) (so_far : SoFar link coding call stage stage' a b) where
  -- what has begun after a step had begun before it, or begins with it
  pub begun_on : (stage'' : Stage) (c : SessionValue) → Moves link (remaining coding call b.state stage') (remaining coding call b.state stage'') b c → HasBegun link (begun_at stage') (begun_at stage'') (remaining coding call b.state stage') b c → HasBegun link (begun_at stage) (begun_at stage'') (remaining coding call a.state stage) a c
  begun_on stage'' c moves second = (λ has. go (begun_at stage') refl (second.0 has), λ none. back (second.1 none))
    where
      back : (begun_at stage' ≡ false) × NothingTouched link b c → (begun_at stage ≡ false) × NothingTouched link a c
      back later =
          let first = so_far.begun.1 later.0 in
          (first.0, untouched_after link a b c first.1 later.1)

      before : (begun_at stage ≡ true) ⊎ BeginsHere link (remaining coding call a.state stage) a b → (begun_at stage ≡ true) ⊎ BeginsHere link (remaining coding call a.state stage) a c
      before (inl was) = inl was
      before (inr here) = inr (λ h first. said_or_taken_on link a b c moves.leads.came moves.leads.answered moves.leads.goes h (here h first))

      -- as long as nothing has begun, nothing was said or read
      from_here : NothingYet link coding call stage stage' a b → BeginsHere link (remaining coding call b.state stage') b c → BeginsHere link (remaining coding call a.state stage) a c
      from_here quiet here = λ h first. back_to link a b c quiet.still h (here' h (first_of first))
        where
          here' : BeginsHere link (remaining coding call a.state stage') b c
          here' = let P : State → Type 0 = λ s. BeginsHere link (remaining coding call s stage') b c in subst P so_far.moved.moves.state here

          first_of : Speaks (remaining coding call a.state stage) ⊎ Resumes (modes_of a) a.channel.kept (remaining coding call a.state stage) → Speaks (remaining coding call a.state stage') ⊎ Resumes (modes_of b) b.channel.kept (remaining coding call a.state stage')
          first_of (inl speaks) = inl (quiet.speaks speaks)
          first_of (inr resumes) = inr (so_far.moved.moves.leads.resumes resumes)

      go : (x : Bool) → begun_at stage' ≡ x → (begun_at stage' ≡ true) ⊎ BeginsHere link (remaining coding call b.state stage') b c → (begun_at stage ≡ true) ⊎ BeginsHere link (remaining coding call a.state stage) a c
      go true has here = before (so_far.begun.0 has)
      go false none (inl was) = let clash : false ≡ true = sym none ∙ was in cc
      go false none (inr here) = inr (from_here (so_far.quiet none) here)

  -- one step more
  pub next_step : (stage'' : Stage) (c : SessionValue) → Steps link (begun_at stage') (remaining coding call b.state stage') (remaining coding call b.state stage'') b c Next → Quiet link coding call stage' stage'' b c Next → HasBegun link (begun_at stage') (begun_at stage'') (remaining coding call b.state stage') b c → StageOf call stage'' → (negotiates call ≡ false → finishes call ≡ false → c.net ≡ b.net) → SoFar link coding call stage stage'' a c
  next_step stage'' c steps quiet begun stage_of net = record {
    moved = advances_on link (remaining coding call a.state stage) (remaining coding call a.state stage') (remaining coding call a.state stage'') a b c so_far.moved (steps_from link coding (begun_at stage') call a.state b.state stage' stage'' b c Next so_far.moved.moves.state steps);
    quiet = λ begun.
        let second = quiet begun in
        let first = so_far.quiet second.begun in
        let S : State → Type 0 = λ s. Still link (remaining coding call s stage') (remaining coding call s stage'') b c in
        let P : State → Type 0 = λ s. Speaks (remaining coding call s stage') → Speaks (remaining coding call s stage'') in
        let state = so_far.moved.moves.state in
        record {
          still = still_on link (remaining coding call a.state stage) (remaining coding call a.state stage') (remaining coding call a.state stage'') a b c first.still (subst S state second.still);
          begun = first.begun;
          speaks = λ speaks. subst P state second.speaks (first.speaks speaks);
          read = λ read. second.read read ∙ first.read read;
        };
    stage_of = stage_of;
    begun = begun_on stage'' c steps.moves begun;
    net = λ none ends. net none ends ∙ so_far.net none ends;
  }

  -- the last step
  pub last_step : (stage'' : Stage) (c : SessionValue) (answer : Answer) → Steps link (begun_at stage') (remaining coding call b.state stage') (remaining coding call b.state stage'') b c (Done answer) → PollSteps link (begun_at stage) (remaining coding call a.state stage) (remaining coding call a.state stage'') a c (poll.Ready answer)
  last_step stage'' c answer steps = go (begun_at stage') refl (steps_from link coding (begun_at stage') call a.state b.state stage' stage'' b c (Done answer) so_far.moved.moves.state steps)
    where
      tree' : Tree
      tree' = remaining coding call a.state stage'

      touched : (begun_at stage ≡ true) ⊎ BeginsHere link (remaining coding call a.state stage) a b → (begun_at stage ≡ true) ⊎ Touched link (remaining coding call a.state stage) a b
      touched (inl was) = inl was
      touched (inr here) = inr (λ h resumes. here h (inr resumes))

      aborted : (x : Bool) → begun_at stage' ≡ x → Aborts link (begun_at stage') (remaining coding call a.state stage') answer b c → Aborts link (begun_at stage) (remaining coding call a.state stage) answer a c
      aborted true has aborts = aborts_on link (remaining coding call a.state stage) (remaining coding call a.state stage') a b c so_far.moved.moves (begun_at stage) (begun_at stage') answer (λ begun. touched (so_far.begun.0 begun)) has so_far.moved.failed aborts
      aborted false has aborts =
          let quiet = so_far.quiet has in
          let R : Bool → Type 0 = λ x. Aborts link x (remaining coding call a.state stage') answer b c in
          aborts_after link (remaining coding call a.state stage) (remaining coding call a.state stage') a b c (begun_at stage) answer quiet.still (subst R (has ∙ sym quiet.begun) aborts)

      go : (x : Bool) → begun_at stage' ≡ x → Ends link (remaining coding call a.state stage') answer b c ⊎ Aborts link (begun_at stage') (remaining coding call a.state stage') answer b c → Ends link (remaining coding call a.state stage) answer a c ⊎ Aborts link (begun_at stage) (remaining coding call a.state stage) answer a c
      go x has (inl ends) = inl (ends_on link (remaining coding call a.state stage) (remaining coding call a.state stage') a b c so_far.moved.moves answer so_far.moved.failed ends)
      go x has (inr aborts) = inr (aborted x has aborts)

  -- the connection waits
  pub waits_step : (stage'' : Stage) (c : SessionValue) → Steps link (begun_at stage') (remaining coding call b.state stage') (remaining coding call b.state stage'') b c Pending → PollSteps link (begun_at stage) (remaining coding call a.state stage) (remaining coding call a.state stage'') a c poll.Pending
  waits_step stage'' c steps =
      let made = steps_from link coding (begun_at stage') call a.state b.state stage' stage'' b c Pending so_far.moved.moves.state steps in
      (advances_on link (remaining coding call a.state stage) (remaining coding call a.state stage') (remaining coding call a.state stage'') a b c so_far.moved made.0, made.1)

  -- a plain read that waits
  pub rests_from : (c : SessionValue) → is_read call ≡ true → Rests link b c → Rests link a c
  rests_from c read rests =
      let P : SessionValue → Type 0 = λ v. Rests link v c in
      subst P ((so_far.quiet (read_is_quiet call stage' so_far.stage_of read)).read read) rests

-- a call that was entered is made
pub made_by : (link : Link) (coding : Coding) (call : Call) (stage stage' : Stage) (old entered last new : SessionValue) (answer : Answer) → refusal_of call old ≡ Taken → is_local call ≡ false → entered ≡ begun_by call old → remaining coding call entered.state stage ≡ dialogue coding call old.state → begun_at stage ≡ false → PollSteps link (begun_at stage) (remaining coding call entered.state stage) (remaining coding call entered.state stage') entered last (poll.Ready answer) → LetsGo link.tells last new → Made link coding call old new answer
made_by link coding call stage stage' old entered last new answer going abroad same tree begun polls lets_go =
    let T : Tree → Bool → SessionValue → Type 0 = λ t b v. Ends link t answer v last ⊎ Aborts link b t answer v last in
    let P : SessionValue → Type 0 = λ v. T (dialogue coding call old.state) false v in
    let Q : Bool → Type 0 = λ b. T (dialogue coding call old.state) b entered in
    let R : Tree → Type 0 = λ t. T t (begun_at stage) entered in
    inr (record { going = going; apart = λ local. (let clash : true ≡ false = sym local ∙ abroad in cc); last = last; plays = subst P same (subst Q begun (subst R tree polls)); lets_go = lets_go })

-- the same after a call wasn't refused
pub made_after : (link : Link) (coding : Coding) (call : Call) (stage stage' : Stage) (old mid entered last new : SessionValue) (answer : Answer) → refusal_of call old ≡ Taken → mid ≡ old → is_local call ≡ false → entered ≡ begun_by call mid → remaining coding call entered.state stage ≡ dialogue coding call mid.state → begun_at stage ≡ false → PollSteps link (begun_at stage) (remaining coding call entered.state stage) (remaining coding call entered.state stage') entered last (poll.Ready answer) → LetsGo link.tells last new → Made link coding call old new answer
made_after link coding call stage stage' old mid entered last new answer taken same abroad begins tree begun polls lets_go =
    let B : SessionValue → Type 0 = λ v. entered ≡ begun_by call v in
    let D : SessionValue → Type 0 = λ v. remaining coding call entered.state stage ≡ dialogue coding call v.state in
    made_by link coding call stage stage' old entered last new answer taken abroad (subst B same begins) (subst D same tree) begun polls lets_go

-- a call that needs no data connection begins where it is
pub begun_plain : (call : Call) (v : SessionValue) → negotiates call ≡ false → finishes call ≡ false → begun_by call v ≡ v
begun_plain call v plain goes_on =
    let F : Bool → Bool → SessionValue = λ b f. record v { state = cond b (opened_from call v.state) (cond f (with_left v.state) v.state) } in
    ap (λ b. F b (finishes call)) plain ∙ ap (λ f. F false f) goes_on

-- a call whose arguments found no memory
withheld_alone : (link : Link) (coding : Coding) (call : Call) (v : SessionValue) → v.channel.failed ≡ false → PlaysAlone link coding call v v (Fault OutOfMemory)
withheld_alone link coding call v going = record { wired = λ success. absurd success; made = inr (inr (record { going = going; is = refl; unchanged = refl })); fails = λ f. inl f }

withheld_first : (link : Link) (coding : Coding) (call : Call) (v : SessionValue) → v.channel.failed ≡ false → (b : Bool) → DrainsIf b (PlaysAlone link coding) call v v (Fault OutOfMemory)
withheld_first link coding call v going false = withheld_alone link coding call v going
withheld_first link coding call v going true = record { middle = v; first = Fault OutOfMemory; drains = withheld_alone link coding Drain v going; then_makes = (refl, refl) }

pub withheld_plays : (link : Link) (coding : Coding) (call : Call) (v : SessionValue) → is_local call ≡ false → of_transfer call ≡ false → Plays link coding call v v (Fault (withheld v))
withheld_plays link coding call v abroad none =
    elim v.channel.failed as (λ b. v.channel.failed ≡ b → Plays link coding call v v (Fault (cond b SessionFailed OutOfMemory))) [
      | true ↦ λ failed. record { makes = makes_undue (PlaysAlone link coding) call v v (Fault SessionFailed) (failed_undue call v failed) (record { wired = λ success. absurd success; made = inl (failing_refuses link.tells call v abroad none failed); fails = λ f. inl f }) }
      | false ↦ λ going. record { makes = withheld_first link coding call v going (due_of call v) }
    ] refl

-- what a read promises
pub hears_reads : (link : Link) (codes : Expected) (next : Result Response FtpError → Tree) (old new : SessionValue) (result : Poll (Result Response FtpError)) → Hears link codes next old new result → Reads link codes next old new result
hears_reads link codes next old new (poll.Ready (Ok reply)) heard = heard.0.moves.leads
hears_reads link codes next old new (poll.Ready (Err fault)) (inl moved) = inl moved.0.leads
hears_reads link codes next old new (poll.Ready (Err fault)) (inr aborts) = inr aborts
hears_reads link codes next old new poll.Pending heard = (heard.0.moves.leads, heard.2)

-- a read fails the session only where it gives an error
pub hears_fail : (link : Link) (codes : Expected) (next : Result Response FtpError → Tree) (old new : SessionValue) (result : Poll (Result Response FtpError)) → Hears link codes next old new result → new.channel.failed ≡ true → (old.channel.failed ≡ true) ⊎ GivesFault result
hears_fail link codes next old new (poll.Ready (Ok reply)) heard failed = inl (sym heard.0.failed ∙ failed)
hears_fail link codes next old new (poll.Ready (Err fault)) heard failed = inr tt
hears_fail link codes next old new poll.Pending heard failed = inl (sym heard.0.failed ∙ failed)

-- the end is met only where it was told
pub end_on : (first second third : Bool) (t u : Told) → u.given ≡ t.given → EndsAsTold first second t → EndsAsTold second third u → EndsAsTold first third t
end_on first second third t u same one two e = go (two e)
  where
    go : (second ≡ true) ⊎ (u.given.closed ≡ true) → (first ≡ true) ⊎ (t.given.closed ≡ true)
    go (inl met) = one met
    go (inr told) = inr (ap (λ g. g.closed) (sym same) ∙ told)

-- a poll fails the session only where its call fails
abbrev pub given_by : Poll Answer → List Answer
given_by (poll.Ready answer) = answer ∷ []
given_by poll.Pending = []

-- a poll begins where its call begins
module _ (link : Link) (coding : Coding) (call : Call) (stage first last : Stage) (v e w : SessionValue) (result : Poll Answer) (same : e ≡ entered_at call stage v) (begun : begun_at first ≡ begun_at stage) (tree : remaining coding call e.state first ≡ entered_tree coding call stage v.state) where
  pub polls_entered : PollSteps link (begun_at first) (remaining coding call e.state first) (remaining coding call e.state last) e w result → PollSteps link (begun_at stage) (entered_tree coding call stage v.state) (remaining coding call (entered_state call stage v.state) last) (entered_at call stage v) w result
  polls_entered polls =
      let P : Bool → Tree → SessionValue → Type 0 = λ b t x. PollSteps link b t (remaining coding call x.state last) x w result in
      let B : Bool → Type 0 = λ b. P b (remaining coding call e.state first) e in
      let T : Tree → Type 0 = λ t. P (begun_at stage) t e in
      let V : SessionValue → Type 0 = λ x. P (begun_at stage) (entered_tree coding call stage v.state) x in
      subst V same (subst T tree (subst B begun polls))

  pub begun_entered : HasBegun link (begun_at first) (begun_at last) (remaining coding call e.state first) e w → HasBegun link (begun_at stage) (begun_at last) (entered_tree coding call stage v.state) (entered_at call stage v) w
  begun_entered has =
      let P : Bool → Tree → SessionValue → Type 0 = λ b t x. HasBegun link b (begun_at last) t x w in
      let B : Bool → Type 0 = λ b. P b (remaining coding call e.state first) e in
      let T : Tree → Type 0 = λ t. P (begun_at stage) t e in
      let V : SessionValue → Type 0 = λ x. P (begun_at stage) (entered_tree coding call stage v.state) x in
      subst V same (subst T tree (subst B begun has))

-- a plain read changes nothing where it begins
pub rests_entered : (link : Link) (call : Call) (stage : Stage) (v e w : SessionValue) → is_read call ≡ true → e ≡ entered_at call stage v → Rests link e w → Rests link v w
rests_entered link call stage v e w read same rests =
    let plain : negotiates call ≡ false = elim (negotiates call) as (λ b. negotiates call ≡ b → b ≡ false) [ true ↦ λ opens. let clash : true ≡ false = sym read ∙ read_opens_none call opens in cc | false ↦ λ none. refl ] refl in
    let N : State → SessionValue = λ s. record v { state = cond (is_first stage) s v.state } in
    let here : entered_at call stage v ≡ v = ap N (plain_entered call v.state plain (read_finishes_none call read)) ∙ elim (is_first stage) as (λ b. record v { state = cond b v.state v.state } ≡ v) [ true ↦ refl | false ↦ refl ] in
    let P : SessionValue → Type 0 = λ x. Rests link x w in
    subst P (same ∙ here) rests
