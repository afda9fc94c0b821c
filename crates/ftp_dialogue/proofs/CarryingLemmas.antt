-- Lemmas on calls that are none of the control connection, on refusals, and on the end of a transfer.
use Rattle.std.proofs.Common.{◌≡◌, ◌==◌, ◌||◌, ◌∷◌, option_map, append-nil, ℕ, Bool, true, false, ◌&&◌, cond, Option, Some, None, is_none, List, [], length, Result, Ok, Err, inl, inr, ◌⊎◌, refl, ap, sym, ◌∙◌, subst, arith}
use Rattle.ftp_base.specs.declared.command.Command.{Command}
use Rattle.ftp_base.specs.declared.types.fault.FtpError.{FtpError}
use Rattle.ftp_base.specs.declared.types.fault.FtpError.TheVariants.{OutOfMemory, SessionFailed}
use Rattle.ftp_base.specs.declared.types.reply.Response.{Response}
use Rattle.ftp_calls.specs.declared.call.Answer.{Answer}
use Rattle.ftp_calls.specs.declared.call.Answer.TheVariants.{Unit, Fault, NoTransfer}
use Rattle.ftp_calls.specs.declared.call.Call.{Call}
use Rattle.ftp_calls.specs.declared.call.Call.TheVariants.{Set, Read, Write, Leave}
use Rattle.ftp_calls.specs.declared.call.Setting.{Setting}
use Rattle.ftp_calls.specs.declared.exchange.Ending.{Ending}
use Rattle.ftp_calls.specs.declared.exchange.Ending.TheVariants.{GivesReply, TakesReply, Drains}
use Rattle.ftp_calls.specs.declared.exchange.Exchange.{Exchange}
use Rattle.ftp_calls.specs.declared.exchange.Movement.{Movement}
use Rattle.ftp_calls.specs.declared.exchange.Movement.TheVariants as movement
use Rattle.ftp_calls.specs.declared.exchange.Row.{Row}
use Rattle.ftp_calls.specs.declared.exchange.Row.TheVariants.{Exchanges, Arms, Resyncs, Sets, Moves}
use Rattle.ftp_calls.specs.declared.exchange.Turn.TheVariants.{First, Second, Passive, ExtendedPassive, Active, Restart, Closed, Aborted}
use Rattle.ftp_calls.specs.Exchanges.{drains, finishes, is_local, is_read, local_row, negotiates, of_transfer, only_reads, reads, row_of}
use Rattle.ftp_dialogue.specs.declared.model.NetOutcome.{NetOutcome}
use Rattle.ftp_dialogue.specs.declared.stage.Stage.{Stage}
use Rattle.ftp_dialogue.specs.declared.stage.Stage.TheVariants.{At}
use Rattle.ftp_dialogue.specs.declared.state.State.{State}
use Rattle.ftp_dialogue.specs.Coding.{Coding}
use Rattle.ftp_control.specs.Channel.{Channel}
use Rattle.ftp_transport.specs.declared.room.Room.{Room}
use Rattle.ftp_dialogue.specs.declared.model.Played.TheVariants.{Done}
use Rattle.ftp_dialogue.specs.declared.model.PlayState.{PlayState}
use Rattle.ftp_dialogue.proofs.NetEvents.{net_record_parted, letting_beside}
use Rattle.ftp_dialogue.specs.NetEvents.{NetEvent, NetEvents, MovementIs, Net, Parted, outcomes_of, traffic_of}
use Rattle.ftp_dialogue.specs.Dialogue.{Tree, Move, Leaf, accepted, awaiting, carrying, concluded, dialogue, doing, entered, expected_of, from_turn, later, moved_answer, negotiating, opened_from, saying, set_to, with_left, closing_data}
use Rattle.ftp_dialogue.specs.Link.{Link}
use Rattle.ftp_dialogue.specs.Play.{Refusal, Taken, Lacking, Failing, finally, leaving, play, play_call, play_unless, lacks, refusal, refused_if_failed, needs_data}
use Rattle.ftp_dialogue.specs.Promises.{Aborts, Goes, IsFault, IsRefusal, IsRefused, IsSuccess, play_state, LeavesIf, Refuses, begun_by, lacks_of, refusal_of, IsApart}
use Rattle.ftp_dialogue.specs.Resuming.{Modes, Resumes}
use Rattle.ftp_dialogue.specs.Sound.{Transfers, left_behind}
use Rattle.ftp_dialogue.specs.State.{SessionValue, LetsGo}
use Rattle.ftp_dialogue.specs.Steps.Moving.{Apart, CarriedOut, Carries, CarriesBy, CarriesOut, DoesRow, Ends, Made, Sets as SetsTo, answer_moved, moves_nothing, needs_memory, nothing_moved, state_moved}
use Rattle.ftp_dialogue.specs.Steps.Polls.{MayPollAt}
use Rattle.ftp_dialogue.specs.Steps.Stages.{MayAnswer, StageOf}
use Rattle.ftp_dialogue.proofs.Sorts.{unheld_call, finishing_moves, local_finishes_none, local_opens_none, read_finishes_none, reply_ending}
use Rattle.ftp_calls.proofs.Openings.{read_opens_none}
use Rattle.ftp_dialogue.proofs.Moving.{lacks_memory_first, leaf_ends, stays_put}
use Rattle.ftp_dialogue.proofs.NegotiationLemmas.{moved_still}
use Rattle.ftp_dialogue.specs.Link.{Beside}

-- Refusals

-- a plain call brings no transfer to its end
pub plain_finishes_none : (call : Call) → of_transfer call ≡ false → finishes call ≡ false
plain_finishes_none call unheld = go (finishes call) refl
  where
    go : (b : Bool) → finishes call ≡ b → finishes call ≡ false
    go true is = let clash : true ≡ false = sym (finishing_moves call is) ∙ unheld in cc
    go false is = is

-- a session that has failed refuses a plain call
pub failing_refuses : (tells : Type 0) (call : Call) (v : SessionValue) → is_local call ≡ false → of_transfer call ≡ false → v.channel.failed ≡ true → IsRefused tells call v v (Fault SessionFailed)
failing_refuses tells call v abroad none failed =
    let R : Refusal → Type 0 = λ r. Refuses r tells call v v (Fault SessionFailed) in
    let L : Bool → Type 0 = λ b. LeavesIf b tells v v in
    let P : Bool → Type 0 = λ t. R (cond (t && lacks_of call v) Lacking (refused_if_failed (is_local call) v.channel.failed)) in
    let Q : Bool → Type 0 = λ l. R (refused_if_failed l v.channel.failed) in
    let F : Bool → Type 0 = λ f. R (refused_if_failed false f) in
    let here : R Failing = (refl, subst L (sym (plain_finishes_none call none)) refl) in
    subst P (sym none) (subst Q (sym abroad) (subst F (sym failed) here))

-- a call that is taken and goes over the control connection finds a session that goes on
pub taken_going : (call : Call) (failed lacks : Bool) → refusal call failed lacks ≡ Taken → is_local call ≡ false → failed ≡ false
taken_going call failed lacks taken abroad = go (of_transfer call && lacks) taken
  where
    last : (l f : Bool) → l ≡ false → refused_if_failed l f ≡ Taken → f ≡ false
    last true f is made = let clash : true ≡ false = is in cc
    last false true is made = let clash : Failing ≡ Taken = made in cc
    last false false is made = refl

    go : (b : Bool) → cond b Lacking (refused_if_failed (is_local call) failed) ≡ Taken → failed ≡ false
    go true is = let clash : Lacking ≡ Taken = is in cc
    go false is = last (is_local call) failed abroad is

-- a call of a transfer that is taken finds one
pub taken_held : (call : Call) (failed lacks : Bool) → refusal call failed lacks ≡ Taken → of_transfer call ≡ true → lacks ≡ false
taken_held call failed lacks taken held =
    let P : Bool → Type 0 = λ t. cond (t && lacks) Lacking (refused_if_failed (is_local call) failed) ≡ Taken in
    go lacks (subst P held taken)
  where
    go : (b : Bool) → cond b Lacking (refused_if_failed (is_local call) failed) ≡ Taken → b ≡ false
    go true is = let clash : Lacking ≡ Taken = is in cc
    go false is = refl

-- a call that needs no transfer is taken by a session that goes on
pub plain_taken : (call : Call) (failed lacks : Bool) → of_transfer call ≡ false → failed ≡ false → refusal call failed lacks ≡ Taken
plain_taken call failed lacks unheld going =
    let P : Bool → Type 0 = λ t. cond (t && lacks) Lacking (refused_if_failed (is_local call) failed) ≡ Taken in
    let Q : Bool → Type 0 = λ f. refused_if_failed (is_local call) f ≡ Taken in
    subst P (sym unheld) (subst Q (sym going) (elim (is_local call) as (λ l. refused_if_failed l false ≡ Taken) [ true ↦ refl | false ↦ refl ]))

-- a call that was begun goes on in a session that goes on
pub may_go_on : (call : Call) (stage : Stage) (v : SessionValue) → drains call ≡ false → StageOf call stage → v.channel.failed ≡ false → MayPollAt stage call v
may_go_on call (At First) v undrained of going = plain_taken call v.channel.failed (lacks_of call v) (unheld_call call of.1 of.2 undrained) going
may_go_on call (At Second) v undrained of going = going
may_go_on call (At (Passive offset after)) v undrained of going = going
may_go_on call (At (ExtendedPassive offset tries)) v undrained of going = going
may_go_on call (At (Active address offset)) v undrained of going = going
may_go_on call (At (Restart offset)) v undrained of going = going
may_go_on call (At (Closed close)) v undrained of going = going
may_go_on call (At Aborted) v undrained of going = going
may_go_on call other v undrained of going = going

-- Where a call begins

pub plain_dialogue : (coding : Coding) (call : Call) (state : State) → negotiates call ≡ false → finishes call ≡ false → dialogue coding call state ≡ from_turn coding call First state
plain_dialogue coding call state plain goes_on =
    let F : Bool → Bool → Tree = λ b f. cond b (negotiating coding call state.settings.restart_offset (opened_from call state)) (cond f (closing_data coding call (with_left state)) (from_turn coding call First state)) in
    ap (λ b. F b (finishes call)) plain ∙ ap (λ f. F false f) goes_on

pub plain_entered : (call : Call) (state : State) → negotiates call ≡ false → finishes call ≡ false → entered call state ≡ state
plain_entered call state plain goes_on =
    let F : Bool → Bool → State = λ b f. cond b (opened_from call state) (cond f (with_left state) state) in
    ap (λ b. F b (finishes call)) plain ∙ ap (λ f. F false f) goes_on

pub local_dialogue : (coding : Coding) (call : Call) (state : State) → is_local call ≡ true → dialogue coding call state ≡ from_turn coding call First state
local_dialogue coding call state local = plain_dialogue coding call state (local_opens_none call local) (local_finishes_none call local)

-- what is left of a reply doesn't matter to a call that hears none
pub local_resumes : (modes : Modes) (kept : List ℕ) (coding : Coding) (call : Call) (state : State) → is_local call ≡ true → Resumes modes kept (dialogue coding call state)
local_resumes modes kept coding call state local =
    let P : Tree → Type 0 = λ t. Resumes modes kept t in
    subst P (sym (local_dialogue coding call state local)) (row (row_of call First) local)
  where
    carries : (b : Bool) (answer : Answer) (moves : Movement) → Resumes modes kept (cond b (Leaf answer state) (Move moves (λ came. Leaf (moved_answer came) state)))
    carries true answer moves = tt
    carries false answer moves = λ came. tt

    row : (r : Row) → local_row r ≡ true → Resumes modes kept (doing coding r state (later coding call First))
    row (Exchanges e) is = let clash : false ≡ true = is in cc
    row (Arms offset) is = let clash : false ≡ true = is in cc
    row Resyncs is = let clash : false ≡ true = is in cc
    row (Sets setting) is = tt
    row (Moves (movement.Read most)) is = carries (most == 0) _ _
    row (Moves (movement.Write bytes)) is = carries (length bytes == 0) _ _
    row (Moves movement.Close) is = λ came. tt

-- a plain read asks nothing
pub read_apart : (coding : Coding) (call : Call) (state : State) → is_read call ≡ true → Apart (dialogue coding call state)
read_apart coding call state read =
    let P : Tree → Type 0 = Apart in
    subst P (sym (plain_dialogue coding call state (opens_none (negotiates call) refl) (read_finishes_none call read))) (row (row_of call First) read)
  where
    opens_none : (b : Bool) → negotiates call ≡ b → negotiates call ≡ false
    opens_none true is = let clash : true ≡ false = sym read ∙ read_opens_none call is in cc
    opens_none false is = is

    both : (a b : Bool) → a && b ≡ true → (a ≡ true) × (b ≡ true)
    both true b is = (refl, is)
    both false b is = let clash : false ≡ true = is in cc

    heard : (e : Ending) → (e ≡ GivesReply) ⊎ (e ≡ TakesReply) ⊎ (e ≡ Drains) → (h : Result Response FtpError) → Apart (concluded coding e state (later coding call First) h)
    heard e (inl is) (Ok reply) =
        let A : Ending → Type 0 = λ x. Apart (accepted coding x state reply (later coding call First)) in
        subst A (sym is) tt
    heard e (inr (inl is)) (Ok reply) =
        let A : Ending → Type 0 = λ x. Apart (accepted coding x state reply (later coding call First)) in
        subst A (sym is) tt
    heard e (inr (inr is)) (Ok reply) =
        let A : Ending → Type 0 = λ x. Apart (accepted coding x state reply (later coding call First)) in
        subst A (sym is) tt
    heard e is (Err fault) = tt

    saying_none : (e : Exchange) → (e.ending ≡ GivesReply) ⊎ (e.ending ≡ TakesReply) ⊎ (e.ending ≡ Drains) → (says : Option Command) → is_none says ≡ true → Apart (saying coding says (awaiting coding (expected_of e.hears) e.ending state (later coding call First)))
    saying_none e gives None none = λ h. heard e.ending gives h
    saying_none e gives (Some command) none = let clash : false ≡ true = none in cc

    row : (r : Row) → reads r ≡ true → Apart (doing coding r state (later coding call First))
    row (Exchanges e) is =
        let two = both (only_reads e.ending) (is_none e.says) is in
        saying_none e (reply_ending e.ending two.0) e.says two.1
    row (Arms offset) is = tt
    row other is = let clash : false ≡ true = is in cc

pub carrying_is : (moves : Movement) (state : State) → carrying moves state ≡ cond (moves_nothing moves) (Leaf (nothing_moved moves) state) (Move moves (λ came. Leaf (answer_moved moves came) (state_moved moves state)))
carrying_is (movement.Read most) state = refl
carrying_is other state = refl

pub carrying_resumes : (modes : Modes) (kept : List ℕ) (moves : Movement) (state : State) → Resumes modes kept (carrying moves state)
carrying_resumes modes kept moves state =
    let P : Tree → Type 0 = λ t. Resumes modes kept t in
    let next : Tree = Move moves (λ came. Leaf (answer_moved moves came) (state_moved moves state)) in
    subst P (sym (carrying_is moves state)) (elim (moves_nothing moves) as (λ b. P (cond b (Leaf (nothing_moved moves) state) next)) [
      | true ↦ tt
      | false ↦ λ came. tt
    ])

-- a call that needs no data connection
pub needs_none : (call : Call) → needs_data call ≡ false → (negotiates call ≡ false) × (of_transfer call ≡ false)
needs_none call is = go (negotiates call) (of_transfer call) is
  where
    go : (a b : Bool) → a || b ≡ false → (a ≡ false) × (b ≡ false)
    go true b clash = let no : true ≡ false = clash in cc
    go false b none = (refl, none)

-- A call is carried out

module _ (link : Link) (moves : Movement) (old new : SessionValue) where
  abbrev Carried_so : Answer → Type 0
  Carried_so answer = Ends link (carrying moves old.state) answer old new ⊎ Aborts link false (carrying moves old.state) answer old new

  -- bytes went over the data connection
  moved_ends : (net' : Net) (outcome : NetOutcome) → moves_nothing moves ≡ false → (link.tells → MovementIs moves outcome old.net net') → Ends link (carrying moves old.state) (answer_moved moves outcome) old (record old { state = state_moved moves old.state; net = net' })
  moved_ends net' outcome some tie =
      let next : NetOutcome → Tree = λ came. Leaf (answer_moved moves came) (state_moved moves old.state) in
      let still = moved_still link old net' moves outcome tie next in
      let is : carrying moves old.state ≡ Move moves next = carrying_is moves old.state ∙ ap (λ b. cond b (Leaf (nothing_moved moves) old.state) (Move moves next)) some in
      let T : Tree → Type 0 = λ t. Ends link t (answer_moved moves outcome) old (record old { state = state_moved moves old.state; net = net' }) in
      subst T (sym is) (leaf_ends link (Move moves next) (answer_moved moves outcome) old (record old { net = net' }) (record old { state = state_moved moves old.state; net = net' }) still.advances.moves (λ f. inl f) refl refl)

  carried_by : (answer : Answer) → CarriesBy link.tells moves old new answer → Carried_so answer
  carried_by answer made =
      let V : SessionValue → Type 0 = λ v. Ends link (carrying moves old.state) answer old v in
      let A : Answer → Type 0 = λ a. Ends link (carrying moves old.state) a old (record old { state = state_moved moves old.state; net = new.net }) in
      inl (subst V (sym made.beside) (subst A (sym made.is) (moved_ends new.net made.outcome made.some made.net_event)))

  nothing_carried : (answer : Answer) → (moves_nothing moves ≡ true) × (answer ≡ nothing_moved moves) × (new ≡ old) → Carried_so answer
  nothing_carried answer (none, is, same) =
      let leaf : Tree = Leaf (nothing_moved moves) old.state in
      let at : carrying moves old.state ≡ leaf = carrying_is moves old.state ∙ ap (λ b. cond b leaf (Move moves (λ came. Leaf (answer_moved moves came) (state_moved moves old.state)))) none in
      let V : SessionValue → Type 0 = λ v. Ends link (carrying moves old.state) answer old v in
      let A : Answer → Type 0 = λ a. Ends link (carrying moves old.state) a old old in
      let T : Tree → Type 0 = λ t. Ends link t (nothing_moved moves) old old in
      inl (subst V (sym same) (subst A (sym is) (subst T (sym at) (leaf_ends link leaf (nothing_moved moves) old old old (stays_put link leaf leaf old refl).moves (λ f. inl f) refl refl))))

  lacking_carried : (answer : Answer) → (needs_memory moves ≡ true) × (answer ≡ Fault OutOfMemory) × (new ≡ old) → Carried_so answer
  lacking_carried answer (needs, is, same) =
      let V : SessionValue → Type 0 = λ v. Aborts link false (carrying moves old.state) answer old v in
      let A : Answer → Type 0 = λ a. Aborts link false (carrying moves old.state) a old old in
      inr (subst V (sym same) (subst A (sym is) (lacks_memory_first link (carrying moves old.state) old)))

  pub carried_ends : (answer : Answer) → Carries link.tells moves old new answer → Carried_so answer
  carried_ends answer (inl made) = carried_by answer made
  carried_ends answer (inr (inl none)) = nothing_carried answer none
  carried_ends answer (inr (inr lacks)) = lacking_carried answer lacks

-- a setting changes
pub set_ends : (link : Link) (setting : Setting) (old new : SessionValue) (answer : Answer) → SetsTo setting old new answer → Ends link (Leaf Unit (set_to setting old.state)) answer old new ⊎ Aborts link false (Leaf Unit (set_to setting old.state)) answer old new
set_ends link setting old new answer (inl (is, same)) =
    let tree : Tree = Leaf Unit (set_to setting old.state) in
    let V : SessionValue → Type 0 = λ v. Ends link tree answer old v in
    let A : Answer → Type 0 = λ a. Ends link tree a old (record old { state = set_to setting old.state }) in
    inl (subst V (sym same) (subst A (sym is) (leaf_ends link tree Unit old old (record old { state = set_to setting old.state }) (stays_put link tree tree old refl).moves (λ f. inl f) refl refl)))
set_ends link setting old new answer (inr (is, same)) =
    let tree : Tree = Leaf Unit (set_to setting old.state) in
    let V : SessionValue → Type 0 = λ v. Aborts link false tree answer old v in
    let A : Answer → Type 0 = λ a. Aborts link false tree a old old in
    inr (subst V (sym same) (subst A (sym is) (lacks_memory_first link tree old)))

-- what is carried out leaves the control connection as it was
pub carries_apart : (tells : Type 0) (moves : Movement) (old new : SessionValue) (answer : Answer) → Carries tells moves old new answer → new.channel ≡ old.channel
carries_apart tells moves old new answer (inl made) = ap (λ v. v.channel) made.beside
carries_apart tells moves old new answer (inr (inl none)) = ap (λ v. v.channel) none.2
carries_apart tells moves old new answer (inr (inr lacks)) = ap (λ v. v.channel) lacks.2

pub sets_apart : (setting : Setting) (old new : SessionValue) (answer : Answer) → SetsTo setting old new answer → new.channel ≡ old.channel
sets_apart setting old new answer (inl made) = ap (λ v. v.channel) made.1
sets_apart setting old new answer (inr lacks) = ap (λ v. v.channel) lacks.1

-- What is carried out

did_row : (tells : Type 0) (call : Call) (old mid last' last new : SessionValue) (answer' answer : Answer) → refusal_of call old ≡ Taken → mid ≡ old → DoesRow (row_of call First) tells mid last' answer' → last ≡ last' → answer ≡ answer' → LetsGo tells last new → CarriesOut tells call old new answer
did_row tells call old mid last' last new answer' answer taken same does last_is answer_is lets_go =
    let M : SessionValue → Type 0 = λ v. DoesRow (row_of call First) tells v last' answer' in
    let L : SessionValue → Type 0 = λ v. DoesRow (row_of call First) tells old v answer' in
    let A : Answer → Type 0 = λ a. DoesRow (row_of call First) tells old last a in
    inr (record { going = taken; last = last; does = subst A (sym answer_is) (subst L (sym last_is) (subst M same does)); lets_go = lets_go })

pub did_set : (tells : Type 0) (call : Call) (setting : Setting) (old mid last' last new : SessionValue) (answer' answer : Answer) → call ≡ Set setting → refusal_of call old ≡ Taken → mid ≡ old → SetsTo setting mid last' answer' → last ≡ last' → answer ≡ answer' → LetsGo tells last new → CarriesOut tells call old new answer
did_set tells call setting old mid last' last new answer' answer is taken same does =
    let P : Call → Type 0 = λ c. DoesRow (row_of c First) tells mid last' answer' in
    did_row tells call old mid last' last new answer' answer taken same (subst P (sym is) does)

pub did_read : (tells : Type 0) (call : Call) (most : ℕ) (old mid last' last new : SessionValue) (answer' answer : Answer) → call ≡ Read most → refusal_of call old ≡ Taken → mid ≡ old → Carries tells (movement.Read most) mid last' answer' → last ≡ last' → answer ≡ answer' → LetsGo tells last new → CarriesOut tells call old new answer
did_read tells call most old mid last' last new answer' answer is taken same does =
    let P : Call → Type 0 = λ c. DoesRow (row_of c First) tells mid last' answer' in
    did_row tells call old mid last' last new answer' answer taken same (subst P (sym is) does)

pub did_write : (tells : Type 0) (call : Call) (bytes : List ℕ) (old mid last' last new : SessionValue) (answer' answer : Answer) → call ≡ Write bytes → refusal_of call old ≡ Taken → mid ≡ old → Carries tells (movement.Write bytes) mid last' answer' → last ≡ last' → answer ≡ answer' → LetsGo tells last new → CarriesOut tells call old new answer
did_write tells call bytes old mid last' last new answer' answer is taken same does =
    let P : Call → Type 0 = λ c. DoesRow (row_of c First) tells mid last' answer' in
    did_row tells call old mid last' last new answer' answer taken same (subst P (sym is) does)

pub did_leave : (tells : Type 0) (call : Call) (old mid last' last new : SessionValue) (answer' answer : Answer) → call ≡ Leave → refusal_of call old ≡ Taken → mid ≡ old → Carries tells movement.Close mid last' answer' → last ≡ last' → answer ≡ answer' → LetsGo tells last new → CarriesOut tells call old new answer
did_leave tells call old mid last' last new answer' answer is taken same does =
    let P : Call → Type 0 = λ c. DoesRow (row_of c First) tells mid last' answer' in
    did_row tells call old mid last' last new answer' answer taken same (subst P (sym is) does)

-- the data connection was closed, and the transfer is left
pub left_so : (tells : Type 0) (outcome : NetOutcome) (counts : Transfers) (old view new : SessionValue) → view ≡ old → counts ≡ left_behind view.state.counts → new ≡ record view { state = record view.state { counts = counts }; net = new.net } → (tells → MovementIs movement.Close outcome view.net new.net) → Carries tells movement.Close old new Unit
left_so tells outcome counts old view new is left beside tie =
    let P : SessionValue → Type 0 = λ v. Carries tells movement.Close v new Unit in
    let N : Transfers → SessionValue = λ t. record view { state = record view.state { counts = t }; net = new.net } in
    subst P is (inl (record { outcome = outcome; some = refl; is = refl; beside = beside ∙ ap N left; net_event = tie; apart = tt }))

-- a row that was carried out is played
row_done : (link : Link) (coding : Coding) (r : Row) (later : State → Tree) (old new : SessionValue) (answer : Answer) → DoesRow r link.tells old new answer → Ends link (doing coding r old.state later) answer old new ⊎ Aborts link false (doing coding r old.state later) answer old new
row_done link coding (Sets setting) later old new answer does = set_ends link setting old new answer does
row_done link coding (Moves moves) later old new answer does = carried_ends link moves old new answer does
row_done link coding other later old new answer does = absurd does

row_apart : (tells : Type 0) (r : Row) (old new : SessionValue) (answer : Answer) → DoesRow r tells old new answer → new.channel ≡ old.channel
row_apart tells (Sets setting) old new answer does = sets_apart setting old new answer does
row_apart tells (Moves moves) old new answer does = carries_apart tells moves old new answer does
row_apart tells other old new answer does = absurd does

row_local : (tells : Type 0) (r : Row) (old new : SessionValue) (answer : Answer) → DoesRow r tells old new answer → local_row r ≡ true
row_local tells (Sets setting) old new answer does = refl
row_local tells (Moves moves) old new answer does = refl
row_local tells other old new answer does = absurd does

-- what it answers
carried_answer : (tells : Type 0) (moves : Movement) (old new : SessionValue) (answer : Answer) → Carries tells moves old new answer → IsApart answer
carried_answer tells moves old new answer (inl made) = (let P : Answer → Type 0 = IsApart in subst P (sym made.is) made.apart)
carried_answer tells moves old new answer (inr (inl none)) = (let P : Answer → Type 0 = IsApart in subst P (sym none.1) (nothing moves))
  where
    nothing : (m : Movement) → IsApart (nothing_moved m)
    nothing (movement.Read most) = tt
    nothing other = tt
carried_answer tells moves old new answer (inr (inr lacks)) = (let P : Answer → Type 0 = IsApart in subst P (sym lacks.1) (inl refl))

-- a transfer that is left answers nothing, and is left
pub close_left : (tells : Type 0) (old new : SessionValue) (answer : Answer) → Carries tells movement.Close old new answer → (answer ≡ Unit) × (new ≡ record old { state = with_left old.state; net = new.net })
close_left tells old new answer (inl made) = (made.is, made.beside)
close_left tells old new answer (inr (inl none)) = let clash : false ≡ true = none.0 in cc
close_left tells old new answer (inr (inr lacks)) = let clash : false ≡ true = lacks.0 in cc

set_answer : (setting : Setting) (old new : SessionValue) (answer : Answer) → SetsTo setting old new answer → IsApart answer
set_answer setting old new answer (inl made) = (let P : Answer → Type 0 = IsApart in subst P (sym made.0) tt)
set_answer setting old new answer (inr lacks) = (let P : Answer → Type 0 = IsApart in subst P (sym lacks.0) (inl refl))

pub row_answer : (tells : Type 0) (r : Row) (old new : SessionValue) (answer : Answer) → DoesRow r tells old new answer → IsApart answer
row_answer tells (Sets setting) old new answer does = set_answer setting old new answer does
row_answer tells (Moves moves) old new answer does = carried_answer tells moves old new answer does
row_answer tells other old new answer does = absurd does

pub carried_apart : (tells : Type 0) (call : Call) (old new : SessionValue) (answer : Answer) → CarriedOut tells call old new answer → new.channel ≡ old.channel
carried_apart tells call old new answer made = ap (λ v. v.channel) (letting_beside tells made.last new made.lets_go) ∙ row_apart tells (row_of call First) old made.last answer made.does

pub carried_local : (tells : Type 0) (call : Call) (old new : SessionValue) (answer : Answer) → CarriedOut tells call old new answer → is_local call ≡ true
carried_local tells call old new answer made = row_local tells (row_of call First) old made.last answer made.does

-- what is carried out is its dialogue
pub carried_plays : (link : Link) (coding : Coding) (call : Call) (old new : SessionValue) (answer : Answer) → (made : CarriedOut link.tells call old new answer) → Ends link (dialogue coding call old.state) answer (begun_by call old) made.last ⊎ Aborts link false (dialogue coding call old.state) answer (begun_by call old) made.last
carried_plays link coding call old new answer made =
    let local = carried_local link.tells call old new answer made in
    let tree = local_dialogue coding call old.state local in
    let state = plain_entered call old.state (local_opens_none call local) (local_finishes_none call local) in
    let P : Tree → Type 0 = λ t. Ends link t answer (begun_by call old) made.last ⊎ Aborts link false t answer (begun_by call old) made.last in
    let Q : State → Type 0 = λ s. Ends link (from_turn coding call First old.state) answer (record old { state = s }) made.last ⊎ Aborts link false (from_turn coding call First old.state) answer (record old { state = s }) made.last in
    subst P (sym tree) (subst Q (sym state) (row_done link coding (row_of call First) (later coding call First) old made.last answer made.does))

pub carried_made : (link : Link) (coding : Coding) (call : Call) (old new : SessionValue) (answer : Answer) → CarriesOut link.tells call old new answer → Made link coding call old new answer
carried_made link coding call old new answer (inl refused) = inl refused
carried_made link coding call old new answer (inr made) =
    inr (record { going = made.going; apart = λ local. carried_apart link.tells call old new answer made; last = made.last; plays = carried_plays link coding call old new answer made; lets_go = made.lets_go })

-- What a refusal leaves

pub lacks_alike : {A B : Type 0} (f : A → B) (conn : Option A) → is_none (option_map f conn) ≡ is_none conn
lacks_alike f None = refl
lacks_alike f (Some conn) = refl

-- nothing but what stands beside the control connection has changed, and the state
pub beside_goes : (link : Link) (answered : List NetEvent) (v w : SessionValue) → w.channel ≡ v.channel → (link.tells → NetEvents link.beside answered v.net w.net) → Goes link [] answered v w
beside_goes link answered v w same net_events =
    let P : Channel → Type 0 = λ c. Goes link [] answered v (record { channel = c; state = w.state; net = w.net }) in
    subst P (sym same) (record {
      over = record { nothing = λ e. refl; over = λ e. e };
      received = λ h. sym (append-nil v.channel.told.received);
      given = λ h. refl;
      failures = λ h. record { failures = refl; last_fault = refl };
      sent = λ h. omega arith;
      said = λ h. omega arith;
      untaken = omega arith;
      at_hand = λ h is. is;
      net_events = net_events;
    })

-- a call that was refused is refused by the definition, too
pub record RefusedSo (beside : Beside) (tells : Type 0) (coding : Coding) (call : Call) (v w : SessionValue) (answer : Answer) : Type 0 where
  pub answered : List NetEvent
  pub none : outcomes_of answered ≡ []
  pub net_events : tells → NetEvents beside answered v.net w.net
  pub channel : w.channel ≡ v.channel
  pub refusal_is : IsRefusal answer
  pub goes_on : w.channel.failed ≡ false → (w ≡ v) × (of_transfer call ≡ true)
  pub unsuccessful : IsSuccess answer → ⊥
  pub fails : w.channel.failed ≡ true → (v.channel.failed ≡ true) ⊎ IsFault answer
  pub plays : tells → (room : Room) (more : List ℕ) (ended : Bool) (outcomes : List NetOutcome) → play_call room coding call (play_state v more ended outcomes) ≡ Done answer (play_state w more ended outcomes)

pub lacking_transfer : (call : Call) (v : SessionValue) → refusal_of call v ≡ Lacking → of_transfer call ≡ true
lacking_transfer call v is = go (of_transfer call) refl is
  where
    unlike : (l f : Bool) → refused_if_failed l f ≡ Lacking → ⊥
    unlike true f made = let clash : Taken ≡ Lacking = made in cc
    unlike false true made = let clash : Failing ≡ Lacking = made in cc
    unlike false false made = let clash : Taken ≡ Lacking = made in cc

    go : (b : Bool) → of_transfer call ≡ b → cond (b && lacks_of call v) Lacking (refused_if_failed (is_local call) v.channel.failed) ≡ Lacking → of_transfer call ≡ true
    go true held made = held
    go false held made = absurd (unlike (is_local call) v.channel.failed made)

module _ (beside : Beside) (tells : Type 0) (coding : Coding) (call : Call) (v w : SessionValue) (answer : Answer) where
  -- the definition refuses it
  refused_by : (r : Refusal) → refusal_of call v ≡ r → (room : Room) (more : List ℕ) (ended : Bool) (outcomes : List NetOutcome) → play_call room coding call (play_state v more ended outcomes) ≡ play_unless r room coding call (play_state v more ended outcomes)
  refused_by r is room more ended outcomes =
      let s : PlayState = play_state v more ended outcomes in
      ap (λ x. play_unless x room coding call s) (ap (λ n. refusal call v.channel.failed (lacks call n v.state.counts.owed)) (lacks_alike traffic_of v.net.data_conn) ∙ is)

  failing_failed : refusal_of call v ≡ Failing → v.channel.failed ≡ true
  failing_failed is = go (of_transfer call && lacks_of call v) is
    where
      last : (l f : Bool) → refused_if_failed l f ≡ Failing → f ≡ true
      last true f made = let clash : Taken ≡ Failing = made in cc
      last false true made = refl
      last false false made = let clash : Taken ≡ Failing = made in cc

      go : (b : Bool) → cond b Lacking (refused_if_failed (is_local call) v.channel.failed) ≡ Failing → v.channel.failed ≡ true
      go true made = let clash : Lacking ≡ Failing = made in cc
      go false made = last (is_local call) v.channel.failed made

  lacking_so : refusal_of call v ≡ Lacking → (answer ≡ NoTransfer) × (w ≡ v) → RefusedSo beside tells coding call v w answer
  lacking_so r (is, same) =
      let S : Answer → Type 0 = IsSuccess in
      record {
        answered = [];
        none = refl;
        net_events = λ h. ap (λ x. x.net) same;
        channel = ap (λ x. x.channel) same;
        refusal_is = inr is;
        goes_on = λ going. (same, lacking_transfer call v r);
        unsuccessful = λ success. absurd (subst S is success);
        fails = λ failed. inl (sym (ap (λ x. x.channel.failed) same) ∙ failed);
        plays = λ h room more ended outcomes.
            refused_by Lacking r room more ended outcomes
            ∙ ap (λ a. Done a (play_state v more ended outcomes)) (sym is)
            ∙ ap (λ x. Done answer (play_state x more ended outcomes)) (sym same);
      }

  failing_so : (ends : Bool) → refusal_of call v ≡ Failing → finishes call ≡ ends → answer ≡ Fault SessionFailed → LeavesIf ends tells v w → RefusedSo beside tells coding call v w answer
  failing_so true r ends is leaves =
      let S : Answer → Type 0 = IsSuccess in
      let F : Answer → Type 0 = IsFault in
      let channel : w.channel ≡ v.channel = ap (λ x. x.channel) leaves.0 in
      record {
        answered = Parted ∷ [];
        none = refl;
        net_events = λ h. (w.net, leaves.1 h, refl);
        channel = channel;
        refusal_is = inl is;
        goes_on = λ going. (let clash : true ≡ false = sym (failing_failed r) ∙ sym (ap (λ c. c.failed) channel) ∙ going in cc);
        unsuccessful = λ success. absurd (subst S is success);
        fails = λ failed. inr (subst F (sym is) tt);
        plays = λ h room more ended outcomes.
            let s : PlayState = play_state v more ended outcomes in
            let parts = leaves.1 h in
            refused_by Failing r room more ended outcomes
            ∙ ap (λ b. Done (Fault SessionFailed) (cond b (leaving s) s)) ends
            ∙ ap (λ a. Done a (leaving s)) (sym is)
            ∙ ap (λ d. Done answer (record s { state = with_left s.state; net_record = d })) (sym (net_record_parted parts.0 v.net w.net parts.1))
            ∙ ap (λ x. Done answer (play_state x more ended outcomes)) (sym leaves.0);
      }
  failing_so false r ends is same =
      let S : Answer → Type 0 = IsSuccess in
      let F : Answer → Type 0 = IsFault in
      record {
        answered = [];
        none = refl;
        net_events = λ h. ap (λ x. x.net) same;
        channel = ap (λ x. x.channel) same;
        refusal_is = inl is;
        goes_on = λ going. (let clash : true ≡ false = sym (failing_failed r) ∙ sym (ap (λ x. x.channel.failed) same) ∙ going in cc);
        unsuccessful = λ success. absurd (subst S is success);
        fails = λ failed. inr (subst F (sym is) tt);
        plays = λ h room more ended outcomes.
            let s : PlayState = play_state v more ended outcomes in
            refused_by Failing r room more ended outcomes
            ∙ ap (λ b. Done (Fault SessionFailed) (cond b (leaving s) s)) ends
            ∙ ap (λ a. Done a s) (sym is)
            ∙ ap (λ x. Done answer (play_state x more ended outcomes)) (sym same);
      }

  pub refused_so : IsRefused tells call v w answer → RefusedSo beside tells coding call v w answer
  refused_so refused = go (refusal_of call v) refl refused
    where
      go : (r : Refusal) → refusal_of call v ≡ r → Refuses r tells call v w answer → RefusedSo beside tells coding call v w answer
      go Taken r refused = absurd refused
      go Lacking r refused = lacking_so r refused
      go Failing r refused = failing_so (finishes call) r refl refused.0 refused.1

-- a call that is taken is played by the definition
pub taken_plays : (coding : Coding) (room : Room) (call : Call) (v : SessionValue) (more : List ℕ) (ended : Bool) (outcomes : List NetOutcome) → refusal_of call v ≡ Taken → (let s : PlayState = play_state v more ended outcomes in play_call room coding call s ≡ finally (play room (dialogue coding call s.state) (record s { state = entered call s.state })))
taken_plays coding room call v more ended outcomes taken =
    let s : PlayState = play_state v more ended outcomes in
    ap (λ x. play_unless x room coding call s) (ap (λ n. refusal call v.channel.failed (lacks call n v.state.counts.owed)) (lacks_alike traffic_of v.net.data_conn) ∙ taken)

-- what is left of a reply is resumed by a call that is taken
pub taken_resumes : (modes : Modes) (kept : List ℕ) (coding : Coding) (call : Call) (v : SessionValue) → refusal_of call v ≡ Taken → (v.channel.failed ≡ false → Resumes modes kept (dialogue coding call v.state)) → Resumes modes kept (dialogue coding call v.state)
taken_resumes modes kept coding call v taken resumes = go (is_local call) refl
  where
    go : (b : Bool) → is_local call ≡ b → Resumes modes kept (dialogue coding call v.state)
    go true local = local_resumes modes kept coding call v.state local
    go false abroad = resumes (taken_going call v.channel.failed (lacks_of call v) taken abroad)

-- a session that goes on after a call that was taken went on before it
pub taken_goes_on : (call : Call) (v w : SessionValue) → refusal_of call v ≡ Taken → (is_local call ≡ true → w.channel ≡ v.channel) → w.channel.failed ≡ false → v.channel.failed ≡ false
taken_goes_on call v w taken apart going = go (is_local call) refl
  where
    go : (b : Bool) → is_local call ≡ b → v.channel.failed ≡ false
    go true local = sym (ap (λ c. c.failed) (apart local)) ∙ going
    go false abroad = taken_going call v.channel.failed (lacks_of call v) taken abroad

-- a refusal of a call that lacks nothing is one of a session that has failed
pub refused_answer : (tells : Type 0) (call : Call) (v w : SessionValue) (answer : Answer) → (refusal_of call v ≡ Lacking → ⊥) → IsRefused tells call v w answer → MayAnswer call answer
refused_answer tells call v w answer held refused = go (refusal_of call v) refl refused
  where
    go : (r : Refusal) → refusal_of call v ≡ r → Refuses r tells call v w answer → MayAnswer call answer
    go Taken is refused = absurd refused
    go Lacking is refused = absurd (held is)
    go Failing is refused = (let P : Answer → Type 0 = λ a. MayAnswer call a in subst P (sym refused.0) (First, inr tt, tt))

-- a call that needs no transfer lacks none
pub never_lacks : (call : Call) (v : SessionValue) → of_transfer call ≡ false → refusal_of call v ≡ Lacking → ⊥
never_lacks call v unheld is = let clash : true ≡ false = sym (lacking_transfer call v is) ∙ unheld in cc
