-- What a call that succeeded did on the wire.
use Rattle.std.proofs.Common.{◌≡◌, ◌||◌, ◌∷◌, ℕ, Bool, true, false, cond, eqb, Option, Some, None, List, [], ◌++◌, Result, Ok, Err, refl, ap, sym, ◌∙◌, subst, append-nil}
use Rattle.ftp_base.specs.Status.{code_of, status_of}
use Rattle.ftp_base.specs.declared.command.Command.{Command}
use Rattle.ftp_base.specs.Command.{text_of}
use Rattle.ftp_base.specs.Wire.{wire}
use Rattle.ftp_base.specs.declared.types.reply.Response.{Response}
use Rattle.ftp_base.specs.declared.types.fault.FtpError.{FtpError}
use Rattle.ftp_base.specs.declared.types.fault.FtpError.TheVariants as fault
use Rattle.ftp_base.specs.declared.types.fault.ConnectionError.{ConnectionError as Cause}
use Rattle.ftp_base.specs.declared.types.fault.ConnectionError.TheVariants as connection
use Rattle.ftp_transport.specs.declared.room.Room.TheVariants.{Any}
use Rattle.ftp_dialogue.specs.NetEvents.{outcomes_of}
use Rattle.ftp_dialogue.specs.declared.model.NetOutcome.{NetOutcome}
use Rattle.ftp_control.specs.declared.control.outcome.Outcome.{Outcome}
use Rattle.ftp_control.specs.declared.control.outcome.Outcome.TheVariants.{Whole, Bad, TooLarge, Ended, Waits}
use Rattle.ftp_control.specs.Grammar.{outcome, left_by}
use Rattle.ftp_control.specs.Answer.{is_among}
use Rattle.ftp_dialogue.specs.declared.state.State.{State}
use Rattle.ftp_calls.specs.declared.call.Answer.{Answer}
use Rattle.ftp_calls.specs.declared.call.Answer.TheVariants.{Unit, Reply, Fault}
use Rattle.ftp_calls.specs.declared.call.Call.{Call}
use Rattle.ftp_calls.specs.declared.exchange.Turn.TheVariants.{First, Second}
use Rattle.ftp_calls.specs.declared.exchange.Ending.{Ending}
use Rattle.ftp_calls.specs.declared.exchange.Ending.TheVariants as ending
use Rattle.ftp_calls.specs.declared.exchange.Exchange.{Exchange}
use Rattle.ftp_dialogue.specs.declared.model.PlayState.{PlayState}
use Rattle.ftp_dialogue.specs.declared.model.Played.{Played}
use Rattle.ftp_dialogue.specs.declared.model.Played.TheVariants.{Done, Pending}
use Rattle.ftp_dialogue.specs.State.{SessionValue, LetsGo}
use Rattle.ftp_dialogue.specs.Coding.{Coding}
use Rattle.ftp_calls.specs.declared.exchange.Row.{Row}
use Rattle.ftp_calls.specs.declared.exchange.Row.TheVariants.{Exchanges, Arms, Resyncs, Sets, Moves}
use Rattle.ftp_calls.specs.Exchanges.{draining_row, drains, ending_of, finishes, is_draining, negotiates, row_of}
use Rattle.ftp_dialogue.proofs.Faults.{told_undrained}
use Rattle.ftp_calls.proofs.Openings.{drains_alike}
use Rattle.ftp_dialogue.proofs.OpeningData.{first_plain, row_agrees, second_plain}
use Rattle.ftp_dialogue.specs.Steps.Moving.{agrees}
use Rattle.ftp_calls.specs.declared.exchange.Movement.{Movement}
use Rattle.ftp_dialogue.specs.declared.model.Wait.TheVariants as wait
use Rattle.ftp_dialogue.specs.NetEvents.{answers, moved as beside}
use Rattle.ftp_dialogue.proofs.CarryingLemmas.{carrying_is}
use Rattle.ftp_dialogue.specs.Steps.Moving.{answer_moved, moves_nothing, nothing_moved, state_moved}
use Rattle.ftp_dialogue.specs.Dialogue.{Expected, expected_of, Tree, Say, Move, Leaf, saying, after_fault_of, answer_to_fault, awaiting, carrying, concluded, accepted, exchanging, armed, doing, entered, finish_answer, from_turn, later, negotiating, opened_from, set_to, with_drained, with_finished, with_left, dialogue, closing_data, with_aborted}
use Rattle.ftp_dialogue.specs.Play.{play, heard_then, moved_then}
use Rattle.ftp_dialogue.specs.Promises.{play_state, begun_by, Completes, IsSuccess, Says, Exchanged, ExchangedIf, IsSilent, Succeeds, SucceedsBy, SucceedsUnless, Wired, goes_on_with}
use Rattle.ftp_dialogue.proofs.Moving.{play-Say, play-Leaf, play-Refused}
use Rattle.ftp_control.specs.declared.control.rule.ReplyRule.{ReplyRule}
use Rattle.ftp_dialogue.proofs.Hearing.{begun_resumes, entered_rule, play-Hear}
use Rattle.ftp_dialogue.specs.Link.{Link}
use Rattle.ftp_base.specs.declared.status.Status.TheVariants.{TransferAborted}

-- an error is no success
no_success : (found : FtpError) (answer : Answer) (s t : PlayState) → Done (Fault found) s ≡ Done answer t → IsSuccess answer → ⊥
no_success found answer s t is success =
    let same : answer ≡ Fault found = cc in
    let P : Answer → Type 0 = IsSuccess in
    subst P same success

-- a tree whose last node gave this answer ends where it is
leaf_at : (answer answer' : Answer) (state : State) (s t : PlayState) → play Any (Leaf answer state) s ≡ Done answer' t → t ≡ record s { state = state }
leaf_at answer answer' state s t is =
    let both : Done answer (record s { state = state }) ≡ Done answer' t = sym (play-Leaf Any answer state s) ∙ is in
    cc

-- a reply that was heard
pub record HeardOne (coding : Coding) (codes : Expected) (how : Ending) (state : State) (next : State → Tree) (answer : Answer) (s t : PlayState) : Type 0 where
  pub reply : Response
  pub code : ℕ
  pub whole : outcome s.state.settings.reply_rule codes.form s.bytes s.ended ≡ Whole reply.body code
  pub status : reply.status ≡ status_of code
  pub among : is_among codes.statuses reply.status ≡ true
  pub goes : play Any (accepted coding how state reply next) (record s { bytes = left_by (Whole reply.body code) s.bytes }) ≡ Done answer t

module _ (coding : Coding) (codes : Expected) (how : Ending) (state : State) (next : State → Tree) (answer : Answer) (s t : PlayState) (undrained : is_draining how ≡ false) (success : IsSuccess answer) where
  abbrev k : Result Response FtpError → PlayState → Played
  k a x = play Any (concluded coding how state next a) x

  found : (fault : FtpError) (x : PlayState) → k (Err fault) x ≡ Done answer t → ⊥
  found fault x is =
      let told = told_undrained how fault undrained in
      let D : Answer → Type 0 = λ a. Done a (record x { state = after_fault_of how fault state }) ≡ Done answer t in
      no_success told.0 answer (record x { state = after_fault_of how fault state }) t (subst D told.1 (sym (play-Leaf Any (answer_to_fault how fault) (after_fault_of how fault state) x) ∙ is)) success

  pub one_reply : play Any (awaiting coding codes how state next) s ≡ Done answer t → HeardOne coding codes how state next answer s t
  one_reply is = go (outcome s.state.settings.reply_rule codes.form s.bytes s.ended) refl (sym (play-Hear Any codes (concluded coding how state next) s) ∙ is)
    where
      go : (o : Outcome) → outcome s.state.settings.reply_rule codes.form s.bytes s.ended ≡ o → heard_then o codes s (λ a x. play Any (concluded coding how state next a) x) ≡ Done answer t → HeardOne coding codes how state next answer s t
      go (Whole body code) whole done =
          let reply : Response = record { status = status_of code; body = body } in
          let here : PlayState = record s { bytes = left_by (Whole body code) s.bytes } in
          elim (is_among codes.statuses (status_of code)) as (λ b. is_among codes.statuses (status_of code) ≡ b → k (cond b (Ok reply) (Err (fault.UnexpectedResponse reply))) here ≡ Done answer t → HeardOne coding codes how state next answer s t) [
            | true ↦ λ among done. record { reply = reply; code = code; whole = whole; status = refl; among = among; goes = done }
            | false ↦ λ among done. absurd (found (fault.UnexpectedResponse reply) here done)
          ] refl done
      go (Bad line) whole done = absurd (found fault.BadResponse (record s { bytes = left_by (Bad line) s.bytes }) done)
      go TooLarge whole done = absurd (found (fault.ConnectionError connection.ReplyTooLarge) (record s { bytes = left_by TooLarge s.bytes; failed = true }) done)
      go Ended whole done = absurd (found (fault.ConnectionError connection.UnexpectedEof) (record s { bytes = left_by Ended s.bytes; failed = true }) done)
      go Waits whole done = cc done

-- an exchange that succeeded
pub record ExchangedOne (coding : Coding) (exchange : Exchange) (state : State) (next : State → Tree) (answer : Answer) (s t : PlayState) : Type 0 where
  pub reply : Response
  pub between : PlayState
  pub exchanged : Exchanged coding exchange reply s between
  pub goes : play Any (accepted coding exchange.ending state reply next) between ≡ Done answer t

pub one_exchange : (coding : Coding) (exchange : Exchange) (state : State) (next : State → Tree) (answer : Answer) (s t : PlayState) → is_draining exchange.ending ≡ false → IsSuccess answer → play Any (exchanging coding exchange state next) s ≡ Done answer t → ExchangedOne coding exchange state next answer s t
one_exchange coding exchange state next answer s t undrained success is = go exchange.says refl is
  where
    go : (command : Option Command) → exchange.says ≡ command → play Any (saying coding command (awaiting coding (expected_of exchange.hears) exchange.ending state next)) s ≡ Done answer t → ExchangedOne coding exchange state next answer s t
    go None says done =
        let one = one_reply coding (expected_of exchange.hears) exchange.ending state next answer s t undrained success done in
        let here : PlayState = record s { bytes = left_by (Whole one.reply.body one.code) s.bytes } in
        let P : Option Command → Type 0 = λ c. Says coding c s here in
        record {
          reply = one.reply;
          between = here;
          exchanged = record { says = subst P (sym says) (refl, refl); code = one.code; whole = one.whole; status = one.status; accepted = one.among; consumed = refl };
          goes = one.goes;
        }
    go (Some command) says done = line (wire coding.encode (text_of command)) refl done
      where
        line : (l : Result (List ℕ) Cause) → wire coding.encode (text_of command) ≡ l → play Any (Say l (awaiting coding (expected_of exchange.hears) exchange.ending state next)) s ≡ Done answer t → ExchangedOne coding exchange state next answer s t
        line (Err cause) refused done = absurd (no_success (fault.ConnectionError cause) answer s t (sym (play-Refused Any cause (awaiting coding (expected_of exchange.hears) exchange.ending state next) s) ∙ done) success)
        line (Ok bytes) wired done =
            let there : PlayState = record s { said = s.said ++ s.unsent ++ bytes; unsent = [] } in
            let one = one_reply coding (expected_of exchange.hears) exchange.ending state next answer there t undrained success (sym (play-Say Any bytes (awaiting coding (expected_of exchange.hears) exchange.ending state next) s) ∙ done) in
            let here : PlayState = record there { bytes = left_by (Whole one.reply.body one.code) s.bytes } in
            let P : Option Command → Type 0 = λ c. Says coding c s here in
            record {
              reply = one.reply;
              between = here;
              exchanged = record { says = subst P (sym says) (bytes, wired, refl, refl); code = one.code; whole = one.whole; status = one.status; accepted = one.among; consumed = refl };
              goes = one.goes;
            }

-- the last exchange ends in a leaf
accepted_leaf : (coding : Coding) (how : Ending) (state : State) (reply : Response) → agrees how ≡ false → (answer : Answer) × (new : State) × (accepted coding how state reply (λ x. Leaf Unit x) ≡ Leaf answer new)
accepted_leaf coding ending.Done state reply plain = (Unit, state, refl)
accepted_leaf coding ending.GivesReply state reply plain = (Reply reply, state, refl)
accepted_leaf coding ending.TakesReply state reply plain = (Reply reply, _, refl)
accepted_leaf coding ending.Greets state reply plain = (Unit, _, refl)
accepted_leaf coding (ending.SetsText text) state reply plain = (Unit, _, refl)
accepted_leaf coding ending.Continues state reply plain = (Unit, state, refl)
accepted_leaf coding ending.GivesAddress state reply plain = let clash : true ≡ false = plain in cc
accepted_leaf coding (ending.GivesPort tries) state reply plain = let clash : true ≡ false = plain in cc
accepted_leaf coding (ending.Opens replies) state reply plain = let clash : true ≡ false = plain in cc
accepted_leaf coding (ending.Performs task) state reply plain = let clash : true ≡ false = plain in cc
accepted_leaf coding (ending.Finishes close) state reply plain = (finish_answer close, with_finished state, refl)
accepted_leaf coding ending.Drains state reply plain = (Unit, with_drained state, refl)
accepted_leaf coding ending.Stops state reply plain = (Unit, _, same (eqb (code_of reply.status) (code_of TransferAborted)))
  where
    same : (b : Bool) → cond b (Leaf Unit state) (Leaf Unit (with_aborted state)) ≡ Leaf Unit (cond b state (with_aborted state))
    same true = refl
    same false = refl
accepted_leaf coding (ending.GoesOn status) state reply plain = (Unit, state, same (eqb (code_of reply.status) (code_of status)))
  where
    same : (b : Bool) → cond b (Leaf Unit state) (Leaf Unit state) ≡ Leaf Unit state
    same true = refl
    same false = refl
accepted_leaf coding other state reply plain = (_, state, refl)

says_state : (coding : Coding) (command : Option Command) (s t : PlayState) (state : State) → Says coding command s t → Says coding command s (record t { state = state })
says_state coding None s t state says = says
says_state coding (Some command) s t state says = says

-- a call that succeeded
module _ (coding : Coding) (call : Call) (answer : Answer) (s t : PlayState) (state : State) (success : IsSuccess answer) (none : negotiates call ≡ false) (undrained : drains call ≡ false) where
  -- nothing was said or heard
  stays : (m : PlayState) (a : Answer) (new : State) → play Any (Leaf a new) m ≡ Done answer t → IsSilent m t
  stays m a new done =
      let same = leaf_at a answer new m t done in
      (ap (λ x. x.said) same, ap (λ x. x.unsent) same, ap (λ x. x.bytes) same)

  -- bytes went over the data connection
  moved : (moves : Movement) (m : PlayState) → play Any (Move moves (λ came. Leaf (answer_moved moves came) (state_moved moves state))) m ≡ Done answer t → IsSilent m t
  unfolding play
  moved moves m done = go m.outcomes done
    where
      k : NetOutcome → PlayState → Played
      k = λ came u. play Any (Leaf (answer_moved moves came) (state_moved moves state)) u

      go : (o : List NetOutcome) → moved_then o moves m k ≡ Done answer t → IsSilent m t
      go [] e = let clash : Pending wait.Outcome m ≡ Done answer t = e in cc
      go (outcome ∷ outcomes) e =
          let after : PlayState = record m { net_record = beside moves outcome m.net_record; outcomes = outcomes } in
          elim (answers moves outcome) as (λ b. cond b (k outcome after) (Pending wait.Outcome m) ≡ Done answer t → IsSilent m t) [
            | true ↦ λ f. (let same = leaf_at (answer_moved moves outcome) answer (state_moved moves state) after t f in (ap (λ x. x.said) same, ap (λ x. x.unsent) same, ap (λ x. x.bytes) same))
            | false ↦ λ f. (let clash : Pending wait.Outcome m ≡ Done answer t = f in cc)
          ] e

  carried : (moves : Movement) (m : PlayState) → play Any (carrying moves state) m ≡ Done answer t → IsSilent m t
  carried moves m done =
      let next : Tree = Move moves (λ came. Leaf (answer_moved moves came) (state_moved moves state)) in
      let P : Tree → Type 0 = λ x. play Any x m ≡ Done answer t in
      elim (moves_nothing moves) as (λ b. P (cond b (Leaf (nothing_moved moves) state) next) → IsSilent m t) [
        | true ↦ λ e. stays m (nothing_moved moves) state e
        | false ↦ λ e. moved moves m e
      ] (subst P (carrying_is moves state) done)

  -- the second row
  last : (r : Row) (m : PlayState) → row_agrees (ending_of r) ≡ false → draining_row r ≡ false → play Any (doing coding r state (λ x. Leaf Unit x)) m ≡ Done answer t → ExchangedIf true coding r m t
  last (Arms offset) m plain undrained' done = stays m Unit (armed offset state) done
  last Resyncs m plain undrained' done = tt
  last (Sets setting) m plain undrained' done = stays m Unit (set_to setting state) done
  last (Moves moves) m plain undrained' done = carried moves m done
  last (Exchanges e) m plain undrained' done =
      let two = one_exchange coding e state (λ x. Leaf Unit x) answer m t undrained' success done in
      let leaf = accepted_leaf coding e.ending state two.reply plain in
      let L : Tree → Type 0 = λ x. play Any x two.between ≡ Done answer t in
      let same = leaf_at leaf.0 answer leaf.1 two.between t (subst L leaf.2 two.goes) in
      let P : PlayState → Type 0 = λ x. Exchanged coding e two.reply m x in (
        two.reply,
        subst P (sym same) (record {
          says = says_state coding e.says m two.between leaf.1 two.exchanged.says;
          code = two.exchanged.code;
          whole = two.exchanged.whole;
          status = two.exchanged.status;
          accepted = two.exchanged.accepted;
          consumed = two.exchanged.consumed;
        }),
      )

  -- what comes after the first exchange
  next : (how : Ending) (reply : Response) (m : PlayState) → agrees how ≡ false → play Any (accepted coding how state reply (later coding call First)) m ≡ Done answer t → ExchangedIf (goes_on_with how reply) coding (row_of call Second) m t
  next (ending.GoesOn status) reply m plain done =
      elim (eqb (code_of reply.status) (code_of status)) as (λ b. play Any (cond b (later coding call First state) (Leaf Unit state)) m ≡ Done answer t → ExchangedIf b coding (row_of call Second) m t) [
        | true ↦ λ done. last (row_of call Second) m (second_plain call none) (drains_alike call ∙ undrained) done
        | false ↦ λ done. stays m Unit state done
      ] done
  next ending.Continues reply m plain done = last (row_of call Second) m (second_plain call none) (drains_alike call ∙ undrained) done
  next ending.Stops reply m plain done =
      elim (eqb (code_of reply.status) (code_of TransferAborted)) as (λ b. play Any (cond b (later coding call First state) (Leaf Unit (with_aborted state))) m ≡ Done answer t → ExchangedIf b coding (row_of call Second) m t) [
        | true ↦ λ done. last (row_of call Second) m (second_plain call none) (drains_alike call ∙ undrained) done
        | false ↦ λ done. stays m Unit (with_aborted state) done
      ] done
  next ending.GivesAddress reply m plain done = let clash : true ≡ false = plain in cc
  next (ending.GivesPort tries) reply m plain done = let clash : true ≡ false = plain in cc
  next (ending.Opens replies) reply m plain done = let clash : true ≡ false = plain in cc
  next (ending.Performs task) reply m plain done = let clash : true ≡ false = plain in cc
  next other reply m plain done = stays m _ _ done

  -- the first row
  by_row : (r : Row) → row_agrees (ending_of r) ≡ false → draining_row r ≡ false → play Any (doing coding r state (later coding call First)) s ≡ Done answer t → SucceedsBy coding r (row_of call Second) s t
  by_row (Arms offset) plain undrained' done = stays s Unit (armed offset state) done
  by_row Resyncs plain undrained' done = tt
  by_row (Sets setting) plain undrained' done = stays s Unit (set_to setting state) done
  by_row (Moves moves) plain undrained' done = carried moves s done
  by_row (Exchanges e) plain undrained' done =
      let one = one_exchange coding e state (later coding call First) answer s t undrained' success done in
      record { reply = one.reply; between = one.between; first = one.exchanged; second = next e.ending one.reply one.between plain one.goes }

pub call_succeeds : (coding : Coding) (call : Call) (answer : Answer) (s t : PlayState) (state : State) → IsSuccess answer → play Any (dialogue coding call state) s ≡ Done answer t → Succeeds coding call s t
call_succeeds coding call answer s t state success is =
    elim (negotiates call) as (λ b. negotiates call ≡ b → play Any (cond b (negotiating coding call state.settings.restart_offset (opened_from call state)) (cond (finishes call) (closing_data coding call (with_left state)) (from_turn coding call First state))) s ≡ Done answer t → SucceedsUnless (b || finishes call || drains call) coding call s t) [
      | true ↦ λ opens e. tt
      | false ↦ λ none e. (elim (finishes call) as (λ f. play Any (cond f (closing_data coding call (with_left state)) (from_turn coding call First state)) s ≡ Done answer t → SucceedsUnless (f || drains call) coding call s t) [
        | true ↦ λ e. tt
        | false ↦ λ e. (elim (drains call) as (λ d. drains call ≡ d → SucceedsUnless d coding call s t) [
          | true ↦ λ d. tt
          | false ↦ λ d. by_row coding call answer s t state success none d (row_of call First) (first_plain call none) d e
        ] refl)
      ] e)
    ] refl is

-- where a call began doesn't matter to what it did on the wire
begun_succeeds : (coding : Coding) (call : Call) (s t : PlayState) (state : State) → state.settings.reply_rule ≡ s.state.settings.reply_rule → Succeeds coding call (record s { state = state }) t → Succeeds coding call s t
begun_succeeds coding call s t state rule =
    elim (negotiates call || finishes call || drains call) as (λ b. SucceedsUnless b coding call (record s { state = state }) t → SucceedsUnless b coding call s t) [
      | true ↦ λ e. tt
      | false ↦ λ e. by_row (row_of call First) e
    ]
  where
    says : (command : Option Command) (u : PlayState) → Says coding command (record s { state = state }) u → Says coding command s u
    says None u told = told
    says (Some command) u told = told

    whole : (e : Exchange) (reply : Response) (code : ℕ) → outcome state.settings.reply_rule (expected_of e.hears).form s.bytes s.ended ≡ Whole reply.body code → outcome s.state.settings.reply_rule (expected_of e.hears).form s.bytes s.ended ≡ Whole reply.body code
    whole e reply code is = (let P : ReplyRule → Type 0 = λ r. outcome r (expected_of e.hears).form s.bytes s.ended ≡ Whole reply.body code in subst P rule is)

    by_row : (r : Row) → SucceedsBy coding r (row_of call Second) (record s { state = state }) t → SucceedsBy coding r (row_of call Second) s t
    by_row (Exchanges e) two = record {
      reply = two.reply;
      between = two.between;
      first = record { says = says e.says two.between two.first.says; code = two.first.code; whole = whole e two.reply two.first.code two.first.whole; status = two.first.status; accepted = two.first.accepted; consumed = two.first.consumed };
      second = two.second;
    }
    by_row other silent = silent

-- the calls of a session
pub wired : (link : Link) (coding : Coding) (call : Call) (old last new : SessionValue) → LetsGo link.tells last new → (answer : Answer) → Completes link (dialogue coding call old.state) answer (begun_by call old) last → IsSuccess answer → Wired link coding call old new
wired link coding call old last new lets_go answer done success = record {
  last = last;
  lets_go = lets_go;
  came = done.came;
  answered = done.answered;
  goes = done.goes;
  succeeds = λ h resumes.
      let ended = last.channel.ended in
      let played = done.plays h (begun_resumes call old (dialogue coding call old.state) resumes) Any [] ended [] tt (record { nothing = λ e. refl; over = λ e. e }) in
      let F : List ℕ → PlayState = λ c. play_state (begun_by call old) c ended (outcomes_of done.answered ++ []) in
      let G : List NetOutcome → PlayState = λ o. play_state (begun_by call old) done.came ended o in
      let same : play_state (begun_by call old) (done.came ++ []) ended (outcomes_of done.answered ++ []) ≡ play_state (begun_by call old) done.came ended (outcomes_of done.answered) = ap F (append-nil done.came) ∙ ap G (append-nil (outcomes_of done.answered)) in
      let P : PlayState → Type 0 = λ s. play Any (dialogue coding call old.state) s ≡ Done answer (play_state last [] ended []) in
      begun_succeeds coding call (play_state old done.came ended (outcomes_of done.answered)) (play_state last [] ended []) (entered call old.state) (entered_rule call old.state)
      (call_succeeds coding call answer (play_state (begun_by call old) done.came ended (outcomes_of done.answered)) (play_state last [] ended []) old.state success (subst P same played));
}
