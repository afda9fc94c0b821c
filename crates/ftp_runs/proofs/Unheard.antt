-- Lemmas on calls that wait for room before they hear: a dialogue that waits and hasn't heard says a line that isn't
-- within the room.
use Rattle.ftp_control.specs.declared.control.form.ReplyForm.{ReplyForm}
use Rattle.std.proofs.Common.{◌≡◌, ◌&&◌, ℕ, ◌+◌, ◌<◌, ◌≤◌, Bool, true, false, cond, eqb, Option, Some, None, is_none, List, [], ◌∷◌, ◌++◌, length, leb, ltb, Result, Ok, Err, refl, ap, sym, ◌∙◌, subst, arith}
use Rattle.std.proofs.lemmas.Bool.{eqb-true}
use Rattle.std.proofs.lemmas.List.{length-drop}
use Rattle.ftp_base.specs.Status.{status_of}
use Rattle.ftp_base.specs.declared.command.Command.{Command}
use Rattle.ftp_base.specs.Command.{text_of}
use Rattle.ftp_base.specs.Wire.{wire}
use Rattle.ftp_base.specs.declared.types.reply.Response.{Response}
use Rattle.ftp_base.specs.declared.types.fault.FtpError.{FtpError}
use Rattle.ftp_base.specs.declared.types.fault.FtpError.TheVariants as fault
use Rattle.ftp_base.specs.declared.types.fault.ConnectionError.{ConnectionError as Cause}
use Rattle.ftp_base.specs.declared.types.fault.ConnectionError.TheVariants as connection
use Rattle.ftp_control.specs.declared.control.rule.ReplyRule.{ReplyRule}
use Rattle.ftp_control.specs.declared.control.rule.ReplyRule.TheVariants.{Strict, Lenient}
use Rattle.ftp_transport.specs.declared.room.Room.{Room}
use Rattle.ftp_transport.specs.declared.request.RequestOutcome.{RequestOutcome}
use Rattle.ftp_control.specs.declared.plain.Found.{Found}
use Rattle.ftp_control.specs.declared.plain.Found.TheVariants.{Reply, NoReply, Unfinished}
use Rattle.ftp_control.specs.declared.control.outcome.Outcome.{Outcome}
use Rattle.ftp_control.specs.declared.control.outcome.Outcome.TheVariants.{Whole, Bad, TooLarge, Ended, Waits}
use Rattle.ftp_control.specs.Grammar.{outcome, within, reply_in, to_end, ends, opens, lines, code_at_start, left_by, reply_limit}
use Rattle.ftp_control.specs.Found.{after_line}
use Rattle.ftp_control.specs.Lenient.{to_list_end, by_dash, lists, opens_list}
use Rattle.ftp_control.specs.Answer.{expected_reply}
use Rattle.ftp_control.specs.Saying.{due}
use Rattle.ftp_calls.specs.declared.call.Answer.{Answer}
use Rattle.ftp_calls.specs.declared.call.Answer.TheVariants.{Fault}
use Rattle.ftp_calls.specs.declared.call.Answer.TheVariants as answers
use Rattle.ftp_calls.specs.declared.call.Call.{Call}
use Rattle.ftp_calls.specs.declared.exchange.Ending.{Ending}
use Rattle.ftp_calls.specs.declared.exchange.Turn.TheVariants.{First}
use Rattle.ftp_calls.specs.declared.exchange.Exchange.{Exchange}
use Rattle.ftp_calls.specs.declared.exchange.Row.{Row}
use Rattle.ftp_calls.specs.declared.exchange.Row.TheVariants.{Exchanges, Arms, Resyncs, Sets, Moves}
use Rattle.ftp_calls.specs.Exchanges.{finishes, is_read, reads, row_of}
use Rattle.ftp_dialogue.specs.declared.state.State.{State}
use Rattle.ftp_dialogue.specs.declared.stage.Stage.{Stage}
use Rattle.ftp_dialogue.specs.declared.stage.Stage.TheVariants.{At, Composing, Saying, Hearing, Seeking, SettingOffset, OpeningData, Transferring, Closing}
use Rattle.ftp_dialogue.specs.declared.model.PlayState.{PlayState}
use Rattle.ftp_dialogue.specs.declared.model.Wait.{Wait}
use Rattle.ftp_dialogue.specs.declared.model.Wait.TheVariants as wait
use Rattle.ftp_dialogue.specs.declared.model.Played.{Played}
use Rattle.ftp_dialogue.specs.declared.model.Played.TheVariants.{Done, Pending}
use Rattle.ftp_runs.specs.declared.model.Script.{Script}
use Rattle.ftp_dialogue.specs.Coding.{Coding}
use Rattle.ftp_base.specs.declared.command.Command.TheVariants.{Noop}
use Rattle.ftp_dialogue.specs.Sound.{some_live}
use Rattle.ftp_dialogue.specs.Dialogue.{seeking}
use Rattle.ftp_dialogue.specs.Dialogue.{most_passed_over}
use Rattle.ftp_dialogue.specs.Dialogue.{resyncing}
use Rattle.ftp_dialogue.specs.Dialogue.{sought}
use Rattle.ftp_dialogue.specs.Dialogue.{expecting}
use Rattle.ftp_base.specs.declared.status.Status.TheVariants.{CommandOk}
use Rattle.ftp_dialogue.proofs.RecoveringLemmas.{others, seeking_is}
use Rattle.ftp_dialogue.specs.declared.stage.AfterClose.TheVariants.{Finishes, Aborts, Fetched as FetchedAll}
use Rattle.ftp_dialogue.specs.declared.stage.AfterLine.TheVariants.{Hears, Recovers}
use Rattle.ftp_dialogue.specs.declared.stage.Recovery.TheVariants.{Abort, Resync}
use Rattle.ftp_dialogue.specs.Dialogue.{Expected, expected_of, Tree, Say, Hear, Look, Ask, Build, Secure, Move, Leaf, saying, after_fault_of, awaiting, armed, doing, exchanging, concluded, later, set_to, answer_to_fault, dialogue}
use Rattle.ftp_dialogue.specs.declared.model.NetOutcome.{NetOutcome}
use Rattle.ftp_dialogue.specs.declared.model.NetOutcome.TheVariants as came
use Rattle.ftp_dialogue.specs.NetEvents.{answers as answers_to, constructed, after_request, moved, secured}
use Rattle.ftp_dialogue.specs.Play.{play, address_at, fits, heard_then, taken, asked_then, built_then, moved_then, needs_data, secured_then}
use Rattle.ftp_runs.specs.Script.{heard_in, heard_at}
use Rattle.ftp_dialogue.proofs.CarryingLemmas.{needs_none, plain_dialogue}
use Rattle.ftp_dialogue.proofs.Sorts.{fetch_opens, finishing_moves, turn_abroad, aborts_finish}
use Rattle.ftp_dialogue.specs.Steps.Stages.{StageOf, TurnOf, remaining}
use Rattle.ftp_dialogue.proofs.Stages.{no_read}
use Rattle.ftp_dialogue.proofs.Moving.{play-Say, play-Leaf, play-Refused}
use Rattle.ftp_dialogue.proofs.Hearing.{play-Hear}

-- A whole reply isn't empty

abbrev bytes_found : Found → List ℕ
bytes_found (Reply bytes code) = bytes
bytes_found (NoReply line) = []
bytes_found Unfinished = []

line_found : (b : ℕ) (line : List ℕ) (more : Found) (bytes : List ℕ) (code : ℕ) → after_line (b ∷ line) more ≡ Reply bytes code → 0 < length bytes
line_found b line (Reply others number) bytes code is = omega (arith, ap length (ap bytes_found is))
line_found b line (NoReply other) bytes code is = let clash : NoReply other ≡ Reply bytes code = is in cc
line_found b line Unfinished bytes code is = let clash : Unfinished ≡ Reply bytes code = is in cc

reply_found : (rule : ReplyRule) (form : ReplyForm) (ended : Bool) (lines : List (List ℕ)) (bytes : List ℕ) (code : ℕ) → reply_in rule form ended lines ≡ Reply bytes code → 0 < length bytes
reply_found rule form ended [] bytes code is = let clash : Unfinished ≡ Reply bytes code = is in cc
reply_found Strict form ended ([] ∷ lines) bytes code is = let clash : NoReply [] ≡ Reply bytes code = is in cc
reply_found Lenient form ended ([] ∷ lines) bytes code is = let clash : NoReply [] ≡ Reply bytes code = is in cc
reply_found rule form ended ((b ∷ line) ∷ lines) bytes code is =
    let first : List ℕ = b ∷ line in
    let others : Found = after_line first (to_end rule form ended first lines) in
    let listed : Found = after_line first (to_list_end ended lines) in
    let number : ℕ = code_at_start first in
    elim (opens rule first) as (λ o. cond o (cond (ends rule (by_dash form) first first) (cond (lists form && opens_list first) listed (Reply first number)) others) (NoReply first) ≡ Reply bytes code → 0 < length bytes) [
      | true ↦ λ e. (elim (ends rule (by_dash form) first first) as (λ t. cond t (cond (lists form && opens_list first) listed (Reply first number)) others ≡ Reply bytes code → 0 < length bytes) [
        | true ↦ λ f. (elim (lists form && opens_list first) as (λ t. cond t listed (Reply first number) ≡ Reply bytes code → 0 < length bytes) [
          | true ↦ λ g. line_found b line (to_list_end ended lines) bytes code g
          | false ↦ λ g. omega (arith, ap length (ap bytes_found g))
        ] f)
        | false ↦ λ f. line_found b line (to_end rule form ended first lines) bytes code f
      ] e)
      | false ↦ λ e. (let clash : NoReply first ≡ Reply bytes code = e in cc)
    ] is

abbrev bytes_of : Outcome → List ℕ
bytes_of (Whole bytes code) = bytes
bytes_of other = []

-- what says too little is no whole reply
unfinished : (count : ℕ) (ended : Bool) (reply : List ℕ) (code : ℕ) → within count ended Unfinished ≡ Whole reply code → ⊥
unfinished count ended reply code is =
    elim (ltb reply_limit count) as (λ t. cond t TooLarge (cond ended Ended Waits) ≡ Whole reply code → ⊥) [
      | true ↦ λ e. (let clash : TooLarge ≡ Whole reply code = e in cc)
      | false ↦ λ e. (elim ended as (λ t. cond t Ended Waits ≡ Whole reply code → ⊥) [
        | true ↦ λ f. (let clash : Ended ≡ Whole reply code = f in cc)
        | false ↦ λ f. (let clash : Waits ≡ Whole reply code = f in cc)
      ] e)
    ] is

within_some : (count : ℕ) (ended : Bool) (found : Found) (reply : List ℕ) (code : ℕ) → ((bytes : List ℕ) (number : ℕ) → found ≡ Reply bytes number → 0 < length bytes) → within count ended found ≡ Whole reply code → 0 < length reply
within_some count ended (Reply bytes number) reply code some is =
    elim (leb (length bytes) reply_limit) as (λ t. cond t (Whole bytes number) TooLarge ≡ Whole reply code → 0 < length reply) [
      | true ↦ λ e. omega (arith, some bytes number refl, ap length (ap bytes_of e))
      | false ↦ λ e. (let clash : TooLarge ≡ Whole reply code = e in cc)
    ] is
within_some count ended (NoReply line) reply code some is =
    elim (leb (length line) reply_limit) as (λ t. cond t (Bad line) TooLarge ≡ Whole reply code → 0 < length reply) [
      | true ↦ λ e. (let clash : Bad line ≡ Whole reply code = e in cc)
      | false ↦ λ e. (let clash : TooLarge ≡ Whole reply code = e in cc)
    ] is
within_some count ended Unfinished reply code some is = absurd (unfinished count ended reply code is)

whole_some : (rule : ReplyRule) (form : ReplyForm) (bytes : List ℕ) (ended : Bool) (reply : List ℕ) (code : ℕ) → outcome rule form bytes ended ≡ Whole reply code → 0 < length reply
unfolding outcome
whole_some rule form bytes ended reply code is =
    within_some (length bytes) ended (reply_in rule form ended (lines bytes ended)) reply code (reply_found rule form ended (lines bytes ended)) is

some_bytes : (rule : ReplyRule) (form : ReplyForm) (bytes : List ℕ) (ended : Bool) (reply : List ℕ) (code : ℕ) → outcome rule form bytes ended ≡ Whole reply code → 0 < length bytes
unfolding outcome
some_bytes rule form [] ended reply code is = absurd (unfinished 0 ended reply code is)
some_bytes rule form (b ∷ bytes) ended reply code is = omega arith

-- What a dialogue plays takes bytes, and puts none back

abbrev bytes_in : Played → List ℕ
bytes_in (Done answer s) = s.bytes
bytes_in (Pending how s) = s.bytes

left_shrinks : (heard : Outcome) (bytes : List ℕ) → length (left_by heard bytes) ≤ length bytes
left_shrinks (Whole reply code) bytes = omega (arith, length-drop (length reply) bytes)
left_shrinks (Bad line) bytes = omega (arith, length-drop (length line) bytes)
left_shrinks TooLarge bytes = omega (arith, length-drop (reply_limit + 1) bytes)
left_shrinks Ended bytes = omega arith
left_shrinks Waits bytes = omega arith

play_shrinks : (room : Room) (tree : Tree) (s : PlayState) (how : Wait) (t : PlayState) → play room tree s ≡ Pending how t → length t.bytes ≤ length s.bytes
unfolding play
play_shrinks room (Say (Ok line) next) s how t is =
    let all : List ℕ = s.said ++ s.unsent ++ line in
    let here : PlayState = record s { said = all; unsent = [] } in
    elim (fits room all) as (λ f. cond f (play room next here) (Pending wait.Room here) ≡ Pending how t → length t.bytes ≤ length s.bytes) [
      | true ↦ λ e. play_shrinks room next here how t e
      | false ↦ λ e. omega (arith, ap length (ap bytes_in e))
    ] is
play_shrinks room (Say (Err cause) next) s how t is = let clash : Done (Fault (fault.ConnectionError cause)) s ≡ Pending how t = is in cc
play_shrinks room (Hear codes next) s how t is =
    let k : Result Response FtpError → PlayState → Played = λ heard u. play room (next heard) u in
    elim (outcome s.state.settings.reply_rule codes.form s.bytes s.ended) as (λ o. heard_then o codes s k ≡ Pending how t → length t.bytes ≤ length s.bytes) [
      | Whole reply code ↦ λ e. (let heard = expected_reply codes.statuses (record { status = status_of code; body = reply }) in omega (arith, play_shrinks room (next heard) (taken (left_by (Whole reply code) s.bytes) s) how t e, left_shrinks (Whole reply code) s.bytes))
      | Bad line ↦ λ e. omega (arith, play_shrinks room (next (Err fault.BadResponse)) (taken (left_by (Bad line) s.bytes) s) how t e, left_shrinks (Bad line) s.bytes)
      | TooLarge ↦ λ e. omega (arith, play_shrinks room (next (Err (fault.ConnectionError connection.ReplyTooLarge))) (record (taken (left_by TooLarge s.bytes) s) { failed = true }) how t e, left_shrinks TooLarge s.bytes)
      | Ended ↦ λ e. omega (arith, play_shrinks room (next (Err (fault.ConnectionError connection.UnexpectedEof))) (record (taken (left_by Ended s.bytes) s) { failed = true }) how t e, left_shrinks Ended s.bytes)
      | Waits ↦ λ e. omega (arith, ap length (ap bytes_in e))
    ] is
play_shrinks room (Look end next) s how t is = play_shrinks room (next (address_at end s)) s how t is
play_shrinks room (Ask request next) s how t is =
    let k : RequestOutcome → PlayState → Played = λ answer u. play room (next answer) u in
    elim s.outcomes as (λ o. asked_then o request s k ≡ Pending how t → length t.bytes ≤ length s.bytes) [
      | [] ↦ λ e. omega (arith, ap length (ap bytes_in e))
      | came.Answered outcome ∷ outcomes ↦ λ e. play_shrinks room (next outcome) (record s { net_record = after_request request outcome s.net_record; outcomes = outcomes }) how t e
      | came.Built fault ∷ outcomes ↦ λ e. omega (arith, ap length (ap bytes_in e))
      | came.Secured fault ∷ outcomes ↦ λ e. omega (arith, ap length (ap bytes_in e))
      | came.Read bytes ∷ outcomes ↦ λ e. omega (arith, ap length (ap bytes_in e))
      | came.Wrote count ∷ outcomes ↦ λ e. omega (arith, ap length (ap bytes_in e))
      | came.Closed ∷ outcomes ↦ λ e. omega (arith, ap length (ap bytes_in e))
      | came.Failed kind ∷ outcomes ↦ λ e. omega (arith, ap length (ap bytes_in e))
      | came.NoMemory ∷ outcomes ↦ λ e. omega (arith, ap length (ap bytes_in e))
    ] is
play_shrinks room (Build address next) s how t is =
    let k : Option FtpError → PlayState → Played = λ fault u. play room (next fault) u in
    elim s.outcomes as (λ o. built_then o address s k ≡ Pending how t → length t.bytes ≤ length s.bytes) [
      | [] ↦ λ e. omega (arith, ap length (ap bytes_in e))
      | came.Answered outcome ∷ outcomes ↦ λ e. omega (arith, ap length (ap bytes_in e))
      | came.Secured fault ∷ outcomes ↦ λ e. omega (arith, ap length (ap bytes_in e))
      | came.Built fault ∷ outcomes ↦ λ e. play_shrinks room (next fault) (record s { net_record = constructed address fault s.net_record; outcomes = outcomes }) how t e
      | came.Read bytes ∷ outcomes ↦ λ e. omega (arith, ap length (ap bytes_in e))
      | came.Wrote count ∷ outcomes ↦ λ e. omega (arith, ap length (ap bytes_in e))
      | came.Closed ∷ outcomes ↦ λ e. omega (arith, ap length (ap bytes_in e))
      | came.Failed kind ∷ outcomes ↦ λ e. omega (arith, ap length (ap bytes_in e))
      | came.NoMemory ∷ outcomes ↦ λ e. omega (arith, ap length (ap bytes_in e))
    ] is
play_shrinks room (Secure next) s how t is =
    let k : Option FtpError → PlayState → Played = λ fault u. play room (next fault) u in
    elim s.outcomes as (λ o. secured_then o s k ≡ Pending how t → length t.bytes ≤ length s.bytes) [
      | [] ↦ λ e. omega (arith, ap length (ap bytes_in e))
      | came.Answered outcome ∷ outcomes ↦ λ e. omega (arith, ap length (ap bytes_in e))
      | came.Built fault ∷ outcomes ↦ λ e. omega (arith, ap length (ap bytes_in e))
      | came.Secured fault ∷ outcomes ↦ λ e. play_shrinks room (next fault) (record s { net_record = secured fault s.net_record; outcomes = outcomes }) how t e
      | came.Read bytes ∷ outcomes ↦ λ e. omega (arith, ap length (ap bytes_in e))
      | came.Wrote count ∷ outcomes ↦ λ e. omega (arith, ap length (ap bytes_in e))
      | came.Closed ∷ outcomes ↦ λ e. omega (arith, ap length (ap bytes_in e))
      | came.Failed kind ∷ outcomes ↦ λ e. omega (arith, ap length (ap bytes_in e))
      | came.NoMemory ∷ outcomes ↦ λ e. omega (arith, ap length (ap bytes_in e))
    ] is
play_shrinks room (Move moves next) s how t is =
    let k : NetOutcome → PlayState → Played = λ outcome u. play room (next outcome) u in
    elim s.outcomes as (λ o. moved_then o moves s k ≡ Pending how t → length t.bytes ≤ length s.bytes) [
      | [] ↦ λ e. omega (arith, ap length (ap bytes_in e))
      | outcome ∷ outcomes ↦ λ e. (
          let after : PlayState = record s { net_record = moved moves outcome s.net_record; outcomes = outcomes } in
          elim (answers_to moves outcome) as (λ b. cond b (play room (next outcome) after) (Pending wait.Outcome s) ≡ Pending how t → length t.bytes ≤ length s.bytes) [
            | true ↦ λ f. play_shrinks room (next outcome) after how t f
            | false ↦ λ f. omega (arith, ap length (ap bytes_in f))
          ] e
          )
    ] is
play_shrinks room (Leaf answer state) s how t is = let clash : Done answer (record s { state = state }) ≡ Pending how t = is in cc

-- A call that waits without having heard

abbrev waits_in : Played → Wait
waits_in (Done answer s) = wait.Room
waits_in (Pending how s) = how

fewer_heard : (how : Wait) (script : Script) (left : List ℕ) → length left < length script.untaken → heard_at how script left ≡ true
fewer_heard how script left fewer = go how
  where
    some : heard_in script left ≡ true
    some =
        elim (eqb (length left) (length script.untaken)) as (λ t. eqb (length left) (length script.untaken) ≡ t → cond t script.heard true ≡ true) [
          | true ↦ λ t. (let clash : ⊥ = omega (arith, fewer, eqb-true (length left) (length script.untaken) t) in absurd clash)
          | false ↦ λ t. refl
        ] refl

    go : (w : Wait) → heard_at w script left ≡ true
    go wait.Room = some
    go (wait.Bytes form) = refl
    go wait.Outcome = some

-- a line that isn't within the room is said first
pub record LacksRoomFor (room : Room) (s : PlayState) (tree : Tree) : Type 0 where
  pub line : List ℕ
  pub next : Tree
  pub is : tree ≡ Say (Ok line) next
  pub full : fits room (s.said ++ s.unsent ++ line) ≡ false

module _ (coding : Coding) (room : Room) (script : Script) (s : PlayState) (untaken : s.bytes ≡ script.untaken) (how : Wait) (t : PlayState) (unheard : heard_at how script t.bytes ≡ false) where
  -- a reply that is awaited is heard, or waited for
  hears_none : (codes : Expected) (ending : Ending) (state : State) (after : State → Tree) (said unsent : List ℕ) → play room (awaiting coding codes ending state after) (record s { said = said; unsent = unsent }) ≡ Pending how t → ⊥
  hears_none codes ending state after said unsent is = go (outcome s.state.settings.reply_rule codes.form s.bytes s.ended) refl (sym (play-Hear room codes (concluded coding ending state after) here) ∙ is)
    where
      here : PlayState
      here = record s { said = said; unsent = unsent }

      k : Result Response FtpError → PlayState → Played
      k = λ heard u. play room (concluded coding ending state after heard) u

      fails : (cause : FtpError) (u : PlayState) → k (Err cause) u ≡ Pending how t → ⊥
      fails cause u e = let clash : Done (answer_to_fault ending cause) (record u { state = after_fault_of ending cause state }) ≡ Pending how t = sym (play-Leaf room (answer_to_fault ending cause) (after_fault_of ending cause state) u) ∙ e in cc

      go : (o : Outcome) → outcome s.state.settings.reply_rule codes.form s.bytes s.ended ≡ o → heard_then o codes here k ≡ Pending how t → ⊥
      go (Whole reply code) is e =
          let heard = expected_reply codes.statuses (record { status = status_of code; body = reply }) in
          let less = play_shrinks room (concluded coding ending state after heard) (taken (left_by (Whole reply code) s.bytes) here) how t e in
          let fewer : length t.bytes < length script.untaken = omega (arith, less, length-drop (length reply) s.bytes, whole_some s.state.settings.reply_rule codes.form s.bytes s.ended reply code is, some_bytes s.state.settings.reply_rule codes.form s.bytes s.ended reply code is, ap length untaken) in
          let clash : true ≡ false = sym (fewer_heard how script t.bytes fewer) ∙ unheard in
          cc
      go (Bad line) is e = fails fault.BadResponse _ e
      go TooLarge is e = fails (fault.ConnectionError connection.ReplyTooLarge) _ e
      go Ended is e = fails (fault.ConnectionError connection.UnexpectedEof) _ e
      go Waits is e =
          let waits : wait.Bytes codes.form ≡ how = ap waits_in e in
          let P : Wait → Type 0 = λ w. heard_at w script t.bytes ≡ false in
          let clash : true ≡ false = subst P (sym waits) unheard in
          cc

  says_more : (line : List ℕ) (codes : Expected) (ending : Ending) (state : State) (after : State → Tree) → play room (Say (Ok line) (awaiting coding codes ending state after)) s ≡ Pending how t → LacksRoomFor room s (Say (Ok line) (awaiting coding codes ending state after))
  says_more line codes ending state after is = go (fits room (s.said ++ s.unsent ++ line)) refl (sym (play-Say room line next s) ∙ is)
    where
      next : Tree
      next = awaiting coding codes ending state after

      here : PlayState
      here = record s { said = s.said ++ s.unsent ++ line; unsent = [] }

      go : (f : Bool) → fits room (s.said ++ s.unsent ++ line) ≡ f → cond f (play room next here) (Pending wait.Room here) ≡ Pending how t → LacksRoomFor room s (Say (Ok line) next)
      go true is e = absurd (hears_none codes ending state after (s.said ++ s.unsent ++ line) [] e)
      go false is e = record { line = line; next = next; is = refl; full = is }

  -- an answer doesn't wait
  never_ends : {A : Type 0} (answer : Answer) (state : State) (u : PlayState) → play room (Leaf answer state) u ≡ Pending how t → A
  never_ends answer state u is = let clash : Done answer (record u { state = state }) ≡ Pending how t = sym (play-Leaf room answer state u) ∙ is in cc

  -- the reply to NOOP is heard, or waited for
  seeking_none : (left : ℕ) (state : State) (said unsent : List ℕ) → play room (seeking left state) (record s { said = said; unsent = unsent }) ≡ Pending how t → ⊥
  seeking_none left state said unsent is = go (outcome s.state.settings.reply_rule (expecting (CommandOk ∷ [])).form s.bytes s.ended) refl (sym (play-Hear room (expecting (CommandOk ∷ [])) next here) ∙ ap (λ x. play room x here) (sym (seeking_is left state)) ∙ is)
    where
      here : PlayState
      here = record s { said = said; unsent = unsent }

      next : Result Response FtpError → Tree
      next = sought (others left state) state

      k : Result Response FtpError → PlayState → Played
      k = λ heard u. play room (next heard) u

      go : (o : Outcome) → outcome s.state.settings.reply_rule (expecting (CommandOk ∷ [])).form s.bytes s.ended ≡ o → heard_then o (expecting (CommandOk ∷ [])) here k ≡ Pending how t → ⊥
      go (Whole reply code) is e =
          let heard = expected_reply (CommandOk ∷ []) (record { status = status_of code; body = reply }) in
          let less = play_shrinks room (next heard) (taken (left_by (Whole reply code) s.bytes) here) how t e in
          let fewer : length t.bytes < length script.untaken = omega (arith, less, length-drop (length reply) s.bytes, whole_some s.state.settings.reply_rule (expecting (CommandOk ∷ [])).form s.bytes s.ended reply code is, some_bytes s.state.settings.reply_rule (expecting (CommandOk ∷ [])).form s.bytes s.ended reply code is, ap length untaken) in
          let clash : true ≡ false = sym (fewer_heard how script t.bytes fewer) ∙ unheard in
          cc
      go (Bad line) is e = never_ends (Fault fault.BadResponse) state _ e
      go TooLarge is e = never_ends (Fault (fault.ConnectionError connection.ReplyTooLarge)) state _ e
      go Ended is e = never_ends (Fault (fault.ConnectionError connection.UnexpectedEof)) state _ e
      go Waits is e =
          let waits : wait.Bytes (expecting (CommandOk ∷ [])).form ≡ how = ap waits_in e in
          let P : Wait → Type 0 = λ w. heard_at w script t.bytes ≡ false in
          let clash : true ≡ false = subst P (sym waits) unheard in
          cc

  says_seeking : (line : List ℕ) (state : State) → play room (Say (Ok line) (seeking most_passed_over state)) s ≡ Pending how t → LacksRoomFor room s (Say (Ok line) (seeking most_passed_over state))
  says_seeking line state is = go (fits room (s.said ++ s.unsent ++ line)) refl (sym (play-Say room line (seeking most_passed_over state) s) ∙ is)
    where
      here : PlayState
      here = record s { said = s.said ++ s.unsent ++ line; unsent = [] }

      go : (f : Bool) → fits room (s.said ++ s.unsent ++ line) ≡ f → cond f (play room (seeking most_passed_over state) here) (Pending wait.Room here) ≡ Pending how t → LacksRoomFor room s (Say (Ok line) (seeking most_passed_over state))
      go true is e = absurd (seeking_none most_passed_over state (s.said ++ s.unsent ++ line) [] e)
      go false is e = record { line = line; next = seeking most_passed_over state; is = refl; full = is }

  noop_lacks : (state : State) → play room (resyncing coding state) s ≡ Pending how t → LacksRoomFor room s (resyncing coding state)
  noop_lacks state is =
      let unsaid : Tree = Leaf (Fault fault.DataConnectionAlreadyOpen) state in
      let said : Tree = Say (wire coding.encode (text_of Noop)) (seeking most_passed_over state) in
      elim (some_live state.counts.owed) as (λ b. play room (cond b unsaid said) s ≡ Pending how t → LacksRoomFor room s (cond b unsaid said)) [
        | true ↦ λ e. never_ends (Fault fault.DataConnectionAlreadyOpen) state s e
        | false ↦ λ e. line (wire coding.encode (text_of Noop)) e
      ] is
    where
      line : (l : Result (List ℕ) Cause) → play room (Say l (seeking most_passed_over state)) s ≡ Pending how t → LacksRoomFor room s (Say l (seeking most_passed_over state))
      line (Ok bytes) is = says_seeking bytes state is
      line (Err cause) is = let clash : Done (Fault (fault.ConnectionError cause)) s ≡ Pending how t = sym (play-Refused room cause (seeking most_passed_over state) s) ∙ is in cc

  -- a change of settings never waits
  never_waits : {A : Type 0} (state : State) → play room (Leaf answers.Unit state) s ≡ Pending how t → A
  never_waits state is = let clash : Done answers.Unit (record s { state = state }) ≡ Pending how t = sym (play-Leaf room answers.Unit state s) ∙ is in cc

  -- a call that needs no data connection brings no transfer to its end
  unlike : {A : Type 0} (call : Call) → finishes call ≡ true → needs_data call ≡ false → A
  unlike call ends plain = let clash : true ≡ false = sym (finishing_moves call ends) ∙ (needs_none call plain).1 in cc

  -- at each stage of a call
  pub lacks_room : (call : Call) (state : State) (stage : Stage) → needs_data call ≡ false → StageOf call stage → play room (remaining coding call state stage) s ≡ Pending how t → LacksRoomFor room s (remaining coding call state stage)
  lacks_room call state (At turn) plain stage_of is = row (row_of call turn) refl is
    where
      line : (e : Exchange) (l : Result (List ℕ) Cause) → play room (Say l (awaiting coding (expected_of e.hears) e.ending state (later coding call turn))) s ≡ Pending how t → LacksRoomFor room s (Say l (awaiting coding (expected_of e.hears) e.ending state (later coding call turn)))
      line e (Ok bytes) is = says_more bytes (expected_of e.hears) e.ending state (later coding call turn) is
      line e (Err cause) is = let clash : Done (Fault (fault.ConnectionError cause)) s ≡ Pending how t = sym (play-Refused room cause (awaiting coding (expected_of e.hears) e.ending state (later coding call turn)) s) ∙ is in cc

      go : (e : Exchange) (says : Option Command) → play room (saying coding says (awaiting coding (expected_of e.hears) e.ending state (later coding call turn))) s ≡ Pending how t → LacksRoomFor room s (saying coding says (awaiting coding (expected_of e.hears) e.ending state (later coding call turn)))
      go e None is = absurd (hears_none (expected_of e.hears) e.ending state (later coding call turn) s.said s.unsent is)
      go e (Some command) is = line e (wire coding.encode (text_of command)) is

      row : (r : Row) → row_of call turn ≡ r → play room (doing coding r state (later coding call turn)) s ≡ Pending how t → LacksRoomFor room s (doing coding r state (later coding call turn))
      row (Exchanges e) at is = go e e.says is
      row (Arms offset) at is = never_waits (armed offset state) is
      row Resyncs at is = noop_lacks state is
      row (Sets setting) at is = never_waits (set_to setting state) is
      row (Moves moves) at is = absurd (turn_abroad call turn (Moves moves) at refl stage_of)
  lacks_room call state (Composing Abort) plain stage_of is = unlike call (aborts_finish call stage_of) plain
  lacks_room call state (Composing (Resync turn)) plain stage_of is = noop_lacks state is
  lacks_room call state (Saying line (Hears a)) plain stage_of is = says_more (due line) (expected_of a.hears) a.ending state (later coding call a.turn) is
  lacks_room call state (Saying line (Recovers Abort)) plain stage_of is = unlike call (aborts_finish call stage_of) plain
  lacks_room call state (Saying line (Recovers (Resync turn))) plain stage_of is = says_seeking (due line) state is
  lacks_room call state (Hearing a) plain stage_of is = absurd (hears_none (expected_of a.hears) a.ending state (later coding call a.turn) s.said s.unsent is)
  lacks_room call state (Seeking turn left) plain stage_of is = absurd (seeking_none left state s.said s.unsent is)
  lacks_room call state (SettingOffset turn offset) plain stage_of is = never_waits (armed offset state) is
  lacks_room call state (OpeningData way) plain stage_of is = let clash : true ≡ false = sym stage_of.0 ∙ (needs_none call plain).0 in cc
  lacks_room call state (Transferring fetching) plain stage_of is = let clash : true ≡ false = sym (fetch_opens call fetching stage_of) ∙ (needs_none call plain).0 in cc
  lacks_room call state (Closing Finishes) plain stage_of is = unlike call stage_of plain
  lacks_room call state (Closing Aborts) plain stage_of is = unlike call (aborts_finish call stage_of) plain
  lacks_room call state (Closing (FetchedAll form answer)) plain stage_of is = let clash : true ≡ false = sym stage_of.0.0 ∙ (needs_none call plain).0 in cc

-- a call that says a line first is no plain read
pub says_no_read : (coding : Coding) (call : Call) (state : State) (line : List ℕ) (next : Tree) → TurnOf call First → dialogue coding call state ≡ Say (Ok line) next → is_read call ≡ false
says_no_read coding call state line next plain is = row (row_of call First) refl (sym (plain_dialogue coding call state plain.0 plain.2) ∙ is)
  where
    go : (e : Exchange) → row_of call First ≡ Exchanges e → exchanging coding e state (later coding call First) ≡ Say (Ok line) next → (says : Option Command) → e.says ≡ says → is_read call ≡ false
    go e at is None none =
        let after = awaiting coding (expected_of e.hears) e.ending state (later coding call First) in
        let T : Option Command → Tree = λ o. saying coding o after in
        let clash : after ≡ Say (Ok line) next = sym (ap T none) ∙ is in
        cc
    go e at is (Some command) some = no_read call First e at plain (ap is_none some)

    row : (r : Row) → row_of call First ≡ r → doing coding r state (later coding call First) ≡ Say (Ok line) next → is_read call ≡ false
    row (Exchanges e) at is = go e at is e.says refl
    row other at is = ap reads at
