-- Lemmas on a call that closes the data connection and waits for the transfer's last reply: dropped, it has left the transfer.
use Rattle.std.proofs.Common.{◌≡◌, ℕ, Bool, true, false, cond, is_none, List, [], ◌∷◌, ◌++◌, length, Result, Ok, Err, refl, ap, sym, ◌∙◌, append_assoc}
use Rattle.std.proofs.lemmas.List.{append_cancel_right}
use Rattle.ftp_base.specs.declared.types.fault.FtpError.{FtpError}
use Rattle.ftp_base.specs.declared.types.fault.FtpError.TheVariants as faults
use Rattle.ftp_base.specs.declared.types.fault.ConnectionError.TheVariants as connection
use Rattle.ftp_base.specs.declared.types.reply.Response.{Response}
use Rattle.ftp_base.specs.Status.{status_of}
use Rattle.ftp_control.specs.declared.control.form.ReplyForm.{ReplyForm}
use Rattle.ftp_control.specs.declared.control.outcome.Outcome.{Outcome}
use Rattle.ftp_control.specs.declared.control.outcome.Outcome.TheVariants.{Whole, Bad, TooLarge, Ended, Waits}
use Rattle.ftp_transport.specs.declared.room.Room.{Room}
use Rattle.ftp_control.specs.Answer.{expected_reply}
use Rattle.ftp_control.specs.Channel.{untaken}
use Rattle.ftp_control.specs.Grammar.{outcome, left_by}
use Rattle.ftp_control.specs.Reading.{GoesOn}
use Rattle.ftp_transport.specs.Told.{HasRoomFor}
use Rattle.ftp_calls.specs.declared.call.Answer.{Answer}
use Rattle.ftp_calls.specs.declared.call.Answer.TheVariants.{Fault, NoTransfer, Unit as Nothing}
use Rattle.ftp_calls.specs.declared.call.Call.TheVariants.{Finish, Leave}
use Rattle.ftp_base.specs.declared.status.Status.TheVariants.{ClosingDataConnection, RequestedFileActionOk}
use Rattle.ftp_calls.specs.declared.exchange.Codes.TheVariants.{Either}
use Rattle.ftp_calls.specs.declared.exchange.Ending.TheVariants.{Finishes as Finishing}
use Rattle.ftp_calls.specs.declared.exchange.Movement.{Movement}
use Rattle.ftp_calls.specs.declared.exchange.Movement.TheVariants as movement
use Rattle.ftp_calls.specs.declared.exchange.Turn.TheVariants.{Closed}
use Rattle.ftp_dialogue.specs.Coding.{Coding}
use Rattle.ftp_dialogue.specs.NetEvents.{NetEvent, answers, outcomes_of, parted, settled}
use Rattle.ftp_dialogue.specs.Dialogue.{Tree, Move, Hear, Leaf, Expected, expected_of, answer_to_fault, after_fault_of, concluded, finish_answer, from_turn, later, told_of_close, with_finished, with_left}
use Rattle.ftp_dialogue.specs.Play.{Refusal, Taken, Lacking, Failing, ended, finally, heard_then, lacks, leaving, moved_then, play, play_call, play_unless, refusal, taken}
use Rattle.ftp_dialogue.specs.Promises.{play_state}
use Rattle.ftp_runs.specs.Runs.{before_all}
use Rattle.ftp_runs.specs.Run.{and_then, before, replay}
use Rattle.ftp_dialogue.specs.State.{SessionValue}
use Rattle.ftp_dialogue.specs.declared.model.NetOutcome.{NetOutcome}
use Rattle.ftp_dialogue.specs.declared.model.NetRecord.{NetRecord}
use Rattle.ftp_runs.specs.declared.model.Item.{Item}
use Rattle.ftp_runs.specs.declared.model.Item.TheVariants.{Shown, Hidden}
use Rattle.ftp_dialogue.specs.declared.model.Played.{Played}
use Rattle.ftp_dialogue.specs.declared.model.Played.TheVariants.{Done, Pending}
use Rattle.ftp_runs.specs.declared.model.Ran.{Ran}
use Rattle.ftp_runs.specs.declared.model.Ran.TheVariants.{Finished, Waiting}
use Rattle.ftp_dialogue.specs.declared.model.PlayState.{PlayState}
use Rattle.ftp_dialogue.specs.declared.model.Wait.{Wait}
use Rattle.ftp_dialogue.specs.declared.model.Wait.TheVariants as wait
use Rattle.ftp_dialogue.specs.declared.state.Owed.{Owed}
use Rattle.ftp_dialogue.specs.declared.state.Owed.TheVariants as owed
use Rattle.ftp_dialogue.specs.declared.state.State.{State}
use Rattle.ftp_dialogue.proofs.Hearing.{play-Hear}
use Rattle.ftp_dialogue.proofs.Moving.{fitted, play-Leaf}
use Rattle.ftp_runs.specs.Scripted.{Stands}
use Rattle.ftp_runs.specs.Following.{Since}
use Rattle.ftp_runs.proofs.Carried.{outcomes_on}
use Rattle.ftp_runs.proofs.Replay.{hidden_on, replay-nil, replay-shown}
use Rattle.ftp_runs.proofs.Running.{before_all-Finished, before_all-Waiting}

play-Move : (room : Room) (moves : Movement) (next : NetOutcome → Tree) (s : PlayState) → play room (Move moves next) s ≡ moved_then s.outcomes moves s (λ came t. play room (next came) t)
unfolding play
play-Move room moves next s = refl

-- what a call or a run waits for, and where
abbrev wait_in : Wait → Played → Wait
wait_in other (Done answer s) = other
wait_in other (Pending due s) = due

abbrev play_state_in : Played → PlayState
play_state_in (Done answer s) = s
play_state_in (Pending due s) = s

abbrev wait_of : Wait → Ran → Wait
wait_of other (Finished answers s) = other
wait_of other (Waiting answers due s) = due

abbrev play_state_of : Ran → PlayState
play_state_of (Finished answers s) = s
play_state_of (Waiting answers due s) = s

-- a transfer that is held may be brought to its end, and may be left
abbrev pub Takes : PlayState → Type 0
Takes u = refusal Finish u.failed (lacks Finish (is_none u.net_record.data_conn) u.state.counts.owed) ≡ Taken

-- where the transfer's data connection is closed, with this outcome, and the transfer is left
abbrev pub left_in : PlayState → List NetOutcome → PlayState
left_in u left = record u { state = with_left u.state; net_record = parted u.net_record; outcomes = left }

pub record HasParted (u : PlayState) (due : Wait) (t : PlayState) : Type 0 where
  pub takes : Takes u
  pub outcome : NetOutcome
  pub left : List NetOutcome
  pub split : u.outcomes ≡ outcome ∷ left
  pub closes : answers movement.Close outcome ≡ true
  pub form : ReplyForm
  pub waits : due ≡ wait.Bytes form
  pub is : t ≡ left_in u left

module _ (coding : Coding) (room : Room) (u t : PlayState) (due : Wait) (none_asked : due ≡ wait.Outcome → ⊥) where
  -- the state of a transfer that was left
  abbrev state : State
  state = with_left u.state

  abbrev awaited : Expected
  awaited = expected_of (Either ClosingDataConnection RequestedFileActionOk)

  abbrev close_of : NetOutcome → Tree
  close_of came = from_turn coding Finish (Closed (told_of_close state.uploads came)) state

  -- its last reply is heard: then it has its answer
  module _ (came : NetOutcome) (left : List NetOutcome) where
    abbrev at : PlayState
    at = left_in u left

    abbrev next : Result Response FtpError → Tree
    next = concluded coding (Finishing (told_of_close state.uploads came)) state (later coding Finish (Closed (told_of_close state.uploads came)))

    leaf : (s : PlayState) (answer : Answer) (then : State) → finally (play room (Leaf answer then) s) ≡ Pending due t → ⊥
    leaf s answer then is =
        let clash : Done answer (ended (record s { state = then })) ≡ Pending due t = sym (ap finally (play-Leaf room answer then s)) ∙ is in
        cc

    heard : (s : PlayState) (result : Result Response FtpError) → finally (play room (next result) s) ≡ Pending due t → ⊥
    heard s (Ok reply) is = leaf s (finish_answer (told_of_close state.uploads came)) (with_finished state) is
    heard s (Err fault) is = leaf s (answer_to_fault (Finishing (told_of_close state.uploads came)) fault) (after_fault_of (Finishing (told_of_close state.uploads came)) fault state) is

    hears : (expected : Expected) → finally (play room (Hear expected next) at) ≡ Pending due t → (due ≡ wait.Bytes expected.form) × (t ≡ at)
    hears expected is = go (outcome at.state.settings.reply_rule expected.form at.bytes at.ended) (sym (ap finally (play-Hear room expected next at)) ∙ is)
      where
        go : (o : Outcome) → finally (heard_then o expected at (λ heard s. play room (next heard) s)) ≡ Pending due t → (due ≡ wait.Bytes expected.form) × (t ≡ at)
        go (Whole reply code) is = absurd (heard (taken (left_by (Whole reply code) at.bytes) at) (expected_reply expected.statuses (record { status = status_of code; body = reply })) is)
        go (Bad line) is = absurd (heard (taken (left_by (Bad line) at.bytes) at) (Err faults.BadResponse) is)
        go TooLarge is = absurd (heard (record (taken (left_by TooLarge at.bytes) at) { failed = true }) (Err (faults.ConnectionError connection.ReplyTooLarge)) is)
        go Ended is = absurd (heard (record (taken (left_by Ended at.bytes) at) { failed = true }) (Err (faults.ConnectionError connection.UnexpectedEof)) is)
        go Waits is = (sym (ap (wait_in due) is), sym (ap play_state_in is))

  -- so it waits only behind the close
  pub finish_parts : play_call room coding Finish u ≡ Pending due t → HasParted u due t
  finish_parts is = by (refusal Finish u.failed (lacks Finish (is_none u.net_record.data_conn) u.state.counts.owed)) refl is
    where
      s : PlayState
      s = record u { state = state }

      closed : (came : NetOutcome) (left : List NetOutcome) → Takes u → u.outcomes ≡ came ∷ left → (b : Bool) → answers movement.Close came ≡ b → finally (cond b (play room (close_of came) (left_in u left)) (Pending wait.Outcome s)) ≡ Pending due t → HasParted u due t
      closed came left takes split true closes is =
          let found = hears came left awaited is in
          record { takes = takes; outcome = came; left = left; split = split; closes = closes; form = awaited.form; waits = found.0; is = found.1 }
      closed came left takes split false closes is = absurd (none_asked (sym (ap (wait_in due) is)))

      moves : (outcomes : List NetOutcome) → Takes u → u.outcomes ≡ outcomes → finally (moved_then outcomes movement.Close s (λ came x. play room (close_of came) x)) ≡ Pending due t → HasParted u due t
      moves [] takes split is = absurd (none_asked (sym (ap (wait_in due) is)))
      moves (came ∷ left) takes split is = closed came left takes split (answers movement.Close came) refl is

      by : (r : Refusal) → refusal Finish u.failed (lacks Finish (is_none u.net_record.data_conn) u.state.counts.owed) ≡ r → play_unless r room coding Finish u ≡ Pending due t → HasParted u due t
      by Taken takes is = moves u.outcomes takes refl (sym (ap finally (play-Move room movement.Close close_of s)) ∙ is)
      by Lacking none is = let clash : Done NoTransfer u ≡ Pending due t = is in cc
      by Failing none is = let clash : Done (Fault faults.SessionFailed) (leaving u) ≡ Pending due t = is in cc

-- A transfer that may be brought to its end is left

settled_parted : (o : Owed) (d : NetRecord) → settled o (parted d) ≡ parted d
settled_parted owed.Nothing d = refl
settled_parted other d = refl

leave_taken : (failed none : Bool) (o : Owed) → refusal Finish failed (lacks Finish none o) ≡ Taken → refusal Leave failed (lacks Leave none o) ≡ Taken
leave_taken failed true o taken = let clash : Lacking ≡ Taken = taken in cc
leave_taken failed false o taken = refl

pub leave_plays : (coding : Coding) (room : Room) (u : PlayState) (came : NetOutcome) (left : List NetOutcome) → Takes u → u.outcomes ≡ came ∷ left → answers movement.Close came ≡ true → play_call room coding Leave u ≡ Done Nothing (left_in u left)
leave_plays coding room u came left takes split closes =
    let none : Bool = is_none u.net_record.data_conn in
    let R : Refusal → Played = λ r. play_unless r room coding Leave u in
    let there : PlayState = record u { net_record = parted u.net_record; outcomes = left } in
    let then : NetOutcome → PlayState → Played = λ o x. play room (Leaf Nothing (with_left u.state)) x in
    ap R (leave_taken u.failed none u.state.counts.owed takes)
    ∙ ap finally (play-Move room movement.Close (λ o. Leaf Nothing (with_left u.state)) u
    ∙ ap (λ o. moved_then o movement.Close u then) split
    ∙ ap (λ b. cond b (then came there) (Pending wait.Outcome u)) closes
    ∙ play-Leaf room Nothing (with_left u.state) there)
    ∙ ap (λ d. Done Nothing (record (left_in u left) { net_record = d })) (settled_parted (with_left u.state).counts.owed u.net_record)

-- The call under way waits

module _ (coding : Coding) (old : SessionValue) (items : List Item) (answers' : List Answer) (came : List ℕ) (answered : List NetEvent) (w : SessionValue) (begun : Bool) (since : Since coding old items answers' came answered w begun) (room : Room) (more : List ℕ) (over : Bool) (left : List NetOutcome) (fits : HasRoomFor room (length w.channel.told.sent)) (on : GoesOn w.channel.ended more over) where
  -- from where it began, whatever comes
  pub later_on : (next : List Item) (room' : Room) (more' : List ℕ) (over' : Bool) (left' : List NetOutcome) → HasRoomFor room' (length w.channel.told.sent) → GoesOn w.channel.ended more' over' → replay room' coding (items ++ next) (play_state old (came ++ more') over' (outcomes_of answered ++ left')) ≡ before_all answers' (replay room' coding next (play_state since.start (since.later ++ more') over' (outcomes_of since.asked_later ++ left')))
  later_on next room' more' over' left' fits' on' =
      let S : List ℕ → List NetOutcome → Ran = λ c o. replay room' coding (items ++ next) (play_state old c over' o) in
      ap (λ c. S c (outcomes_of answered ++ left')) (ap (λ c. c ++ more') since.split ∙ append_assoc since.before since.later more')
      ∙ ap (λ o. S (since.before ++ (since.later ++ more')) o) (ap (λ a. outcomes_of a ++ left') since.asked_split ∙ outcomes_on since.asked_before since.asked_later left')
      ∙ since.stands next room' (since.later ++ more') over' (outcomes_of since.asked_later ++ left') (fitted room' _ _ since.sent fits') (since.over more' over' on')

  -- where the run stood as it began
  abbrev pub began : PlayState
  began = play_state since.start (since.later ++ more) over (outcomes_of since.asked_later ++ left)

  -- the run waits where the call does
  call_waits : (due : Wait) (t : PlayState) → replay room coding (items ++ Shown Finish ∷ []) (play_state old (came ++ more) over (outcomes_of answered ++ left)) ≡ Waiting answers' due t → play_call room coding Finish began ≡ Pending due t
  call_waits due t ran = go (play_call room coding Finish began) refl (sym (later_on (Shown Finish ∷ []) room more over left fits on ∙ ap (before_all answers') (replay-shown coding room Finish [] began)) ∙ ran)
    where
      next : PlayState → Ran
      next = λ x. replay room coding [] x

      go : (p : Played) → play_call room coding Finish began ≡ p → before_all answers' (and_then p next) ≡ Waiting answers' due t → play_call room coding Finish began ≡ Pending due t
      go (Done answer x) is ends =
          let done : before_all answers' (before answer (replay room coding [] x)) ≡ Finished (answers' ++ answer ∷ []) x =
          ap (λ r. before_all answers' (before answer r)) (replay-nil coding room x) ∙ before_all-Finished answers' (answer ∷ []) x in
          let clash : Finished (answers' ++ answer ∷ []) x ≡ Waiting answers' due t = sym done ∙ ends in
          cc
      go (Pending first x) is ends =
          let waits : Waiting (answers' ++ []) first x ≡ Waiting answers' due t = sym (before_all-Waiting answers' [] first x) ∙ ends in
          is ∙ ap (λ r. Pending first r) (ap play_state_of waits) ∙ ap (λ r. Pending r t) (ap (wait_of first) waits)

  pub end_waits : (due : Wait) (t : PlayState) → (due ≡ wait.Outcome → ⊥) → replay room coding (items ++ Shown Finish ∷ []) (play_state old (came ++ more) over (outcomes_of answered ++ left)) ≡ Waiting answers' due t → HasParted began due t
  end_waits due t none_asked ran = finish_parts coding room began t due none_asked (call_waits due t ran)

  -- where it waits for its reply, what it left is what a transfer is that was left
  module _ (due : Wait) (parted : HasParted began due (play_state w more over left)) where
    same_left : left ≡ parted.left
    same_left = ap (λ s. s.outcomes) parted.is

    one_asked : outcomes_of since.asked_later ≡ parted.outcome ∷ []
    one_asked = append_cancel_right (outcomes_of since.asked_later) (parted.outcome ∷ []) left (parted.split ∙ ap (λ o. parted.outcome ∷ o) (sym same_left))

    same_bytes : untaken w.channel ≡ untaken since.start.channel ++ since.later
    same_bytes = append_cancel_right (untaken w.channel) (untaken since.start.channel ++ since.later) more (ap (λ s. s.bytes) parted.is ∙ sym (append_assoc (untaken since.start.channel) since.later more))

    pub same_unsent : w.channel.unsent ≡ since.start.channel.unsent
    same_unsent = ap (λ s. s.unsent) parted.is

    pub leaves_on : Stands coding old (items ++ Hidden Leave ∷ []) came answered w answers'
    leaves_on items' room' more' over' left' fits' on' =
        let s : PlayState = play_state since.start (since.later ++ more') over' (outcomes_of since.asked_later ++ left') in
        let split : s.outcomes ≡ parted.outcome ∷ left' = ap (λ o. o ++ left') one_asked in
        let bytes : untaken since.start.channel ++ (since.later ++ more') ≡ untaken w.channel ++ more' = sym (append_assoc (untaken since.start.channel) since.later more') ∙ ap (λ b. b ++ more') (sym same_bytes) in
        let with_bytes : List ℕ → PlayState = λ b. record (left_in s left') { bytes = b } in
        let here : PlayState → PlayState = λ x. record x { bytes = untaken w.channel ++ more'; ended = over'; outcomes = left' } in
        let there : left_in s left' ≡ play_state w more' over' left' = ap with_bytes bytes ∙ ap here (sym parted.is) in
        ap (λ i. replay room' coding i (play_state old (came ++ more') over' (outcomes_of answered ++ left'))) (append_assoc items (Hidden Leave ∷ []) items')
        ∙ later_on (Hidden Leave ∷ items') room' more' over' left' fits' on'
        ∙ ap (before_all answers') (hidden_on coding room' Leave items' s (left_in s left') Nothing (leave_plays coding room' s parted.outcome left' parted.takes split parted.closes) ∙ ap (λ x. replay room' coding items' x) there)
