-- What is left of a call at each of its stages: each error of it has its reason, but for one that the stage keeps, and for
-- that of a whole file whose data connection takes no more bytes.
use Rattle.std.proofs.Common.{◌≡◌, ℕ, zero, suc, Bool, true, false, cond, eqb, [], Option, Some, None, Result, Ok, Err, inl, inr, ◌⊎◌, refl, ap, sym, ◌∙◌, subst}
use Rattle.std.specs.declared.io.ErrorKind.{ErrorKind}
use Rattle.ftp_base.specs.Status.{code_of}
use Rattle.ftp_base.specs.declared.command.Command.TheVariants as command
use Rattle.ftp_base.specs.declared.status.Status.TheVariants.{TransferAborted}
use Rattle.ftp_base.specs.declared.types.fault.FtpError.{FtpError}
use Rattle.ftp_base.specs.declared.types.fault.FtpError.TheVariants as faults
use Rattle.ftp_base.specs.declared.types.mode.Mode.TheVariants as mode
use Rattle.ftp_base.specs.declared.types.reply.Response.{Response}
use Rattle.ftp_calls.specs.Addresses.{passive_address_of}
use Rattle.ftp_calls.specs.Answers.{features_in, path_of, second_line_of, size_of}
use Rattle.ftp_calls.specs.Exchanges.{Movements, aborts, ending_of, finishes, is_local, negotiates, own_row, row_of}
use Rattle.ftp_calls.specs.Kinds.{IsPlain}
use Rattle.ftp_calls.specs.Times.{time_of}
use Rattle.ftp_calls.specs.declared.call.Answer.{Answer}
use Rattle.ftp_calls.specs.declared.call.Answer.TheVariants.{Fault}
use Rattle.ftp_calls.specs.declared.call.Answer.TheVariants as answer
use Rattle.ftp_calls.specs.declared.call.Call.{Call}
use Rattle.ftp_calls.specs.declared.call.Call.TheVariants as call
use Rattle.ftp_calls.specs.declared.exchange.Ending.{Ending}
use Rattle.ftp_calls.specs.declared.exchange.Ending.TheVariants as ending
use Rattle.ftp_calls.specs.declared.exchange.Row.{Row}
use Rattle.ftp_calls.specs.declared.exchange.Row.TheVariants.{Exchanges, Resyncs, Moves}
use Rattle.ftp_calls.specs.declared.exchange.Task.{Task}
use Rattle.ftp_calls.specs.declared.exchange.Task.TheVariants as task
use Rattle.ftp_calls.specs.declared.exchange.Turn.{Turn}
use Rattle.ftp_calls.specs.declared.exchange.Turn.TheVariants.{First, Second, Passive, ExtendedPassive, Active, Restart, Closed, Aborted}
use Rattle.ftp_dialogue.specs.Coding.{Coding}
use Rattle.ftp_dialogue.specs.Dialogue.{Tree, Leaf, aborting, accepted, after_fault_of, answer_to_fault, breaking_off, ends_search, closing, closing_data, concluded, dialogue, doing, features_answer, from_turn, last_turn, later, line_answer, most_passed_over, most_reads, negotiating, negotiating_unless, opened_answer, opened_from, passing_over, path_answer, performing, resyncing, saying, securing, seeking, size_answer, sought, strangers, time_answer, told_of_close, with_aborted, with_finished, with_left, with_transfer}
use Rattle.ftp_dialogue.specs.Promises.{IsFault, answer_of}
use Rattle.ftp_dialogue.specs.Sound.{cannot_open, some_live}
use Rattle.ftp_dialogue.specs.Steps.Polls.{StageIn, entered_tree, is_first}
use Rattle.ftp_dialogue.specs.Steps.Stages.{AskingOf, FetchOf, MayGive, MayPerform, OpeningOf, RecoveryOf, StageOf, TurnOf, WayOf, asking_of, awaited, fetch_left, opened_by, recovered, recovering, remaining, way_of}
use Rattle.ftp_dialogue.specs.Within.{IsOfBytes, MayHear}
use Rattle.ftp_dialogue.specs.declared.model.NetOutcome.{NetOutcome}
use Rattle.ftp_dialogue.specs.declared.model.NetOutcome.TheVariants as came
use Rattle.ftp_dialogue.specs.declared.stage.AfterClose.TheVariants.{Finishes, Aborts, Fetched as FetchedAll}
use Rattle.ftp_dialogue.specs.declared.stage.AfterLine.TheVariants.{Hears, Recovers}
use Rattle.ftp_dialogue.specs.declared.stage.Asking.{Asking as Asked}
use Rattle.ftp_dialogue.specs.declared.stage.Asking.TheVariants as asks
use Rattle.ftp_dialogue.specs.declared.stage.Awaits.{Awaits}
use Rattle.ftp_dialogue.specs.declared.stage.Opened.{Opened as Opening}
use Rattle.ftp_dialogue.specs.declared.stage.Opened.TheVariants as opened
use Rattle.ftp_dialogue.specs.declared.stage.OpeningData.{OpeningData as Way}
use Rattle.ftp_dialogue.specs.declared.stage.OpeningData.TheVariants as way
use Rattle.ftp_dialogue.specs.declared.stage.Recovery.{Recovery}
use Rattle.ftp_dialogue.specs.declared.stage.Recovery.TheVariants.{Abort, Resync}
use Rattle.ftp_dialogue.specs.declared.stage.Stage.{Stage}
use Rattle.ftp_dialogue.specs.declared.stage.Stage.TheVariants.{At, Composing, Saying, Hearing, Seeking, SettingOffset, OpeningData, Transferring, Closing}
use Rattle.ftp_dialogue.specs.declared.stage.Transferring.{Transferring as Fetched}
use Rattle.ftp_dialogue.specs.declared.stage.Transferring.TheVariants as fetch
use Rattle.ftp_dialogue.specs.declared.state.State.{State}
use Rattle.ftp_dialogue.specs.PollCauses.{sends}
use Rattle.ftp_dialogue.specs.PollCauses.{error_of, kept_by, kept_error}
use Rattle.ftp_dialogue.proofs.Backed.{Any, Backed, Fits, Or, Tells, accepting_backed, built_backed, carried_backed, clash, close_given, closing_fetch_backed, cond_backed, connecting_backed, ending_fetch_backed, gathering_backed, io, line_backed, negotiating_backed, of_bytes, opening_backed, opening_data_backed, peer_backed, port_or_passive, restart_backed, securing_backed, sending_backed, storing_backed, told_backed, took_no_more}

-- Endings

-- what an ending needs: leave to ask for a data connection, a reason for the error that it keeps, and one for that of a data
-- connection that takes no more bytes
abbrev Needs : Type 0 → (State → FtpError → Type 0) → Ending → Type 0
Needs Asks May ending.GivesAddress = Asks
Needs Asks May (ending.GivesPort tries) = Asks
Needs Asks May (ending.Opens replies) = Asks
Needs Asks May (ending.Performs (task.Fetch form)) = Asks
Needs Asks May (ending.Performs (task.Store bytes)) = Asks × ((state : State) → May state took_no_more)
Needs Asks May (ending.Finishes (Some kind)) = (state : State) → May state (io kind)
Needs Asks May other = Unit {0}

abbrev NeedsRow : Type 0 → (State → FtpError → Type 0) → Row → Type 0
NeedsRow Asks May (Exchanges exchange) = Needs Asks May exchange.ending
NeedsRow Asks May (Moves movement) = Asks
NeedsRow Asks May other = Unit {0}

abbrev stops : State → Tree
stops state = Leaf answer.Unit state

module _ (Asks : Type 0) (May : State → FtpError → Type 0) (coding : Coding) (state : State) where
  -- what a text holds, or an error that needs no reason
  found_backed : {A : Type 0} (told_for : Option A → Answer) → Fits Any (May state) (told_for None) → ((found : A) → Fits Any (May state) (told_for (Some found))) → (found : Option A) → Backed Asks May (Leaf (told_for found) state)
  found_backed told_for none some None = none
  found_backed told_for none some (Some found) = some found

  -- replies are read until that to NOOP
  sought_backed : (others : Response → Tree) → ((reply : Response) → Backed Asks May (others reply)) → (heard : Result Response FtpError) → MayHear heard → Backed Asks May (sought others state heard)
  sought_backed others backed (Ok reply) may = tt
  sought_backed others backed (Err (faults.UnexpectedResponse reply)) may = backed reply
  sought_backed others backed (Err other) may = of_bytes other may

  seeking_backed : (left : ℕ) → Backed Asks May (seeking left state)
  unfolding seeking
  seeking_backed zero = (sought_backed (λ reply. Leaf (Fault (faults.UnexpectedResponse reply)) state) (λ reply grave. absurd grave), λ kind same. cc same)
  seeking_backed (suc left) =
      let next = seeking_backed left in
      (sought_backed (passing_over (seeking left state) state) (λ reply. cond_backed Any Asks May (ends_search reply) (Leaf (Fault (faults.UnexpectedResponse reply)) state) (seeking left state) (λ grave. absurd grave) next), λ kind same. cc same)

  resyncing_backed : Backed Asks May (resyncing coding state)
  resyncing_backed =
      cond_backed Any Asks May (some_live state.counts.owed) (Leaf (Fault faults.DataConnectionAlreadyOpen) state) (saying coding (Some command.Noop) (seeking most_passed_over state))
      (λ grave. absurd grave) (line_backed Any Asks May coding (Some command.Noop) (seeking most_passed_over state) (seeking_backed most_passed_over))

  module _ (after : State → Tree) (backed : Backed Asks May (after state)) where
    accepted_backed : (how : Ending) → Needs Asks May how → (reply : Response) → Backed Asks May (accepted coding how state reply after)
    accepted_backed ending.GivesPath needs reply = found_backed (path_answer reply) (λ grave. absurd grave) (λ found. tt) (path_of coding.decode reply.body)
    accepted_backed ending.GivesSecondLine needs reply = found_backed line_answer (λ grave. absurd grave) (λ found. tt) (second_line_of coding.decode reply.body)
    accepted_backed ending.GivesTime needs reply = found_backed time_answer (λ grave. absurd grave) (λ found. tt) (time_of reply.body)
    accepted_backed ending.GivesSize needs reply = found_backed size_answer (λ grave. absurd grave) (λ found. tt) (size_of reply.body)
    accepted_backed ending.GivesFeatures needs reply = found_backed features_answer (λ grave. absurd grave) (λ found. tt) (features_in reply.body)
    accepted_backed (ending.GoesOn status) needs reply = cond_backed Any Asks May (eqb (code_of reply.status) (code_of status)) (after state) (stops state) backed tt
    accepted_backed ending.Continues needs reply = backed
    accepted_backed ending.GivesAddress may_ask reply = told_backed Any Asks may_ask state May reply (after state) backed (passive_address_of reply.body)
    accepted_backed (ending.GivesPort tries) may_ask reply = port_or_passive Any Asks may_ask state May coding reply after backed tries
    accepted_backed (ending.Opens true) may_ask reply = opening_backed Any Asks may_ask state May state.settings.mode (Leaf (opened_answer true reply) (with_transfer state)) tt
    accepted_backed (ending.Opens false) may_ask reply = opening_backed Any Asks may_ask state May state.settings.mode (Leaf (opened_answer false reply) (with_transfer state)) tt
    accepted_backed (ending.Performs (task.Fetch form)) may_ask reply = opening_backed Any Asks may_ask state May state.settings.mode (performing coding (task.Fetch form) state) (gathering_backed Any Asks may_ask coding form (λ all. tt) most_reads May [] state)
    accepted_backed (ending.Performs (task.Store bytes)) needs reply = opening_backed Any Asks needs.0 state May state.settings.mode (performing coding (task.Store bytes) state) (storing_backed Asks needs.0 May needs.1 bytes state)
    accepted_backed (ending.Finishes None) needs reply = tt
    accepted_backed (ending.Finishes (Some kind)) needs reply = λ grave. needs (with_finished state)
    accepted_backed ending.Stops needs reply = cond_backed Any Asks May (eqb (code_of reply.status) (code_of TransferAborted)) (after state) (Leaf answer.Unit (with_aborted state)) backed tt
    accepted_backed other needs reply = tt

    faulty_backed : (how : Ending) → Needs Asks May how → (fault : FtpError) → IsOfBytes fault → Backed Asks May (Leaf (answer_to_fault how fault) (after_fault_of how fault state))
    faulty_backed (ending.Finishes (Some kind)) needs fault bytes = λ grave. needs (after_fault_of (ending.Finishes (Some kind)) fault state)
    faulty_backed ending.Drains needs (faults.UnexpectedResponse reply) bytes = tt
    faulty_backed how needs fault bytes = of_bytes fault bytes

    heard_backed : (how : Ending) → Needs Asks May how → (heard : Result Response FtpError) → MayHear heard → Backed Asks May (concluded coding how state after heard)
    heard_backed how needs (Ok reply) may = accepted_backed how needs reply
    heard_backed how needs (Err fault) may = faulty_backed how needs fault may

    -- an error of the connection is no failure of before
    broken : {T : Type 0} (how : Ending) (kind : ErrorKind) → answer_of (concluded coding how state after (Err (io kind))) (Fault (io kind)) ≡ Fault faults.SessionFailed → T
    broken (ending.Finishes None) kind same = cc same
    broken (ending.Finishes (Some why)) kind same = cc same
    broken other kind same = cc same

    row_backed : (row : Row) → NeedsRow Asks May row → Backed Asks May (doing coding row state after)
    row_backed (Exchanges exchange) needs = line_backed Any Asks May coding exchange.says _ (heard_backed exchange.ending needs, λ kind same left. broken exchange.ending kind same)
    row_backed Resyncs needs = resyncing_backed
    row_backed (Moves movement) may_ask = carried_backed Asks may_ask state May movement
    row_backed other needs = tt

-- Calls

-- a call may_ask for a data connection, is made on one, or brings one to its end
abbrev pub Carries : Call → Type 0
Carries called = (negotiates called ≡ true) ⊎ (is_local called ≡ true) ⊎ (finishes called ≡ true)

no_finish : (called : Call) → IsPlain called → finishes called ≡ true → ⊥
no_finish call.Finish plain is = clash plain.2
no_finish call.Abort plain is = clash plain.2
no_finish other plain is = cc is

pub plain_carries : (called : Call) → IsPlain called → Carries called → ⊥
plain_carries called plain (inl is) = clash (sym is ∙ plain.0)
plain_carries called plain (inr (inl is)) = clash (sym is ∙ plain.1)
plain_carries called plain (inr (inr is)) = no_finish called plain is

sends_whole : (called : Call) → sends called ≡ true → MayGive called Movements
sends_whole (call.PutFile path bytes) is = (refl, (Second, (refl, refl), refl))
sends_whole (call.AppendFile path bytes) is = (refl, (Second, (refl, refl), refl))
sends_whole other is = cc is

module _ (Asks : Type 0) (called : Call) (may_ask : Carries called → Asks) where
  own_needs : (May : State → FtpError → Type 0) → (sends called ≡ true → (state : State) → May state took_no_more) → (first : Bool) → NeedsRow Asks May (own_row called first)
  own_needs May short first = go called first may_ask short
    where
      go : (c : Call) (b : Bool) → (Carries c → Asks) → (sends c ≡ true → (state : State) → May state took_no_more) → NeedsRow Asks May (own_row c b)
      go (call.Login user password) true leave takes = tt
      go (call.Login user password) false leave takes = tt
      go (call.Rename one other) true leave takes = tt
      go (call.Rename one other) false leave takes = tt
      go (call.RetrAsStream path) b leave takes = leave (inl refl)
      go (call.PutWithStream path) b leave takes = leave (inl refl)
      go (call.AppendWithStream path) b leave takes = leave (inl refl)
      go (call.CustomDataCommand line codes) b leave takes = leave (inl refl)
      go (call.Retr path) b leave takes = leave (inl refl)
      go (call.List path) b leave takes = leave (inl refl)
      go (call.Nlst path) b leave takes = leave (inl refl)
      go (call.Mlsd path) b leave takes = leave (inl refl)
      go (call.PutFile path bytes) b leave takes = (leave (inl refl), takes refl)
      go (call.AppendFile path bytes) b leave takes = (leave (inl refl), takes refl)
      go (call.Read most) b leave takes = leave (inr (inl refl))
      go (call.Write bytes) b leave takes = leave (inr (inl refl))
      go call.Leave b leave takes = leave (inr (inl refl))
      go other b leave takes = tt

  -- what is known of the states of a turn
  module _ (May : State → FtpError → Type 0) (short : sends called ≡ true → (state : State) → May state took_no_more) where
    turn_needs : (turn : Turn) → TurnOf called turn → ((kind : ErrorKind) → turn ≡ Closed (Some kind) → (state : State) → May state (io kind)) → NeedsRow Asks May (row_of called turn)
    turn_needs First of kept = own_needs May short true
    turn_needs Second of kept = own_needs May short false
    turn_needs (Passive offset after) of kept = may_ask (inl of)
    turn_needs (ExtendedPassive offset tries) of kept = may_ask (inl of)
    turn_needs (Active address offset) of kept = tt
    turn_needs (Restart offset) of kept = tt
    turn_needs (Closed None) of kept = tt
    turn_needs (Closed (Some kind)) of kept = kept kind refl
    turn_needs Aborted of kept = tt

    module _ (coding : Coding) (state : State) where
      last_backed : Backed Asks May (last_turn coding called state)
      last_backed = row_backed Asks May coding state stops tt (row_of called Second) (own_needs May short false)

      later_backed : (turn : Turn) → Backed Asks May (later coding called turn state)
      later_backed Second = tt
      later_backed (Passive offset after) = restart_backed Any Asks state May coding called last_backed offset
      later_backed (ExtendedPassive offset tries) = restart_backed Any Asks state May coding called last_backed offset
      later_backed (Active address offset) = restart_backed Any Asks state May coding called last_backed offset
      later_backed (Closed close) = tt
      later_backed other = last_backed

      turn_backed : (turn : Turn) → TurnOf called turn → ((kind : ErrorKind) → turn ≡ Closed (Some kind) → (left : State) → May left (io kind)) → Backed Asks May (from_turn coding called turn state)
      turn_backed turn of kept = row_backed Asks May coding state (later coding called turn) (later_backed turn) (row_of called turn) (turn_needs turn of kept)

      -- a reply is awaited
      awaits_needs : (turn : Turn) → TurnOf called turn → (how : Ending) → ending_of (row_of called turn) ≡ Some how → (Carries called → (fault : FtpError) → kept_by how ≡ Some fault → (left : State) → May left fault) → Needs Asks May how
      awaits_needs turn of how is kept = of_row (row_of called turn) (turn_needs turn of reason) is
        where
          reason : (kind : ErrorKind) → turn ≡ Closed (Some kind) → (left : State) → May left (io kind)
          reason kind at =
              let P : Turn → Type 0 = λ t. ending_of (row_of called t) ≡ Some how in
              let Q : Turn → Type 0 = λ t. TurnOf called t in
              let here : Some (ending.Finishes (Some kind)) ≡ Some how = subst P at is in
              let same : ending.Finishes (Some kind) ≡ how = cc in
              kept (inr (inr (subst Q at of))) (io kind) (sym (ap kept_by same))

          of_row : (row : Row) → NeedsRow Asks May row → ending_of row ≡ Some how → Needs Asks May how
          of_row (Exchanges exchange) needs same = subst (Needs Asks May) (let e : exchange.ending ≡ how = cc in e) needs
          of_row other needs same = cc same

      awaited_backed : (a : Awaits) → TurnOf called a.turn → ending_of (row_of called a.turn) ≡ Some a.ending → (Carries called → (fault : FtpError) → kept_by a.ending ≡ Some fault → (left : State) → May left fault) → Backed Asks May (awaited coding called state a)
      awaited_backed a of is kept =
          (heard_backed Asks May coding state (later coding called a.turn) (later_backed a.turn) a.ending (awaits_needs a.turn of a.ending is kept), λ kind same left. broken Asks May coding state (later coding called a.turn) (later_backed a.turn) a.ending kind same)

-- The end of a transfer, and where a call begins

module _ (Asks : Type 0) (called : Call) (may_ask : Carries called → Asks) (May : State → FtpError → Type 0) (short : sends called ≡ true → (state : State) → May state took_no_more) (coding : Coding) (state : State) where
  or_short : (outcome : NetOutcome) → sends called ≡ true → (left : State) → Or Asks May outcome left took_no_more
  or_short outcome gives left = inl (short gives left)

  closing_backed : finishes called ≡ true → Backed Asks May (closing coding called state)
  closing_backed ends = λ outcome.
      let told = told_of_close state.uploads outcome in
      let leave = may_ask (inr (inr ends)) in
      turn_backed Asks called may_ask (Or Asks May outcome) (or_short outcome) coding state (Closed told) ends (λ kind is left. inr (leave, close_given Any Asks state.uploads outcome kind (let same : told ≡ Some kind = cc in same)))

  breaking_backed : aborts called ≡ true → Backed Asks May (breaking_off coding called state)
  breaking_backed ends = λ outcome. turn_backed Asks called may_ask (Or Asks May outcome) (or_short outcome) coding state Aborted ends (λ kind is. cc is)

  aborting_backed : aborts called ≡ true → Backed Asks May (aborting coding called state)
  aborting_backed ends = line_backed Any Asks May coding (Some command.Abor) (breaking_off coding called state) (breaking_backed ends)

  recovering_backed : (recovery : Recovery) → RecoveryOf called recovery → Backed Asks May (recovering coding called state recovery)
  recovering_backed Abort of = aborting_backed of
  recovering_backed (Resync turn) of = resyncing_backed Asks May coding state

  recovered_backed : (recovery : Recovery) → RecoveryOf called recovery → Backed Asks May (recovered coding called state recovery)
  recovered_backed Abort of = breaking_backed of
  recovered_backed (Resync turn) of = seeking_backed Asks May coding state most_passed_over

module _ (Asks : Type 0) (called : Call) (may_ask : Carries called → Asks) (May : State → FtpError → Type 0) (short : sends called ≡ true → (state : State) → May state took_no_more) (coding : Coding) (state : State) where
  pub begun_backed : (negotiates called ≡ true → (fault : FtpError) (s : State) → cannot_open s.counts ≡ Some fault → dialogue coding called state ≡ Leaf (Fault fault) s → May s fault) → Backed Asks May (dialogue coding called state)
  begun_backed spent = go (negotiates called) refl
    where
      left : State
      left = with_left state

      ends : finishes called ≡ true → (b : Bool) → aborts called ≡ b → Backed Asks May (cond b (aborting coding called left) (closing coding called left))
      ends is true aborts = aborting_backed Asks called may_ask May short coding left aborts
      ends is false aborts = closing_backed Asks called may_ask May short coding left is

      -- it needs no turn of its own at the start, but its row
      rest : (b : Bool) → finishes called ≡ b → Backed Asks May (cond b (closing_data coding called left) (from_turn coding called First state))
      rest true is = ends is (aborts called) refl
      rest false is = row_backed Asks May coding state (later coding called First) (last_backed Asks called may_ask May short coding state) (row_of called First) (own_needs Asks called may_ask May short true)

      opens : Tree
      opens = negotiating coding called state.settings.restart_offset (opened_from called state)

      others : Tree
      others = cond (finishes called) (closing_data coding called left) (from_turn coding called First state)

      go : (b : Bool) → negotiates called ≡ b → Backed Asks May (cond b opens others)
      go false is = rest (finishes called) refl
      go true is = negotiating_backed Any Asks (may_ask (inl is)) (opened_from called state) May coding called (last_backed Asks called may_ask May short coding (opened_from called state)) state.settings.restart_offset
          (λ fault none. spent is fault (opened_from called state) none (ap (λ b. cond b opens others) is ∙ ap (λ o. negotiating_unless o coding called state.settings.restart_offset (opened_from called state)) none))

-- Each stage

-- an answer that is no error
plain_fits : (Has : FtpError → Type 0) (told : Answer) → (IsFault told → ⊥) → Fits Any Has told
plain_fits Has (Fault fault) none = absurd (none tt)
plain_fits Has other none = tt

module _ (Asks : Type 0) (called : Call) (may_ask : Carries called → Asks) (May : State → FtpError → Type 0) (gives : MayGive called Movements → (state : State) → May state took_no_more) (coding : Coding) (state : State) where
  short : sends called ≡ true → (left : State) → May left took_no_more
  short is = gives (sends_whole called is)

  -- a data connection stands
  performed_backed : Asks → (what : Task) → MayPerform called what → Backed Asks May (performing coding what state)
  performed_backed leave (task.Fetch form) may = gathering_backed Any Asks leave coding form (λ all. tt) most_reads May [] state
  performed_backed leave (task.Store bytes) may = storing_backed Asks leave May (gives may) bytes state

  opened_backed : Asks → (then : Opening) → OpeningOf called then → Backed Asks May (opened_by coding then state)
  opened_backed leave (opened.Gives told) is = plain_fits (May (with_transfer state)) told is.1
  opened_backed leave (opened.Performs what) is = performed_backed leave what is

  asking_backed : Asks → (turn : Turn) → Backed Asks May (later coding called turn state) → (asking : Asked) → AskingOf called asking → Backed Asks May (asking_of coding asking state (later coding called turn state))
  asking_backed leave turn backed (asks.PeerPort port) is = peer_backed Any Asks leave state May port (later coding called turn state) backed
  asking_backed leave turn backed (asks.Connection address) is = connecting_backed Any Asks leave state May address (later coding called turn state) backed
  asking_backed leave turn backed (asks.Peer then) is = λ peer. accepting_backed Any Asks leave state May (securing (opened_by coding then state) state) (securing_backed Any Asks leave state May (opened_by coding then state) (opened_backed leave then is)) peer strangers
  asking_backed leave turn backed (asks.Accepting peer left then) is = accepting_backed Any Asks leave state May (securing (opened_by coding then state) state) (securing_backed Any Asks leave state May (opened_by coding then state) (opened_backed leave then is)) peer left
  asking_backed leave turn backed (asks.Securing then) is = built_backed Any Asks leave state May came.Secured (λ fault. refl) (opened_by coding then state) (opened_backed leave then is)

  way_backed : negotiates called ≡ true → (on : Way) → WayOf called on → ((fault : FtpError) → cannot_open state.counts ≡ Some fault → way_of coding called state on ≡ Leaf (Fault fault) state → May state fault) → Backed Asks May (way_of coding called state on)
  way_backed is (way.Negotiating offset) of spent = negotiating_backed Any Asks (may_ask (inl is)) state May coding called (last_backed Asks called may_ask May short coding state) offset (λ fault none. spent fault none (ap (λ o. negotiating_unless o coding called offset state) none))
  way_backed is (way.Choosing offset) of spent = opening_data_backed Any Asks (may_ask (inl is)) state May coding called (last_backed Asks called may_ask May short coding state) offset mode.Automatic
  way_backed is (way.Locating offset) of spent = opening_data_backed Any Asks (may_ask (inl is)) state May coding called (last_backed Asks called may_ask May short coding state) offset mode.Active
  way_backed is (way.Binding local offset) of spent = opening_data_backed Any Asks (may_ask (inl is)) state May coding called (last_backed Asks called may_ask May short coding state) offset mode.Active local
  way_backed is (way.Asking turn asking) of spent = asking_backed (may_ask (inl is)) turn (later_backed Asks called may_ask May short coding state turn) asking of

  -- it carries a whole file or listing
  told_reasoned : (told : Answer) → ((fault : FtpError) → error_of told ≡ Some fault → (left : State) → May left fault) → (left : State) → Fits Any (May left) told
  told_reasoned (Fault fault) kept left = λ grave. kept fault refl left
  told_reasoned other kept left = tt

  carries_backed : (fetching : Fetched) → FetchOf called fetching → (Carries called → (fault : FtpError) → kept_error (Transferring fetching) ≡ Some fault → (left : State) → May left fault) → Backed Asks May (fetch_left coding state fetching)
  carries_backed (fetch.Starting what) is kept = performed_backed (may_ask (inl is.0)) what is
  carries_backed (fetch.Gathering form left all) is kept = gathering_backed Any Asks (may_ask (inl is.0)) coding form (λ all. tt) left May all state
  carries_backed (fetch.Sending left total rest) is kept = sending_backed Asks (may_ask (inl is.0)) left May (gives is) total rest state
  carries_backed (fetch.Ending form told) is kept = ending_fetch_backed Any Asks May form told state (told_reasoned told (kept (inl is.0.0)))

  stage_backed : (stage : Stage) → StageOf called stage → (Carries called → (fault : FtpError) → kept_error stage ≡ Some fault → (left : State) → May left fault) → (negotiates called ≡ true → (fault : FtpError) → cannot_open state.counts ≡ Some fault → remaining coding called state stage ≡ Leaf (Fault fault) state → May state fault) → Backed Asks May (remaining coding called state stage)
  stage_backed (At turn) is kept spent = turn_backed Asks called may_ask May short coding state turn is reason
    where
      reason : (kind : ErrorKind) → turn ≡ Closed (Some kind) → (left : State) → May left (io kind)
      reason kind at =
          let Q : Turn → Type 0 = λ t. TurnOf called t in
          kept (inr (inr (subst Q at is))) (io kind) (ap (λ t. kept_error (At t)) at)
  stage_backed (Composing recovery) is kept spent = recovering_backed Asks called may_ask May short coding state recovery is
  stage_backed (Saying line (Hears a)) is kept spent = awaited_backed Asks called may_ask May short coding state a is.2 is.0 kept
  stage_backed (Saying line (Recovers recovery)) is kept spent = recovered_backed Asks called may_ask May short coding state recovery is
  stage_backed (Hearing a) is kept spent = awaited_backed Asks called may_ask May short coding state a is.2 is.0 kept
  stage_backed (Seeking turn left) is kept spent = seeking_backed Asks May coding state left
  stage_backed (SettingOffset turn offset) is kept spent = tt
  stage_backed (OpeningData on) is kept spent = way_backed is.0 on is.1 (spent is.0)
  stage_backed (Transferring fetching) is kept spent = carries_backed fetching is kept
  stage_backed (Closing Finishes) is kept spent = closing_backed Asks called may_ask May short coding state is
  stage_backed (Closing Aborts) is kept spent = breaking_backed Asks called may_ask May short coding state is
  stage_backed (Closing (FetchedAll form told)) is kept spent = closing_fetch_backed Any Asks (may_ask (inl is.0.0)) May form told state (told_reasoned told (kept (inl is.0.0)))

  -- where a poll begins
  pub entered_backed : (stage : Stage) → StageIn (Some called) stage → (Carries called → (fault : FtpError) → kept_error stage ≡ Some fault → (left : State) → May left fault) → (negotiates called ≡ true → (fault : FtpError) (s : State) → cannot_open s.counts ≡ Some fault → entered_tree coding called stage state ≡ Leaf (Fault fault) s → May s fault) → Backed Asks May (entered_tree coding called stage state)
  entered_backed stage at kept spent = go (is_first stage) refl at
    where
      tree : Bool → Tree
      tree b = cond b (dialogue coding called state) (remaining coding called state stage)

      go : (b : Bool) → is_first stage ≡ b → StageOf called stage ⊎ (stage ≡ At First) → Backed Asks May (cond b (dialogue coding called state) (remaining coding called state stage))
      go true first is = begun_backed Asks called may_ask May short coding state (λ is fault s none leaf. spent is fault s none (ap tree first ∙ leaf))
      go false later (inl of) = stage_backed stage of kept (λ is fault none leaf. spent is fault state none (ap tree later ∙ leaf))
      go false later (inr is) = clash (sym (ap is_first is) ∙ later)

-- The sorts of calls

-- no error needs another reason
abbrev pub Never : State → FtpError → Type 0
Never state fault = ⊥

-- the transfers of these counts are spent, or one is live
abbrev pub Spent : State → FtpError → Type 0
Spent state fault = cannot_open state.counts ≡ Some fault

-- a command asks for nothing beside the control connection
pub plain_backed : (coding : Coding) (called : Call) → IsPlain called → (state : State) → Backed ⊥ Never (dialogue coding called state)
plain_backed coding called plain state =
    let none = plain_carries called plain in
    begun_backed ⊥ called none Never (λ is. absurd (none (inl (sends_whole called is).0))) coding state (λ is. absurd (none (inl is)))

-- the last reply of a transfer that was left gives nothing, or an error
abbrev pub IsNothing : Answer → Type 0
IsNothing answer.Unit = Unit {0}
IsNothing other = ⊥

pub drain_backed : (Good : Answer → Type 0) → Good answer.Unit → (coding : Coding) (state : State) → Tells Good ⊥ Never (dialogue coding call.Drain state)
drain_backed Good good coding state = (heard, λ kind same. cc same)
  where
    heard : (h : Result Response FtpError) → MayHear h → Tells Good ⊥ Never (concluded coding ending.Drains state (later coding call.Drain First) h)
    heard (Ok reply) may = good
    heard (Err (faults.UnexpectedResponse reply)) may = good
    heard (Err fault) may = of_bytes fault may

-- one that sends no bytes of its own
pub opens_backed : (coding : Coding) (called : Call) → sends called ≡ false → (state : State) → Backed (Unit {0}) Spent (dialogue coding called state)
opens_backed coding called none state = begun_backed (Unit {0}) called (λ carries. tt) Spent (λ is. clash (sym is ∙ none)) coding state (λ is fault s spent leaf. spent)
