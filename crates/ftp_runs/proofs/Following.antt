-- Lemmas on scripts: what a Poll makes of one.
use Rattle.std.proofs.Common.{◌≡◌, ℕ, ◌+◌, ◌<◌, ◌≤◌, Bool, true, false, cond, ◌||◌, Option, Some, None, List, [], ◌∷◌, ◌++◌, length, take, drop, Result, Ok, Err, inl, inr, ◌⊎◌, refl, ap, sym, ◌∙◌, subst, append_assoc, append-nil, length-append, arith}
use Rattle.std.proofs.lemmas.Bool.{le-leb}
use Rattle.std.proofs.lemmas.List.{append_cancel_left}
use Rattle.std.proofs.Math.Seq.{take-append_seam, drop-length}
use Rattle.futures.specs.declared.task.Poll.{Poll}
use Rattle.futures.specs.declared.task.Poll.TheVariants.{Ready, Pending}
use Rattle.ftp_base.specs.declared.types.fault.FtpError.{FtpError}
use Rattle.ftp_base.specs.declared.types.fault.ConnectionError.{ConnectionError as Cause}
use Rattle.ftp_base.specs.declared.types.reply.Response.{Response}
use Rattle.ftp_base.specs.declared.command.Command.{Command}
use Rattle.ftp_base.specs.Command.{text_of}
use Rattle.ftp_base.specs.Wire.{wire}
use Rattle.ftp_control.specs.declared.control.rule.ReplyRule.{ReplyRule}
use Rattle.ftp_control.specs.declared.control.rule.ReplyRule.TheVariants.{Strict, Lenient}
use Rattle.ftp_transport.specs.declared.room.Room.{Room}
use Rattle.ftp_transport.specs.declared.room.Room.TheVariants.{Any, UpTo}
use Rattle.ftp_transport.specs.declared.request.RequestOutcome.{RequestOutcome}
use Rattle.ftp_dialogue.specs.declared.model.NetOutcome.{NetOutcome}
use Rattle.ftp_transport.specs.declared.request.RequestOutcome.TheVariants as asked
use Rattle.ftp_control.specs.declared.control.form.ReplyForm.TheVariants.{Plain}
use Rattle.ftp_dialogue.specs.NetEvents.{NetEvent, NetEvents, Net, net_record_of, outcomes_of}
use Rattle.ftp_base.specs.declared.types.mode.Mode.{Mode}
use Rattle.ftp_base.specs.declared.types.mode.Mode.TheVariants as mode
use Rattle.std.specs.declared.net.socket_addr.SocketAddr.{SocketAddr}
use Rattle.ftp_transport.specs.Told.{HasRoomFor, HasNoRoom, IsDry, IsFull}
use Rattle.ftp_control.specs.Reading.{GoesOn}
use Rattle.ftp_control.specs.Channel.{IsSound, untaken}
use Rattle.ftp_control.specs.Saying.{said}
use Rattle.ftp_control.specs.declared.control.outcome.Outcome.TheVariants.{Waits}
use Rattle.ftp_control.specs.Grammar.{outcome}
use Rattle.ftp_dialogue.specs.declared.state.State.{State}
use Rattle.ftp_calls.specs.declared.call.Answer.{Answer}
use Rattle.ftp_calls.specs.declared.call.Call.{Call}
use Rattle.ftp_calls.specs.declared.call.Call.TheVariants.{Finish, Leave}
use Rattle.ftp_calls.specs.declared.exchange.Turn.{Turn}
use Rattle.ftp_calls.specs.declared.exchange.Turn.TheVariants.{First, Passive, ExtendedPassive, Active, Closed, Aborted}
use Rattle.ftp_dialogue.specs.declared.stage.Stage.{Stage}
use Rattle.ftp_dialogue.specs.declared.stage.Stage.TheVariants.{At}
use Rattle.ftp_dialogue.specs.declared.model.PlayState.{PlayState}
use Rattle.ftp_dialogue.specs.declared.model.Wait.{Wait}
use Rattle.ftp_dialogue.specs.declared.model.Wait.TheVariants as wait
use Rattle.ftp_dialogue.specs.declared.model.Played.TheVariants as played
use Rattle.ftp_runs.specs.declared.model.Ran.{Ran}
use Rattle.ftp_runs.specs.declared.model.Ran.TheVariants.{Finished, Waiting}
use Rattle.ftp_runs.specs.declared.model.Item.{Item}
use Rattle.ftp_runs.specs.declared.model.Item.TheVariants.{Shown, Hidden}
use Rattle.ftp_runs.specs.declared.model.Script.{Script}
use Rattle.ftp_dialogue.specs.State.{SessionValue}
use Rattle.ftp_dialogue.specs.Coding.{Coding}
use Rattle.ftp_calls.specs.declared.exchange.Exchange.{Exchange}
use Rattle.ftp_calls.specs.declared.exchange.Row.{Row}
use Rattle.ftp_calls.specs.declared.exchange.Row.TheVariants.{Exchanges, Arms, Resyncs, Sets, Moves}
use Rattle.ftp_calls.specs.Exchanges.{drains, finishes, is_local, negotiates, is_read, row_of, aborts}
use Rattle.std.specs.Net.Socket.{socket_port}
use Rattle.ftp_base.specs.declared.command.Command.TheVariants.{Noop}
use Rattle.ftp_dialogue.specs.Sound.{some_live}
use Rattle.ftp_dialogue.specs.Dialogue.{seeking}
use Rattle.ftp_dialogue.specs.Dialogue.{most_passed_over}
use Rattle.ftp_base.specs.declared.types.fault.FtpError.TheVariants.{DataConnectionAlreadyOpen}
use Rattle.ftp_dialogue.proofs.RecoveringLemmas.{seeking_is}
use Rattle.ftp_calls.specs.declared.call.Answer.TheVariants.{Fault}
use Rattle.ftp_dialogue.specs.Dialogue.{Leaf}
use Rattle.ftp_dialogue.specs.Sound.{cannot_open}
use Rattle.ftp_dialogue.specs.Dialogue.{opening_data, is_ipv4, at_port, closing, entered, opened_from, told_of_close, with_left, from_turn, negotiating, negotiating_unless, on_address, Expected, expected_of, Tree, Say, Hear, saying, awaiting, doing, later, dialogue, closing_data, aborting, breaking_off}
use Rattle.ftp_dialogue.specs.Play.{ended, finally, play, fits, heard_then, needs_data}
use Rattle.ftp_dialogue.specs.declared.model.Played.{Played}
use Rattle.ftp_dialogue.specs.Lenient.{SameForm, SaysNothingYet, first_form, heard_form}
use Rattle.ftp_dialogue.specs.Resuming.{Modes, Resumes, Silent, modes_in, modes_of}
use Rattle.ftp_runs.specs.Run.{replay, before, and_then}
use Rattle.ftp_dialogue.specs.Promises.{due_of, lacks_of, refusal_of, begun_by, failed_from, lacking_at, play_state, However, Fails, LacksMemory, Touched, Untouched, Goes, Leads, Rests, Aborts, Keeps, Calm}
use Rattle.ftp_runs.specs.Runs.{before_all}
use Rattle.ftp_runs.specs.Script.{unread, is_over, start_of, front, kept_in, modes_at, rule_at, seen_at, form_at, polled_as, run_with, poll_script, HearsNothing, MayCancel, MayPoll, SameMode}
use Rattle.ftp_runs.specs.Scripted.{MayGoOn, SaysFrontOf, SaysNothing, Stands, SaysOrTakes, CallHasBegun, Reaches, LeftOf, entering}
use Rattle.ftp_dialogue.specs.Steps.Stages.{StageOf, remaining, begun_at}
use Rattle.ftp_dialogue.specs.Steps.Moving.{Apart, BeginsHere, HasBegun, HasGoneOut, NothingTouched, Speaks, StillSays, Shrinks, Advances, PollsTo, WaitsFor, WaitsToSay}
use Rattle.ftp_runs.specs.Following.{Since, Started, UnderWay, Unheard, Place, Follows, PollsHere, AbortsCall}
use Rattle.ftp_dialogue.specs.Steps.Polls.{MayPollAt, MayPollFrom, is_first, entered_at, entered_state, entered_tree}
use Rattle.ftp_dialogue.proofs.NetEvents.{net_events-append, drops, outcomes-append, letting_net_events}
use Rattle.ftp_dialogue.proofs.Moving.{Finishes, finishes as finishes_by, goes_after, fitted, play-Say}
use Rattle.ftp_dialogue.proofs.Hearing.{begun_resumes, kept_waits, play-Hear, set_waits}
use Rattle.ftp_runs.proofs.Unheard.{LacksRoomFor, lacks_room, says_no_read}
use Rattle.ftp_dialogue.proofs.CarryingLemmas.{RefusedSo, beside_goes, carrying_resumes, local_resumes, may_go_on, needs_none, plain_dialogue, plain_entered, plain_finishes_none, read_apart, refused_so, taken_going, taken_plays}
use Rattle.ftp_dialogue.proofs.Sorts.{stage_no_local, unheld_drains_none}
use Rattle.ftp_calls.proofs.Openings.{draining_reads}
use Rattle.ftp_dialogue.specs.Play.{Refusal, Taken, Lacking, Failing}
use Rattle.ftp_dialogue.proofs.DrainingLemmas.{undue_on}
use Rattle.ftp_runs.proofs.ClosingData.{HasParted, began, end_waits, leaves_on, same_unsent}
use Rattle.ftp_runs.proofs.Replay.{replay-nil, replay-shown, shown_on}
use Rattle.ftp_runs.proofs.Running.{before_all-snoc, before_all-Finished, before_all-Waiting}
use Rattle.ftp_dialogue.specs.Link.{Builds, over_memory, plain}
use Rattle.ftp_runs.proofs.Carried.{front_fits, outcomes_on, over_at_end, seen_kept, waits_kept, rule_kept, full_room, Carried, carried, carried_none, line_front, all_said}
use Rattle.ftp_base.specs.declared.command.Command.TheVariants.{Abor}

-- what a poll results in
abbrev pub PollFollows : Builds → Coding → List NetOutcome → List NetOutcome → SessionValue → Script → SessionValue → SessionValue → Call → Stage → Stage → List Answer → Poll Answer → Type 0
PollFollows builds coding outcomes left old s v w call stage stage' answers (Ready answer) =
    Follows builds coding outcomes left old (poll_script coding (start_of old outcomes) (Some call) s) w None stage' (answers ++ answer ∷ []) ⊎ AbortsCall builds coding call stage v w (Some answer)
PollFollows builds coding outcomes left old s v w call stage stage' answers Pending = Follows builds coding outcomes left old (poll_script coding (start_of old outcomes) (Some call) s) w (Some call) stage' answers

module _ (builds : Builds) (coding : Coding) (outcomes : List NetOutcome) where
  -- Runs

  -- the next call under way
  pub stands_reaches : (old v : SessionValue) (items : List Item) (came : List ℕ) (answered : List NetEvent) (answers : List Answer) (call : Call) → refusal_of call v ≡ Taken → Stands coding old items came answered v answers → Reaches coding old items came answered (begun_by call v) answers call (dialogue coding call v.state)
  stands_reaches old v items came answered answers call going stands = λ later room more ended outcomes' fit on.
      let s : PlayState = play_state v more ended outcomes' in
      let next : PlayState → Ran = λ t. replay room coding later t in
      stands (Shown call ∷ later) room more ended outcomes' fit on
      ∙ ap (before_all answers) (replay-shown coding room call later s ∙ ap (λ p. and_then p next) (taken_plays coding room call v more ended outcomes' going))

  module _ (old v w : SessionValue) (items : List Item) (came : List ℕ) (answered : List NetEvent) (answers : List Answer) (call : Call) where
    -- the call has its answer
    pub reaches_stands : (tree : Tree) (answer : Answer) → Reaches coding old items came answered v answers call tree → (ends : Finishes (over_memory builds) tree answer v w) → Resumes (modes_of v) v.channel.kept tree → Stands coding old (items ++ Shown call ∷ []) (came ++ ends.came) (answered ++ ends.answered) w (answers ++ answer ∷ [])
    reaches_stands tree answer reaches ends resumes = λ later room more ended outcomes' fit on.
        let done = ends in
        let next : PlayState → Ran = λ t. replay room coding later t in
        let first = reaches later room (done.came ++ more) ended (outcomes_of done.answered ++ outcomes') (fitted room _ _ (done.goes.sent tt) fit) (goes_after v.channel.ended done.came more w.channel.ended ended done.goes.over on) in
        rw (append_assoc items (Shown call ∷ []) later, append_assoc came done.came more, outcomes_on answered done.answered outcomes')
        (first
        ∙ ap (λ p. before_all answers (and_then p next)) (done.plays tt resumes room more ended outcomes' fit on)
        ∙ sym (before_all-snoc answers answer (replay room coding later (play_state w more ended outcomes'))))

    -- more of it is left
    reaches_on : (tree tree' : Tree) → Reaches coding old items came answered v answers call tree → (leads : Leads (over_memory builds) tree tree' v w) → However v leads.came leads.answered w (λ room s t. play room tree s ≡ play room tree' t) → Reaches coding old items (came ++ leads.came) (answered ++ leads.answered) w answers call tree'
    reaches_on tree tree' reaches leads plays = λ later room more ended outcomes' fit on.
        let next : PlayState → Ran = λ t. replay room coding later t in
        let first = reaches later room (leads.came ++ more) ended (outcomes_of leads.answered ++ outcomes') (fitted room _ _ (leads.goes.sent tt) fit) (goes_after v.channel.ended leads.came more w.channel.ended ended leads.goes.over on) in
        rw (append_assoc came leads.came more, outcomes_on answered leads.answered outcomes')
        (first ∙ ap (λ p. before_all answers (and_then (finally p) next)) (plays room more ended outcomes' fit on))

  -- the call is refused
  stands_refused : (old v w : SessionValue) (items : List Item) (came : List ℕ) (answered : List NetEvent) (answers : List Answer) (call : Call) (answer : Answer) → (so : RefusedSo (plain builds) (Unit {0}) coding call v w answer) → Stands coding old items came answered v answers → Stands coding old (items ++ Shown call ∷ []) (came ++ []) (answered ++ so.answered) w (answers ++ answer ∷ [])
  stands_refused old v w items came answered answers call answer so stands = λ later room more ended outcomes' fit on.
      let goes = beside_goes (over_memory builds) so.answered v w so.channel so.net_events in
      let R : List NetOutcome → Ran = λ o. replay room coding (items ++ Shown call ∷ later) (play_state old (came ++ more) ended o) in
      let same : outcomes_of (answered ++ so.answered) ++ outcomes' ≡ outcomes_of answered ++ outcomes' = ap (λ o. o ++ outcomes') (outcomes-append answered so.answered ∙ ap (λ o. outcomes_of answered ++ o) so.none ∙ append-nil (outcomes_of answered)) in
      rw (append_assoc items (Shown call ∷ []) later, append-nil came)
      (ap R same
      ∙ stands (Shown call ∷ later) room more ended outcomes' (fitted room _ _ (goes.sent tt) fit) (goes_after v.channel.ended [] more w.channel.ended ended goes.over on)
      ∙ ap (before_all answers) (shown_on coding room call later (play_state v more ended outcomes') (play_state w more ended outcomes') answer (so.plays tt room more ended outcomes'))
      ∙ sym (before_all-snoc answers answer (replay room coding later (play_state w more ended outcomes'))))

  -- a plain read that waits leaves no trace
  stands_rests : (old v w : SessionValue) (items : List Item) (came : List ℕ) (answered : List NetEvent) (answers : List Answer) → Stands coding old items came answered v answers → (rests : Rests (over_memory builds) v w) → Stands coding old items (came ++ rests.came) (answered ++ []) w answers
  stands_rests old v w items came answered answers stands rests = λ later room more ended outcomes' fit on.
      let first = stands later room (rests.came ++ more) ended outcomes' (fitted room _ _ (rests.goes.sent tt) fit) (goes_after v.channel.ended rests.came more w.channel.ended ended rests.goes.over on) in
      rw (append_assoc came rests.came more, append-nil answered)
      (first ∙ ap (λ s. before_all answers (replay room coding later s)) (rests.stays tt more ended outcomes'))

  -- a run depends on the outcomes alone
  stands_same : (old v : SessionValue) (items : List Item) (came : List ℕ) (one two : List NetEvent) (answers : List Answer) → outcomes_of one ≡ outcomes_of two → Stands coding old items came one v answers → Stands coding old items came two v answers
  stands_same old v items came one two answers same stands = λ later room more ended outcomes' fit on.
      let R : List NetOutcome → Ran = λ o. replay room coding (items ++ later) (play_state old (came ++ more) ended (o ++ outcomes')) in
      ap R (sym same) ∙ stands later room more ended outcomes' fit on

  -- a reply that says nothing yet as one of a call's form is resumed by the call, in one mode
  module _ (modes : Modes) (kept : List ℕ) (one_mode : modes.under ≡ modes.setting) (call : Call) where
    resumes_row : (turn : Turn) (state : State) → SaysNothingYet modes.setting (heard_form (row_of call turn)) kept → Resumes modes kept (from_turn coding call turn state)
    resumes_row turn state waits = row (row_of call turn) waits
      where
        line : (e : Exchange) → SaysNothingYet modes.setting (expected_of e.hears).form kept → (l : Result (List ℕ) Cause) → Resumes modes kept (Say l (awaiting coding (expected_of e.hears) e.ending state (later coding call turn)))
        line e waits (Ok bytes) = (one_mode, waits)
        line e waits (Err cause) = tt

        go : (e : Exchange) → SaysNothingYet modes.setting (expected_of e.hears).form kept → (command : Option Command) → Resumes modes kept (saying coding command (awaiting coding (expected_of e.hears) e.ending state (later coding call turn)))
        go e waits None = (one_mode, waits)
        go e waits (Some command) = line e waits (wire coding.encode (text_of command))

        sought : SaysNothingYet modes.setting Plain kept → (l : Result (List ℕ) Cause) → Resumes modes kept (Say l (seeking most_passed_over state))
        sought waits (Ok bytes) =
            let P : Tree → Type 0 = λ t. Resumes modes kept (Say (Ok bytes) t) in
            subst P (sym (seeking_is most_passed_over state)) (one_mode, waits)
        sought waits (Err cause) = tt

        row : (r : Row) → SaysNothingYet modes.setting (heard_form r) kept → Resumes modes kept (doing coding r state (later coding call turn))
        row (Exchanges e) waits = go e waits e.says
        row (Arms offset) waits = tt
        row Resyncs waits = elim (some_live state.counts.owed) as (λ b. Resumes modes kept (cond b (Leaf (Fault DataConnectionAlreadyOpen) state) (Say (wire coding.encode (text_of Noop)) (seeking most_passed_over state)))) [
          | true ↦ tt
          | false ↦ sought waits (wire coding.encode (text_of Noop))
        ]
        row (Sets setting) waits = tt
        row (Moves moves) waits = carrying_resumes modes kept moves state

    -- no way to a data connection hears a list
    resumes_bound : (offset : ℕ) (state : State) (local : SocketAddr) → SaysNothingYet modes.setting Plain kept → (answer : RequestOutcome) → Resumes modes kept (on_address state (λ bound. from_turn coding call (Active (at_port (socket_port bound) local) offset) state) answer)
    resumes_bound offset state local waits asked.Done = tt
    resumes_bound offset state local waits (asked.Address bound) = resumes_row (Active (at_port (socket_port bound) local) offset) state waits
    resumes_bound offset state local waits (asked.Refused fault) = tt

    resumes_mode : (m : Mode) (offset : ℕ) (state : State) → SaysNothingYet modes.setting Plain kept → Resumes modes kept (opening_data m coding call offset state)
    resumes_mode mode.Active offset state waits = λ local answer. resumes_bound offset state local waits answer
    resumes_mode mode.Passive offset state waits = resumes_row (Passive offset false) state waits
    resumes_mode mode.ExtendedPassive offset state waits = resumes_row (ExtendedPassive offset false) state waits
    resumes_mode mode.Automatic offset state waits = λ peer. elim (is_ipv4 peer) as (λ tries. Resumes modes kept (from_turn coding call (ExtendedPassive offset tries) state)) [
      | true ↦ resumes_row (ExtendedPassive offset true) state waits
      | false ↦ resumes_row (ExtendedPassive offset false) state waits
    ]

    resumes_unless : (cannot : Option FtpError) (offset : ℕ) (state : State) → SaysNothingYet modes.setting Plain kept → Resumes modes kept (negotiating_unless cannot coding call offset state)
    resumes_unless (Some fault) offset state waits = tt
    resumes_unless None offset state waits = resumes_mode state.settings.mode offset state waits

    resumes_dialogue : (state : State) → SaysNothingYet modes.setting (first_form call) kept → Resumes modes kept (dialogue coding call state)
    resumes_dialogue state waits = go (negotiates call) (finishes call) waits
      where
        go : (b f : Bool) → SaysNothingYet modes.setting (cond (b || f) Plain (heard_form (row_of call First))) kept → Resumes modes kept (cond b (negotiating coding call state.settings.restart_offset (opened_from call state)) (cond f (closing_data coding call (with_left state)) (from_turn coding call First state)))
        go true f waits = resumes_unless (cannot_open state.counts) state.settings.restart_offset (opened_from call state) waits
        go false true waits = (elim (aborts call) as (λ a. Resumes modes kept (cond a (aborting coding call (with_left state)) (closing coding call (with_left state)))) [
          | true ↦ said (wire coding.encode (text_of Abor))
          | false ↦ λ came. resumes_row (Closed (told_of_close state.uploads came)) (with_left state) waits
        ])
          where
            said : (line : Result (List ℕ) Cause) → Resumes modes kept (Say line (breaking_off coding call (with_left state)))
            said (Ok line) = λ came. resumes_row Aborted (with_left state) waits
            said (Err cause) = tt
        go false false waits = resumes_row First state waits

  -- where a poll begins of a call that was polled before
  settled_state : (call : Call) (stage : Stage) (state : State) → StageOf call stage → entered_state call stage state ≡ state
  settled_state call (At First) state plain = plain_entered call state plain.0 plain.2
  settled_state call other state stage_of = refl

  settled_tree : (call : Call) (stage : Stage) (state : State) → StageOf call stage → entered_tree coding call stage state ≡ remaining coding call state stage
  settled_tree call (At First) state plain = plain_dialogue coding call state plain.0 plain.2
  settled_tree call other state stage_of = refl

  -- what was fed, seen from after a poll
  module _ (left : List NetOutcome) (asked : List NetEvent) (old : SessionValue) (s : Script) (v w : SessionValue) (call : Call) (stage : Stage) (answers : List Answer) (f : Follows builds coding outcomes (outcomes_of asked ++ left) old s v (Some call) stage answers) (came : List ℕ) (c : Carried builds v w came asked) where
    fed_bytes : s.bytes ≡ untaken old.channel ++ (f.came ++ came) ++ unread w.channel.told
    fed_bytes =
        f.bytes
        ∙ ap (λ u. untaken old.channel ++ f.came ++ u) c.split
        ∙ sym (append_assoc (untaken old.channel ++ f.came) came (unread w.channel.told))
        ∙ ap (λ k. k ++ unread w.channel.told) (append_assoc (untaken old.channel) f.came came)

    abbrev pub here : PlayState
    here = play_state w (unread w.channel.told) (is_over w.channel.told) left

    fits_here : HasRoomFor s.room (length w.channel.told.sent)
    fits_here = let P : Room → Type 0 = λ room. HasRoomFor room (length w.channel.told.sent) in subst P (sym (f.room ∙ ap (λ g. g.room) (sym c.given))) (c.sound.fits tt)

    all_received : w.channel.told.received ≡ old.channel.told.received ++ (f.came ++ came)
    all_received = c.received ∙ ap (λ x. x ++ came) f.received ∙ append_assoc old.channel.told.received f.came came

    all_net_events : NetEvents (plain builds) (f.answered ++ asked) old.net w.net
    all_net_events = net_events-append (plain builds) f.answered asked old.net v.net w.net f.net_events c.net_events

    all_outcomes : outcomes ≡ outcomes_of (f.answered ++ asked) ++ left
    all_outcomes = f.outcomes_are ∙ sym (outcomes_on f.answered asked left)

    over_is : s.ended ≡ is_over w.channel.told
    over_is = f.ended ∙ sym c.over

    -- the run from the script's beginning is the one that the session has made
    from_start : (calls : List Item) → replay s.room coding calls (record (start_of old outcomes) { bytes = s.bytes; ended = s.ended }) ≡ replay s.room coding calls (play_state old ((f.came ++ came) ++ unread w.channel.told) (is_over w.channel.told) (outcomes_of (f.answered ++ asked) ++ left))
    from_start calls =
        let bytes : s.bytes ≡ untaken old.channel ++ ((f.came ++ came) ++ unread w.channel.told) = fed_bytes ∙ append_assoc (untaken old.channel) (f.came ++ came) (unread w.channel.told) in
        let S : List NetOutcome → PlayState = λ o. record (start_of old o) { bytes = s.bytes; ended = s.ended } in
        ap (λ o. replay s.room coding calls (S o)) all_outcomes ∙ rw (bytes, over_is)

    going_on : GoesOn w.channel.ended (unread w.channel.told) (is_over w.channel.told)
    going_on = over_at_end w c.has c.sound

    -- a call is done, whatever the items, the answers and the call under way are then
    pub done_with : (P : Type 0) (stage' : Stage) (after : List Answer) (items : List Item) (all told : List Answer) (call' : Option Call) → Place coding old (record (polled_as (Finished after here) call s) { items = items; answers = all; call = call' }) (f.came ++ came) (f.answered ++ asked) w call' stage' → all ≡ told → Shrinks came v w → Keeps P came v w → Follows builds coding outcomes left old (record (polled_as (Finished after here) call s) { items = items; answers = all; call = call' }) w call' stage' told
    done_with P stage' after items all told call' place are shrinks keeps = record {
      came = f.came ++ came;
      answered = f.answered ++ asked;
      net_events = all_net_events;
      outcomes_are = all_outcomes;
      net_record = refl;
      place = place;
      rule = rule_kept P s.rule v w came f.rule keeps;
      failures = c.failures ∙ f.failures;
      given = c.has;
      sound = c.sound;
      bytes = fed_bytes;
      ended = over_is;
      room = f.room ∙ ap (λ g. g.room) (sym c.given);
      sent = front_fits s.room w.channel.told.sent fits_here;
      said = all_said w.channel;
      received = all_received;
      unsent = λ may. refl;
      untaken = refl;
      seen = seen_kept P s v w came f.seen f.untaken c.split shrinks keeps;
      waits = waits_kept P s v w came f.waits keeps;
      state = refl;
      failed = refl;
      call_is = refl;
      answers_are = are;
    }

    -- the run of all calls, with this one, is done
    pub ran_done : (answer : Answer) → Stands coding old (s.items ++ Shown call ∷ []) (f.came ++ came) (f.answered ++ asked) w (s.answers ++ answer ∷ []) → run_with coding (start_of old outcomes) call s ≡ Finished (s.answers ++ answer ∷ []) here
    ran_done answer stands =
        from_start (s.items ++ Shown call ∷ [])
        ∙ ap (λ items. replay s.room coding items (play_state old ((f.came ++ came) ++ unread w.channel.told) (is_over w.channel.told) (outcomes_of (f.answered ++ asked) ++ left))) (sym (append-nil (s.items ++ Shown call ∷ [])))
        ∙ stands [] s.room (unread w.channel.told) (is_over w.channel.told) left fits_here going_on
        ∙ ap (before_all (s.answers ++ answer ∷ [])) (replay-nil coding s.room here)
        ∙ before_all-Finished (s.answers ++ answer ∷ []) [] here
        ∙ ap (λ a. Finished a here) (append-nil (s.answers ++ answer ∷ []))

    -- the call is done
    finish : (P : Type 0) (stage' : Stage) (answer : Answer) → Stands coding old (s.items ++ Shown call ∷ []) (f.came ++ came) (f.answered ++ asked) w (s.answers ++ answer ∷ []) → Shrinks came v w → Keeps P came v w → Follows builds coding outcomes left old (poll_script coding (start_of old outcomes) (Some call) s) w None stage' (answers ++ answer ∷ [])
    finish P stage' answer stands shrinks keeps =
        let Q : Ran → Type 0 = λ r. Follows builds coding outcomes left old (polled_as r call s) w None stage' (answers ++ answer ∷ []) in
        subst Q (sym (ran_done answer stands)) (done_with P stage' (s.answers ++ answer ∷ []) (s.items ++ Shown call ∷ []) (s.answers ++ answer ∷ []) (answers ++ answer ∷ []) None stands (ap (λ a. a ++ answer ∷ []) f.answers_are) shrinks keeps)

    -- the run of all calls waits where the call does
    waits_ran : (tree : Tree) (wait : Wait) (t : PlayState) → Reaches coding old s.items (f.came ++ came) (f.answered ++ asked) w s.answers call tree → play s.room tree here ≡ played.Pending wait t → run_with coding (start_of old outcomes) call s ≡ Waiting s.answers wait t
    waits_ran tree wait t reaches waits =
        let next : PlayState → Ran = λ u. replay s.room coding [] u in
        from_start (s.items ++ Shown call ∷ [])
        ∙ reaches [] s.room (unread w.channel.told) (is_over w.channel.told) left fits_here going_on
        ∙ ap (λ p. before_all s.answers (and_then (finally p) next)) waits
        ∙ before_all-Waiting s.answers [] wait t
        ∙ ap (λ a. Waiting a wait t) (append-nil s.answers)

    -- a call that waits without having heard says a line that isn't within the room
    unheard_lacks : (state : State) (stage' : Stage) → needs_data call ≡ false → StageOf call stage' → Reaches coding old s.items (f.came ++ came) (f.answered ++ asked) w s.answers call (remaining coding call state stage') → HearsNothing (run_with coding (start_of old outcomes) call s) s → untaken w.channel ++ unread w.channel.told ≡ s.untaken → LacksRoomFor s.room here (remaining coding call state stage')
    unheard_lacks state stage' plain stage_of reaches nothing bytes = go (play s.room (remaining coding call state stage') here) refl (subst Nothing ran nothing)
      where
        Nothing : Ran → Type 0
        Nothing = λ r. HearsNothing r s

        next : PlayState → Ran
        next = λ u. replay s.room coding [] u

        ran : run_with coding (start_of old outcomes) call s ≡ before_all s.answers (and_then (finally (play s.room (remaining coding call state stage') here)) next)
        ran = from_start (s.items ++ Shown call ∷ []) ∙ reaches [] s.room (unread w.channel.told) (is_over w.channel.told) left fits_here going_on

        go : (p : Played) → play s.room (remaining coding call state stage') here ≡ p → Nothing (before_all s.answers (and_then (finally p) next)) → LacksRoomFor s.room here (remaining coding call state stage')
        go (played.Done answer u) is none =
            let all : before_all s.answers (before answer (replay s.room coding [] (ended u))) ≡ Finished (s.answers ++ answer ∷ []) (ended u) =
            ap (λ r. before_all s.answers (before answer r)) (replay-nil coding s.room (ended u)) ∙ before_all-Finished s.answers (answer ∷ []) (ended u) in
            absurd (subst Nothing all none)
        go (played.Pending wait u) is none =
            lacks_room coding s.room s here bytes wait u (subst Nothing (before_all-Waiting s.answers [] wait u) none) call state stage' plain stage_of is

    -- a line that isn't within the room hasn't gone out
    never_gone : (line : List ℕ) → fits s.room (v.channel.told.sent ++ v.channel.unsent ++ line) ≡ false → HasGoneOut line v w → ⊥
    never_gone line full gone = go s.room fits_here full
      where
        count : length (v.channel.told.sent ++ v.channel.unsent ++ line) ≡ length (said v.channel) + length line
        count = length-append (v.channel.told.sent ++ v.channel.unsent) line

        go : (room : Room) → HasRoomFor room (length w.channel.told.sent) → fits room (v.channel.told.sent ++ v.channel.unsent ++ line) ≡ false → ⊥
        go Any has not = let clash : true ≡ false = not in cc
        go (UpTo most) has not =
            let less : length (v.channel.told.sent ++ v.channel.unsent ++ line) ≤ most = omega (arith, count, gone, has) in
            let clash : true ≡ false = sym (le-leb _ _ less) ∙ not in
            cc

    -- the call waits
    wait_on : (tree : Tree) (stage' : Stage) (wait : Wait) (t : PlayState) → Reaches coding old s.items (f.came ++ came) (f.answered ++ asked) w s.answers call tree → play s.room tree here ≡ played.Pending wait t → front s.room t.said ≡ w.channel.told.sent → SaysFrontOf w.channel (t.said ++ t.unsent) → t.bytes ≡ untaken w.channel ++ unread w.channel.told → seen_at wait s t.bytes ≡ length w.channel.kept → outcome w.channel.rule (form_at wait s) w.channel.kept false ≡ Waits → (w.channel.kept ≡ []) ⊎ (w.channel.rule ≡ rule_at wait s t.state) → t.state ≡ w.state → t.failed ≡ w.channel.failed → t.net_record ≡ net_record_of w.net → (MayCancel (Some call) true → s.unsent ≡ w.channel.unsent) → Place coding old (polled_as (Waiting s.answers wait t) call s) (f.came ++ came) (f.answered ++ asked) w (Some call) stage' → Follows builds coding outcomes left old (poll_script coding (start_of old outcomes) (Some call) s) w (Some call) stage' answers
    wait_on tree stage' wait t reaches waits sent begins bytes seen says_nothing by state failed net_record unsent place =
        let ran = waits_ran tree wait t reaches waits in
        let Q : Ran → Type 0 = λ r. Follows builds coding outcomes left old (polled_as r call s) w (Some call) stage' answers in
        let follows : Follows builds coding outcomes left old (polled_as (Waiting s.answers wait t) call s) w (Some call) stage' answers = record {
          came = f.came ++ came;
          answered = f.answered ++ asked;
          net_events = all_net_events;
          outcomes_are = all_outcomes;
          net_record = net_record;
          place = place;
          rule = by;
          failures = c.failures ∙ f.failures;
          given = c.has;
          sound = c.sound;
          bytes = fed_bytes;
          ended = over_is;
          room = f.room ∙ ap (λ g. g.room) (sym c.given);
          sent = sent;
          said = begins;
          received = all_received;
          unsent = unsent;
          untaken = bytes;
          seen = seen;
          waits = says_nothing;
          state = state;
          failed = failed;
          call_is = f.call_is;
          answers_are = f.answers_are;
        } in
        subst Q (sym ran) follows

    -- it waits for room
    say_waits : (line : List ℕ) (next : Tree) → (w.channel.unsent ≡ [] → ⊥) → IsFull w.channel.told → (play s.room (Say (Ok line) next) here ≡ played.Pending wait.Room (record here { said = w.channel.told.sent ++ w.channel.unsent ++ line; unsent = [] })) × (front s.room (w.channel.told.sent ++ w.channel.unsent ++ line) ≡ w.channel.told.sent)
    say_waits line next some full =
        let P : Room → Type 0 = λ room. HasNoRoom room (length w.channel.told.sent) in
        let none : HasNoRoom s.room (length w.channel.told.sent) = subst P (sym (f.room ∙ ap (λ g. g.room) (sym c.given))) full in
        let stuck = full_room s.room w.channel.told.sent w.channel.unsent line fits_here none some in
        (play-Say s.room line next here ∙ rw stuck.0, stuck.1)

    -- it waits for bytes: all were read
    all_read : w.channel.ahead ≡ [] → IsDry w.channel.told → untaken w.channel ++ unread w.channel.told ≡ w.channel.kept
    all_read none_ahead dry =
        let t = w.channel.told in
        let none : unread t ≡ [] = ap (λ r. drop (length r) t.given.bytes) dry.all ∙ drop-length t.given.bytes in
        ap (λ u. untaken w.channel ++ u) none ∙ append-nil (untaken w.channel) ∙ ap (λ a. w.channel.kept ++ a) none_ahead ∙ append-nil w.channel.kept

    hear_waits : (codes : Expected) (next : Result Response FtpError → Tree) → IsDry w.channel.told → w.channel.ahead ≡ [] → w.channel.ended ≡ false → Resumes (modes_of w) w.channel.kept (Hear codes next) → play s.room (Hear codes next) here ≡ played.Pending (wait.Bytes codes.form) here
    hear_waits codes next dry none_ahead unended resumes =
        let t = w.channel.told in
        let on : is_over t ≡ false = ap (λ b. b || t.ended) dry.open_end ∙ c.sound.ended tt ∙ unended in
        let form = codes.form in
        let setting : ReplyRule = w.state.settings.reply_rule in
        let says = kept_waits w.channel.kept w.channel.rule setting form c.sound.waits resumes.0 resumes.1 in
        let more : outcome setting form (untaken w.channel ++ unread t) (is_over t) ≡ Waits =
        ap (λ k. outcome setting form k (is_over t)) (all_read none_ahead dry)
        ∙ ap (λ o. outcome setting form w.channel.kept o) on
        ∙ says.1 in
        play-Hear s.room codes next here ∙ ap (λ h. heard_then h codes here (λ heard u. play s.room (next heard) u)) more

  -- how a call goes on since the calls before it were done
  since_start : (old : SessionValue) (items : List Item) (answers : List Answer) (came : List ℕ) (answered : List NetEvent) (v : SessionValue) (state : State) → Stands coding old items came answered v answers → Since coding old items answers came answered (record v { state = state }) false
  since_start old items answers came answered v state stands = record {
    start = v;
    before = came;
    later = [];
    split = sym (append-nil came);
    asked_before = answered;
    asked_later = [];
    asked_split = sym (append-nil answered);
    stands = stands;
    sent = omega arith;
    over = λ more ended on. on;
    said = omega arith;
    taken = omega arith;
    has_begun = λ has. let clash : false ≡ true = has in cc;
    not_begun = λ none. (refl, sym (append-nil (untaken v.channel)));
  }

  since_on : (old : SessionValue) (items : List Item) (answers : List Answer) (came : List ℕ) (asked : List NetEvent) (v w : SessionValue) (begun begun' : Bool) (tree : Tree) (since : Since coding old items answers came asked v begun) → Speaks tree ⊎ Resumes (modes_of v) v.channel.kept tree → (more : List ℕ) (answered : List NetEvent) → Goes (over_memory builds) more answered v w → HasBegun (over_memory builds) begun begun' tree v w → Since coding old items answers (came ++ more) (asked ++ answered) w begun'
  since_on old items answers came asked v w begun begun' tree since resumes more answered goes here = record {
    start = since.start;
    before = since.before;
    later = since.later ++ more;
    split = ap (λ c. c ++ more) since.split ∙ append_assoc since.before since.later more;
    asked_before = since.asked_before;
    asked_later = since.asked_later ++ answered;
    asked_split = ap (λ c. c ++ answered) since.asked_split ∙ append_assoc since.asked_before since.asked_later answered;
    stands = since.stands;
    sent = omega (arith, since.sent, goes.sent tt);
    over = λ next ended on. rw (append_assoc since.later more next) (since.over (more ++ next) ended (goes_after v.channel.ended more next w.channel.ended ended goes.over on));
    said = omega (arith, since.said, goes.said tt);
    taken = omega (arith, since.taken, goes.untaken, length-append came more);
    has_begun = λ has. go (here.0 has);
    not_begun = λ none. back (here.1 none);
  }
    where
      back : (begun ≡ false) × NothingTouched (over_memory builds) v w → SaysNothing (since.later ++ more) since.start w
      back none =
          let first = since.not_begun none.0 in
          let here = none.1 tt in
          let same : here.0 ≡ more = append_cancel_left v.channel.told.received here.0 more (sym here.1 ∙ goes.received tt) in
          (here.2 ∙ first.0, here.3 ∙ ap (λ x. x ++ here.0) first.1 ∙ append_assoc (untaken since.start.channel) since.later here.0 ∙ ap (λ x. untaken since.start.channel ++ (since.later ++ x)) same)

      before_this : SaysOrTakes since.before came since.start v → SaysOrTakes since.before (came ++ more) since.start w
      before_this (inl said_more) = inl (omega (arith, said_more, goes.said tt))
      before_this (inr taken_more) = inr (omega (arith, taken_more, goes.untaken, length-append came more))

      in_this : (length (said v.channel) < length (said w.channel)) ⊎ (length v.channel.told.received + length (untaken w.channel) < length w.channel.told.received + length (untaken v.channel)) → SaysOrTakes since.before (came ++ more) since.start w
      in_this (inl said_more) = inl (omega (arith, said_more, since.said))
      in_this (inr taken_more) = inr (omega (arith, taken_more, since.taken, ap length (goes.received tt), length-append v.channel.told.received more, length-append came more))

      go : (begun ≡ true) ⊎ BeginsHere (over_memory builds) tree v w → SaysOrTakes since.before (came ++ more) since.start w
      go (inl has) = before_this (since.has_begun has)
      go (inr touched) = in_this (touched tt resumes)

  -- what holds where a poll began before holds where it begins
  settle : (call : Call) (stage : Stage) (v : SessionValue) → StageOf call stage → (P : SessionValue → State → Tree → Type 0) → P v v.state (remaining coding call v.state stage) → P (entered_at call stage v) (entered_state call stage v.state) (entered_tree coding call stage v.state)
  settle call stage v stage_of P holds =
      let Q : State → Type 0 = λ x. P (record v { state = x }) x (remaining coding call v.state stage) in
      let R : Tree → Type 0 = λ t. P (entered_at call stage v) (entered_state call stage v.state) t in
      subst R (sym (settled_tree call stage v.state stage_of)) (subst Q (sym (settled_state call stage v.state stage_of)) holds)

  -- where a poll begins
  pub record Resumed (old : SessionValue) (s : Script) (came : List ℕ) (asked : List NetEvent) (v : SessionValue) (call : Call) (begun : Bool) (e : SessionValue) (tree : Tree) : Type 0 where
    pub reaches : Reaches coding old s.items came asked e s.answers call tree
    pub resumes : Resumes (modes_of e) e.channel.kept tree
    pub apart : is_read call ≡ true → Apart tree
    pub read : is_read call ≡ true → Stands coding old s.items came asked v s.answers
    pub since : Since coding old s.items s.answers came asked e begun
    pub unsent : call ≡ Finish → v.channel.unsent ≡ since.start.channel.unsent

  -- where a poll begins that waits for room and hears nothing
  pub record KeptWaiting (old : SessionValue) (s : Script) (came : List ℕ) (asked : List NetEvent) (v : SessionValue) (call : Call) (begun : Bool) (e : SessionValue) (state : State) (tree : Tree) : Type 0 where
    pub plain : needs_data call ≡ false
    pub no_read : is_read call ≡ false
    pub reaches : Reaches coding old s.items came asked e s.answers call tree
    pub resumes : (modes : Modes) (kept : List ℕ) → Resumes modes kept (dialogue coding call state) → Resumes modes kept tree
    pub since : Since coding old s.items s.answers came asked e begun
    pub nothing : HearsNothing (run_with coding (start_of old outcomes) call s) s
    pub lacks : LacksRoomFor s.room (play_state v (unread v.channel.told) (is_over v.channel.told) []) tree

  -- where the poll of a call at this stage begins
  abbrev pub Goes_on : SessionValue → Script → List ℕ → List NetEvent → SessionValue → Call → Stage → Type 0
  Goes_on old s came asked v call stage =
      Resumed old s came asked v call (begun_at stage) (entered_at call stage v) (entered_tree coding call stage v.state)

  abbrev pub Kept : SessionValue → Script → List ℕ → List NetEvent → SessionValue → Call → Stage → Type 0
  Kept old s came asked v call stage =
      KeptWaiting old s came asked v call (begun_at stage) (entered_at call stage v) (entered_state call stage v.state) (entered_tree coding call stage v.state)

  module _ (left : List NetOutcome) (old : SessionValue) (s : Script) (v w : SessionValue) (call : Call) (stage : Stage) (answers : List Answer) (stage' : Stage) (advances : Advances (over_memory builds) (entered_tree coding call stage v.state) (remaining coding call (entered_state call stage v.state) stage') (entered_at call stage v) w) (f : Follows builds coding outcomes (outcomes_of advances.moves.leads.answered ++ left) old s v (Some call) stage answers) (c : Carried builds v w advances.moves.leads.came advances.moves.leads.answered) where
    -- a poll that waits for room
    room_waits : WaitsToSay (over_memory builds) (remaining coding call (entered_state call stage v.state) stage') w → Reaches coding old s.items (f.came ++ advances.moves.leads.came) (f.answered ++ advances.moves.leads.answered) w s.answers call (remaining coding call (entered_state call stage v.state) stage') → ((t : PlayState) → run_with coding (start_of old outcomes) call s ≡ Waiting s.answers wait.Room t → MayCancel (Some call) true → s.unsent ≡ w.channel.unsent) → ((t : PlayState) → run_with coding (start_of old outcomes) call s ≡ Waiting s.answers wait.Room t → Place coding old (polled_as (Waiting s.answers wait.Room t) call s) (f.came ++ advances.moves.leads.came) (f.answered ++ advances.moves.leads.answered) w (Some call) stage') → Follows builds coding outcomes left old (poll_script coding (start_of old outcomes) (Some call) s) w (Some call) stage' answers
    room_waits says reaches' unsent' place =
        let moves = advances.moves in
        let asked = moves.leads.answered in
        let before : Tree = entered_tree coding call stage v.state in
        let P : Tree → Type 0 = λ x. Reaches coding old s.items (f.came ++ moves.leads.came) (f.answered ++ asked) w s.answers call x in
        let C : Tree → Type 0 = Calm in
        let t : PlayState = record (here left asked old s v w call stage answers f moves.leads.came c) { said = w.channel.told.sent ++ w.channel.unsent ++ says.line; unsent = [] } in
        let stuck = say_waits left asked old s v w call stage answers f moves.leads.came c says.line says.next says.some (says.full tt) in
        let calm = moves.leads.calm (subst C (sym says.is) tt) in
        let seen = seen_kept (Calm before) s v w moves.leads.came f.seen f.untaken c.split moves.shrinks calm in
        let says_nothing = waits_kept (Calm before) s v w moves.leads.came f.waits calm in
        let by = rule_kept (Calm before) s.rule v w moves.leads.came f.rule calm in
        let there = subst P says.is reaches' in
        let ran = waits_ran left asked old s v w call stage answers f moves.leads.came c (Say (Ok says.line) says.next) wait.Room t there stuck.0 in
        wait_on left asked old s v w call stage answers f moves.leads.came c (Say (Ok says.line) says.next) stage' wait.Room t there stuck.0 stuck.1 (line_front w.channel says.line says.some) refl seen says_nothing by refl refl refl (unsent' t ran) (place t ran)

    -- it still waits for room, where it was kept waiting
    still_waits : due_of call v ≡ false → v.channel.failed ≡ false → Kept old s f.came f.answered v call stage → StageOf call stage' → WaitsFor (over_memory builds) (remaining coding call (entered_state call stage v.state) stage') w → HasBegun (over_memory builds) (begun_at stage) (begun_at stage') (entered_tree coding call stage v.state) (entered_at call stage v) w → Follows builds coding outcomes left old (poll_script coding (start_of old outcomes) (Some call) s) w (Some call) stage' answers
    still_waits undue going from stage_of waits begun = go (advances.moves.says from.lacks.line from.lacks.next from.lacks.is tt) waits
      where
        e : SessionValue
        e = entered_at call stage v

        before : Tree
        before = entered_tree coding call stage v.state

        tree' : Tree
        tree' = remaining coding call (entered_state call stage v.state) stage'

        unsent' : MayCancel (Some call) true → s.unsent ≡ w.channel.unsent
        unsent' (inl new) = let clash : true ≡ false = new in cc
        unsent' (inr (inl read)) = let clash : true ≡ false = sym read ∙ from.no_read in cc
        unsent' (inr (inr is)) = let clash : true ≡ false = sym (ap needs_data is) ∙ from.plain in cc

        speaks : Speaks before
        speaks = let P : Tree → Type 0 = Speaks in subst P (sym from.lacks.is) tt

        place : (still : StillSays (over_memory builds) before tree' advances.moves.leads.came advances.moves.leads.answered from.lacks.line e w) → Reaches coding old s.items (f.came ++ advances.moves.leads.came) (f.answered ++ advances.moves.leads.answered) w s.answers call tree' → (t : PlayState) → run_with coding (start_of old outcomes) call s ≡ Waiting s.answers wait.Room t → Place coding old (polled_as (Waiting s.answers wait.Room t) call s) (f.came ++ advances.moves.leads.came) (f.answered ++ advances.moves.leads.answered) w (Some call) stage'
        place still reaches' t ran = inr (inr (record {
          plain = from.plain;
          stage_of = stage_of;
          polled = refl;
          undue = undue_on call stage v w advances.moves.state advances.failed undue;
          unheard = let P : Ran → Type 0 = λ r. HearsNothing r s in subst P ran from.nothing;
          going = advances.failed ∙ going;
          no_read = from.no_read;
          reaches = let P : State → Type 0 = λ state. Reaches coding old s.items (f.came ++ advances.moves.leads.came) (f.answered ++ advances.moves.leads.answered) w s.answers call (remaining coding call state stage') in subst P (sym advances.moves.state) reaches';
          resumes = let P : State → Type 0 = λ state. (modes : Modes) (kept : List ℕ) → Resumes modes kept (dialogue coding call state) → Resumes modes kept (remaining coding call state stage') in subst P (sym advances.moves.state) (λ modes kept r. still.resumes modes kept (from.resumes modes kept r));
          since = since_on old s.items s.answers f.came f.answered e w (begun_at stage) (begun_at stage') before from.since (inl speaks) advances.moves.leads.came advances.moves.leads.answered advances.moves.leads.goes begun;
        }))

        go : StillSays (over_memory builds) before tree' advances.moves.leads.came advances.moves.leads.answered from.lacks.line e w ⊎ HasGoneOut from.lacks.line v w → WaitsFor (over_memory builds) tree' w → Follows builds coding outcomes left old (poll_script coding (start_of old outcomes) (Some call) s) w (Some call) stage' answers
        go (inr gone) waits = absurd (never_gone left advances.moves.leads.answered old s v w call stage answers f advances.moves.leads.came c from.lacks.line from.lacks.full gone)
        go (inl still) (inr (inl hears)) = let clash : Hear hears.codes hears.next ≡ Say (Ok still.rest) still.next = sym hears.is ∙ still.is in cc
        go (inl still) (inr (inr asks)) = absurd asks.may
        go (inl still) (inl says) =
            let reaches' = reaches_on old e w s.items f.came f.answered s.answers call before tree' from.reaches advances.moves.leads still.plays in
            room_waits says reaches' (λ t ran. unsent') (place still reaches')

    -- a poll that waits
    pending : due_of call v ≡ false → v.channel.failed ≡ false → Goes_on old s f.came f.answered v call stage → StageOf call stage' → WaitsFor (over_memory builds) (remaining coding call (entered_state call stage v.state) stage') w → (is_read call ≡ true → Rests (over_memory builds) v w) → HasBegun (over_memory builds) (begun_at stage) (begun_at stage') (entered_tree coding call stage v.state) (entered_at call stage v) w → Follows builds coding outcomes left old (poll_script coding (start_of old outcomes) (Some call) s) w (Some call) stage' answers
    unfolding since_on
    pending undue going from stage_of waits rests begun = go waits
      where
        e : SessionValue
        e = entered_at call stage v

        came' : List ℕ
        came' = f.came ++ advances.moves.leads.came

        asked' : List NetEvent
        asked' = f.answered ++ advances.moves.leads.answered

        before : Tree
        before = entered_tree coding call stage v.state

        tree' : Tree
        tree' = remaining coding call (entered_state call stage v.state) stage'

        reaches' : Reaches coding old s.items came' asked' w s.answers call tree'
        reaches' = reaches_on old e w s.items f.came f.answered s.answers call before tree' from.reaches advances.moves.leads (advances.moves.leads.plays tt from.resumes)

        resumes' : Resumes (modes_of w) w.channel.kept tree'
        resumes' = advances.moves.leads.resumes from.resumes

        read' : is_read call ≡ true → Stands coding old s.items came' asked' w s.answers
        read' is =
            let rest = rests is in
            let goes = advances.moves.leads.goes in
            let came : rest.came ≡ advances.moves.leads.came = append_cancel_left v.channel.told.received rest.came advances.moves.leads.came (sym (rest.goes.received tt) ∙ goes.received tt) in
            let none : outcomes_of advances.moves.leads.answered ≡ [] = (advances.moves.apart (from.apart is)).0 in
            let same : outcomes_of (f.answered ++ []) ≡ outcomes_of asked' = outcomes-append f.answered [] ∙ ap (λ o. outcomes_of f.answered ++ o) (sym none) ∙ sym (outcomes-append f.answered advances.moves.leads.answered) in
            let P : List ℕ → Type 0 = λ x. Stands coding old s.items (f.came ++ x) asked' w s.answers in
            subst P came (stands_same old w s.items (f.came ++ rest.came) (f.answered ++ []) asked' s.answers same (stands_rests old v w s.items f.came f.answered s.answers (from.read is) rest))

        since' : Since coding old s.items s.answers came' asked' w (begun_at stage')
        since' = since_on old s.items s.answers f.came f.answered e w (begun_at stage) (begun_at stage') before from.since (inr from.resumes) advances.moves.leads.came advances.moves.leads.answered advances.moves.leads.goes begun

        -- `Finish` waits for its reply alone, and has closed the data connection
        fits' : HasRoomFor s.room (length w.channel.told.sent)
        fits' = fits_here left advances.moves.leads.answered old s v w call stage answers f advances.moves.leads.came c

        on' : GoesOn w.channel.ended (unread w.channel.told) (is_over w.channel.told)
        on' = going_on left advances.moves.leads.answered old s v w call stage answers f advances.moves.leads.came c

        Parts : Wait → PlayState → Type 0
        Parts due t = HasParted (began coding old s.items s.answers came' asked' w (begun_at stage') since' s.room (unread w.channel.told) (is_over w.channel.told) left fits' on') due t

        parts : (due : Wait) (t : PlayState) → (due ≡ wait.Outcome → ⊥) → run_with coding (start_of old outcomes) call s ≡ Waiting s.answers due t → call ≡ Finish → Parts due t
        parts due t none ran is =
            let R : Call → Type 0 = λ x. replay s.room coding (s.items ++ Shown x ∷ []) (play_state old (came' ++ unread w.channel.told) (is_over w.channel.told) (outcomes_of asked' ++ left)) ≡ Waiting s.answers due t in
            end_waits coding old s.items s.answers came' asked' w (begun_at stage') since' s.room (unread w.channel.told) (is_over w.channel.told) left fits' on' due t none (subst R is (sym (from_start left advances.moves.leads.answered old s v w call stage answers f advances.moves.leads.came c (s.items ++ Shown call ∷ [])) ∙ ran))

        no_room : (t : PlayState) → run_with coding (start_of old outcomes) call s ≡ Waiting s.answers wait.Room t → call ≡ Finish → ⊥
        no_room t ran is =
            let found = parts wait.Room t (λ same. (let clash : wait.Room ≡ wait.Outcome = same in cc)) ran is in
            let clash : wait.Room ≡ wait.Bytes found.form = found.waits in
            cc

        unsent' : (call ≡ Finish → s.unsent ≡ w.channel.unsent) → MayCancel (Some call) true → s.unsent ≡ w.channel.unsent
        unsent' ends (inl new) = let clash : true ≡ false = new in cc
        unsent' ends (inr (inl read)) = f.unsent (inr (inl read)) ∙ ap (λ t. t.unsent) ((rests read).stays tt [] false [])
        unsent' ends (inr (inr is)) = ends is

        under_way : (t : PlayState) (wait : Wait) → (call ≡ Finish → Stands coding old (s.items ++ Hidden Leave ∷ []) came' asked' w s.answers) → (call ≡ Finish → w.channel.unsent ≡ since'.start.channel.unsent) → UnderWay coding old (polled_as (Waiting s.answers wait t) call s) came' asked' w call stage'
        under_way t wait leaves unsent = record {
          stage_of = stage_of;
          polled = refl;
          undue = undue_on call stage v w advances.moves.state advances.failed undue;
          going = advances.failed ∙ going;
          reaches = let P : State → Type 0 = λ state. Reaches coding old s.items came' asked' w s.answers call (remaining coding call state stage') in subst P (sym advances.moves.state) reaches';
          resumes = let P : State → Type 0 = λ state. Resumes (modes_of w) w.channel.kept (remaining coding call state stage') in subst P (sym advances.moves.state) resumes';
          apart = λ is. let P : State → Type 0 = λ state. Apart (remaining coding call state stage') in subst P (sym advances.moves.state) (advances.moves.apart (from.apart is)).1;
          read = read';
          since = since';
          leaves = leaves;
          unsent = unsent;
        }

        go : WaitsFor (over_memory builds) tree' w → Follows builds coding outcomes left old (poll_script coding (start_of old outcomes) (Some call) s) w (Some call) stage' answers
        go (inl says) = room_waits says reaches' (λ t ran. unsent' (λ is. absurd (no_room t ran is))) (λ t ran. inr (inl (under_way t wait.Room (λ is. absurd (no_room t ran is)) (λ is. absurd (no_room t ran is)))))
        go (inr (inr asks)) = absurd asks.may
        go (inr (inl hears)) =
            let moves = advances.moves in
            let asked = moves.leads.answered in
            let P : Tree → Type 0 = λ x. Reaches coding old s.items came' asked' w s.answers call x in
            let R : Tree → Type 0 = λ x. Resumes (modes_of w) w.channel.kept x in
            let t : PlayState = here left asked old s v w call stage answers f moves.leads.came c in
            let resumed = subst R hears.is resumes' in
            let says = kept_waits w.channel.kept w.channel.rule w.state.settings.reply_rule hears.codes.form c.sound.waits resumed.0 resumed.1 in
            let stuck = hear_waits left asked old s v w call stage answers f moves.leads.came c hears.codes hears.next (hears.dry tt) hears.none_ahead hears.unended resumed in
            let seen : length (untaken w.channel ++ unread w.channel.told) ≡ length w.channel.kept = ap length (all_read left asked old s v w call stage answers f moves.leads.came c hears.none_ahead (hears.dry tt)) in
            let sent = front_fits s.room w.channel.told.sent fits' in
            let b : Wait = wait.Bytes hears.codes.form in
            let there = subst P hears.is reaches' in
            let ran = waits_ran left asked old s v w call stage answers f moves.leads.came c (Hear hears.codes hears.next) b t there stuck in
            let parted : call ≡ Finish → Parts b t = λ is. parts b t (λ same. (let clash : wait.Bytes hears.codes.form ≡ wait.Outcome = same in cc)) ran is in
            let unsent : call ≡ Finish → w.channel.unsent ≡ since'.start.channel.unsent = λ is. same_unsent coding old s.items s.answers came' asked' w (begun_at stage') since' s.room (unread w.channel.told) (is_over w.channel.told) left fits' on' b (parted is) in
            let leaves : call ≡ Finish → Stands coding old (s.items ++ Hidden Leave ∷ []) came' asked' w s.answers = λ is. leaves_on coding old s.items s.answers came' asked' w (begun_at stage') since' s.room (unread w.channel.told) (is_over w.channel.told) left fits' on' b (parted is) in
            wait_on left asked old s v w call stage answers f moves.leads.came c (Hear hears.codes hears.next) stage' b t there stuck sent (all_said w.channel) refl seen says.0 says.2 refl refl refl (unsent' (λ is. f.unsent (inr (inr is)) ∙ from.unsent is ∙ sym (unsent is))) (inr (inl (under_way t b leaves unsent)))

  module _ (left : List NetOutcome) (old : SessionValue) (s : Script) (v w : SessionValue) (call : Call) (stage : Stage) (answers : List Answer) (answer : Answer) (ends : Finishes (over_memory builds) (entered_tree coding call stage v.state) answer (entered_at call stage v) w) (f : Follows builds coding outcomes (outcomes_of ends.answered ++ left) old s v (Some call) stage answers) (c : Carried builds v w ends.came ends.answered) where
    -- a call that is kept waiting has no answer yet
    no_answer : Kept old s f.came f.answered v call stage → ⊥
    no_answer from = never_gone left ends.answered old s v w call stage answers f ends.came c from.lacks.line from.lacks.full (ends.gone from.lacks.line from.lacks.next from.lacks.is tt)

    -- a poll that completes the call
    completed : (stage' : Stage) → Goes_on old s f.came f.answered v call stage → Follows builds coding outcomes left old (poll_script coding (start_of old outcomes) (Some call) s) w None stage' (answers ++ answer ∷ [])
    completed stage' from =
        finish left ends.answered old s v w call stage answers f ends.came c (Silent (entered_at call stage v).state w.state (entered_tree coding call stage v.state)) stage' answer
        (reaches_stands old (entered_at call stage v) w s.items f.came f.answered s.answers call (entered_tree coding call stage v.state) answer from.reaches ends from.resumes)
        ends.shrinks ends.keeps

  -- the call is refused
  refused_poll : (left : List NetOutcome) (old : SessionValue) (s : Script) (v w : SessionValue) (call : Call) (stage stage' : Stage) (answers : List Answer) (answer : Answer) → (so : RefusedSo (plain builds) (Unit {0}) coding call v w answer) → (f : Follows builds coding outcomes (outcomes_of so.answered ++ left) old s v (Some call) stage answers) → Carried builds v w [] so.answered → Stands coding old s.items f.came f.answered v s.answers → Follows builds coding outcomes left old (poll_script coding (start_of old outcomes) (Some call) s) w None stage' (answers ++ answer ∷ [])
  refused_poll left old s v w call stage stage' answers answer so f c stands =
      finish left so.answered old s v w call stage answers f [] c (Unit {0}) stage' answer
      (stands_refused old v w s.items f.came f.answered s.answers call answer so stands)
      (omega (arith, ap length (ap (λ x. x.ahead) so.channel)))
      (inr (ap (λ x. x.kept) so.channel, ap (λ x. x.ahead) so.channel, refl, tt, ap (λ x. x.rule) so.channel))

  -- where a poll of the call under way begins
  module _ (due : List NetOutcome) (old : SessionValue) (s : Script) (v : SessionValue) (call : Call) (stage : Stage) (answers : List Answer) (f : Follows builds coding outcomes due old s v (Some call) stage answers) (may : MayPoll coding (start_of old outcomes) (Some call) s) where
    -- the form of before goes on, or the call is kept waiting
    agreed : s.heard ≡ false → v.channel.failed ≡ false → Resumes (modes_of v) v.channel.kept (dialogue coding call v.state) ⊎ ((needs_data call ≡ false) × HearsNothing (run_with coding (start_of old outcomes) call s) s)
    agreed unheard going = pick (may unheard (f.failed ∙ going))
      where
        kept : take s.seen s.untaken ≡ v.channel.kept
        kept = ap (λ n. take n s.untaken) f.seen ∙ ap (λ u. take (length v.channel.kept) u) (f.untaken ∙ append_assoc v.channel.kept v.channel.ahead (unread v.channel.told)) ∙ take-append_seam v.channel.kept (v.channel.ahead ++ unread v.channel.told)

        -- the script's modes are the session's
        by : (v.channel.kept ≡ []) ⊎ (v.channel.rule ≡ s.rule) → modes_in v.channel.kept s.rule v.state ≡ modes_of v
        by (inl none) = rw none refl
        by (inr is) = ap (λ r. modes_in v.channel.kept r v.state) (sym is)

        modes_are : modes_at s ≡ modes_of v
        modes_are = ap (λ k. modes_in k s.rule s.state) kept ∙ ap (λ x. modes_in v.channel.kept s.rule x) f.state ∙ by f.rule

        says : (setting : ReplyRule) → SameForm setting call s.form → outcome setting s.form v.channel.kept false ≡ Waits → SaysNothingYet setting (first_form call) v.channel.kept
        says Strict same waits = tt
        says Lenient same waits = ap (λ b. outcome Lenient b v.channel.kept false) same ∙ waits

        pick : (SameMode (modes_at s) × SameForm s.state.settings.reply_rule call s.form) ⊎ Resumes (modes_at s) (kept_in s) (dialogue coding call s.state) ⊎ ((needs_data call ≡ false) × HearsNothing (run_with coding (start_of old outcomes) call s) s) → Resumes (modes_of v) v.channel.kept (dialogue coding call v.state) ⊎ ((needs_data call ≡ false) × HearsNothing (run_with coding (start_of old outcomes) call s) s)
        pick (inl same) =
            let F : State → Type 0 = λ x. SameForm x.settings.reply_rule call s.form in
            let one_mode : SameMode (modes_of v) = subst SameMode modes_are same.0 in
            let setting : ReplyRule = v.state.settings.reply_rule in
            inl (resumes_dialogue (modes_of v) v.channel.kept one_mode call v.state (says setting (subst F f.state same.1) (set_waits v.channel.kept v.channel.rule setting s.form one_mode f.waits)))
        pick (inr (inl waits)) =
            let P : State → Type 0 = λ state. Resumes (modes_at s) (kept_in s) (dialogue coding call state) in
            let Q : List ℕ → Type 0 = λ k. Resumes (modes_at s) k (dialogue coding call v.state) in
            let R : Modes → Type 0 = λ m. Resumes m v.channel.kept (dialogue coding call v.state) in
            inl (subst R modes_are (subst Q kept (subst P f.state waits)))
        pick (inr (inr nothing)) = inr nothing

    -- the line that doesn't go out
    lacking : (stage' : Stage) → needs_data call ≡ false → StageOf call stage' → Reaches coding old s.items f.came f.answered v s.answers call (remaining coding call v.state stage') → HearsNothing (run_with coding (start_of old outcomes) call s) s → LacksRoomFor s.room (play_state v (unread v.channel.told) (is_over v.channel.told) []) (remaining coding call v.state stage')
    lacking stage' plain stage_of reaches nothing =
        let P : List ℕ → Type 0 = λ x. Reaches coding old s.items x (f.answered ++ []) v s.answers call (remaining coding call v.state stage') in
        let A : List NetEvent → Type 0 = λ a. Reaches coding old s.items f.came a v s.answers call (remaining coding call v.state stage') in
        let lacks = unheard_lacks due [] old s v v call stage answers f [] (carried_none builds v f.given f.sound) v.state stage' plain stage_of (subst P (sym (append-nil f.came)) (subst A (sym (append-nil f.answered)) reaches)) nothing (sym f.untaken) in
        record { line = lacks.line; next = lacks.next; is = lacks.is; full = lacks.full }

    begun_anew : Started coding old s f.came f.answered v call stage → refusal_of call v ≡ Taken → Resumes (modes_of v) v.channel.kept (dialogue coding call v.state) ⊎ ((is_local call ≡ false) × (needs_data call ≡ false) × HearsNothing (run_with coding (start_of old outcomes) call s) s) → Goes_on old s f.came f.answered v call (At First) ⊎ Kept old s f.came f.answered v call (At First)
    unfolding since_start
    begun_anew started going (inl resumes) =
        inl (record {
          reaches = stands_reaches old v s.items f.came f.answered s.answers call going started.stands;
          resumes = begun_resumes call v (dialogue coding call v.state) resumes;
          apart = λ r. read_apart coding call v.state r;
          read = λ r. started.stands;
          since = since_start old s.items s.answers f.came f.answered v (entered call v.state) started.stands;
          unsent = λ is. refl;
        })
    begun_anew started going (inr nothing) =
        let plain = nothing.1 in
        let none = needs_none call plain in
        let ends = plain_finishes_none call none.1 in
        let is = plain_dialogue coding call v.state none.0 ends in
        let same = plain_entered call v.state none.0 ends in
        let R : Tree → Type 0 = λ t. Reaches coding old s.items f.came f.answered v s.answers call t in
        let S : State → Type 0 = λ x. Reaches coding old s.items f.came f.answered (record v { state = x }) s.answers call (dialogue coding call v.state) in
        let D : State → Type 0 = λ x. (modes : Modes) (kept : List ℕ) → Resumes modes kept (dialogue coding call x) → Resumes modes kept (dialogue coding call v.state) in
        let L : Tree → Type 0 = λ t. LacksRoomFor s.room (play_state v (unread v.channel.told) (is_over v.channel.told) []) t in
        let reaches = stands_reaches old v s.items f.came f.answered s.answers call going started.stands in
        let lacks = subst L (sym is) (lacking (At First) plain (none.0, nothing.0, ends) (subst R is (subst S same reaches)) nothing.2) in
        inr (record {
          plain = plain;
          no_read = says_no_read coding call v.state lacks.line lacks.next (none.0, nothing.0, ends) lacks.is;
          reaches = reaches;
          resumes = subst D (sym same) (λ modes kept r. r);
          since = since_start old s.items s.answers f.came f.answered v (entered call v.state) started.stands;
          nothing = nothing.2;
          lacks = lacks;
        })

    going_on_unheard : Unheard coding old s f.came f.answered v call stage → Resumes (modes_of v) v.channel.kept (dialogue coding call v.state) ⊎ ((needs_data call ≡ false) × HearsNothing (run_with coding (start_of old outcomes) call s) s) → Goes_on old s f.came f.answered v call stage ⊎ Kept old s f.came f.answered v call stage
    going_on_unheard u (inl resumes) =
        let P : SessionValue → State → Tree → Type 0 = λ e x t. Resumed old s f.came f.answered v call (begun_at stage) e t in
        inl (settle call stage v u.stage_of P (record {
          reaches = u.reaches;
          resumes = u.resumes (modes_of v) v.channel.kept resumes;
          apart = λ is. (let clash : true ≡ false = sym is ∙ u.no_read in cc);
          read = λ is. let clash : true ≡ false = sym is ∙ u.no_read in cc;
          since = u.since;
          unsent = λ is. (let clash : true ≡ false = sym (ap needs_data is) ∙ u.plain in cc);
        }))
    going_on_unheard u (inr nothing) =
        let P : SessionValue → State → Tree → Type 0 = λ e x t. KeptWaiting old s f.came f.answered v call (begun_at stage) e x t in
        inr (settle call stage v u.stage_of P (record {
          plain = u.plain;
          no_read = u.no_read;
          reaches = u.reaches;
          resumes = u.resumes;
          since = u.since;
          nothing = nothing.1;
          lacks = lacking stage u.plain u.stage_of u.reaches nothing.1;
        }))

    -- a call that wasn't polled begins
    anew : Started coding old s f.came f.answered v call stage → refusal_of call v ≡ Taken → Goes_on old s f.came f.answered v call (At First) ⊎ Kept old s f.came f.answered v call (At First)
    anew started taken = go (is_local call) refl
      where
        add : is_local call ≡ false → Resumes (modes_of v) v.channel.kept (dialogue coding call v.state) ⊎ ((needs_data call ≡ false) × HearsNothing (run_with coding (start_of old outcomes) call s) s) → Resumes (modes_of v) v.channel.kept (dialogue coding call v.state) ⊎ ((is_local call ≡ false) × (needs_data call ≡ false) × HearsNothing (run_with coding (start_of old outcomes) call s) s)
        add abroad (inl resumes) = inl resumes
        add abroad (inr nothing) = inr (abroad, nothing.0, nothing.1)

        go : (b : Bool) → is_local call ≡ b → Goes_on old s f.came f.answered v call (At First) ⊎ Kept old s f.came f.answered v call (At First)
        go true local = begun_anew started taken (inl (local_resumes (modes_of v) v.channel.kept coding call v.state local))
        go false abroad = begun_anew started taken (add abroad (agreed started.unheard (taken_going call v.channel.failed (lacks_of call v) taken abroad)))

    pub placed : MayPollAt stage call v → Goes_on old s f.came f.answered v call stage ⊎ Kept old s f.came f.answered v call stage
    placed may_poll = go f.place
      where
        go : Place coding old s f.came f.answered v (Some call) stage → Goes_on old s f.came f.answered v call stage ⊎ Kept old s f.came f.answered v call stage
        go (inl started) =
            let P : Stage → Type 0 = λ x. Goes_on old s f.came f.answered v call x ⊎ Kept old s f.came f.answered v call x in
            let M : Stage → Type 0 = λ x. MayPollAt x call v in
            subst P (sym started.at) (anew started (subst M started.at may_poll))
        go (inr (inl u)) =
            let P : SessionValue → State → Tree → Type 0 = λ e x t. Resumed old s f.came f.answered v call (begun_at stage) e t in
            inl (settle call stage v u.stage_of P (record { reaches = u.reaches; resumes = u.resumes; apart = u.apart; read = u.read; since = u.since; unsent = u.unsent }))
        go (inr (inr u)) = going_on_unheard u (agreed u.unheard u.going)

    -- a call that is refused wasn't polled
    stands_unpolled : (MayPollAt stage call v → ⊥) → Stands coding old s.items f.came f.answered v s.answers
    stands_unpolled none = go f.place
      where
        polled : (b : Bool) → drains call ≡ b → UnderWay coding old s f.came f.answered v call stage → Stands coding old s.items f.came f.answered v s.answers
        polled true drains_is u = u.read (draining_reads call drains_is)
        polled false drains_none u = absurd (none (may_go_on call stage v drains_none u.stage_of u.going))

        go : Place coding old s f.came f.answered v (Some call) stage → Stands coding old s.items f.came f.answered v s.answers
        go (inl started) = started.stands
        go (inr (inl u)) = polled (drains call) refl u
        go (inr (inr u)) = absurd (none (may_go_on call stage v (unheld_drains_none call (needs_none call u.plain).1) u.stage_of u.going))

  -- where a poll ends
  pub carry : (came : List ℕ) (answered : List NetEvent) (v w : SessionValue) (call : Call) (stage stage' : Stage) (result : Poll Answer) → IsSound (Unit {0}) v.channel → PollsHere builds coding call stage stage' v w result → Goes (over_memory builds) came answered (entered_at call stage v) w → Carried builds v w came answered
  carry came answered v w call stage stage' result sound here goes = carried builds v w (entered_state call stage v.state) came answered goes sound here.end here.given here.sound

  -- a poll of a call that is refused
  pub poll_refused : (left : List NetOutcome) (old : SessionValue) (s : Script) (v w : SessionValue) (call : Call) (stage stage' : Stage) (answers : List Answer) (answer : Answer) → (so : RefusedSo (plain builds) (Unit {0}) coding call v w answer) → Follows builds coding outcomes (outcomes_of so.answered ++ left) old s v (Some call) stage answers → MayPoll coding (start_of old outcomes) (Some call) s → (MayPollAt stage call v → ⊥) → PollsHere builds coding call stage stage' v w (Ready answer) → PollFollows builds coding outcomes left old s v w call stage stage' answers (Ready answer)
  poll_refused left old s v w call stage stage' answers answer so f may none here =
      let goes = beside_goes (over_memory builds) so.answered v w so.channel so.net_events in
      let c = carried builds v w v.state [] so.answered goes f.sound here.end here.given here.sound in
      inl (refused_poll left old s v w call stage stage' answers answer so f c (stands_unpolled (outcomes_of so.answered ++ left) old s v call stage answers f may none))

  -- a poll that completes its call
  pub poll_ready : (left : List NetOutcome) (old : SessionValue) (s : Script) (v w : SessionValue) (call : Call) (stage stage' : Stage) (answers : List Answer) (answer : Answer) → MayPollAt stage call v → (ends : Finishes (over_memory builds) (entered_tree coding call stage v.state) answer (entered_at call stage v) w) → Follows builds coding outcomes (outcomes_of ends.answered ++ left) old s v (Some call) stage answers → MayPoll coding (start_of old outcomes) (Some call) s → PollsHere builds coding call stage stage' v w (Ready answer) → Follows builds coding outcomes left old (poll_script coding (start_of old outcomes) (Some call) s) w None stage' (answers ++ answer ∷ [])
  poll_ready left old s v w call stage stage' answers answer going ends f may here =
      pick (carry ends.came ends.answered v w call stage stage' (Ready answer) f.sound here ends.goes) (placed (outcomes_of ends.answered ++ left) old s v call stage answers f may going)
    where
      pick : Carried builds v w ends.came ends.answered → Goes_on old s f.came f.answered v call stage ⊎ Kept old s f.came f.answered v call stage → Follows builds coding outcomes left old (poll_script coding (start_of old outcomes) (Some call) s) w None stage' (answers ++ answer ∷ [])
      pick c (inl from) = completed left old s v w call stage answers answer ends f c stage' from
      pick c (inr from) = absurd (no_answer left old s v w call stage answers answer ends f c from)

  -- a poll that waits
  pub poll_waits : (left : List NetOutcome) (old : SessionValue) (s : Script) (v w : SessionValue) (call : Call) (stage stage' : Stage) (answers : List Answer) → due_of call v ≡ false → MayPollAt stage call v → v.channel.failed ≡ false → (advances : Advances (over_memory builds) (entered_tree coding call stage v.state) (remaining coding call (entered_state call stage v.state) stage') (entered_at call stage v) w) → WaitsFor (over_memory builds) (remaining coding call (entered_state call stage v.state) stage') w → Follows builds coding outcomes (outcomes_of advances.moves.leads.answered ++ left) old s v (Some call) stage answers → MayPoll coding (start_of old outcomes) (Some call) s → PollsHere builds coding call stage stage' v w Pending → Follows builds coding outcomes left old (poll_script coding (start_of old outcomes) (Some call) s) w (Some call) stage' answers
  poll_waits left old s v w call stage stage' answers undue may_poll going advances waits f may here =
      pick (carry advances.moves.leads.came advances.moves.leads.answered v w call stage stage' Pending f.sound here advances.moves.leads.goes) (placed (outcomes_of advances.moves.leads.answered ++ left) old s v call stage answers f may may_poll)
    where
      pick : Carried builds v w advances.moves.leads.came advances.moves.leads.answered → Goes_on old s f.came f.answered v call stage ⊎ Kept old s f.came f.answered v call stage → Follows builds coding outcomes left old (poll_script coding (start_of old outcomes) (Some call) s) w (Some call) stage' answers
      pick c (inl from) = pending left old s v w call stage answers stage' advances f c undue going from (here.left_at refl) waits (here.rests refl) (here.begun refl)
      pick c (inr from) = still_waits left old s v w call stage answers stage' advances f c undue going from (here.left_at refl) waits (here.begun refl)

  -- the call under way begins where it wasn't polled
  pub entering_is : (due : List NetOutcome) (old : SessionValue) (s : Script) (v : SessionValue) (call : Call) (stage : Stage) (answers : List Answer) → (f : Follows builds coding outcomes due old s v (Some call) stage answers) → entered_at call stage v ≡ entering s.polled call v
  entering_is due old s v call stage answers f = go f.place
    where
      polled : StageOf call stage → s.polled ≡ true → entered_at call stage v ≡ entering s.polled call v
      polled stage_of is = ap (λ x. record v { state = x }) (settled_state call stage v.state stage_of) ∙ sym (ap (λ b. entering b call v) is)

      go : Place coding old s f.came f.answered v (Some call) stage → entered_at call stage v ≡ entering s.polled call v
      go (inl started) = ap (λ x. entered_at call x v) started.at ∙ sym (ap (λ b. entering b call v) started.unpolled)
      go (inr (inl u)) = polled u.stage_of u.polled
      go (inr (inr u)) = polled u.stage_of u.polled

  -- what is left of the call under way
  pub left_of : (due : List NetOutcome) (old : SessionValue) (s : Script) (v : SessionValue) (call : Call) (stage : Stage) (answers : List Answer) → (f : Follows builds coding outcomes due old s v (Some call) stage answers) → MayPollAt stage call v → LeftOf builds coding old s v call (begun_at stage) (entered_tree coding call stage v.state)
  left_of due old s v call stage answers f may_poll = record {
    call_is = f.call_is;
    going = going f.place;
    came = f.came;
    bytes = f.bytes;
    answered = f.answered;
    net_events = f.net_events;
    reaches = let P : SessionValue → Type 0 = λ e. Reaches coding old s.items f.came f.answered e s.answers call (entered_tree coding call stage v.state) in subst P (entering_is due old s v call stage answers f) (reaches f.place);
    since = since f.place;
  }
    where
      going : Place coding old s f.came f.answered v (Some call) stage → MayGoOn s.polled call v
      going (inl started) =
          let M : Stage → Type 0 = λ x. MayPollAt x call v in
          rw started.unpolled (subst M started.at may_poll)
      going (inr (inl u)) = rw u.polled u.going
      going (inr (inr u)) = rw u.polled u.going

      reaches : Place coding old s f.came f.answered v (Some call) stage → Reaches coding old s.items f.came f.answered (entered_at call stage v) s.answers call (entered_tree coding call stage v.state)
      reaches (inl started) =
          let P : Stage → Type 0 = λ x. Reaches coding old s.items f.came f.answered (entered_at call x v) s.answers call (entered_tree coding call x v.state) in
          let M : Stage → Type 0 = λ x. MayPollAt x call v in
          subst P (sym started.at) (stands_reaches old v s.items f.came f.answered s.answers call (subst M started.at may_poll) started.stands)
      reaches (inr (inl u)) = let P : SessionValue → State → Tree → Type 0 = λ e x t. Reaches coding old s.items f.came f.answered e s.answers call t in settle call stage v u.stage_of P u.reaches
      reaches (inr (inr u)) = let P : SessionValue → State → Tree → Type 0 = λ e x t. Reaches coding old s.items f.came f.answered e s.answers call t in settle call stage v u.stage_of P u.reaches

      of_since : Since coding old s.items s.answers f.came f.answered v (begun_at stage) → CallHasBegun coding old s f.came f.answered v (begun_at stage)
      of_since since = record { start = since.start; before = since.before; later = since.later; split = since.split; asked_before = since.asked_before; asked_later = since.asked_later; asked_split = since.asked_split; stands = since.stands; has_begun = since.has_begun; not_begun = since.not_begun }

      since : Place coding old s f.came f.answered v (Some call) stage → CallHasBegun coding old s f.came f.answered v (begun_at stage)
      since (inl started) = record {
        start = v;
        before = f.came;
        later = [];
        split = sym (append-nil f.came);
        asked_before = f.answered;
        asked_later = [];
        asked_split = sym (append-nil f.answered);
        stands = started.stands;
        has_begun = λ has. let clash : false ≡ true = sym (ap begun_at started.at) ∙ has in cc;
        not_begun = λ none. (refl, sym (append-nil (untaken v.channel)));
      }
      since (inr (inl u)) = of_since u.since
      since (inr (inr u)) = of_since u.since

-- what a poll makes of a script, with what happened beside the control connection
abbrev pub PollHappens : Builds → Coding → Call → Stage → Stage → SessionValue → SessionValue → Poll Answer → Type 0
PollHappens builds coding call stage stage' v w result =
    (answered : List NetEvent) × NetEvents (plain builds) answered v.net w.net × ((outcomes left : List NetOutcome) (old : SessionValue) (s : Script) (answers : List Answer) → Follows builds coding outcomes (outcomes_of answered ++ left) old s v (Some call) stage answers → MayPoll coding (start_of old outcomes) (Some call) s → due_of call v ≡ false → PollFollows builds coding outcomes left old s v w call stage stage' answers result)

-- what an aborted call left beside the control connection
aborted_net_events : (builds : Builds) (begun : Bool) (tree : Tree) (answer : Answer) (v w : SessionValue) (aborts : Aborts (over_memory builds) begun tree answer v w) → NetEvents (plain builds) aborts.leads.answered v.net w.net
aborted_net_events builds begun tree answer v w aborts =
    let P : Net → Type 0 = λ n. NetEvents (plain builds) aborts.leads.answered v.net n in
    subst P (sym (go aborts.cause)) (aborts.leads.goes.net_events tt)
  where
    lost : ((w ≡ aborts.at) × (begun ≡ false) × Untouched (over_memory builds) aborts.leads.came v aborts.at) ⊎ ((w ≡ failed_from (lacking_at aborts.place aborts.at)) × ((begun ≡ true) ⊎ Touched (over_memory builds) tree v aborts.at)) → w.net ≡ aborts.at.net
    lost (inl same) = ap (λ x. x.net) same.0
    lost (inr same) = ap (λ x. x.net) same.0

    go : Fails (over_memory builds) aborts.place aborts.fault aborts.at w ⊎ LacksMemory (over_memory builds) begun tree aborts.place aborts.leads.came aborts.fault v aborts.at w → w.net ≡ aborts.at.net
    go (inl fails) = ap (λ x. x.net) fails.same
    go (inr none) = lost none.leaves

pub poll_happens : (builds : Builds) (coding : Coding) (call : Call) (stage stage' : Stage) (v w : SessionValue) (result : Poll Answer) → PollsHere builds coding call stage stage' v w result → PollHappens builds coding call stage stage' v w result
poll_happens builds coding call stage stage' v w result here =
    elim (is_first stage) as (λ b. is_first stage ≡ b → PollHappens builds coding call stage stage' v w result) [
      | true ↦ λ first. by_refusal (refusal_of call v) refl first
      | false ↦ λ on. later (v.channel.failed) refl on
    ] refl
  where
    tree : Tree
    tree = entered_tree coding call stage v.state

    From : Bool → Type 0
    From = λ b. MayPollFrom b call v

    go : (r : Poll Answer) → PollsHere builds coding call stage stage' v w r → MayPollAt stage call v → PollsTo (over_memory builds) (begun_at stage) tree (remaining coding call (entered_state call stage v.state) stage') (entered_at call stage v) w r → PollHappens builds coding call stage stage' v w r
    go (Ready answer) here going (last, inl ends, lets_go) =
        let done : Finishes (over_memory builds) tree answer (entered_at call stage v) w = finishes_by (over_memory builds) tree answer (entered_at call stage v) last w lets_go ends in
        (done.answered, done.goes.net_events tt, λ outcomes left old s answers f may undue. inl (poll_ready builds coding outcomes left old s v w call stage stage' answers answer going done f may here))
    go (Ready answer) here going (last, inr aborts, lets_go) =
        let P : Answer → Type 0 = λ a. Aborts (over_memory builds) (begun_at stage) tree a (entered_at call stage v) last in
        let net_events = net_events-append (plain builds) aborts.leads.answered (drops last.state.counts.owed) v.net last.net w.net (aborted_net_events builds (begun_at stage) tree answer (entered_at call stage v) last aborts) (letting_net_events (Unit {0}) last w (plain builds) tt lets_go) in (
          aborts.leads.answered ++ drops last.state.counts.owed,
          net_events,
          λ outcomes left old s answers f may undue. inr (record { fault = aborts.fault; is = ap Some aborts.is; going = going; last = last; aborts = subst P aborts.is aborts; lets_go = lets_go; given = here.given; sound = here.sound }),
        )
    go Pending here going (last, polls, same) =
        let A : SessionValue → Type 0 = λ x. Advances (over_memory builds) tree (remaining coding call (entered_state call stage v.state) stage') (entered_at call stage v) x × WaitsFor (over_memory builds) (remaining coding call (entered_state call stage v.state) stage') x in
        let made = subst A (sym same) polls in
        (made.0.moves.leads.answered, made.0.moves.leads.goes.net_events tt, λ outcomes left old s answers f may undue. poll_waits builds coding outcomes left old s v w call stage stage' answers undue going (goes_on going) made.0 made.1 f may here)
      where
        goes_on : MayPollAt stage call v → v.channel.failed ≡ false
        goes_on may =
            elim (is_first stage) as (λ b. MayPollFrom b call v → v.channel.failed ≡ false) [
              | true ↦ λ taken. taken_going call v.channel.failed (lacks_of call v) taken (stage_no_local call stage' (here.left_at refl))
              | false ↦ λ on. on
            ] may

    refused : is_first stage ≡ true → (refusal_of call v ≡ Taken → ⊥) → PollHappens builds coding call stage stage' v w result
    refused first none =
        let made = here.refused first none in
        let so = refused_so (plain builds) (Unit {0}) coding call v w made.0 made.2 in
        let P : Poll Answer → Type 0 = λ r. PollHappens builds coding call stage stage' v w r in
        let H : Poll Answer → Type 0 = λ r. PollsHere builds coding call stage stage' v w r in
        let there : PollsHere builds coding call stage stage' v w (Ready made.0) = subst H made.1 here in
        subst P (sym made.1) (so.answered, so.net_events tt, λ outcomes left old s answers f may undue. poll_refused builds coding outcomes left old s v w call stage stage' answers made.0 so f may (λ at. none (subst From first at)) there)

    by_refusal : (r : Refusal) → refusal_of call v ≡ r → is_first stage ≡ true → PollHappens builds coding call stage stage' v w result
    by_refusal Taken is first = go result here (subst From (sym first) is) (here.polls (subst From (sym first) is))
    by_refusal Lacking is first = refused first (λ taken. (let clash : Lacking ≡ Taken = sym is ∙ taken in cc))
    by_refusal Failing is first = refused first (λ taken. (let clash : Failing ≡ Taken = sym is ∙ taken in cc))

    later : (b : Bool) → v.channel.failed ≡ b → is_first stage ≡ false → PollHappens builds coding call stage stage' v w result
    later false going on = go result here (subst From (sym on) going) (here.polls (subst From (sym on) going))
    later true failed on =
        let lost = here.lost on failed in
        let P : Poll Answer → Type 0 = λ r. PollHappens builds coding call stage stage' v w r in
        subst P (sym lost.0) ([], ap (λ x. x.net) lost.1, λ outcomes left old s answers f may undue. absurd (never outcomes left old s answers f))
      where
        never : (outcomes left : List NetOutcome) (old : SessionValue) (s : Script) (answers : List Answer) → Follows builds coding outcomes left old s v (Some call) stage answers → ⊥
        never outcomes left old s answers f = at f.place
          where
            at : Place coding old s f.came f.answered v (Some call) stage → ⊥
            at (inl started) = let clash : true ≡ false = sym (ap is_first started.at) ∙ on in cc
            at (inr (inl u)) = let clash : true ≡ false = sym failed ∙ u.going in cc
            at (inr (inr u)) = let clash : true ≡ false = sym failed ∙ u.going in cc
