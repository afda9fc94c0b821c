-- A dialogue that begins where no reply is due to a command that was dropped leaves none due.
use Rattle.std.proofs.Common.{◌≡◌, ℕ, zero, suc, Bool, true, false, ◌&&◌, ◌==◌, nat_le, nat_lt, drop, length, cond, is_none, List, [], ◌∷◌, ◌++◌, Option, Some, None, Result, Ok, Err, refl, sym, subst}
use Rattle.std.specs.Net.Socket.{socket_port}
use Rattle.std.specs.declared.net.socket_addr.SocketAddr.{SocketAddr}
use Rattle.ftp_base.specs.Status.{code_of, status_of}
use Rattle.ftp_base.specs.declared.status.Status.TheVariants.{TransferAborted, PassiveMode}
use Rattle.ftp_base.specs.declared.command.Command.{Command}
use Rattle.ftp_base.specs.declared.command.Command.TheVariants as command
use Rattle.ftp_base.specs.Command.{text_of}
use Rattle.ftp_base.specs.Wire.{wire}
use Rattle.ftp_base.specs.declared.types.fault.FtpError.{FtpError}
use Rattle.ftp_base.specs.declared.types.fault.FtpError.TheVariants as faults
use Rattle.ftp_base.specs.declared.types.fault.ConnectionError.{ConnectionError}
use Rattle.ftp_base.specs.declared.types.fault.ConnectionError.TheVariants as cause
use Rattle.ftp_base.specs.declared.types.mode.Mode.{Mode}
use Rattle.ftp_base.specs.declared.types.mode.Mode.TheVariants as mode
use Rattle.ftp_base.specs.declared.types.reply.Response.{Response}
use Rattle.ftp_calls.specs.Addresses.{extended_port_of, passive_address_of}
use Rattle.ftp_calls.specs.declared.answers.addresses.NoAddress.{NoAddress}
use Rattle.ftp_transport.specs.declared.request.Request.TheVariants.{Connect}
use Rattle.ftp_transport.specs.declared.request.RequestOutcome.{RequestOutcome}
use Rattle.ftp_transport.specs.declared.request.RequestOutcome.TheVariants.{Done as Made, Address, Refused}
use Rattle.ftp_transport.specs.declared.room.Room.{Room}
use Rattle.ftp_control.specs.Answer.{expected_reply}
use Rattle.ftp_control.specs.Grammar.{left_by, outcome}
use Rattle.ftp_control.specs.declared.control.outcome.Outcome.TheVariants.{Whole, Bad, TooLarge, Ended, Waits}
use Rattle.ftp_calls.specs.Exchanges.{aborts, finishes, negotiates, restarts, row_of}
use Rattle.ftp_calls.specs.declared.call.Answer.{Answer}
use Rattle.ftp_calls.specs.declared.call.Answer.TheVariants.{Fault}
use Rattle.ftp_calls.specs.declared.call.Answer.TheVariants as answer
use Rattle.ftp_calls.specs.declared.call.Call.{Call}
use Rattle.ftp_calls.specs.declared.exchange.Ending.{Ending}
use Rattle.ftp_calls.specs.declared.exchange.Ending.TheVariants as ending
use Rattle.ftp_calls.specs.declared.exchange.Fetch.{Fetch}
use Rattle.ftp_calls.specs.declared.exchange.Fetch.TheVariants.{Whole as WholeFile}
use Rattle.ftp_calls.specs.declared.exchange.Movement.{Movement}
use Rattle.ftp_calls.specs.declared.exchange.Movement.TheVariants as movement
use Rattle.ftp_calls.specs.declared.exchange.Row.{Row}
use Rattle.ftp_calls.specs.declared.exchange.Row.TheVariants.{Exchanges, Arms, Resyncs, Sets, Moves}
use Rattle.ftp_calls.specs.declared.exchange.Task.{Task}
use Rattle.ftp_calls.specs.declared.exchange.Task.TheVariants as tasks
use Rattle.ftp_calls.specs.declared.exchange.Turn.{Turn}
use Rattle.ftp_calls.specs.declared.exchange.Turn.TheVariants.{First, Second, Passive, ExtendedPassive, Active, Restart, Closed, Aborted}
use Rattle.ftp_dialogue.specs.Coding.{Coding}
use Rattle.ftp_dialogue.specs.NetEvents.{answers, constructed, after_request, moved, secured}
use Rattle.ftp_dialogue.specs.Dialogue.{Here, There, Tree, Say, Hear, Look, Ask, Build, Secure, Move, Leaf, aborting, accepted, accepting, admitting, after_fault_of, at_port, breaking_off, carrying, closed_as, closing, closing_data, concluded, connecting_to, connecting_to_peer, dialogue, doing, entered, expected_of, fetch_closing_data, fetch_concluded, fetched, from_turn, gathering, last_turn, later, lets_in, listening, most_reads, moved_answer, negotiating, negotiating_unless, on_address, on_built, on_connection, on_data, on_sent, opened_answer, opened_from, opening, opening_data, passing_over, performing, restart_turn, resyncing, saying, securing, seeking, sending, sending_all, size_to_send, sought, strangers, to_address, to_port, told_of_close, too_long, unfetched, wants_memory, with_abandoned, with_aborted, with_drained, with_fetched, with_finished, with_left, with_transfer, ends_search, most_passed_over, asking_passive, falls_back, on_passive, is_ipv4, expecting}
use Rattle.ftp_base.specs.Ascii.{most_bytes, wire_data}
use Rattle.ftp_dialogue.specs.Laws.{reached}
use Rattle.ftp_dialogue.specs.Play.{Refusal, Taken, Lacking, Failing, asked_then, built_then, finally, fits, heard_then, lacks, leaving, moved_then, secured_then, play, play_call, play_unless, refusal, taken}
use Rattle.ftp_dialogue.specs.Sound.{cannot_open, some_live}
use Rattle.ftp_dialogue.specs.Unanswered.{after_faulty, answered_by, counted_by, one_counted}
use Rattle.ftp_dialogue.specs.declared.model.NetOutcome.{NetOutcome}
use Rattle.ftp_dialogue.specs.declared.model.NetOutcome.TheVariants as came
use Rattle.ftp_dialogue.specs.declared.model.Played.{Played}
use Rattle.ftp_dialogue.specs.declared.model.Played.TheVariants.{Done, Pending}
use Rattle.ftp_dialogue.specs.declared.model.PlayState.{PlayState}
use Rattle.ftp_dialogue.specs.declared.model.Wait.TheVariants as wait
use Rattle.ftp_dialogue.specs.declared.state.State.{State}

-- no reply is due
abbrev pub IsEven : State → Type 0
IsEven state = state.unanswered ≡ 0

-- whatever comes, none is due where a tree ends
abbrev pub StaysEven : Tree → Type 0
StaysEven (Say (Ok line) next) = StaysEven next
StaysEven (Say (Err why) next) = Unit {0}
StaysEven (Hear expected next) = (heard : Result Response FtpError) → StaysEven (next heard)
StaysEven (Look end next) = (address : SocketAddr) → StaysEven (next address)
StaysEven (Ask request next) = (outcome : RequestOutcome) → StaysEven (next outcome)
StaysEven (Build address next) = (fault : Option FtpError) → StaysEven (next fault)
StaysEven (Secure next) = (fault : Option FtpError) → StaysEven (next fault)
StaysEven (Move movement next) = (outcome : NetOutcome) → StaysEven (next outcome)
StaysEven (Leaf told state) = IsEven state

-- The trees

module _ (state : State) (even : IsEven state) where
  address_even : (next : SocketAddr → Tree) → ((address : SocketAddr) → StaysEven (next address)) → (outcome : RequestOutcome) → StaysEven (on_address state next outcome)
  address_even next stays Made = even
  address_even next stays (Address address) = stays address
  address_even next stays (Refused fault) = even

  connection_even : (next : Tree) → StaysEven next → (outcome : RequestOutcome) → StaysEven (on_connection state next outcome)
  connection_even next stays Made = stays
  connection_even next stays (Address address) = stays
  connection_even next stays (Refused fault) = even

  built_even : (next : Tree) → StaysEven next → (fault : Option FtpError) → StaysEven (on_built state next fault)
  built_even next stays None = stays
  built_even next stays (Some fault) = even

  connecting_even : (address : SocketAddr) (next : Tree) → StaysEven next → StaysEven (connecting_to address state next)
  connecting_even address next stays = go state.settings.stream_builder
    where
      go : (b : Bool) → StaysEven (cond b (Build address (on_built state next)) (Ask (Connect address None) (on_connection state next)))
      go true = built_even next stays
      go false = connection_even next stays

  peer_even : (port : ℕ) (next : Tree) → StaysEven next → StaysEven (connecting_to_peer port state next)
  peer_even port next stays = λ peer. connecting_even (at_port port peer) next stays

  admitting_even : (allowed : Bool) (opened others : Tree) → StaysEven opened → StaysEven others → StaysEven (admitting allowed opened others)
  admitting_even true opened others first stays = first
  admitting_even false opened others first stays = stays

  accepting_even : (opened : Tree) → StaysEven opened → (host : SocketAddr) (left : ℕ) → StaysEven (accepting opened host left state)
  unfolding accepting
  accepting_even opened first host zero =
      let late : Tree = Leaf (Fault (faults.ConnectionError cause.TimedOut)) state in
      address_even (λ from. admitting (lets_in state host from) opened late) (λ from. admitting_even (lets_in state host from) opened late first even)
  accepting_even opened first host (suc left) =
      let others : Tree = accepting opened host left state in
      address_even (λ from. admitting (lets_in state host from) opened others) (λ from. admitting_even (lets_in state host from) opened others first (accepting_even opened first host left))

  securing_even : (opened : Tree) → StaysEven opened → StaysEven (securing opened state)
  securing_even opened stays = go state.settings.secure
    where
      go : (b : Bool) → StaysEven (cond b (Secure (on_built state opened)) opened)
      go true = built_even opened stays
      go false = stays

  opening_even : (opened : Tree) → StaysEven opened → (m : Mode) → StaysEven (opening m opened state)
  opening_even opened stays mode.Active = λ host. accepting_even (securing opened state) (securing_even opened stays) host strangers
  opening_even opened stays other = securing_even opened stays

  -- bytes on the data connection
  carrying_even : (m : Movement) → StaysEven (carrying m state)
  carrying_even (movement.Read most) = go (most == 0)
    where
      go : (b : Bool) → StaysEven (cond b (Leaf (answer.Bytes []) state) (Move (movement.Read most) (λ outcome. Leaf (moved_answer outcome) state)))
      go true = even
      go false = λ outcome. even
  carrying_even (movement.Write bytes) = go (length bytes == 0)
    where
      go : (b : Bool) → StaysEven (cond b (Leaf (answer.Count 0) state) (Move (movement.Write bytes) (λ outcome. Leaf (moved_answer outcome) state)))
      go true = even
      go false = λ outcome. even
  carrying_even movement.Close = λ outcome. even

  closing_data_even : (form : Fetch) (told : Answer) → StaysEven (fetch_closing_data form told state)
  closing_data_even form told = λ outcome heard. concluded_even (closed_as (told_of_close state.uploads outcome) told) heard
    where
      concluded_even : (told : Answer) (heard : Result Response FtpError) → StaysEven (fetch_concluded form told state heard)
      concluded_even told (Ok reply) = even
      concluded_even told (Err fault) = elim (wants_memory fault) as (λ b. IsEven (cond b (with_abandoned state) (with_fetched state))) [
        | true ↦ even
        | false ↦ even
      ]

  data_even : (coding : Coding) (form : Fetch) (all : List ℕ) (on : List ℕ → Tree) → ((more : List ℕ) → StaysEven (on more)) → (outcome : NetOutcome) → StaysEven (on_data coding form all on (λ told. fetch_closing_data form told state) outcome)
  data_even coding form all on stays (came.Read []) = closing_data_even form (fetched coding form all)
  data_even coding form all on stays (came.Read (byte ∷ bytes)) = go (nat_le (length (all ++ byte ∷ bytes)) most_bytes)
    where
      go : (b : Bool) → StaysEven (cond b (on (all ++ byte ∷ bytes)) (fetch_closing_data form (too_long form) state))
      go true = stays (all ++ byte ∷ bytes)
      go false = closing_data_even form (too_long form)
  data_even coding form all on stays (came.Failed kind) = closing_data_even form (unfetched form kind)
  data_even coding form all on stays came.NoMemory = closing_data_even form (Fault faults.OutOfMemory)
  data_even coding form all on stays other = closing_data_even form (too_long form)

  gathering_even : (coding : Coding) (form : Fetch) (left : ℕ) (all : List ℕ) → StaysEven (gathering coding form left all state)
  unfolding gathering
  gathering_even coding form zero all = closing_data_even form (too_long form)
  gathering_even coding form (suc left) all = data_even coding form all (λ more. gathering coding form left more state) (λ more. gathering_even coding form left more)

  sent_even : (rest : List ℕ) (on : List ℕ → Tree) → ((more : List ℕ) → StaysEven (on more)) → (outcome : NetOutcome) → StaysEven (on_sent rest on state outcome)
  sent_even rest on stays (came.Wrote count) = stays (drop count rest)
  sent_even rest on stays other = even

  sending_even : (left total : ℕ) (rest : List ℕ) → StaysEven (sending left total rest state)
  unfolding sending
  sending_even zero total [] = closing_data_even WholeFile (answer.Count total)
  sending_even zero total (byte ∷ rest) = even
  sending_even (suc left) total [] = closing_data_even WholeFile (answer.Count total)
  sending_even (suc left) total (byte ∷ rest) = sent_even (byte ∷ rest) (λ more. sending left total more state) (λ more. sending_even left total more)

  sending_all_even : (size : Option ℕ) (bytes : List ℕ) → StaysEven (sending_all size bytes state)
  sending_all_even (Some total) bytes = sending_even total total bytes
  sending_all_even None bytes = even

  performing_even : (coding : Coding) (task : Task) → StaysEven (performing coding task state)
  performing_even coding (tasks.Fetch form) = gathering_even coding form most_reads []
  performing_even coding (tasks.Store bytes) =
      let sent : List ℕ = wire_data state.settings.text bytes in
      sending_all_even (size_to_send sent) sent

  -- the reply of a command that was dropped
  none_due : (state.unanswered == 0) ≡ true
  none_due = rw even refl

  answered_even : (reply : Response) → IsEven (answered_by reply state)
  answered_even reply =
      let P : Bool → Type 0 = λ b. IsEven (cond b state (counted_by reply state)) in
      subst P (sym none_due) even

  bad_even : IsEven (after_faulty faults.BadResponse state)
  bad_even =
      let P : Bool → Type 0 = λ b. IsEven (cond b state (one_counted state)) in
      subst P (sym none_due) even

  faulty_even : (fault : FtpError) → IsEven (after_faulty fault state)
  faulty_even (faults.UnexpectedResponse reply) = answered_even reply
  faulty_even faults.BadResponse = bad_even
  faulty_even other = even

  memory_even : (fault : FtpError) (other : State) → IsEven other → IsEven (cond (wants_memory fault) state other)
  memory_even fault other stays = elim (wants_memory fault) as (λ b. IsEven (cond b state other)) [
    | true ↦ even
    | false ↦ stays
  ]

  fault_even : (how : Ending) (fault : FtpError) → IsEven (after_fault_of how fault state)
  fault_even (ending.Finishes close) fault = memory_even fault (with_finished state) even
  fault_even ending.Drains fault = memory_even fault (with_drained state) even
  fault_even ending.TakesReply fault = faulty_even fault
  fault_even other fault = even

  told_even : (reply : Response) (next : Tree) → StaysEven next → (told : Result SocketAddr NoAddress) → StaysEven (to_address state reply next told)
  told_even reply next stays (Err why) = even
  told_even reply next stays (Ok address) = go state.settings.passive_nat_workaround
    where
      go : (b : Bool) → StaysEven (cond b (connecting_to_peer (socket_port address) state next) (connecting_to address state next))
      go true = peer_even (socket_port address) next stays
      go false = connecting_even address next stays

  port_even : (reply : Response) (next : Tree) → StaysEven next → (told : Result ℕ NoAddress) → StaysEven (to_port state reply next told)
  port_even reply next stays (Err why) = even
  port_even reply next stays (Ok port) = peer_even port next stays

  saying_even : (coding : Coding) (says : Option Command) (next : Tree) → StaysEven next → StaysEven (saying coding says next)
  saying_even coding None next stays = stays
  saying_even coding (Some one) next stays = line_even (wire coding.encode (text_of one))
    where
      line_even : (line : Result (List ℕ) ConnectionError) → StaysEven (Say line next)
      line_even (Ok line) = stays
      line_even (Err why) = tt

  -- an exchange
  module _ (coding : Coding) (after : State → Tree) (stays : StaysEven (after state)) where
    next_if : (b : Bool) (other : State) → IsEven other → StaysEven (cond b (after state) (Leaf answer.Unit other))
    next_if true other stays' = stays
    next_if false other stays' = stays'

    -- the port to connect to; or EPSV was refused, and PASV follows
    passive_even : (heard : Result Response FtpError) → StaysEven (on_passive state after heard)
    passive_even (Ok reply) = told_even reply (after state) stays (passive_address_of reply.body)
    passive_even (Err fault) = even

    port_unless : (b : Bool) (reply : Response) → StaysEven (cond b (asking_passive coding state after) (to_port state reply (after state) (extended_port_of reply.body)))
    port_unless true reply = saying_even coding (Some command.Pasv) (Hear (expecting (PassiveMode ∷ [])) (on_passive state after)) passive_even
    port_unless false reply = port_even reply (after state) stays (extended_port_of reply.body)

    accepted_even : (how : Ending) (reply : Response) → StaysEven (accepted coding how state reply after)
    accepted_even ending.TakesReply reply = answered_even reply
    accepted_even (ending.GoesOn status) reply = next_if (code_of reply.status == code_of status) state even
    accepted_even ending.Continues reply = stays
    accepted_even ending.GivesAddress reply = told_even reply (after state) stays (passive_address_of reply.body)
    accepted_even (ending.GivesPort tries) reply = port_unless (falls_back tries reply) reply
    accepted_even (ending.Opens replies) reply = opening_even (Leaf (opened_answer replies reply) (with_transfer state)) even state.settings.mode
    accepted_even (ending.Performs task) reply = opening_even (performing coding task state) (performing_even coding task) state.settings.mode
    accepted_even ending.Stops reply = next_if (code_of reply.status == code_of TransferAborted) (with_aborted state) even
    accepted_even other reply = even

    concluded_even : (how : Ending) (heard : Result Response FtpError) → StaysEven (concluded coding how state after heard)
    concluded_even how (Ok reply) = accepted_even how reply
    concluded_even how (Err fault) = fault_even how fault

  -- the reply to NOOP is sought
  sought_even : (others : Response → Tree) → ((reply : Response) → StaysEven (others reply)) → (heard : Result Response FtpError) → StaysEven (sought others state heard)
  sought_even others stays (Ok reply) = even
  sought_even others stays (Err (faults.UnexpectedResponse reply)) = stays reply
  sought_even others stays (Err (faults.ConnectionError why)) = even
  sought_even others stays (Err (faults.SecureError text)) = even
  sought_even others stays (Err faults.BadResponse) = even
  sought_even others stays (Err faults.InvalidAddress) = even
  sought_even others stays (Err faults.DataConnectionAlreadyOpen) = even
  sought_even others stays (Err faults.OutOfMemory) = even
  sought_even others stays (Err faults.SessionFailed) = even

  passing_even : (next : Tree) → StaysEven next → (reply : Response) → StaysEven (passing_over next state reply)
  passing_even next stays reply = elim (ends_search reply) as (λ b. StaysEven (cond b (Leaf (Fault (faults.UnexpectedResponse reply)) state) next)) [
    | true ↦ even
    | false ↦ stays
  ]

  seeking_even : (left : ℕ) → StaysEven (seeking left state)
  unfolding seeking
  seeking_even zero = sought_even (λ reply. Leaf (Fault (faults.UnexpectedResponse reply)) state) (λ reply. even)
  seeking_even (suc left) = sought_even (passing_over (seeking left state) state) (passing_even (seeking left state) (seeking_even left))

  resyncing_even : (coding : Coding) → StaysEven (resyncing coding state)
  resyncing_even coding = elim (some_live state.counts.owed) as (λ b. StaysEven (cond b (Leaf (Fault faults.DataConnectionAlreadyOpen) state) (saying coding (Some command.Noop) (seeking most_passed_over state)))) [
    | true ↦ even
    | false ↦ saying_even coding (Some command.Noop) (seeking most_passed_over state) (seeking_even most_passed_over)
  ]

  -- a row
  row_even : (coding : Coding) (row : Row) (after : State → Tree) → StaysEven (after state) → StaysEven (doing coding row state after)
  row_even coding (Exchanges exchange) after stays = saying_even coding exchange.says (Hear (expected_of exchange.hears) (concluded coding exchange.ending state after)) (concluded_even coding after stays exchange.ending)
  row_even coding (Arms offset) after stays = even
  row_even coding Resyncs after stays = resyncing_even coding
  row_even coding (Sets setting) after stays = even
  row_even coding (Moves moves) after stays = carrying_even moves

  -- the turns of a call
  module _ (coding : Coding) (call : Call) where
    last_even : StaysEven (last_turn coding call state)
    last_even = row_even coding (row_of call Second) (λ s. Leaf answer.Unit s) even

    restart_even : (offset : ℕ) → StaysEven (restart_turn coding call offset state)
    restart_even offset = go (restarts call && nat_lt 0 offset)
      where
        go : (b : Bool) → StaysEven (cond b (doing coding (row_of call (Restart offset)) state (last_turn coding call)) (last_turn coding call state))
        go true = row_even coding (row_of call (Restart offset)) (last_turn coding call) last_even
        go false = last_even

    later_even : (turn : Turn) → StaysEven (later coding call turn state)
    later_even Second = even
    later_even (Passive offset after) = restart_even offset
    later_even (ExtendedPassive offset tries) = restart_even offset
    later_even (Active address offset) = restart_even offset
    later_even (Closed close) = even
    later_even other = last_even

    turn_even : (turn : Turn) → StaysEven (from_turn coding call turn state)
    turn_even turn = row_even coding (row_of call turn) (later coding call turn) (later_even turn)

    listening_even : (offset : ℕ) → StaysEven (listening coding call offset state)
    listening_even offset = λ local. address_even (λ bound. from_turn coding call (Active (at_port (socket_port bound) local) offset) state) (λ bound. turn_even (Active (at_port (socket_port bound) local) offset))

    opening_data_even : (m : Mode) (offset : ℕ) → StaysEven (opening_data m coding call offset state)
    opening_data_even mode.Active offset = listening_even offset
    opening_data_even mode.Passive offset = turn_even (Passive offset false)
    opening_data_even mode.ExtendedPassive offset = turn_even (ExtendedPassive offset false)
    opening_data_even mode.Automatic offset = λ peer. turn_even (ExtendedPassive offset (is_ipv4 peer))

    negotiating_even : (offset : ℕ) → StaysEven (negotiating coding call offset state)
    negotiating_even offset = go (cannot_open state.counts)
      where
        go : (fault : Option FtpError) → StaysEven (negotiating_unless fault coding call offset state)
        go (Some fault) = even
        go None = opening_data_even state.settings.mode offset

    ending_even : StaysEven (closing_data coding call state)
    ending_even = elim (aborts call) as (λ b. StaysEven (cond b (aborting coding call state) (closing coding call state))) [
      | true ↦ saying_even coding (Some command.Abor) (breaking_off coding call state) (λ outcome. turn_even Aborted)
      | false ↦ (λ outcome. turn_even (Closed (told_of_close state.uploads outcome)))
    ]

-- a call
entered_even : (call : Call) (state : State) → IsEven state → IsEven (entered call state)
entered_even call state even = elim (negotiates call) as (λ b. IsEven (cond b (opened_from call state) (cond (finishes call) (with_left state) state))) [
  | true ↦ even
  | false ↦ elim (finishes call) as (λ b. IsEven (cond b (with_left state) state)) [
    | true ↦ even
    | false ↦ even
  ]
]

dialogue_even : (coding : Coding) (call : Call) (state : State) → IsEven state → StaysEven (dialogue coding call state)
dialogue_even coding call state even = elim (negotiates call) as (λ b. StaysEven (cond b (negotiating coding call state.settings.restart_offset (opened_from call state)) (cond (finishes call) (closing_data coding call (with_left state)) (from_turn coding call First state)))) [
  | true ↦ negotiating_even (opened_from call state) even coding call state.settings.restart_offset
  | false ↦ elim (finishes call) as (λ b. StaysEven (cond b (closing_data coding call (with_left state)) (from_turn coding call First state))) [
    | true ↦ ending_even (with_left state) even coding call
    | false ↦ turn_even state even coding call First
  ]
]

-- What they result in

abbrev pub PlayedEven : Played → Type 0
PlayedEven played = IsEven (reached played).state

play_even : (room : Room) (tree : Tree) (s : PlayState) → IsEven s.state → StaysEven tree → PlayedEven (play room tree s)
unfolding play
play_even room (Say (Ok line) next) s even stays =
    let all : List ℕ = s.said ++ s.unsent ++ line in
    let here : PlayState = record s { said = all; unsent = [] } in
    elim (fits room all) as (λ f. PlayedEven (cond f (play room next here) (Pending wait.Room here))) [
      | true ↦ play_even room next here even stays
      | false ↦ even
    ]
play_even room (Say (Err why) next) s even stays = even
play_even room (Hear expected next) s even stays =
    let k : Result Response FtpError → PlayState → Played = λ heard t. play room (next heard) t in
    elim (outcome s.state.settings.reply_rule expected.form s.bytes s.ended) as (λ o. PlayedEven (heard_then o expected s k)) [
      | Whole reply code ↦ (let heard = expected_reply expected.statuses (record { status = status_of code; body = reply }) in play_even room (next heard) (taken (left_by (Whole reply code) s.bytes) s) even (stays heard))
      | Bad line ↦ play_even room (next (Err faults.BadResponse)) (taken (left_by (Bad line) s.bytes) s) even (stays (Err faults.BadResponse))
      | TooLarge ↦ play_even room (next (Err (faults.ConnectionError cause.ReplyTooLarge))) (record (taken (left_by TooLarge s.bytes) s) { failed = true }) even (stays (Err (faults.ConnectionError cause.ReplyTooLarge)))
      | Ended ↦ play_even room (next (Err (faults.ConnectionError cause.UnexpectedEof))) (record (taken (left_by Ended s.bytes) s) { failed = true }) even (stays (Err (faults.ConnectionError cause.UnexpectedEof)))
      | Waits ↦ even
    ]
play_even room (Look Here next) s even stays = play_even room (next s.local) s even (stays s.local)
play_even room (Look There next) s even stays = play_even room (next s.peer) s even (stays s.peer)
play_even room (Ask request next) s even stays =
    let k : RequestOutcome → PlayState → Played = λ told t. play room (next told) t in
    elim s.outcomes as (λ o. PlayedEven (asked_then o request s k)) [
      | [] ↦ even
      | came.Answered told ∷ outcomes ↦ play_even room (next told) (record s { net_record = after_request request told s.net_record; outcomes = outcomes }) even (stays told)
      | came.Built fault ∷ outcomes ↦ even
      | came.Secured fault ∷ outcomes ↦ even
      | came.Read bytes ∷ outcomes ↦ even
      | came.Wrote count ∷ outcomes ↦ even
      | came.Closed ∷ outcomes ↦ even
      | came.Failed kind ∷ outcomes ↦ even
      | came.NoMemory ∷ outcomes ↦ even
    ]
play_even room (Build address next) s even stays =
    let k : Option FtpError → PlayState → Played = λ fault t. play room (next fault) t in
    elim s.outcomes as (λ o. PlayedEven (built_then o address s k)) [
      | [] ↦ even
      | came.Answered told ∷ outcomes ↦ even
      | came.Secured fault ∷ outcomes ↦ even
      | came.Built fault ∷ outcomes ↦ play_even room (next fault) (record s { net_record = constructed address fault s.net_record; outcomes = outcomes }) even (stays fault)
      | came.Read bytes ∷ outcomes ↦ even
      | came.Wrote count ∷ outcomes ↦ even
      | came.Closed ∷ outcomes ↦ even
      | came.Failed kind ∷ outcomes ↦ even
      | came.NoMemory ∷ outcomes ↦ even
    ]
play_even room (Secure next) s even stays =
    let k : Option FtpError → PlayState → Played = λ fault t. play room (next fault) t in
    elim s.outcomes as (λ o. PlayedEven (secured_then o s k)) [
      | [] ↦ even
      | came.Answered told ∷ outcomes ↦ even
      | came.Built fault ∷ outcomes ↦ even
      | came.Secured fault ∷ outcomes ↦ play_even room (next fault) (record s { net_record = secured fault s.net_record; outcomes = outcomes }) even (stays fault)
      | came.Read bytes ∷ outcomes ↦ even
      | came.Wrote count ∷ outcomes ↦ even
      | came.Closed ∷ outcomes ↦ even
      | came.Failed kind ∷ outcomes ↦ even
      | came.NoMemory ∷ outcomes ↦ even
    ]
play_even room (Move moves next) s even stays =
    let k : NetOutcome → PlayState → Played = λ outcome t. play room (next outcome) t in
    elim s.outcomes as (λ o. PlayedEven (moved_then o moves s k)) [
      | [] ↦ even
      | outcome ∷ outcomes ↦ (
          let after : PlayState = record s { net_record = moved moves outcome s.net_record; outcomes = outcomes } in
          elim (answers moves outcome) as (λ b. PlayedEven (cond b (play room (next outcome) after) (Pending wait.Outcome s))) [
            | true ↦ play_even room (next outcome) after even (stays outcome)
            | false ↦ even
          ]
          )
    ]
play_even room (Leaf told state) s even stays = stays

finally_even : (played : Played) → PlayedEven played → PlayedEven (finally played)
finally_even (Done told s) even = even
finally_even (Pending how s) even = even

-- a call leaves none due
pub call_even : (room : Room) (coding : Coding) (call : Call) (s : PlayState) → IsEven s.state → PlayedEven (play_call room coding call s)
call_even room coding call s even = go (refusal call s.failed (lacks call (is_none s.net_record.data_conn) s.state.counts.owed))
  where
    go : (why : Refusal) → PlayedEven (play_unless why room coding call s)
    go Taken = finally_even (play room (dialogue coding call s.state) (record s { state = entered call s.state })) (play_even room (dialogue coding call s.state) (record s { state = entered call s.state }) (entered_even call s.state even) (dialogue_even coding call s.state even))
    go Lacking = even
    go Failing = elim (finishes call) as (λ b. IsEven (cond b (leaving s) s).state) [
      | true ↦ even
      | false ↦ even
    ]
