-- What holds of the trees of calls that open a data connection, and of all that they result in.
use Rattle.std.proofs.Common.{◌≡◌, ℕ, zero, suc, Bool, true, false, ◌&&◌, nat_le, nat_lt, drop, length, cond, is_none, List, [], ◌∷◌, ◌++◌, Option, Some, None, Result, Ok, Err, inl, inr, refl, ap, sym, ◌∙◌, subst, append-nil, append_assoc, ◌⊎◌, ◌==◌, not}
use Rattle.std.specs.List.{AllByRecursion}
use Rattle.std.proofs.lemmas.List.Elements.{All-from_recursion}
use Rattle.std.specs.Net.Socket.{socket_ip, socket_port}
use Rattle.std.specs.declared.net.socket_addr.SocketAddr.{SocketAddr}
use Rattle.std.specs.declared.net.socket_addr.SocketAddr.TheVariants.{V4, V6}
use Rattle.std.specs.declared.time.Duration.{Duration}
use Rattle.ftp_base.specs.Status.{status_of, code_of}
use Rattle.ftp_base.specs.declared.command.Command.{Command}
use Rattle.ftp_base.specs.declared.types.fault.FtpError.{FtpError}
use Rattle.ftp_base.specs.declared.types.fault.FtpError.TheVariants.{BadResponse, ConnectionError, DataConnectionAlreadyOpen, OutOfMemory, SessionFailed}
use Rattle.ftp_base.specs.declared.types.fault.ConnectionError.TheVariants.{ReplyTooLarge, TimedOut, UnexpectedEof}
use Rattle.ftp_base.specs.declared.types.mode.Mode.{Mode}
use Rattle.ftp_base.specs.declared.types.mode.Mode.TheVariants as mode
use Rattle.ftp_base.specs.declared.types.reply.Response.{Response}
use Rattle.ftp_calls.specs.Addresses.{passive_address_of, extended_port_of}
use Rattle.ftp_calls.specs.declared.answers.addresses.NoAddress.{NoAddress}
use Rattle.ftp_calls.proofs.Openings.{opens_alike}
use Rattle.ftp_calls.specs.Exchanges.{finishes, is_local, is_opening, negotiates, opens, restarts, row_of}
use Rattle.ftp_calls.specs.declared.call.Answer.{Answer}
use Rattle.ftp_calls.specs.declared.call.Answer.TheVariants.{Fault}
use Rattle.ftp_calls.specs.declared.call.Answer.TheVariants as answer
use Rattle.ftp_calls.specs.declared.call.Call.{Call}
use Rattle.ftp_calls.specs.declared.exchange.Ending.{Ending}
use Rattle.ftp_calls.specs.declared.exchange.Ending.TheVariants.{Continues, GivesAddress, GivesPort, Opens, Performs}
use Rattle.ftp_calls.specs.declared.exchange.Fetch.{Fetch}
use Rattle.ftp_calls.specs.declared.exchange.Fetch.TheVariants.{Whole as WholeFile}
use Rattle.ftp_calls.specs.declared.exchange.Task.{Task}
use Rattle.ftp_calls.specs.declared.exchange.Task.TheVariants as tasks
use Rattle.ftp_calls.specs.declared.exchange.Row.{Row}
use Rattle.ftp_calls.specs.declared.exchange.Row.TheVariants.{Exchanges}
use Rattle.ftp_calls.specs.declared.exchange.Movement.{Movement}
use Rattle.ftp_calls.specs.declared.exchange.Movement.TheVariants as movement
use Rattle.ftp_calls.specs.declared.exchange.Turn.{Turn}
use Rattle.ftp_calls.specs.declared.exchange.Turn.TheVariants.{First, Second, Passive, ExtendedPassive, Active, Restart}
use Rattle.ftp_control.specs.Answer.{expected_reply}
use Rattle.ftp_control.specs.Grammar.{left_by, outcome}
use Rattle.ftp_control.specs.declared.control.outcome.Outcome.TheVariants.{Whole, Bad, TooLarge, Ended, Waits}
use Rattle.ftp_transport.specs.declared.request.Request.{Request}
use Rattle.ftp_transport.specs.declared.request.Request.TheVariants.{Connect, Listen, Accept, Build as BuildAt}
use Rattle.ftp_transport.specs.declared.request.RequestOutcome.{RequestOutcome}
use Rattle.ftp_transport.specs.declared.request.RequestOutcome.TheVariants.{Done as Made, Address, Refused}
use Rattle.ftp_transport.specs.declared.room.Room.{Room}
use Rattle.ftp_dialogue.proofs.Sorts.{finishing_opens, opens_drains_none, opens_no_local, unheld_call}
use Rattle.ftp_dialogue.specs.Coding.{Coding}
use Rattle.ftp_dialogue.specs.NetEvents.{answers, constructed, constructing, during_request, after_request, moved, secured, securing as securing_now, settled}
use Rattle.ftp_dialogue.specs.Dialogue.{Here, There, Tree, Say, Hear, Look, Ask, Build, Secure, Move, Leaf, accepting, admitting, opening_data, at_port, awaiting, closed_as, concluded, connecting_to, connecting_to_peer, dialogue, doing, entered, expected_of, fetch_concluded, fetch_closing_data, fetched, from_turn, gathering, last_turn, later, lets_in, most_reads, negotiating, negotiating_unless, on_address, on_built, on_connection, on_data, on_sent, opened_answer, opened_from, opening, performing, restart_turn, saying, securing, sending, sending_all, size_to_send, strangers, to_address, to_port, told_of_close, too_long, unfetched, with_left, with_transfer, closing_data, wants_memory, with_abandoned, with_fetched, asking_passive, on_passive, is_ipv4}
use Rattle.ftp_base.specs.Ascii.{most_bytes, wire_data}
use Rattle.ftp_dialogue.specs.Laws.{AsksPeerAlone, LeadsTo, UsesPeerHost, offset_after, reached}
use Rattle.ftp_dialogue.specs.Play.{Lacking, asked_then, built_then, finally, fits, heard_then, lacks, leaving, moved_then, secured_then, play, play_call, play_unless, refusal, refused_if_failed, taken}
use Rattle.ftp_dialogue.specs.Sound.{cannot_beside, cannot_open}
use Rattle.ftp_dialogue.specs.declared.model.NetRecord.{NetRecord}
use Rattle.ftp_dialogue.specs.declared.model.NetOutcome.{NetOutcome}
use Rattle.ftp_dialogue.specs.declared.model.NetOutcome.TheVariants as came
use Rattle.ftp_dialogue.specs.declared.model.Played.{Played}
use Rattle.ftp_dialogue.specs.declared.model.Played.TheVariants.{Done, Pending}
use Rattle.ftp_dialogue.specs.declared.model.PlayState.{PlayState}
use Rattle.ftp_dialogue.specs.declared.model.Wait.TheVariants as wait
use Rattle.ftp_dialogue.specs.declared.state.Owed.{Owed}
use Rattle.ftp_dialogue.specs.declared.state.Owed.TheVariants.{Nothing as NoneOwed, Live}
use Rattle.ftp_dialogue.specs.declared.state.State.{State}
use Rattle.ftp_base.specs.declared.status.Status.TheVariants.{ExtendedPassiveMode}

-- no offset is left
abbrev pub NoOffset : State → Type 0
NoOffset state = state.settings.restart_offset ≡ 0

-- whatever comes, a tree asks for requests of this sort alone, and ends with no offset; the peer is known
abbrev pub Keeps : SocketAddr → (Request → Type 0) → Tree → Type 0
Keeps peer Sort (Say line next) = Keeps peer Sort next
Keeps peer Sort (Hear expected next) = (heard : Result Response FtpError) → Keeps peer Sort (next heard)
Keeps peer Sort (Look Here next) = (address : SocketAddr) → Keeps peer Sort (next address)
Keeps peer Sort (Look There next) = Keeps peer Sort (next peer)
Keeps peer Sort (Ask request next) = Sort request × ((outcome : RequestOutcome) → Keeps peer Sort (next outcome))
Keeps peer Sort (Build address next) = Sort (BuildAt address) × ((fault : Option FtpError) → Keeps peer Sort (next fault))
Keeps peer Sort (Secure next) = (fault : Option FtpError) → Keeps peer Sort (next fault)
Keeps peer Sort (Move moves next) = (outcome : NetOutcome) → Keeps peer Sort (next outcome)
Keeps peer Sort (Leaf answer state) = NoOffset state

-- the modes in which a server may tell another host: those that ask by PASV
abbrev pub TellsHost : Mode → Type 0
TellsHost m = (m ≡ mode.Passive) ⊎ (m ≡ mode.Automatic)

-- the requests of the modes are of this sort; a connection to another host is asked for in those modes alone
pub record Admits (peer : SocketAddr) (Sort : Request → Type 0) (state : State) : Type 0 where
  pub listens : (address : SocketAddr) → Sort (Listen address)
  pub accepts : (deadline : Duration) → Sort (Accept deadline)
  pub to_peer : (port : ℕ) → Sort (Connect (at_port port peer) None)
  pub to_others : TellsHost state.settings.mode → state.settings.passive_nat_workaround ≡ false → (address : SocketAddr) → Sort (Connect address None)
  pub builds_to_peer : (port : ℕ) → Sort (BuildAt (at_port port peer))
  pub builds_to_others : TellsHost state.settings.mode → state.settings.passive_nat_workaround ≡ false → (address : SocketAddr) → Sort (BuildAt address)

-- The trees

module _ (peer : SocketAddr) (Sort : Request → Type 0) (state : State) (admits : Admits peer Sort state) (none : NoOffset state) where
  address_keeps : (next : SocketAddr → Tree) → ((address : SocketAddr) → Keeps peer Sort (next address)) → (outcome : RequestOutcome) → Keeps peer Sort (on_address state next outcome)
  address_keeps next keeps Made = none
  address_keeps next keeps (Address address) = keeps address
  address_keeps next keeps (Refused fault) = none

  connection_keeps : (next : Tree) → Keeps peer Sort next → (outcome : RequestOutcome) → Keeps peer Sort (on_connection state next outcome)
  connection_keeps next keeps Made = keeps
  connection_keeps next keeps (Address address) = keeps
  connection_keeps next keeps (Refused fault) = none

  built_keeps : (next : Tree) → Keeps peer Sort next → (fault : Option FtpError) → Keeps peer Sort (on_built state next fault)
  built_keeps next keeps None = keeps
  built_keeps next keeps (Some fault) = none

  -- a connection, whoever makes it
  connecting_keeps : (address : SocketAddr) (next : Tree) → Sort (Connect address None) → Sort (BuildAt address) → Keeps peer Sort next → Keeps peer Sort (connecting_to address state next)
  connecting_keeps address next connects builds keeps = go state.settings.stream_builder
    where
      go : (b : Bool) → Keeps peer Sort (cond b (Build address (on_built state next)) (Ask (Connect address None) (on_connection state next)))
      go true = (builds, built_keeps next keeps)
      go false = (connects, connection_keeps next keeps)

  admitting_keeps : (allowed : Bool) (opened others : Tree) → Keeps peer Sort opened → Keeps peer Sort others → Keeps peer Sort (admitting allowed opened others)
  admitting_keeps true opened others first keeps = first
  admitting_keeps false opened others first keeps = keeps

  module _ (opened : Tree) (first : Keeps peer Sort opened) where
    accepting_keeps : (host : SocketAddr) (left : ℕ) → Keeps peer Sort (accepting opened host left state)
    unfolding accepting
    accepting_keeps host zero =
        let late : Tree = Leaf (Fault (ConnectionError TimedOut)) state in
        (admits.accepts state.settings.active_deadline, address_keeps (λ from. admitting (lets_in state host from) opened late) (λ from. admitting_keeps (lets_in state host from) opened late first none))
    accepting_keeps host (suc left) =
        let others : Tree = accepting opened host left state in
        (admits.accepts state.settings.active_deadline, address_keeps (λ from. admitting (lets_in state host from) opened others) (λ from. admitting_keeps (lets_in state host from) opened others first (accepting_keeps host left)))

  -- a data connection, under TLS in a secure session
  securing_keeps : (opened : Tree) → Keeps peer Sort opened → Keeps peer Sort (securing opened state)
  securing_keeps opened keeps = go state.settings.secure
    where
      go : (b : Bool) → Keeps peer Sort (cond b (Secure (on_built state opened)) opened)
      go true = built_keeps opened keeps
      go false = keeps

  opening_keeps : (opened : Tree) → Keeps peer Sort opened → (m : Mode) → Keeps peer Sort (opening m opened state)
  opening_keeps opened keeps mode.Active = accepting_keeps (securing opened state) (securing_keeps opened keeps) peer strangers
  opening_keeps opened keeps other = securing_keeps opened keeps

  -- a whole data connection is read
  closing_data_keeps : (form : Fetch) (answer : Answer) → Keeps peer Sort (fetch_closing_data form answer state)
  closing_data_keeps form answer = λ came heard. concluded_keeps (closed_as (told_of_close state.uploads came) answer) heard
    where
      concluded_keeps : (told : Answer) (heard : Result Response FtpError) → Keeps peer Sort (fetch_concluded form told state heard)
      concluded_keeps told (Ok reply) = none
      concluded_keeps told (Err fault) = elim (wants_memory fault) as (λ b. NoOffset (cond b (with_abandoned state) (with_fetched state))) [
        | true ↦ none
        | false ↦ none
      ]

  data_keeps : (coding : Coding) (form : Fetch) (all : List ℕ) (on : List ℕ → Tree) → ((more : List ℕ) → Keeps peer Sort (on more)) → (outcome : NetOutcome) → Keeps peer Sort (on_data coding form all on (λ answer. fetch_closing_data form answer state) outcome)
  data_keeps coding form all on keeps (came.Read []) = closing_data_keeps form (fetched coding form all)
  data_keeps coding form all on keeps (came.Read (byte ∷ bytes)) = grown_keeps (all ++ byte ∷ bytes) (nat_le (length (all ++ byte ∷ bytes)) most_bytes)
    where
      grown_keeps : (more : List ℕ) (b : Bool) → Keeps peer Sort (cond b (on more) (fetch_closing_data form (too_long form) state))
      grown_keeps more true = keeps more
      grown_keeps more false = closing_data_keeps form (too_long form)
  data_keeps coding form all on keeps (came.Failed kind) = closing_data_keeps form (unfetched form kind)
  data_keeps coding form all on keeps came.NoMemory = closing_data_keeps form (Fault OutOfMemory)
  data_keeps coding form all on keeps other = closing_data_keeps form (too_long form)

  gathering_keeps : (coding : Coding) (form : Fetch) (left : ℕ) (all : List ℕ) → Keeps peer Sort (gathering coding form left all state)
  unfolding gathering
  gathering_keeps coding form zero all = closing_data_keeps form (too_long form)
  gathering_keeps coding form (suc left) all = data_keeps coding form all (λ more. gathering coding form left more state) (λ more. gathering_keeps coding form left more)

  -- a whole upload
  module _ (rest : List ℕ) (on : List ℕ → Tree) (keeps : (more : List ℕ) → Keeps peer Sort (on more)) where
    sent_keeps : (outcome : NetOutcome) → Keeps peer Sort (on_sent rest on state outcome)
    sent_keeps (came.Wrote count) = keeps (drop count rest)
    sent_keeps other = none

  sending_keeps : (left total : ℕ) (rest : List ℕ) → Keeps peer Sort (sending left total rest state)
  unfolding sending
  sending_keeps zero total [] = closing_data_keeps WholeFile (answer.Count total)
  sending_keeps zero total (byte ∷ rest) = none
  sending_keeps (suc left) total [] = closing_data_keeps WholeFile (answer.Count total)
  sending_keeps (suc left) total (byte ∷ rest) = sent_keeps (byte ∷ rest) (λ more. sending left total more state) (λ more. sending_keeps left total more)

  sending_all_keeps : (size : Option ℕ) (bytes : List ℕ) → Keeps peer Sort (sending_all size bytes state)
  sending_all_keeps (Some total) bytes = sending_keeps total total bytes
  sending_all_keeps None bytes = none

  performing_keeps : (coding : Coding) (task : Task) → Keeps peer Sort (performing coding task state)
  performing_keeps coding (tasks.Fetch form) = gathering_keeps coding form most_reads []
  performing_keeps coding (tasks.Store bytes) =
      let bytes_sent : List ℕ = wire_data state.settings.text bytes in
      sending_all_keeps (size_to_send bytes_sent) bytes_sent

  saying_keeps : (coding : Coding) (command : Option Command) (next : Tree) → Keeps peer Sort next → Keeps peer Sort (saying coding command next)
  saying_keeps coding None next keeps = keeps
  saying_keeps coding (Some command) next keeps = keeps

  -- the row of the command itself
  module _ (coding : Coding) (after : State → Tree) where
    ending_keeps : (ending : Ending) → is_opening ending ≡ true → (heard : Result Response FtpError) → Keeps peer Sort (concluded coding ending state after heard)
    ending_keeps (Opens gives_reply) is (Ok reply) = opening_keeps (Leaf (opened_answer gives_reply reply) (with_transfer state)) none state.settings.mode
    ending_keeps (Opens gives_reply) is (Err fault) = none
    ending_keeps (Performs task) is (Ok reply) = opening_keeps (performing coding task state) (performing_keeps coding task) state.settings.mode
    ending_keeps (Performs task) is (Err fault) = none
    ending_keeps other is heard = let clash : false ≡ true = is in cc

    row_keeps : (row : Row) → opens row ≡ true → Keeps peer Sort (doing coding row state after)
    row_keeps (Exchanges exchange) is = saying_keeps coding exchange.says (awaiting coding (expected_of exchange.hears) exchange.ending state after) (ending_keeps exchange.ending is)
    row_keeps other is = let clash : false ≡ true = is in cc

  module _ (coding : Coding) (call : Call) (negotiates_is : negotiates call ≡ true) (offset : ℕ) where
    last_keeps : Keeps peer Sort (last_turn coding call state)
    last_keeps = row_keeps coding (λ s. Leaf answer.Unit s) (row_of call Second) (opens_alike call ∙ negotiates_is)

    -- a reply that only goes on
    continued_keeps : (after : State → Tree) → Keeps peer Sort (after state) → (heard : Result Response FtpError) → Keeps peer Sort (concluded coding Continues state after heard)
    continued_keeps after keeps (Ok reply) = keeps
    continued_keeps after keeps (Err fault) = none

    restart_keeps : Keeps peer Sort (restart_turn coding call offset state)
    restart_keeps = go (restarts call && nat_lt 0 offset)
      where
        go : (b : Bool) → Keeps peer Sort (cond b (doing coding (row_of call (Restart offset)) state (last_turn coding call)) (last_turn coding call state))
        go true = continued_keeps (last_turn coding call) last_keeps
        go false = last_keeps

    -- where the server told to connect
    peer_keeps : (port : ℕ) → Keeps peer Sort (connecting_to_peer port state (restart_turn coding call offset state))
    peer_keeps port = connecting_keeps (at_port port peer) (restart_turn coding call offset state) (admits.to_peer port) (admits.builds_to_peer port) restart_keeps

    told_keeps : TellsHost state.settings.mode → (reply : Response) (told : Result SocketAddr NoAddress) → Keeps peer Sort (to_address state reply (restart_turn coding call offset state) told)
    told_keeps passive reply (Err cause) = none
    told_keeps passive reply (Ok address) = go state.settings.passive_nat_workaround refl
      where
        next : Tree
        next = restart_turn coding call offset state

        go : (b : Bool) → state.settings.passive_nat_workaround ≡ b → Keeps peer Sort (cond b (connecting_to_peer (socket_port address) state next) (connecting_to address state next))
        go true is = peer_keeps (socket_port address)
        go false is = connecting_keeps address next (admits.to_others passive is address) (admits.builds_to_others passive is address) restart_keeps

    port_keeps : (reply : Response) (told : Result ℕ NoAddress) → Keeps peer Sort (to_port state reply (restart_turn coding call offset state) told)
    port_keeps reply (Err cause) = none
    port_keeps reply (Ok port) = peer_keeps port

    passive_keeps : TellsHost state.settings.mode → (heard : Result Response FtpError) → Keeps peer Sort (concluded coding GivesAddress state (later coding call (Passive offset false)) heard)
    passive_keeps passive (Ok reply) = told_keeps passive reply (passive_address_of reply.body)
    passive_keeps passive (Err fault) = none

    -- EPSV was refused, and PASV follows
    fallen_keeps : TellsHost state.settings.mode → (heard : Result Response FtpError) → Keeps peer Sort (on_passive state (restart_turn coding call offset) heard)
    fallen_keeps passive (Ok reply) = told_keeps passive reply (passive_address_of reply.body)
    fallen_keeps passive (Err fault) = none

    extended_keeps : (tries : Bool) → (tries ≡ true → TellsHost state.settings.mode) → (heard : Result Response FtpError) → Keeps peer Sort (concluded coding (GivesPort tries) state (later coding call (ExtendedPassive offset tries)) heard)
    extended_keeps false may (Ok reply) = port_keeps reply (extended_port_of reply.body)
    extended_keeps true may (Ok reply) = go (not (code_of reply.status == code_of ExtendedPassiveMode))
      where
        go : (b : Bool) → Keeps peer Sort (cond b (asking_passive coding state (later coding call (ExtendedPassive offset true))) (to_port state reply (restart_turn coding call offset state) (extended_port_of reply.body)))
        go true = fallen_keeps (may refl)
        go false = port_keeps reply (extended_port_of reply.body)
    extended_keeps false may (Err fault) = none
    extended_keeps true may (Err fault) = none

    -- the turn that tells the server where the client listens
    abbrev told_at : SocketAddr → SocketAddr → Turn
    told_at local bound = Active (at_port (socket_port bound) local) offset

    opening_data_keeps : (m : Mode) → state.settings.mode ≡ m → Keeps peer Sort (opening_data m coding call offset state)
    opening_data_keeps mode.Active is = λ local.
        (admits.listens (at_port 0 local), address_keeps (λ bound. from_turn coding call (told_at local bound) state) (λ bound. continued_keeps (later coding call (told_at local bound)) restart_keeps))
    opening_data_keeps mode.Passive is = passive_keeps (inl is)
    opening_data_keeps mode.ExtendedPassive is = extended_keeps false (λ tries. let clash : false ≡ true = tries in cc)
    opening_data_keeps mode.Automatic is = extended_keeps (is_ipv4 peer) (λ tries. inr is)

    negotiating_keeps : Keeps peer Sort (negotiating coding call offset state)
    negotiating_keeps = go (cannot_open state.counts)
      where
        go : (fault : Option FtpError) → Keeps peer Sort (negotiating_unless fault coding call offset state)
        go (Some fault) = none
        go None = opening_data_keeps state.settings.mode refl

-- What a tree results in

-- no offset is left, and after these requests there are more of this sort alone
pub record Reaches (Sort : Request → Type 0) (before : List Request) (played : Played) : Type 0 where
  pub none : offset_after played ≡ 0
  pub more : List Request
  pub asked : (reached played).net_record.asked ≡ before ++ more
  pub sorted : AllByRecursion Sort more

module _ (Sort : Request → Type 0) where
  -- nothing was asked
  stays : (before : List Request) (played : Played) → offset_after played ≡ 0 → (reached played).net_record.asked ≡ before → Reaches Sort before played
  stays before played none same = record { none = none; more = []; asked = same ∙ sym (append-nil before); sorted = tt }

  -- one request was made first
  asks : (before : List Request) (request : Request) (played : Played) → Sort request → Reaches Sort (before ++ request ∷ []) played → Reaches Sort before played
  asks before request played sort r = record {
    none = r.none;
    more = request ∷ r.more;
    asked = r.asked ∙ append_assoc before (request ∷ []) r.more;
    sorted = (sort, r.sorted);
  }

  -- what is done on the data connection is no request
  moved_asks : (moves : Movement) (outcome : NetOutcome) (d : NetRecord) → (moved moves outcome d).asked ≡ d.asked
  moved_asks (movement.Read most) outcome d = refl
  moved_asks other outcome d = refl

  -- a request waits for its outcome
  abbrev waiting : Request → PlayState → Played
  waiting request s = Pending wait.Outcome (record s { net_record = during_request request s.net_record })

  play_reaches : (room : Room) (tree : Tree) (s : PlayState) → NoOffset s.state → Keeps s.peer Sort tree → Reaches Sort s.net_record.asked (play room tree s)
  unfolding play
  play_reaches room (Say (Ok line) next) s none keeps =
      let all : List ℕ = s.said ++ s.unsent ++ line in
      let here : PlayState = record s { said = all; unsent = [] } in
      elim (fits room all) as (λ f. Reaches Sort s.net_record.asked (cond f (play room next here) (Pending wait.Room here))) [
        | true ↦ play_reaches room next here none keeps
        | false ↦ stays s.net_record.asked (Pending wait.Room here) none refl
      ]
  play_reaches room (Say (Err cause) next) s none keeps = stays s.net_record.asked (Done (Fault (ConnectionError cause)) s) none refl
  play_reaches room (Hear expected next) s none keeps =
      let k : Result Response FtpError → PlayState → Played = λ heard t. play room (next heard) t in
      elim (outcome s.state.settings.reply_rule expected.form s.bytes s.ended) as (λ o. Reaches Sort s.net_record.asked (heard_then o expected s k)) [
        | Whole reply code ↦ (let heard = expected_reply expected.statuses (record { status = status_of code; body = reply }) in play_reaches room (next heard) (taken (left_by (Whole reply code) s.bytes) s) none (keeps heard))
        | Bad line ↦ play_reaches room (next (Err BadResponse)) (taken (left_by (Bad line) s.bytes) s) none (keeps (Err BadResponse))
        | TooLarge ↦ play_reaches room (next (Err (ConnectionError ReplyTooLarge))) (record (taken (left_by TooLarge s.bytes) s) { failed = true }) none (keeps (Err (ConnectionError ReplyTooLarge)))
        | Ended ↦ play_reaches room (next (Err (ConnectionError UnexpectedEof))) (record (taken (left_by Ended s.bytes) s) { failed = true }) none (keeps (Err (ConnectionError UnexpectedEof)))
        | Waits ↦ stays s.net_record.asked (Pending (wait.Bytes expected.form) s) none refl
      ]
  play_reaches room (Look Here next) s none keeps = play_reaches room (next s.local) s none (keeps s.local)
  play_reaches room (Look There next) s none keeps = play_reaches room (next s.peer) s none keeps
  play_reaches room (Ask request next) s none keeps =
      let k : RequestOutcome → PlayState → Played = λ answer t. play room (next answer) t in
      let waits : Reaches Sort s.net_record.asked (waiting request s) = asks s.net_record.asked request (waiting request s) keeps.0 (stays (s.net_record.asked ++ request ∷ []) (waiting request s) none refl) in
      elim s.outcomes as (λ o. Reaches Sort s.net_record.asked (asked_then o request s k)) [
        | [] ↦ waits
        | came.Answered outcome ∷ outcomes ↦ (let after : PlayState = record s { net_record = after_request request outcome s.net_record; outcomes = outcomes } in asks s.net_record.asked request (play room (next outcome) after) keeps.0 (play_reaches room (next outcome) after none (keeps.1 outcome)))
        | came.Built fault ∷ outcomes ↦ waits
        | came.Secured fault ∷ outcomes ↦ waits
        | came.Read bytes ∷ outcomes ↦ waits
        | came.Wrote count ∷ outcomes ↦ waits
        | came.Closed ∷ outcomes ↦ waits
        | came.Failed kind ∷ outcomes ↦ waits
        | came.NoMemory ∷ outcomes ↦ waits
      ]
  play_reaches room (Build address next) s none keeps =
      let k : Option FtpError → PlayState → Played = λ fault t. play room (next fault) t in
      let later : Played = Pending wait.Outcome (record s { net_record = constructing address s.net_record }) in
      let waits : Reaches Sort s.net_record.asked later = asks s.net_record.asked (BuildAt address) later keeps.0 (stays (s.net_record.asked ++ BuildAt address ∷ []) later none refl) in
      elim s.outcomes as (λ o. Reaches Sort s.net_record.asked (built_then o address s k)) [
        | [] ↦ waits
        | came.Answered outcome ∷ outcomes ↦ waits
        | came.Secured fault ∷ outcomes ↦ waits
        | came.Built fault ∷ outcomes ↦ (let after : PlayState = record s { net_record = constructed address fault s.net_record; outcomes = outcomes } in asks s.net_record.asked (BuildAt address) (play room (next fault) after) keeps.0 (play_reaches room (next fault) after none (keeps.1 fault)))
        | came.Read bytes ∷ outcomes ↦ waits
        | came.Wrote count ∷ outcomes ↦ waits
        | came.Closed ∷ outcomes ↦ waits
        | came.Failed kind ∷ outcomes ↦ waits
        | came.NoMemory ∷ outcomes ↦ waits
      ]
  play_reaches room (Secure next) s none keeps =
      let k : Option FtpError → PlayState → Played = λ fault t. play room (next fault) t in
      let later : Played = Pending wait.Outcome (record s { net_record = securing_now s.net_record }) in
      let waits : Reaches Sort s.net_record.asked later = stays s.net_record.asked later none refl in
      elim s.outcomes as (λ o. Reaches Sort s.net_record.asked (secured_then o s k)) [
        | [] ↦ waits
        | came.Answered outcome ∷ outcomes ↦ waits
        | came.Built fault ∷ outcomes ↦ waits
        | came.Secured fault ∷ outcomes ↦ (let after : PlayState = record s { net_record = secured fault s.net_record; outcomes = outcomes } in play_reaches room (next fault) after none (keeps fault))
        | came.Read bytes ∷ outcomes ↦ waits
        | came.Wrote count ∷ outcomes ↦ waits
        | came.Closed ∷ outcomes ↦ waits
        | came.Failed kind ∷ outcomes ↦ waits
        | came.NoMemory ∷ outcomes ↦ waits
      ]
  play_reaches room (Move moves next) s none keeps =
      let k : NetOutcome → PlayState → Played = λ outcome t. play room (next outcome) t in
      let waits : Reaches Sort s.net_record.asked (Pending wait.Outcome s) = stays s.net_record.asked (Pending wait.Outcome s) none refl in
      elim s.outcomes as (λ o. Reaches Sort s.net_record.asked (moved_then o moves s k)) [
        | [] ↦ waits
        | outcome ∷ outcomes ↦ (
            let after : PlayState = record s { net_record = moved moves outcome s.net_record; outcomes = outcomes } in
            let From : List Request → Type 0 = λ before. Reaches Sort before (play room (next outcome) after) in
            elim (answers moves outcome) as (λ b. Reaches Sort s.net_record.asked (cond b (play room (next outcome) after) (Pending wait.Outcome s))) [
              | true ↦ subst From (moved_asks moves outcome s.net_record) (play_reaches room (next outcome) after none (keeps outcome))
              | false ↦ waits
            ]
            )
      ]
  play_reaches room (Leaf answer state) s none keeps = stays s.net_record.asked (Done answer (record s { state = state })) keeps refl

  -- the data connection that is let go was not asked for
  finally_reaches : (before : List Request) (played : Played) → Reaches Sort before played → Reaches Sort before (finally played)
  finally_reaches before (Done answer s) r = go s.state.counts.owed
    where
      go : (owed : Owed) → Reaches Sort before (Done answer (record s { net_record = settled owed s.net_record }))
      go NoneOwed = record { none = r.none; more = r.more; asked = r.asked; sorted = r.sorted }
      go other = record { none = r.none; more = r.more; asked = r.asked; sorted = r.sorted }
  finally_reaches before (Pending how s) r = r

-- What a call results in

module _ (coding : Coding) (call : Call) (opens_is : negotiates call ≡ true) where
  -- it is of the control connection, and of no transfer that is held
  abroad : is_local call ≡ false
  abroad = opens_no_local call opens_is

  ends_none : finishes call ≡ false
  ends_none = go (finishes call) refl
    where
      go : (b : Bool) → finishes call ≡ b → finishes call ≡ false
      go true is = let clash : true ≡ false = sym opens_is ∙ finishing_opens call is in cc
      go false is = is

  -- so it is refused by a session that has failed, and by no other
  refused_as : (failed lacks : Bool) → refusal call failed lacks ≡ refused_if_failed false failed
  refused_as failed lacks =
      ap (λ held. cond (held && lacks) Lacking (refused_if_failed (is_local call) failed)) (unheld_call call abroad ends_none (opens_drains_none call opens_is))
      ∙ ap (λ local. refused_if_failed local failed) abroad

  data_dialogue : (state : State) → dialogue coding call state ≡ negotiating coding call state.settings.restart_offset (opened_from call state)
  data_dialogue state =
      ap (λ b. cond b (negotiating coding call state.settings.restart_offset (opened_from call state)) (cond (finishes call) (closing_data coding call (with_left state)) (from_turn coding call First state))) opens_is

  data_entered : (state : State) → entered call state ≡ opened_from call state
  data_entered state = ap (λ b. cond b (opened_from call state) (cond (finishes call) (with_left state) state)) opens_is

  -- it is made where the session goes on
  goes_on : (room : Room) (s : PlayState) → s.failed ≡ false → play_call room coding call s ≡ finally (play room (negotiating coding call s.state.settings.restart_offset (opened_from call s.state)) (record s { state = opened_from call s.state }))
  goes_on room s going =
      ap (λ r. play_unless r room coding call s) (refused_as s.failed (lacks call (is_none s.net_record.data_conn) s.state.counts.owed) ∙ ap (refused_if_failed false) going)
      ∙ ap (λ tree. finally (play room tree (record s { state = entered call s.state }))) (data_dialogue s.state)
      ∙ ap (λ state. finally (play room (negotiating coding call s.state.settings.restart_offset (opened_from call s.state)) (record s { state = state }))) (data_entered s.state)

  -- beside a live transfer nothing is said, taken or asked
  pub live_refuses : (room : Room) (s : PlayState) (number : ℕ) → s.failed ≡ false → s.state.counts.owed ≡ Live number → play_call room coding call s ≡ Done (Fault DataConnectionAlreadyOpen) (record s { state = opened_from call s.state })
  unfolding play
  live_refuses room s number going live =
      let start : State = opened_from call s.state in
      let here : PlayState = record s { state = start } in
      let refusal_is : Answer = Fault DataConnectionAlreadyOpen in
      goes_on room s going
      ∙ ap (λ owed. finally (play room (negotiating_unless (cannot_beside owed s.state.counts.opened) coding call s.state.settings.restart_offset start) here)) live
      ∙ ap (λ owed. Done refusal_is (record here { net_record = settled owed s.net_record })) live

  going_reaches : (Sort : Request → Type 0) (room : Room) (s : PlayState) → s.failed ≡ false → Admits s.peer Sort (opened_from call s.state) → Reaches Sort s.net_record.asked (play_call room coding call s)
  going_reaches Sort room s going admits =
      let start : State = opened_from call s.state in
      let P : Played → Type 0 = λ played. Reaches Sort s.net_record.asked played in
      let tree : Tree = negotiating coding call s.state.settings.restart_offset start in
      let here : PlayState = record s { state = start } in
      let keeps : Keeps s.peer Sort tree = negotiating_keeps s.peer Sort start admits refl coding call opens_is s.state.settings.restart_offset in
      subst P (sym (goes_on room s going)) (finally_reaches Sort s.net_record.asked (play room tree here) (play_reaches Sort room tree here refl keeps))

  -- the offset is gone
  pub takes_offset : (room : Room) (s : PlayState) → s.failed ≡ false → offset_after (play_call room coding call s) ≡ 0
  takes_offset room s going =
      let all : Admits s.peer (λ request. Unit {0}) (opened_from call s.state) = record {
        listens = λ address. tt;
        accepts = λ deadline. tt;
        to_peer = λ port. tt;
        to_others = λ passive told address. tt;
        builds_to_peer = λ port. tt;
        builds_to_others = λ passive told address. tt;
      } in
      (going_reaches (λ request. Unit {0}) room s going all).none

  -- a port changes no host
  same_ip : (port : ℕ) (address : SocketAddr) → socket_ip (at_port port address) ≡ socket_ip address
  same_ip port (V4 address) = refl
  same_ip port (V6 address) = refl

  -- where the host is the peer's, the transport is asked for no other
  pub asks_peer : (room : Room) (s : PlayState) → UsesPeerHost s.state.settings → AsksPeerAlone s (play_call room coding call s)
  asks_peer room s passes = go s.failed refl
    where
      others : UsesPeerHost s.state.settings → TellsHost s.state.settings.mode → s.state.settings.passive_nat_workaround ≡ false → (address : SocketAddr) → LeadsTo s.peer (Connect address None)
      others (inl extended) (inl passive) told address = let clash : mode.Passive ≡ mode.ExtendedPassive = sym passive ∙ extended in cc
      others (inl extended) (inr automatic) told address = let clash : mode.Automatic ≡ mode.ExtendedPassive = sym automatic ∙ extended in cc
      others (inr behind) passive told address = let clash : true ≡ false = sym behind.1 ∙ told in cc

      admits : Admits s.peer (LeadsTo s.peer) (opened_from call s.state)
      admits = record {
        listens = λ address. tt;
        accepts = λ deadline. tt;
        to_peer = λ port. same_ip port s.peer;
        to_others = others passes;
        builds_to_peer = λ port. same_ip port s.peer;
        builds_to_others = others passes;
      }

      alone : Reaches (LeadsTo s.peer) s.net_record.asked (play_call room coding call s) → AsksPeerAlone s (play_call room coding call s)
      alone r = record { more = r.more; asked = r.asked; to_peer = All-from_recursion (LeadsTo s.peer) r.more r.sorted }

      -- a session that has failed asks for nothing
      failing : s.failed ≡ true → play_call room coding call s ≡ Done (Fault SessionFailed) s
      failing is =
          ap (λ r. play_unless r room coding call s) (refused_as s.failed (lacks call (is_none s.net_record.data_conn) s.state.counts.owed) ∙ ap (refused_if_failed false) is)
          ∙ ap (λ ends. Done (Fault SessionFailed) (cond ends (leaving s) s)) ends_none

      go : (f : Bool) → s.failed ≡ f → AsksPeerAlone s (play_call room coding call s)
      go true is =
          let P : Played → Type 0 = λ played. AsksPeerAlone s played in
          subst P (sym (failing is)) (record { more = []; asked = sym (append-nil s.net_record.asked); to_peer = All-from_recursion (LeadsTo s.peer) [] tt })
      go false is = alone (going_reaches (LeadsTo s.peer) room s is admits)
