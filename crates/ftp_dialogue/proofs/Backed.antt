-- Why an answer is an error of its connection, or `SessionFailed`: each such answer of a dialogue has its reason, which is an
-- outcome since, of a call that may ask something beside the control connection, or one that was there before.
use Rattle.std.proofs.Common.{◌≡◌, ◌&&◌, ◌++◌, ℕ, zero, suc, Bool, true, false, cond, drop, nat_lt, nat_le, length, List, [], ◌∷◌, Option, Some, None, Result, Ok, Err, inl, inr, ◌⊎◌, refl, ap, sym, subst, eqb}
use Rattle.std.specs.Net.Socket.{socket_port}
use Rattle.std.specs.declared.io.ErrorKind.{ErrorKind}
use Rattle.std.specs.declared.io.ErrorKind.TheVariants.{WriteZero}
use Rattle.std.specs.declared.net.socket_addr.SocketAddr.{SocketAddr}
use Rattle.ftp_base.specs.Ascii.{most_bytes, wire_data}
use Rattle.ftp_base.specs.Command.{text_of}
use Rattle.ftp_base.specs.Line.{before_crlf, ends_in_crlf, has_line_break}
use Rattle.ftp_base.specs.Telnet.{escaped}
use Rattle.ftp_base.specs.Wire.{line_of, unless, wire}
use Rattle.ftp_base.specs.declared.command.Command.{Command}
use Rattle.ftp_base.specs.declared.command.Command.TheVariants as command
use Rattle.ftp_base.specs.declared.status.Status.TheVariants.{CommandOk, PassiveMode, RequestFilePending}
use Rattle.ftp_base.specs.declared.types.fault.ConnectionError.{ConnectionError as Cause}
use Rattle.ftp_base.specs.declared.types.fault.ConnectionError.TheVariants as cause
use Rattle.ftp_base.specs.declared.types.fault.FtpError.{FtpError}
use Rattle.ftp_base.specs.declared.types.fault.FtpError.TheVariants as faults
use Rattle.ftp_base.specs.declared.types.mode.Mode.{Mode}
use Rattle.ftp_base.specs.declared.types.mode.Mode.TheVariants as mode
use Rattle.ftp_base.specs.declared.types.reply.Response.{Response}
use Rattle.ftp_transport.specs.declared.request.Request.TheVariants.{Connect}
use Rattle.ftp_transport.specs.declared.request.RequestOutcome.{RequestOutcome}
use Rattle.ftp_transport.specs.declared.request.RequestOutcome.TheVariants.{Done as Made, Address, Refused}
use Rattle.ftp_calls.specs.Active.{port_command}
use Rattle.ftp_calls.specs.Addresses.{passive_address_of, extended_port_of}
use Rattle.ftp_calls.specs.Exchanges.{restarts, row_of, extended_codes}
use Rattle.ftp_calls.specs.declared.answers.addresses.NoAddress.{NoAddress}
use Rattle.ftp_calls.specs.declared.answers.addresses.NoAddress.TheVariants.{Absent, Unreadable}
use Rattle.ftp_calls.specs.declared.call.Answer.{Answer}
use Rattle.ftp_calls.specs.declared.call.Answer.TheVariants.{Fault}
use Rattle.ftp_calls.specs.declared.call.Answer.TheVariants as answer
use Rattle.ftp_calls.specs.declared.call.Call.{Call}
use Rattle.ftp_calls.specs.declared.exchange.Codes.TheVariants.{One}
use Rattle.ftp_calls.specs.declared.exchange.Ending.TheVariants as ending
use Rattle.ftp_calls.specs.declared.exchange.Fetch.{Fetch}
use Rattle.ftp_calls.specs.declared.exchange.Fetch.TheVariants.{Whole, Listed}
use Rattle.ftp_calls.specs.declared.exchange.Movement.{Movement}
use Rattle.ftp_calls.specs.declared.exchange.Movement.TheVariants as movement
use Rattle.ftp_calls.specs.declared.exchange.Turn.{Turn}
use Rattle.ftp_calls.specs.declared.exchange.Turn.TheVariants.{Passive, ExtendedPassive, Active, Restart}
use Rattle.ftp_dialogue.specs.Coding.{Coding}
use Rattle.ftp_dialogue.specs.Counted.{IsAmong, given_by}
use Rattle.ftp_dialogue.specs.Dialogue.{Tree, Say, Hear, Look, Ask, Build, Secure, Move, Leaf, accepting, admitting, after_fetch, at_port, carrying, closed_as, concluded, connecting_to, connecting_to_peer, doing, expected_of, fetch_closing_data, fetch_concluded, fetch_ending, fetched, from_turn, gathering, last_turn, later, lets_in, moved_answer, negotiating, negotiating_unless, on_address, on_built, on_connection, on_data, on_sent, opening, opening_data, restart_turn, saying, securing, sending, sending_all, size_to_send, storing, strangers, to_address, to_port, told_of_close, too_long, unfetched, with_abandoned, with_fetched, accepted, asking_passive, falls_back, on_passive, is_ipv4, expecting}
use Rattle.ftp_dialogue.specs.Promises.{answer_of}
use Rattle.ftp_dialogue.specs.Sound.{cannot_open}
use Rattle.ftp_dialogue.specs.Within.{IsOfBytes, MayHear, Within}
use Rattle.ftp_dialogue.specs.declared.model.NetOutcome.{NetOutcome}
use Rattle.ftp_dialogue.specs.declared.model.NetOutcome.TheVariants as came
use Rattle.ftp_dialogue.specs.declared.state.State.{State}

-- the errors that are returned for a reason: that of a connection, and that of a session which has failed
abbrev pub IsIo : Cause → Type 0
IsIo (cause.Io kind) = Unit {0}
IsIo other = ⊥

abbrev pub IsGrave : FtpError → Type 0
IsGrave (faults.ConnectionError cause) = IsIo cause
IsGrave faults.SessionFailed = Unit {0}
IsGrave other = ⊥

abbrev pub io : ErrorKind → FtpError
io kind = faults.ConnectionError (cause.Io kind)

-- the error of a data connection that takes no more bytes
abbrev pub took_no_more : FtpError
took_no_more = io WriteZero

pub clash : {T : Type 0} → true ≡ false → T
clash is = cc is

-- the bytes of a server give none of these
pub of_bytes : {T : Type 0} (fault : FtpError) → IsOfBytes fault → IsGrave fault → T
of_bytes (faults.ConnectionError cause) (inl is) grave = absurd (subst IsIo is grave)
of_bytes (faults.ConnectionError cause) (inr is) grave = absurd (subst IsIo is grave)
of_bytes faults.SessionFailed bytes grave = absurd bytes
of_bytes other bytes grave = absurd grave

-- A line that is refused is no such error

abbrev Said : Result (List ℕ) Cause → Type 0
Said (Ok line) = Unit {0}
Said (Err why) = IsIo why → ⊥

wire_said : (encode : List ℕ → Result (List ℕ) ErrorKind) (text : List ℕ) → Said (wire encode text)
wire_said encode text = plain (has_line_break (before_crlf text)) (line_of (encode text)) (line (encode text))
  where
    plain : (breaks : Bool) (next : Result (List ℕ) Cause) → Said next → Said (unless (cond breaks (Some cause.LineBreak) None) next)
    plain true next said = λ grave. grave
    plain false next said = said

    encoded : (ends breaks : Bool) (bytes : List ℕ) → Said (unless (cond ends (cond breaks (Some cause.EncodedLineBreak) None) (Some cause.EncodedWithoutCrlf)) (Ok bytes))
    encoded true true bytes = λ grave. grave
    encoded true false bytes = tt
    encoded false breaks bytes = λ grave. grave

    line : (got : Result (List ℕ) ErrorKind) → Said (line_of got)
    line (Err kind) = λ grave. grave
    line (Ok bytes) = encoded (ends_in_crlf bytes) (has_line_break (before_crlf bytes)) (escaped bytes)

-- Answers

-- such an answer, or an error that has its reason where it needs one
abbrev pub Fits : (Answer → Type 0) → (FtpError → Type 0) → Answer → Type 0
Fits Good Has (Fault fault) = IsGrave fault → Has fault
Fits Good Has other = Good other

-- any answer will do that is no error
abbrev pub Any : Answer → Type 0
Any told = Unit {0}

-- another sort of answer, and other reasons
pub fits_map : (Good Other : Answer → Type 0) (Has Holds : FtpError → Type 0) → ((fault : FtpError) → Has fault → Holds fault) → ((told : Answer) → Good told → Other told) → (told : Answer) → Fits Good Has told → Fits Other Holds told
fits_map Good Other Has Holds into good (Fault fault) fits = λ grave. into fault (fits grave)
fits_map Good Other Has Holds into good other fits = good other fits

-- the reason of an error that is the answer
pub reason_of : (Good : Answer → Type 0) (Has : FtpError → Type 0) (told : Answer) → Fits Good Has told → (fault : FtpError) → told ≡ Fault fault → IsGrave fault → Has fault
reason_of Good Has (Fault other) fits fault is grave =
    let same : other ≡ fault = cc in
    subst Has same (fits (subst IsGrave (sym same) grave))
reason_of Good Has other fits fault is grave = cc is

-- Trees

-- an error that these states give, or an outcome since, where anything may be asked
abbrev pub Or : Type 0 → (State → FtpError → Type 0) → NetOutcome → State → FtpError → Type 0
Or Asks May outcome state fault = May state fault ⊎ (Asks × (given_by outcome ≡ Some fault))

-- or one of the outcomes since
abbrev pub Since : Type 0 → (State → FtpError → Type 0) → List NetOutcome → State → FtpError → Type 0
Since Asks May outcomes state fault = May state fault ⊎ (Asks × IsAmong fault outcomes)

-- each answer of a tree is such a one, or an error that has its reason, also where a read fails
abbrev pub Tells : (Answer → Type 0) → Type 0 → (State → FtpError → Type 0) → Tree → Type 0
Tells Good Asks May (Say (Ok line) next) = Tells Good Asks May next
Tells Good Asks May (Say (Err why) next) = IsIo why → ⊥
Tells Good Asks May (Hear expected next) =
    ((heard : Result Response FtpError) → MayHear heard → Tells Good Asks May (next heard)) × ((kind : ErrorKind) → answer_of (next (Err (io kind))) (Fault (io kind)) ≡ Fault faults.SessionFailed → (state : State) → May state faults.SessionFailed)
Tells Good Asks May (Look end next) = (address : SocketAddr) → Tells Good Asks May (next address)
Tells Good Asks May (Ask request next) = (outcome : RequestOutcome) → Tells Good Asks (Or Asks May (came.Answered outcome)) (next outcome)
Tells Good Asks May (Build address next) = (fault : Option FtpError) → Tells Good Asks (Or Asks May (came.Built fault)) (next fault)
Tells Good Asks May (Secure next) = (fault : Option FtpError) → Tells Good Asks (Or Asks May (came.Secured fault)) (next fault)
Tells Good Asks May (Move moves next) = (outcome : NetOutcome) → Tells Good Asks (Or Asks May outcome) (next outcome)
Tells Good Asks May (Leaf told state) = Fits Good (May state) told

abbrev pub Backed : Type 0 → (State → FtpError → Type 0) → Tree → Type 0
Backed Asks May tree = Tells Any Asks May tree

module _ (Good : Answer → Type 0) (Asks : Type 0) where
  -- more reasons do as well
  or_into : (May More : State → FtpError → Type 0) → ((state : State) (fault : FtpError) → May state fault → More state fault) → (outcome : NetOutcome) (state : State) (fault : FtpError) → Or Asks May outcome state fault → Or Asks More outcome state fault
  or_into May More into outcome state fault (inl may) = inl (into state fault may)
  or_into May More into outcome state fault (inr given) = inr given

  pub more : (May More : State → FtpError → Type 0) → ((state : State) (fault : FtpError) → May state fault → More state fault) → (tree : Tree) → Tells Good Asks May tree → Tells Good Asks More tree
  more May More into (Say (Ok line) next) backed = more May More into next backed
  more May More into (Say (Err why) next) backed = backed
  more May More into (Hear expected next) backed = (λ heard may. more May More into (next heard) (backed.0 heard may), λ kind same state. into state faults.SessionFailed (backed.1 kind same state))
  more May More into (Look end next) backed = λ address. more May More into (next address) (backed address)
  more May More into (Ask request next) backed = λ outcome. more (Or Asks May (came.Answered outcome)) (Or Asks More (came.Answered outcome)) (or_into May More into (came.Answered outcome)) (next outcome) (backed outcome)
  more May More into (Build address next) backed = λ fault. more (Or Asks May (came.Built fault)) (Or Asks More (came.Built fault)) (or_into May More into (came.Built fault)) (next fault) (backed fault)
  more May More into (Secure next) backed = λ fault. more (Or Asks May (came.Secured fault)) (Or Asks More (came.Secured fault)) (or_into May More into (came.Secured fault)) (next fault) (backed fault)
  more May More into (Move moves next) backed = λ outcome. more (Or Asks May outcome) (Or Asks More outcome) (or_into May More into outcome) (next outcome) (backed outcome)
  more May More into (Leaf told state) backed = fits_map Good Good (May state) (More state) (into state) (λ other good. good) told backed

  after_outcome : (May : State → FtpError → Type 0) (outcome : NetOutcome) (tree : Tree) → Tells Good Asks May tree → Tells Good Asks (Or Asks May outcome) tree
  after_outcome May outcome tree backed = more May (Or Asks May outcome) (λ state fault may. inl may) tree backed

  -- either of two trees
  pub cond_backed : (May : State → FtpError → Type 0) (b : Bool) (one other : Tree) → Tells Good Asks May one → Tells Good Asks May other → Tells Good Asks May (cond b one other)
  cond_backed May true one other first second = first
  cond_backed May false one other first second = second

  pub line_backed : (May : State → FtpError → Type 0) (coding : Coding) (says : Option Command) (next : Tree) → Tells Good Asks May next → Tells Good Asks May (saying coding says next)
  line_backed May coding None next backed = backed
  line_backed May coding (Some command) next backed = go (wire coding.encode (text_of command)) (wire_said coding.encode (text_of command))
    where
      go : (line : Result (List ℕ) Cause) → Said line → Tells Good Asks May (Say line next)
      go (Ok line) said = backed
      go (Err why) said = said

  -- Each place of such a tree: what the outcomes on the way to it gave is a reason, too

  at_place : (May : State → FtpError → Type 0) (outcomes : List NetOutcome) (place tree : Tree) → outcomes ≡ [] → place ≡ tree → Tells Good Asks May tree → Tells Good Asks (Since Asks May outcomes) place
  at_place May outcomes place tree none is backed =
      let P : Tree → Type 0 = λ t. Tells Good Asks (Since Asks May outcomes) t in
      subst P (sym is) (more May (Since Asks May outcomes) (λ state fault may. inl may) tree backed)

  since_outcome : (May : State → FtpError → Type 0) (outcome : NetOutcome) (outcomes later : List NetOutcome) → outcomes ≡ outcome ∷ later → (place : Tree) → Tells Good Asks (Since Asks (Or Asks May outcome) later) place → Tells Good Asks (Since Asks May outcomes) place
  since_outcome May outcome outcomes later split place backed =
      let P : List NetOutcome → Type 0 = λ o. Tells Good Asks (Since Asks May o) place in
      subst P (sym split) (more (Since Asks (Or Asks May outcome) later) (Since Asks May (outcome ∷ later)) into place backed)
    where
      into : (state : State) (fault : FtpError) → Since Asks (Or Asks May outcome) later state fault → Since Asks May (outcome ∷ later) state fault
      into state fault (inl (inl may)) = inl may
      into state fault (inl (inr given)) = inr (given.0, inl given.1)
      into state fault (inr among) = inr (among.0, inr among.1)

  pub place_backed : (May : State → FtpError → Type 0) (outcomes : List NetOutcome) (place tree : Tree) → Within outcomes place tree → Tells Good Asks May tree → Tells Good Asks (Since Asks May outcomes) place
  place_backed May outcomes place (Say (Ok line) next) (inl is) backed = at_place May outcomes place (Say (Ok line) next) is.0 is.1 backed
  place_backed May outcomes place (Say (Ok line) next) (inr (inl is)) backed = at_place May outcomes place (Say (Ok []) next) is.0 is.1 backed
  place_backed May outcomes place (Say (Ok line) next) (inr (inr after)) backed = place_backed May outcomes place next after backed
  place_backed May outcomes place (Say (Err why) next) is backed = at_place May outcomes place (Say (Err why) next) is.0 is.1 backed
  place_backed May outcomes place (Hear expected next) (inl is) backed = at_place May outcomes place (Hear expected next) is.0 is.1 backed
  place_backed May outcomes place (Hear expected next) (inr (heard, may, after)) backed = place_backed May outcomes place (next heard) after (backed.0 heard may)
  place_backed May outcomes place (Look end next) (inl is) backed = at_place May outcomes place (Look end next) is.0 is.1 backed
  place_backed May outcomes place (Look end next) (inr (address, after)) backed = place_backed May outcomes place (next address) after (backed address)
  place_backed May outcomes place (Ask request next) (inl is) backed = at_place May outcomes place (Ask request next) is.0 is.1 backed
  place_backed May outcomes place (Ask request next) (inr (answered, later, split, after)) backed = since_outcome May (came.Answered answered) outcomes later split place (place_backed (Or Asks May (came.Answered answered)) later place (next answered) after (backed answered))
  place_backed May outcomes place (Build address next) (inl is) backed = at_place May outcomes place (Build address next) is.0 is.1 backed
  place_backed May outcomes place (Build address next) (inr (fault, later, split, after)) backed = since_outcome May (came.Built fault) outcomes later split place (place_backed (Or Asks May (came.Built fault)) later place (next fault) after (backed fault))
  place_backed May outcomes place (Secure next) (inl is) backed = at_place May outcomes place (Secure next) is.0 is.1 backed
  place_backed May outcomes place (Secure next) (inr (fault, later, split, after)) backed = since_outcome May (came.Secured fault) outcomes later split place (place_backed (Or Asks May (came.Secured fault)) later place (next fault) after (backed fault))
  place_backed May outcomes place (Move moves next) (inl is) backed = at_place May outcomes place (Move moves next) is.0 is.1 backed
  place_backed May outcomes place (Move moves next) (inr (outcome, later, split, after)) backed = since_outcome May outcome outcomes later split place (place_backed (Or Asks May outcome) later place (next outcome) after (backed outcome))
  place_backed May outcomes place (Leaf told state) is backed = at_place May outcomes place (Leaf told state) is.0 is.1 backed

  module _ (state : State) (May : State → FtpError → Type 0) where
    continued_backed : (coding : Coding) (after : State → Tree) → Tells Good Asks May (after state) → (heard : Result Response FtpError) → MayHear heard → Tells Good Asks May (concluded coding ending.Continues state after heard)
    continued_backed coding after backed (Ok reply) may = backed
    continued_backed coding after backed (Err fault) may = of_bytes fault may

    pub restart_backed : (coding : Coding) (call : Call) → Tells Good Asks May (last_turn coding call state) → (offset : ℕ) → Tells Good Asks May (restart_turn coding call offset state)
    restart_backed coding call last_backed offset =
        let awaits : Tree = Hear (expected_of (One RequestFilePending)) (concluded coding ending.Continues state (last_turn coding call)) in
        cond_backed May (restarts call && nat_lt 0 offset) (doing coding (row_of call (Restart offset)) state (last_turn coding call)) (last_turn coding call state)
        (line_backed May coding (Some (command.Rest offset)) awaits (continued_backed coding (last_turn coding call) last_backed, λ kind same. cc same)) last_backed

  -- Data connections

  module _ (asks : Asks) (state : State) (May : State → FtpError → Type 0) where
    address_backed : (next : SocketAddr → Tree) → ((address : SocketAddr) → Tells Good Asks May (next address)) → (outcome : RequestOutcome) → Tells Good Asks (Or Asks May (came.Answered outcome)) (on_address state next outcome)
    address_backed next backed Made = λ grave. absurd grave
    address_backed next backed (Address address) = after_outcome May (came.Answered (Address address)) (next address) (backed address)
    address_backed next backed (Refused fault) = λ grave. inr (asks, refl)

    connection_backed : (next : Tree) → Tells Good Asks May next → (outcome : RequestOutcome) → Tells Good Asks (Or Asks May (came.Answered outcome)) (on_connection state next outcome)
    connection_backed next backed (Refused fault) = λ grave. inr (asks, refl)
    connection_backed next backed other = after_outcome May (came.Answered other) next backed

    -- the builder or the connector was asked
    pub built_backed : (asked : Option FtpError → NetOutcome) → ((fault : FtpError) → given_by (asked (Some fault)) ≡ Some fault) → (next : Tree) → Tells Good Asks May next → (fault : Option FtpError) → Tells Good Asks (Or Asks May (asked fault)) (on_built state next fault)
    built_backed asked gives next backed None = after_outcome May (asked None) next backed
    built_backed asked gives next backed (Some fault) = λ grave. inr (asks, gives fault)

    pub connecting_backed : (address : SocketAddr) (next : Tree) → Tells Good Asks May next → Tells Good Asks May (connecting_to address state next)
    connecting_backed address next backed =
        cond_backed May state.settings.stream_builder (Build address (on_built state next)) (Ask (Connect address None) (on_connection state next))
        (built_backed came.Built (λ fault. refl) next backed) (connection_backed next backed)

    pub accepting_backed : (opened : Tree) → Tells Good Asks May opened → (host : SocketAddr) (left : ℕ) → Tells Good Asks May (accepting opened host left state)
    unfolding accepting
    accepting_backed opened first host zero =
        let late : Tree = Leaf (Fault (faults.ConnectionError cause.TimedOut)) state in
        address_backed (λ from. admitting (lets_in state host from) opened late) (λ from. cond_backed May (lets_in state host from) opened late first (λ grave. absurd grave))
    accepting_backed opened first host (suc left) =
        let others : Tree = accepting opened host left state in
        address_backed (λ from. admitting (lets_in state host from) opened others) (λ from. cond_backed May (lets_in state host from) opened others first (accepting_backed opened first host left))

    pub securing_backed : (opened : Tree) → Tells Good Asks May opened → Tells Good Asks May (securing opened state)
    securing_backed opened first = cond_backed May state.settings.secure (Secure (on_built state opened)) opened (built_backed came.Secured (λ fault. refl) opened first) first

    pub opening_backed : (m : Mode) (opened : Tree) → Tells Good Asks May opened → Tells Good Asks May (opening m opened state)
    opening_backed mode.Active opened first = λ host. accepting_backed (securing opened state) (securing_backed opened first) host strangers
    opening_backed other opened first = securing_backed opened first

    -- a reply that tells where to connect
    pub peer_backed : (port : ℕ) (next : Tree) → Tells Good Asks May next → Tells Good Asks May (connecting_to_peer port state next)
    peer_backed port next backed = λ peer. connecting_backed (at_port port peer) next backed

    pub told_backed : (reply : Response) (next : Tree) → Tells Good Asks May next → (told : Result SocketAddr NoAddress) → Tells Good Asks May (to_address state reply next told)
    told_backed reply next backed (Err Absent) = λ grave. absurd grave
    told_backed reply next backed (Err Unreadable) = λ grave. absurd grave
    told_backed reply next backed (Ok address) =
        cond_backed May state.settings.passive_nat_workaround (connecting_to_peer (socket_port address) state next) (connecting_to address state next)
        (peer_backed (socket_port address) next backed) (connecting_backed address next backed)

    pub port_backed : (reply : Response) (next : Tree) → Tells Good Asks May next → (told : Result ℕ NoAddress) → Tells Good Asks May (to_port state reply next told)
    port_backed reply next backed (Err Absent) = λ grave. absurd grave
    port_backed reply next backed (Err Unreadable) = λ grave. absurd grave
    port_backed reply next backed (Ok port) = peer_backed port next backed

    -- EPSV was refused, and PASV follows
    passive_told : (next : State → Tree) → Tells Good Asks May (next state) → (heard : Result Response FtpError) → MayHear heard → Tells Good Asks May (on_passive state next heard)
    passive_told next backed (Ok reply) may = told_backed reply (next state) backed (passive_address_of reply.body)
    passive_told next backed (Err fault) may = of_bytes fault may

    pub port_or_passive : (coding : Coding) (reply : Response) (next : State → Tree) → Tells Good Asks May (next state) → (tries : Bool) → Tells Good Asks May (accepted coding (ending.GivesPort tries) state reply next)
    port_or_passive coding reply next backed tries =
        cond_backed May (falls_back tries reply) (asking_passive coding state next) (to_port state reply (next state) (extended_port_of reply.body))
        (line_backed May coding (Some command.Pasv) (Hear (expecting (PassiveMode ∷ [])) (on_passive state next)) (passive_told next backed, λ kind same. cc same))
        (port_backed reply (next state) backed (extended_port_of reply.body))

    -- where it is negotiated, and the last turn has its reasons
    module _ (coding : Coding) (call : Call) (last_backed : Tells Good Asks May (last_turn coding call state)) (offset : ℕ) where
      restart : Tells Good Asks May (restart_turn coding call offset state)
      restart = restart_backed state May coding call last_backed offset

      passive_backed : (heard : Result Response FtpError) → MayHear heard → Tells Good Asks May (concluded coding ending.GivesAddress state (later coding call (Passive offset false)) heard)
      passive_backed (Ok reply) may = told_backed reply (restart_turn coding call offset state) restart (passive_address_of reply.body)
      passive_backed (Err fault) may = of_bytes fault may

      extended_backed : (tries : Bool) (heard : Result Response FtpError) → MayHear heard → Tells Good Asks May (concluded coding (ending.GivesPort tries) state (later coding call (ExtendedPassive offset tries)) heard)
      extended_backed tries (Ok reply) may = port_or_passive coding reply (later coding call (ExtendedPassive offset tries)) restart tries
      extended_backed tries (Err fault) may = of_bytes fault may

      extended_turn : (tries : Bool) → Tells Good Asks May (from_turn coding call (ExtendedPassive offset tries) state)
      extended_turn tries = line_backed May coding (Some command.Epsv) (Hear (expected_of (extended_codes tries)) (concluded coding (ending.GivesPort tries) state (later coding call (ExtendedPassive offset tries)))) (extended_backed tries, λ kind same. cc same)

      abbrev told_at : SocketAddr → SocketAddr → Turn
      told_at local bound = Active (at_port (socket_port bound) local) offset

      pub opening_data_backed : (m : Mode) → Tells Good Asks May (opening_data m coding call offset state)
      opening_data_backed mode.Active = λ local.
          address_backed (λ bound. from_turn coding call (told_at local bound) state) (λ bound. line_backed May coding (Some (port_command (at_port (socket_port bound) local))) (Hear (expected_of (One CommandOk)) (concluded coding ending.Continues state (later coding call (told_at local bound)))) (continued_backed state May coding (later coding call (told_at local bound)) restart, λ kind same. cc same))
      opening_data_backed mode.Passive = line_backed May coding (Some command.Pasv) (Hear (expected_of (One PassiveMode)) (concluded coding ending.GivesAddress state (later coding call (Passive offset false)))) (passive_backed, λ kind same. cc same)
      opening_data_backed mode.ExtendedPassive = extended_turn false
      opening_data_backed mode.Automatic = λ peer. extended_turn (is_ipv4 peer)

      pub negotiating_backed : ((fault : FtpError) → cannot_open state.counts ≡ Some fault → May state fault) → Tells Good Asks May (negotiating coding call offset state)
      negotiating_backed spent = go (cannot_open state.counts) refl
        where
          go : (fault : Option FtpError) → cannot_open state.counts ≡ fault → Tells Good Asks May (negotiating_unless fault coding call offset state)
          go (Some fault) is = λ grave. spent fault is
          go None is = opening_data_backed state.settings.mode

  -- A whole data connection

  -- an answer that will do in any state
  abbrev pub Reasoned : (State → FtpError → Type 0) → Answer → Type 0
  Reasoned May told = (state : State) → Fits Good (May state) told

  reasoned_after : (May : State → FtpError → Type 0) (outcome : NetOutcome) (told : Answer) → Reasoned May told → Reasoned (Or Asks May outcome) told
  reasoned_after May outcome told reasoned = λ state. fits_map Good Good (May state) (Or Asks May outcome state) (λ fault may. inl may) (λ other good. good) told (reasoned state)

  pub ending_fetch_backed : (May : State → FtpError → Type 0) (form : Fetch) (told : Answer) (state : State) → Reasoned May told → Tells Good Asks May (fetch_ending form told state)
  ending_fetch_backed May form told state reasoned = (heard, broken form told reasoned)
    where
      faulty : (f : Fetch) (first : Answer) → Reasoned May first → (fault : FtpError) → IsOfBytes fault → Tells Good Asks May (fetch_concluded f first state (Err fault))
      faulty Whole (Fault first) is fault bytes = is (after_fetch fault state)
      faulty Whole good is fault bytes = of_bytes fault bytes
      faulty Listed first is fault bytes = of_bytes fault bytes

      heard : (h : Result Response FtpError) → MayHear h → Tells Good Asks May (fetch_concluded form told state h)
      heard (Ok reply) may = reasoned (with_fetched state)
      heard (Err fault) may = faulty form told reasoned fault may

      broken : (f : Fetch) (first : Answer) → Reasoned May first → (kind : ErrorKind) → answer_of (fetch_concluded f first state (Err (io kind))) (Fault (io kind)) ≡ Fault faults.SessionFailed → (left : State) → May left faults.SessionFailed
      broken Whole (Fault first) is kind same left = reason_of Good (May left) (Fault first) (is left) faults.SessionFailed same tt
      broken Whole good is kind same left = cc same
      broken Listed first is kind same left = cc same

  -- the error of a close, where it is told
  pub close_given : (uploads : Bool) (outcome : NetOutcome) (kind : ErrorKind) → told_of_close uploads outcome ≡ Some kind → given_by outcome ≡ Some (io kind)
  close_given false outcome kind is = cc is
  close_given true (came.Failed other) kind is = ap (λ k. Some (io k)) (let e : other ≡ kind = cc in e)
  close_given true other kind is = cc is

  module _ (asks : Asks) where
    close_reasoned : (May : State → FtpError → Type 0) (uploads : Bool) (outcome : NetOutcome) (told : Answer) → Reasoned May told → Reasoned (Or Asks May outcome) (closed_as (told_of_close uploads outcome) told)
    close_reasoned May false outcome told reasoned = reasoned_after May outcome told reasoned
    close_reasoned May true (came.Failed kind) told reasoned = λ state grave. inr (asks, refl)
    close_reasoned May true other told reasoned = reasoned_after May other told reasoned

    pub closing_fetch_backed : (May : State → FtpError → Type 0) (form : Fetch) (told : Answer) (state : State) → Reasoned May told → Tells Good Asks May (fetch_closing_data form told state)
    closing_fetch_backed May form told state reasoned = λ outcome. ending_fetch_backed (Or Asks May outcome) form (closed_as (told_of_close state.uploads outcome) told) state (close_reasoned May state.uploads outcome told reasoned)

    too_long_reasoned : (May : State → FtpError → Type 0) (form : Fetch) → Reasoned May (too_long form)
    too_long_reasoned May Whole = λ state grave. absurd grave
    too_long_reasoned May Listed = λ state grave. absurd grave

    unfetched_reasoned : (May : State → FtpError → Type 0) (form : Fetch) (kind : ErrorKind) → Reasoned (Or Asks May (came.Failed kind)) (unfetched form kind)
    unfetched_reasoned May Whole kind = λ state grave. inr (asks, refl)
    unfetched_reasoned May Listed kind = λ state grave. absurd grave

    module _ (coding : Coding) (form : Fetch) (good : (all : List ℕ) → Good (fetched coding form all)) where
      fetched_reasoned : (May : State → FtpError → Type 0) (all : List ℕ) → Reasoned May (fetched coding form all)
      fetched_reasoned May all = go form (good all)
        where
          go : (f : Fetch) → Good (fetched coding f all) → Reasoned May (fetched coding f all)
          go Whole is = λ state. is
          go Listed is = λ state. is

      data_backed : (May : State → FtpError → Type 0) (all : List ℕ) (state : State) (on : List ℕ → Tree) → ((outcome : NetOutcome) (bytes : List ℕ) → Tells Good Asks (Or Asks May outcome) (on bytes)) → (outcome : NetOutcome) → Tells Good Asks (Or Asks May outcome) (on_data coding form all on (λ told. fetch_closing_data form told state) outcome)
      data_backed May all state on goes (came.Read []) = closing_fetch_backed (Or Asks May (came.Read [])) form (fetched coding form all) state (fetched_reasoned (Or Asks May (came.Read [])) all)
      data_backed May all state on goes (came.Read (byte ∷ bytes)) =
          let now : State → FtpError → Type 0 = Or Asks May (came.Read (byte ∷ bytes)) in
          cond_backed now (nat_le (length (all ++ byte ∷ bytes)) most_bytes) (on (all ++ byte ∷ bytes)) (fetch_closing_data form (too_long form) state)
          (goes (came.Read (byte ∷ bytes)) (all ++ byte ∷ bytes)) (closing_fetch_backed now form (too_long form) state (too_long_reasoned now form))
      data_backed May all state on goes (came.Failed kind) = closing_fetch_backed (Or Asks May (came.Failed kind)) form (unfetched form kind) state (unfetched_reasoned May form kind)
      data_backed May all state on goes came.NoMemory = closing_fetch_backed (Or Asks May came.NoMemory) form (Fault faults.OutOfMemory) state (λ s grave. absurd grave)
      data_backed May all state on goes other = closing_fetch_backed (Or Asks May other) form (too_long form) state (too_long_reasoned (Or Asks May other) form)

      pub gathering_backed : (left : ℕ) (May : State → FtpError → Type 0) (all : List ℕ) (state : State) → Tells Good Asks May (gathering coding form left all state)
      unfolding gathering
      gathering_backed zero May all state = closing_fetch_backed May form (too_long form) state (too_long_reasoned May form)
      gathering_backed (suc left) May all state = data_backed May all state (λ bytes. gathering coding form left bytes state) (λ outcome bytes. gathering_backed left (Or Asks May outcome) bytes state)

-- Bytes that go over a data connection

module _ (Asks : Type 0) (asks : Asks) where
  -- by one call
  moved_backed : (state : State) (May : State → FtpError → Type 0) (outcome : NetOutcome) → Backed Asks (Or Asks May outcome) (Leaf (moved_answer outcome) state)
  moved_backed state May (came.Failed kind) = λ grave. inr (asks, refl)
  moved_backed state May came.NoMemory = λ grave. absurd grave
  moved_backed state May other = tt

  pub carried_backed : (state : State) (May : State → FtpError → Type 0) (moves : Movement) → Backed Asks May (carrying moves state)
  carried_backed state May (movement.Read most) =
      cond_backed Any Asks May (eqb most 0) (Leaf (answer.Bytes []) state) (Move (movement.Read most) (λ outcome. Leaf (moved_answer outcome) state)) tt (moved_backed state May)
  carried_backed state May (movement.Write bytes) =
      cond_backed Any Asks May (eqb (length bytes) 0) (Leaf (answer.Count 0) state) (Move (movement.Write bytes) (λ outcome. Leaf (moved_answer outcome) state)) tt (moved_backed state May)
  carried_backed state May movement.Close = λ outcome. tt

  -- all of them
  sent_backed : (May : State → FtpError → Type 0) → ((state : State) → May state took_no_more) → (rest : List ℕ) (on : List ℕ → Tree) (state : State) → ((outcome : NetOutcome) (left : List ℕ) → Backed Asks (Or Asks May outcome) (on left)) → (outcome : NetOutcome) → Backed Asks (Or Asks May outcome) (on_sent rest on state outcome)
  sent_backed May short rest on state goes (came.Wrote count) = goes (came.Wrote count) (drop count rest)
  sent_backed May short rest on state goes (came.Failed kind) = λ grave. inr (asks, refl)
  sent_backed May short rest on state goes other = λ grave. inl (short (with_abandoned state))

  pub sending_backed : (left : ℕ) (May : State → FtpError → Type 0) → ((state : State) → May state took_no_more) → (total : ℕ) (rest : List ℕ) (state : State) → Backed Asks May (sending left total rest state)
  unfolding sending
  sending_backed zero May short total [] state = closing_fetch_backed Any Asks asks May Whole (answer.Count total) state (λ s. tt)
  sending_backed (suc left) May short total [] state = closing_fetch_backed Any Asks asks May Whole (answer.Count total) state (λ s. tt)
  sending_backed zero May short total (byte ∷ rest) state = λ grave. short (with_abandoned state)
  sending_backed (suc left) May short total (byte ∷ rest) state =
      sent_backed May short (byte ∷ rest) (λ bytes. sending left total bytes state) state (λ outcome bytes. sending_backed left (Or Asks May outcome) (λ s. inl (short s)) total bytes state)

  pub storing_backed : (May : State → FtpError → Type 0) → ((state : State) → May state took_no_more) → (bytes : List ℕ) (state : State) → Backed Asks May (storing bytes state)
  storing_backed May short bytes state = go (size_to_send (wire_data state.settings.text bytes))
    where
      go : (size : Option ℕ) → Backed Asks May (sending_all size (wire_data state.settings.text bytes) state)
      go (Some total) = sending_backed total May short total (wire_data state.settings.text bytes) state
      go None = λ grave. absurd grave
