-- How a session comes to its connection: RFC 1123, section 2.3: one address after another.
use Rattle.std.specs.Prelude.{◌≡◌, ◌⊎◌, ◌==◌, List, [], ◌∷◌, ◌++◌, Some, Result, Err, if◌then◌else◌}
use Rattle.std.specs.Duration.{as_nanos}
use Rattle.std.specs.declared.net.socket_addr.SocketAddr.{SocketAddr}
use Rattle.std.specs.declared.time.Duration.{Duration}
use Rattle.ftp_base.specs.declared.types.fault.FtpError.{FtpError}
use Rattle.ftp_base.specs.declared.types.fault.FtpError.TheVariants.{ConnectionError as Connection, OutOfMemory}
use Rattle.ftp_base.specs.declared.types.fault.ConnectionError.{ConnectionError}
use Rattle.ftp_transport.specs.Asking.{connects_to, RefusedInTurn, ConnectsInTurn}
use Rattle.ftp_transport.specs.Told.{Told}
use Rattle.ftp_transport.specs.declared.room.Room.{Room}
use Rattle.ftp_transport.specs.declared.request.Asked.{Asked}
use Rattle.ftp_transport.specs.declared.request.Request.{Request}
use Rattle.ftp_transport.specs.declared.request.RequestOutcome.{RequestOutcome}
use Rattle.ftp_transport.specs.declared.request.RequestOutcome.TheVariants.{Done, Address, Refused}
use Rattle.ftp_transport.specs.declared.supply.Supply.{Supply}
use Rattle.ftp_calls.specs.declared.call.Answer.TheVariants.{Fault}
use Rattle.ftp_calls.specs.declared.call.Call.TheVariants.{Greet}
use Rattle.ftp_control.specs.declared.control.rule.ReplyRule.{ReplyRule}
use Rattle.ftp_dialogue.specs.declared.state.State.{State}
use Rattle.ftp_dialogue.specs.declared.model.NetOutcome.{NetOutcome}
use Rattle.ftp_dialogue.specs.declared.model.NetOutcome.TheVariants.{Answered}
use Rattle.ftp_dialogue.specs.declared.model.PlayState.{PlayState}
use Rattle.ftp_session.specs.Calls.{Connects}
use Rattle.ftp_dialogue.specs.Coding.{Coding}
use Rattle.ftp_dialogue.specs.NetEvents.{after_request, first_net}
use Rattle.ftp_dialogue.specs.declared.model.NetRecord.{NetRecord}
use Rattle.ftp_dialogue.specs.Dialogue.{Tree, Ask, Leaf, dialogue}
use Rattle.ftp_dialogue.specs.Link.{Link}
use Rattle.ftp_dialogue.specs.Play.{play}
use Rattle.ftp_dialogue.specs.State.{SessionValue}

-- a request for a connection returned one, or was refused with this error
abbrev pub if_connected : Tree → (ConnectionError → Tree) → RequestOutcome → Tree
if_connected next others Done = next
if_connected next others (Address address) = next
if_connected next others (Refused fault) = others fault

-- connections are asked for in turn until there is one, on which the greeting is heard; where each is refused the last
-- error is the answer, and where none is asked for this one
unfoldable pub connecting : Coding → List Request → ConnectionError → State → Tree
connecting coding [] fault state = Leaf (Fault (Connection fault)) state
connecting coding (request ∷ requests) fault state =
    Ask request (if_connected (dialogue coding Greet state) (λ cause. connecting coding requests cause state))

-- the requests of a connection to one address within a time: none where there is no time
abbrev pub connects_within : Duration → SocketAddr → List Request
connects_within limit address = if as_nanos limit == 0 then [] else connects_to (Some limit) (address ∷ [])

-- the outcomes of these requests
abbrev pub outcomes_in : List Asked → List NetOutcome
outcomes_in [] = []
outcomes_in (one ∷ more) = Answered one.outcome ∷ outcomes_in more

-- what requests make of what stands beside the control connection
abbrev pub after_requests : List Asked → NetRecord → NetRecord
after_requests [] d = d
after_requests (one ∷ more) d = after_requests more (after_request one.request one.outcome d)

-- these requests were made with these outcomes; whatever else is known, a dialogue leads with them to what is
-- left of it
pub record AsksAll (tree left : State → Tree) (asked asked' : List Asked) : Type 0 where
  pub answered : List Asked
  pub asked_are : asked' ≡ asked ++ answered
  pub plays : (state : State) (room : Room) (s : PlayState) → play room (tree state) (record s { outcomes = outcomes_in answered ++ s.outcomes }) ≡ play room (left state) (record s { net_record = after_requests answered s.net_record })

-- a transport that was handed these outcomes, and was asked this before, made a connection of this record; the requests
-- before it were refused
pub record IsConnected (link : Link) (coding : Coding) (refuses : List Supply → ConnectionError → Type 0) (requests : List Request) (fault : ConnectionError) (ready : List Supply) (asked asked' : List Asked) (told : Told) : Type 0 where
  pub unused : List Supply
  pub in_turn : link.tells → ConnectsInTurn refuses requests fault told ready unused asked asked'
  pub asks : link.tells → AsksAll (connecting coding requests fault) (dialogue coding Greet) asked asked'

-- the connection was asked for, and the greeting's dialogue was made on it, by this rule of replies
pub record ConnectsBy (link : Link) (coding : Coding) (rule : ReplyRule) (refuses : List Supply → ConnectionError → Type 0) (requests : List Request) (fault : ConnectionError) (ready : List Supply) (closed : List Told) (asked : List Asked) (new : SessionValue) (result : Result (Unit {0}) FtpError) : Type 0 where
  pub told : Told
  pub asked_by : List Asked
  pub connected : IsConnected link coding refuses requests fault ready asked asked_by told
  pub connects : Connects link coding rule told (first_net asked_by connected.unused closed) new result

-- each request was refused, and the last error is the answer
pub record NoneConnects (link : Link) (coding : Coding) (refuses : List Supply → ConnectionError → Type 0) (requests : List Request) (fault : ConnectionError) (ready : List Supply) (asked : List Asked) (answer : FtpError) : Type 0 where
  pub last : ConnectionError
  pub is : answer ≡ Connection last
  pub unused : List Supply
  pub asked_by : List Asked
  pub in_turn : link.tells → RefusedInTurn refuses requests [] fault last ready unused asked asked_by
  pub asks : link.tells → AsksAll (connecting coding requests fault) (λ state. Leaf (Fault answer) state) asked asked_by

-- no session is connected: each request was refused; or the greeting's dialogue on the connection failed; or memory ran
-- out
abbrev pub FailsToConnectBy : Link → Coding → ReplyRule → (List Supply → ConnectionError → Type 0) → List Request → ConnectionError → List Supply → List Told → List Asked → FtpError → Type 0
FailsToConnectBy link coding rule refuses requests fault ready closed asked answer =
    NoneConnects link coding refuses requests fault ready asked answer ⊎ ((new : SessionValue) × ConnectsBy link coding rule refuses requests fault ready closed asked new (Err answer)) ⊎ (answer ≡ OutOfMemory)
