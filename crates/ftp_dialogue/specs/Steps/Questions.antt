-- What is asked on the way to a data connection, and what follows what was found.
use Rattle.std.specs.Prelude.{◌≡◌, ◌<◌, ℕ, zero, suc, Bool, if◌then◌else◌, Option, Some, None, Result, Ok, Err}
use Rattle.std.specs.declared.io.ErrorKind.{ErrorKind}
use Rattle.std.specs.declared.net.socket_addr.SocketAddr.{SocketAddr}
use Rattle.std.specs.declared.time.Duration.{Duration}
use Rattle.ftp_base.specs.declared.types.fault.FtpError.{FtpError}
use Rattle.ftp_base.specs.declared.types.fault.FtpError.TheVariants.{ConnectionError}
use Rattle.ftp_base.specs.declared.types.fault.ConnectionError.TheVariants.{Io, NoAddress, TimedOut}
use Rattle.ftp_transport.specs.declared.request.Request.TheVariants.{Connect, Listen, Accept}
use Rattle.ftp_transport.specs.declared.request.RequestOutcome.{RequestOutcome}
use Rattle.ftp_transport.specs.declared.request.RequestOutcome.TheVariants.{Done as Made, Address, Refused}
use Rattle.std.specs.Net.Socket.{socket_port}
use Rattle.ftp_base.specs.declared.types.mode.Mode.{Mode}
use Rattle.ftp_calls.specs.declared.exchange.Turn.{Turn}
use Rattle.ftp_calls.specs.declared.exchange.Turn.TheVariants.{Active}
use Rattle.ftp_calls.specs.declared.call.Answer.TheVariants.{Fault}
use Rattle.ftp_calls.specs.declared.call.Answer.TheVariants as answer
use Rattle.ftp_calls.specs.declared.call.Call.{Call}
use Rattle.ftp_dialogue.specs.declared.questions.Question.{Question}
use Rattle.ftp_dialogue.specs.declared.questions.Question.TheVariants.{Room, OwnAddress, PeerAddress, Connection, Building, Listener, Peer, Handshake}
use Rattle.ftp_dialogue.specs.declared.questions.Found.{Found}
use Rattle.ftp_dialogue.specs.declared.questions.Found.TheVariants as found
use Rattle.ftp_dialogue.specs.declared.questions.Asked.{Asked}
use Rattle.ftp_dialogue.specs.declared.questions.Asked.TheVariants as asked
use Rattle.ftp_dialogue.specs.declared.negotiation.Reached.{Reached}
use Rattle.ftp_dialogue.specs.declared.negotiation.Reached.TheVariants as reached
use Rattle.ftp_dialogue.specs.declared.stage.Asking.TheVariants as asking
use Rattle.ftp_dialogue.specs.declared.stage.OpeningData.{OpeningData as Way}
use Rattle.ftp_dialogue.specs.declared.stage.OpeningData.TheVariants.{Negotiating, Choosing, Locating, Binding, Asking}
use Rattle.ftp_dialogue.specs.declared.stage.Opened.{Opened as Opening}
use Rattle.ftp_dialogue.specs.declared.stage.Opened.TheVariants.{Gives, Performs}
use Rattle.ftp_dialogue.specs.declared.stage.Transferring.TheVariants.{Starting}
use Rattle.ftp_dialogue.specs.declared.stage.Stage.{Stage}
use Rattle.ftp_dialogue.specs.declared.stage.Stage.TheVariants.{At, OpeningData, Transferring}
use Rattle.ftp_dialogue.specs.declared.stage.Step.{Step}
use Rattle.ftp_dialogue.specs.declared.stage.Step.TheVariants.{Next, Done}
use Rattle.ftp_dialogue.specs.declared.state.State.{State}
use Rattle.ftp_dialogue.specs.Coding.{Coding}
use Rattle.ftp_dialogue.specs.Dialogue.{Here, There, Tree, Look, Ask, Build, Secure, Leaf, at_port, lets_in, with_transfer}
use Rattle.ftp_dialogue.specs.Link.{Link}
use Rattle.ftp_dialogue.specs.Promises.{Aborts}
use Rattle.ftp_dialogue.specs.State.{SessionValue}
use Rattle.ftp_dialogue.specs.Steps.Moving.{AsksFirst, Still, dropped}
use Rattle.ftp_dialogue.specs.Steps.Stages.{MayAnswer, StageOf, begun_at, first_by, has_asked, nodes_left, nodes_of, remaining, way_of}

-- a question is a node, and what follows depends on what was found; room for a record is no node
abbrev pub asked_by : Question → Duration → (Found → Tree) → Tree
asked_by Room deadline next = next found.Room
asked_by OwnAddress deadline next = Look Here (λ address. next (found.Address address))
asked_by PeerAddress deadline next = Look There (λ address. next (found.Address address))
asked_by (Connection address) deadline next = Ask (Connect address None) (λ outcome. next (found.Outcome outcome))
asked_by (Building address) deadline next = Build address (λ fault. next (found.Made fault))
asked_by (Listener address) deadline next = Ask (Listen address) (λ outcome. next (found.Outcome outcome))
asked_by Peer deadline next = Ask (Accept deadline) (λ outcome. next (found.Outcome outcome))
asked_by Handshake deadline next = Secure (λ fault. next (found.Made fault))

-- what was found is of the question's kind
abbrev pub Fits : Question → Found → Type 0
Fits Room found.Room = Unit {0}
Fits OwnAddress (found.Address address) = Unit {0}
Fits PeerAddress (found.Address address) = Unit {0}
Fits (Connection address) (found.Outcome outcome) = Unit {0}
Fits (Building address) (found.Made fault) = Unit {0}
Fits (Listener address) (found.Outcome outcome) = Unit {0}
Fits Peer (found.Outcome outcome) = Unit {0}
Fits Handshake (found.Made fault) = Unit {0}
Fits question other = ⊥

-- what is left of a tree whose first node found this
abbrev pub after_found : Found → Tree → Tree
after_found (found.Address address) (Look end next) = next address
after_found (found.Outcome outcome) (Ask request next) = next outcome
after_found (found.Made fault) (Build address next) = next fault
after_found (found.Made fault) (Secure next) = next fault
after_found other tree = tree

-- the question at a place on the way
abbrev pub question_of : Bool → Way → Question
question_of builds (Negotiating offset) = Room
question_of builds (Choosing offset) = PeerAddress
question_of builds (Locating offset) = OwnAddress
question_of builds (Binding local offset) = Listener (at_port 0 local)
question_of builds (Asking turn (asking.PeerPort port)) = PeerAddress
question_of builds (Asking turn (asking.Connection address)) = if builds then Building address else Connection address
question_of builds (Asking turn (asking.Peer opened)) = PeerAddress
question_of builds (Asking turn (asking.Accepting peer left opened)) = Peer
question_of builds (Asking turn (asking.Securing opened)) = Handshake

abbrev pub question_at : State → Way → Question
question_at state way = question_of state.settings.stream_builder way

-- a question was asked, of whatever follows it; or it failed, which was counted; or it will be asked again
abbrev pub asked_in : Question → SessionValue → (Found → Tree) → Tree
asked_in question v next = asked_by question v.state.settings.active_deadline next

abbrev pub AsksNode : Link → Question → SessionValue → SessionValue → Asked → Type 0
AsksNode link question old new (asked.Found found) = Fits question found × ((next : Found → Tree) → Still link (asked_in question old next) (next found) old new)
AsksNode link question old new (asked.Failed kind) = (begun : Bool) (next : Found → Tree) → Aborts link begun (asked_in question old next) (Fault (ConnectionError (Io kind))) old new
AsksNode link question old new asked.NoMemory = (next : Found → Tree) → Still link (asked_in question old next) (asked_in question old next) old new
AsksNode link question old new asked.Waits = ((next : Found → Tree) → Still link (asked_in question old next) (asked_in question old next) old new × AsksFirst (asked_in question old next)) × link.asks_wait

abbrev pub looked_as : Result SocketAddr ErrorKind → Asked
looked_as (Ok address) = asked.Found (found.Address address)
looked_as (Err kind) = asked.Failed kind

-- a stage at which what was found leaves the dialogue
pub record Reaches (coding : Coding) (call : Call) (way : Way) (came : Found) (state : State) (stage : Stage) : Type 0 where
  pub same : after_found came (way_of coding call state way) ≡ remaining coding call state stage
  pub begun : begun_at stage ≡ has_asked way
  pub fewer : nodes_left stage < nodes_of way
  pub stage_of : StageOf call stage

-- a peer is accepted next
pub record AcceptsNext (tree : Tree) (deadline : Duration) : Type 0 where
  pub next : RequestOutcome → Tree
  pub is : tree ≡ Ask (Accept deadline) next

-- what follows: the next node, after a stranger was dropped or not; or the answer, with a transfer that is live or not
abbrev pub Continues : Coding → Call → Way → Found → State → Reached → Type 0
Continues coding call way came state (reached.Node stage) = Reaches coding call way came state stage
Continues coding call way came state (reached.Turned stage) = Reaches coding call way came state stage × AcceptsNext (remaining coding call state stage) state.settings.active_deadline
Continues coding call way came state (reached.Opens answer) = (after_found came (way_of coding call state way) ≡ Leaf answer (with_transfer state)) × MayAnswer call answer
Continues coding call way came state (reached.Answers answer) = (after_found came (way_of coding call state way) ≡ Leaf answer state) × MayAnswer call answer

-- the next turn begins, or the call is done
abbrev pub to_turn : Option Turn → Reached
to_turn None = reached.Answers answer.Unit
to_turn (Some turn) = reached.Node (At turn)

-- the first node, by who opens the data connection; none where a transfer can't be opened
abbrev pub first_unless : Option FtpError → Mode → ℕ → Reached
first_unless (Some fault) mode offset = reached.Answers (Fault fault)
first_unless None mode offset = reached.Node (first_by mode offset)

-- the transport listens, and the server is told where
abbrev pub listens_as : SocketAddr → ℕ → RequestOutcome → Reached
listens_as local offset (Address bound) = reached.Node (At (Active (at_port (socket_port bound) local) offset))
listens_as local offset (Refused fault) = reached.Answers (Fault (ConnectionError fault))
listens_as local offset Made = reached.Answers (Fault (ConnectionError NoAddress))

-- the transport connects, or the builder does
abbrev pub connects_as : Option Turn → RequestOutcome → Reached
connects_as next (Refused fault) = reached.Answers (Fault (ConnectionError fault))
connects_as next (Address address) = to_turn next
connects_as next Made = to_turn next

abbrev pub builds_as : Option Turn → Option FtpError → Reached
builds_as next None = to_turn next
builds_as next (Some fault) = reached.Answers (Fault fault)

-- the data connection stands: a transfer is live, or a whole file or listing goes over it
abbrev pub stands_as : Opening → Reached
stands_as (Gives answer) = reached.Opens answer
stands_as (Performs task) = reached.Node (Transferring (Starting task))

-- the handshake is over
abbrev pub shaken_as : Opening → Option FtpError → Reached
shaken_as opened None = stands_as opened
shaken_as opened (Some fault) = reached.Answers (Fault fault)

-- a peer that is let in opens the transfer, in a secure session under TLS; another is turned away, and too many of these
-- count as the deadline
abbrev pub turned_as : Turn → SocketAddr → ℕ → Opening → Reached
turned_as turn peer zero opened = reached.Answers (Fault (ConnectionError TimedOut))
turned_as turn peer (suc left) opened = reached.Turned (OpeningData (Asking turn (asking.Accepting peer left opened)))

abbrev pub admitted_as : Bool → Turn → Opening → Reached
admitted_as secure turn opened = if secure then reached.Node (OpeningData (Asking turn (asking.Securing opened))) else stands_as opened

abbrev pub met_as : State → Turn → SocketAddr → ℕ → Opening → RequestOutcome → Reached
met_as state turn peer left opened (Address from) = if lets_in state peer from then admitted_as state.settings.secure turn opened else turned_as turn peer left opened
met_as state turn peer left opened (Refused fault) = reached.Answers (Fault (ConnectionError fault))
met_as state turn peer left opened Made = reached.Answers (Fault (ConnectionError NoAddress))

-- the machine gets there
abbrev pub Arrives : Reached → Stage → SessionValue → SessionValue → Step → Type 0
Arrives (reached.Node next) stage old new result = (result ≡ Next) × (stage ≡ next) × (new ≡ old)
Arrives (reached.Turned next) stage old new result = (result ≡ Next) × (stage ≡ next) × (new ≡ dropped old)
Arrives (reached.Opens answer) stage old new result = (result ≡ Done answer) × (new ≡ record old { state = with_transfer old.state })
Arrives (reached.Answers answer) stage old new result = (result ≡ Done answer) × (new ≡ old)
