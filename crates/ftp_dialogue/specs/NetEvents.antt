-- What stands beside the control connection: the requests of the transport, and the data connection: RFC 959, section
-- 3.2.
use Rattle.std.specs.Prelude.{◌≡◌, ◌⊎◌, ◌<◌, ◌≤◌, ◌==◌, ℕ, Bool, true, false, List, [], ◌∷◌, ◌++◌, length, map, take, Option, Some, None, option_map, Ok, Err, if◌then◌else◌}
use Rattle.std.specs.declared.net.socket_addr.SocketAddr.{SocketAddr}
use Rattle.ftp_calls.specs.declared.exchange.Movement.{Movement}
use Rattle.ftp_calls.specs.declared.exchange.Movement.TheVariants as movement
use Rattle.ftp_base.specs.declared.types.fault.FtpError.{FtpError}
use Rattle.ftp_transport.specs.Asking.{recorded, requests_of}
use Rattle.ftp_transport.specs.Told.{Told, HasFailed, after_close, after_end, after_read, after_write, begun}
use Rattle.ftp_transport.specs.declared.request.Asked.{Asked}
use Rattle.ftp_transport.specs.declared.request.Request.{Request}
use Rattle.ftp_transport.specs.declared.request.Request.TheVariants.{Connect, Listen, Accept, Build}
use Rattle.ftp_transport.specs.declared.request.RequestOutcome.{RequestOutcome}
use Rattle.ftp_transport.specs.declared.request.RequestOutcome.TheVariants.{Done, Address, Refused}
use Rattle.ftp_transport.specs.declared.supply.Supply.{Supply}
use Rattle.ftp_transport.specs.declared.supply.Supply.TheVariants.{Connects, Peer}
use Rattle.ftp_dialogue.specs.declared.model.NetOutcome.{NetOutcome}
use Rattle.ftp_dialogue.specs.declared.model.NetOutcome.TheVariants.{Answered, Built, Secured, Read, Wrote, Closed, Failed, NoMemory}
use Rattle.ftp_dialogue.specs.declared.model.NetRecord.{NetRecord}
use Rattle.ftp_dialogue.specs.declared.model.Traffic.{Traffic}
use Rattle.ftp_dialogue.specs.Link.{Beside}
use Rattle.ftp_dialogue.specs.declared.state.Owed.{Owed}
use Rattle.ftp_dialogue.specs.declared.state.Owed.TheVariants.{Nothing, Live, Left}

-- what the transport was asked, with the outcomes, in order; what it was handed to answer with next; what the data
-- connections tell that were closed and handed back; and what the data connection tells, from the moment that it was
-- made
pub record Net : Type 0 where
  pub asked : List Asked
  pub ready : List Supply
  pub closed : List Told
  pub data_conn : Option Told

-- a transport that was asked and handed so much, and no data connection
abbrev pub first_net : List Asked → List Supply → List Told → Net
first_net asked ready closed = record { asked = asked; ready = ready; closed = closed; data_conn = None }

-- the bytes that went over a connection
abbrev pub traffic_of : Told → Traffic
traffic_of t = record { received = t.received; sent = t.sent }

abbrev pub no_traffic : Traffic
no_traffic = record { received = []; sent = [] }

abbrev pub net_record_of : Net → NetRecord
net_record_of n = record { asked = requests_of n.asked; closed = map traffic_of n.closed; data_conn = option_map traffic_of n.data_conn }

-- Requests

-- the data connection after a request: one that came, of which nothing was read or written yet, or the one of before;
-- a peer that was asked for takes its place
abbrev pub data_after : Request → RequestOutcome → Option Traffic → Option Traffic
data_after (Connect address limit) Done conn = Some no_traffic
data_after (Connect address limit) (Address other) conn = conn
data_after (Connect address limit) (Refused fault) conn = conn
data_after (Listen address) outcome conn = conn
data_after (Accept deadline) Done conn = None
data_after (Accept deadline) (Address from) conn = Some no_traffic
data_after (Accept deadline) (Refused fault) conn = None
data_after (Build address) outcome conn = conn

abbrev pub after_request : Request → RequestOutcome → NetRecord → NetRecord
after_request request outcome d = record { asked = d.asked ++ request ∷ []; closed = d.closed; data_conn = data_after request outcome d.data_conn }

-- the data connection while a request isn't answered
abbrev pub data_meanwhile : Request → Option Traffic → Option Traffic
data_meanwhile (Connect address limit) conn = conn
data_meanwhile (Listen address) conn = conn
data_meanwhile (Accept deadline) conn = None
data_meanwhile (Build address) conn = conn

abbrev pub during_request : Request → NetRecord → NetRecord
during_request request d = record { asked = d.asked ++ request ∷ []; closed = d.closed; data_conn = data_meanwhile request d.data_conn }

-- The caller's builder

-- the data connection after the builder was asked: the one that it made, or the one of before where it gave an error
abbrev pub data_built : Option FtpError → Option Traffic → Option Traffic
data_built None conn = Some no_traffic
data_built (Some fault) conn = conn

abbrev pub constructed : SocketAddr → Option FtpError → NetRecord → NetRecord
constructed address fault d = record { asked = d.asked ++ Build address ∷ []; closed = d.closed; data_conn = data_built fault d.data_conn }

-- while the builder's answer isn't known
abbrev pub constructing : SocketAddr → NetRecord → NetRecord
constructing address d = record d { asked = d.asked ++ Build address ∷ [] }

-- TLS

-- the data connection after a handshake: one under TLS, of which nothing was read or written yet; or there is none
abbrev pub data_secured : Option FtpError → Option Traffic
data_secured None = Some no_traffic
data_secured (Some fault) = None

abbrev pub secured : Option FtpError → NetRecord → NetRecord
secured fault d = record d { data_conn = data_secured fault }

-- while it is made the connector has the connection
abbrev pub securing : NetRecord → NetRecord
securing d = record d { data_conn = None }

-- What is done on the data connection

-- the outcome is one of such a movement
abbrev pub answers : Movement → NetOutcome → Bool
answers (movement.Read most) (Read bytes) = true
answers (movement.Write bytes) (Wrote count) = true
answers movement.Close Closed = true
answers (movement.Read most) NoMemory = true
answers moves (Failed kind) = true
answers moves other = false

-- what was read, or written
abbrev pub read_more : NetOutcome → Traffic → Traffic
read_more (Read bytes) t = record t { received = t.received ++ bytes }
read_more other t = t

abbrev pub written_more : List ℕ → NetOutcome → Traffic → Traffic
written_more bytes (Wrote count) t = record t { sent = t.sent ++ take count bytes }
written_more bytes other t = t

-- one more, if there is one
abbrev pub with_last : {T : Type 0} → List T → Option T → List T
with_last l None = l
with_last l (Some last) = l ++ last ∷ []

-- the data connection is closed and handed back
abbrev pub parted : NetRecord → NetRecord
parted d = record d { closed = with_last d.closed d.data_conn; data_conn = None }

abbrev pub moved : Movement → NetOutcome → NetRecord → NetRecord
moved (movement.Read most) outcome d = record d { data_conn = option_map (read_more outcome) d.data_conn }
moved (movement.Write bytes) outcome d = record d { data_conn = option_map (written_more bytes outcome) d.data_conn }
moved movement.Close outcome d = parted d

-- a call is done: a data connection is kept for a live transfer alone; that of one that was left is closed and handed
-- back
abbrev pub settled : Owed → NetRecord → NetRecord
settled Nothing d = record d { data_conn = None }
settled (Live number) d = d
settled (Left number) d = parted d

-- What happened, and what it left

-- a request was answered; the builder was asked, and made a connection or gave an error; the data connection was put under
-- TLS, or couldn't be; something was done on it; it was closed and handed back, whatever the close resulted in; or it was let
-- go
pub data NetEvent : Type 0 where
  Requested : Request → RequestOutcome → NetEvent
  Constructed : SocketAddr → Option FtpError → NetEvent
  Handshook : Option FtpError → NetEvent
  Moved : Movement → NetOutcome → NetEvent
  Parted : NetEvent
  Dropped : NetEvent

abbrev pub outcomes_of : List NetEvent → List NetOutcome
outcomes_of [] = []
outcomes_of (Requested request outcome ∷ more) = Answered outcome ∷ outcomes_of more
outcomes_of (Constructed address fault ∷ more) = Built fault ∷ outcomes_of more
outcomes_of (Handshook fault ∷ more) = Secured fault ∷ outcomes_of more
outcomes_of (Moved movement outcome ∷ more) = outcome ∷ outcomes_of more
outcomes_of (Parted ∷ more) = outcomes_of more
outcomes_of (Dropped ∷ more) = outcomes_of more

-- the data connection is the next that the transport was handed, and nothing of it was read or written yet
abbrev pub IsNext : (Told → Supply) → Net → Net → Type 0
IsNext supply n m = (told : Told) × (n.ready ≡ supply told ∷ m.ready) × (m.data_conn ≡ Some (begun told))

abbrev pub DataIs : Request → RequestOutcome → Net → Net → Type 0
DataIs (Connect address limit) Done n m = IsNext Connects n m
DataIs (Connect address limit) (Address other) n m = m.data_conn ≡ n.data_conn
DataIs (Connect address limit) (Refused fault) n m = m.data_conn ≡ n.data_conn
DataIs (Listen address) outcome n m = (m.data_conn ≡ n.data_conn) × (m.ready ≡ n.ready)
DataIs (Accept deadline) Done n m = m.data_conn ≡ None
DataIs (Accept deadline) (Address from) n m = IsNext (Peer from) n m
DataIs (Accept deadline) (Refused fault) n m = m.data_conn ≡ None
DataIs (Build address) outcome n m = (m.data_conn ≡ n.data_conn) × (m.ready ≡ n.ready)

-- an answered request is on record, and the connections that are over stay
pub record RequestIs (request : Request) (outcome : RequestOutcome) (n m : Net) : Type 0 where
  pub asked : m.asked ≡ recorded request outcome n.asked
  pub data_is : DataIs request outcome n m
  pub closed : m.closed ≡ n.closed

-- the data connection is the one that the builder made, and nothing of it was read or written yet; or it gave an error
abbrev pub BuiltIs : Beside → SocketAddr → Option FtpError → Net → Net → Type 0
BuiltIs beside address None n m = (told : Told) × beside.builds address (Ok told) × (m.data_conn ≡ Some (begun told))
BuiltIs beside address (Some fault) n m = beside.builds address (Err fault) × (m.data_conn ≡ n.data_conn)

-- what the builder was asked is on record, and the transport's own items stay
pub record ConstructedIs (beside : Beside) (address : SocketAddr) (fault : Option FtpError) (n m : Net) : Type 0 where
  pub asked : m.asked ≡ recorded (Build address) Done n.asked
  pub built : BuiltIs beside address fault n m
  pub ready : m.ready ≡ n.ready
  pub closed : m.closed ≡ n.closed

-- the data connection is one that the connector made, of which nothing was read or written yet; or it gave an error, and
-- there is none; nothing else has changed
abbrev pub HandshookIs : Beside → Option FtpError → Net → Net → Type 0
HandshookIs beside None n m = (told : Told) × beside.secures (Ok told) × (m ≡ record n { data_conn = Some (begun told) })
HandshookIs beside (Some fault) n m = beside.secures (Err fault) × (m ≡ record n { data_conn = None })

-- a read gave at most so many bytes, or met the end where it gave none; or it failed, which was counted; or there was no
-- memory for it, or at the end for what had come
abbrev pub ReadIs : ℕ → NetOutcome → Told → Told → Type 0
ReadIs most (Read bytes) t u = (length bytes ≤ most) × (u ≡ (if length bytes == 0 then after_end t else after_read bytes t))
ReadIs most (Failed kind) t u = HasFailed kind t u
ReadIs most NoMemory t u = (u ≡ t) ⊎ (u ≡ after_end t)
ReadIs most other t u = ⊥

-- a write took some of the bytes, from the front; or it failed
abbrev pub WriteIs : List ℕ → NetOutcome → Told → Told → Type 0
WriteIs bytes (Wrote count) t u = (0 < count) × (count ≤ length bytes) × (u ≡ after_write (take count bytes) t)
WriteIs bytes (Failed kind) t u = HasFailed kind t u
WriteIs bytes other t u = ⊥

-- this end closed the connection, and the close was done, or failed
abbrev pub CloseIs : NetOutcome → Told → Told → Type 0
CloseIs Closed t u = u ≡ after_close t
CloseIs (Failed kind) t u = HasFailed kind (after_close t) u
CloseIs other t u = ⊥

-- the data connection tells more, and nothing else has changed
abbrev pub DataTells : (Told → Told → Type 0) → Net → Net → Type 0
DataTells Tells n m = (t : Told) × (u : Told) × (n.data_conn ≡ Some t) × (m ≡ record n { data_conn = Some u }) × Tells t u

-- the data connection, where there is one, was closed and is with those that are over
abbrev pub ClosesFrom : NetOutcome → Option Told → Net → Net → Type 0
ClosesFrom outcome None n m = m ≡ n
ClosesFrom outcome (Some t) n m = (u : Told) × (m ≡ record n { closed = n.closed ++ u ∷ []; data_conn = None }) × CloseIs outcome t u

abbrev pub ClosesBy : NetOutcome → Net → Net → Type 0
ClosesBy outcome n m = ClosesFrom outcome n.data_conn n m

abbrev pub MovedIs : Movement → NetOutcome → Net → Net → Type 0
MovedIs (movement.Read most) outcome n m = DataTells (ReadIs most outcome) n m
MovedIs (movement.Write bytes) outcome n m = DataTells (WriteIs bytes outcome) n m
MovedIs movement.Close outcome n m = ClosesBy outcome n m

abbrev pub MovementIs : Movement → NetOutcome → Net → Net → Type 0
MovementIs movement outcome n m = (answers movement outcome ≡ true) × MovedIs movement outcome n m

abbrev pub PartedIs : Net → Net → Type 0
PartedIs n m = (outcome : NetOutcome) × ClosesBy outcome n m

abbrev pub NetEventIs : Beside → NetEvent → Net → Net → Type 0
NetEventIs beside (Requested request outcome) n m = RequestIs request outcome n m
NetEventIs beside (Constructed address fault) n m = ConstructedIs beside address fault n m
NetEventIs beside (Handshook fault) n m = HandshookIs beside fault n m
NetEventIs beside (Moved movement outcome) n m = MovementIs movement outcome n m
NetEventIs beside Parted n m = PartedIs n m
NetEventIs beside Dropped n m = m ≡ record n { data_conn = None }

-- one after another
abbrev pub NetEvents : Beside → List NetEvent → Net → Net → Type 0
NetEvents beside [] n m = m ≡ n
NetEvents beside (net_event ∷ net_events) n m = (k : Net) × NetEventIs beside net_event n k × NetEvents beside net_events k m
