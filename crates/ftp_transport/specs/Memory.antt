-- What happens to a connection over memory from the outside.
use Rattle.std.specs.Prelude.{◌≡◌, ℕ, ◌+◌, ◌||◌, true, false, None, Result, Ok, Err, List, [], ◌∷◌, ◌++◌, length, if◌then◌else◌, min}
use Rattle.std.specs.declared.net.socket_addr.SocketAddr.{SocketAddr}
use Rattle.std.specs.declared.net.socket_addr.SocketAddr.TheVariants.{V4}
use Rattle.std.specs.Net.Socket.{socket_ip, socket_port, SameFlowAndScope}
use Rattle.ftp_transport.specs.declared.room.Room.{Room}
use Rattle.ftp_transport.specs.declared.room.Room.TheVariants.{Any, UpTo}
use Rattle.std.specs.declared.io.ErrorKind.TheVariants.{ConnectionRefused}
use Rattle.ftp_base.specs.declared.types.fault.ConnectionError.{ConnectionError}
use Rattle.ftp_base.specs.declared.types.fault.ConnectionError.TheVariants.{Io, TimedOut}
use Rattle.ftp_transport.specs.declared.request.Asked.{Asked}
use Rattle.ftp_transport.specs.declared.request.Request.{Request}
use Rattle.ftp_transport.specs.declared.request.Request.TheVariants.{Connect, Listen, Accept, Build}
use Rattle.ftp_transport.specs.declared.supply.Supply.{Supply}
use Rattle.ftp_transport.specs.declared.supply.Supply.TheVariants.{Connects, Peer, Refuses}
use Rattle.ftp_transport.specs.Told.{Told}

-- the address 0.0.0.0:0, of no end
abbrev pub unspecified : SocketAddr
unspecified = V4 (record { ip = record { octets = 0 ∷ 0 ∷ 0 ∷ 0 ∷ [] }; port = 0 })

-- no byte came between these ends, and there is room for any number
abbrev pub fresh_between : SocketAddr → SocketAddr → Told
fresh_between local peer = record {
  received = [];
  ended = false;
  sent = [];
  closed_here = false;
  failures = 0;
  last_fault = None;
  given = record { bytes = []; closed = false; room = Any; local = local; peer = peer };
}

abbrev pub fresh_memory : Told
fresh_memory = fresh_between unspecified unspecified

-- bytes came, where the end wasn't told and wasn't met
abbrev pub fed : List ℕ → Told → Told
fed bytes t = if t.given.closed || t.ended then t else record t { given = record t.given { bytes = t.given.bytes ++ bytes } }

-- what came and wasn't read yet: nothing once the end was met
pub record IsGiven (t : Told) : Type 0 where
  pub ahead : List ℕ
  pub front : t.given.bytes ≡ t.received ++ ahead
  pub over : t.ended ≡ true → ahead ≡ []

-- the end came
abbrev pub closed_memory : Told → Told
closed_memory t = record t { given = record t.given { closed = true } }

-- room for more bytes: first beside those that went out, then beside those that were allowed; a count stays at
-- its greatest value
abbrev pub more_room : ℕ → ℕ → Room → Room
more_room more sent Any = UpTo (min (sent + more) 18446744073709551615)
more_room more sent (UpTo room) = UpTo (min (room + more) 18446744073709551615)

abbrev pub widened : ℕ → Told → Told
widened more t = record t { given = record t.given { room = more_room more (length t.sent) t.given.room } }

-- a transport over memory: what it was asked, with the outcomes, and what its next requests result in; the data
-- connections that were closed, and of how many there is room for a record; and the port that its listeners get
pub record Asking : Type 0 where
  pub answered : List Asked
  pub ready : List Supply
  pub closed : List Told
  pub room : ℕ
  pub port : ℕ

abbrev pub nothing_asked : Asking
nothing_asked = record { answered = []; ready = []; closed = []; room = 0; port = 0 }

-- the address of a connection or a listener that was asked for
abbrev pub address_of : Request → List SocketAddr
address_of (Connect address limit) = address ∷ []
address_of (Listen address) = address ∷ []
address_of (Accept deadline) = []
address_of (Build address) = []

-- those of all, in order
abbrev pub addresses_of : List Asked → List SocketAddr
addresses_of [] = []
addresses_of (one ∷ others) = address_of one.request ++ addresses_of others

-- what is next isn't for a connect: the list ended, or a peer is next
abbrev pub NoConnectionNext : List Supply → Type 0
NoConnectionNext [] = Unit {0}
NoConnectionNext (Connects conn ∷ more) = ⊥
NoConnectionNext (Peer address conn ∷ more) = Unit {0}
NoConnectionNext (Refuses kind ∷ more) = ⊥

-- what is next isn't for an accept: the list ended, or a connection is next
abbrev pub NoPeerNext : List Supply → Type 0
NoPeerNext [] = Unit {0}
NoPeerNext (Connects conn ∷ more) = Unit {0}
NoPeerNext (Peer address conn ∷ more) = ⊥
NoPeerNext (Refuses kind ∷ more) = ⊥

-- where none is due a connect is refused
abbrev pub over_memory : List Supply → ConnectionError → Type 0
over_memory ready fault = NoConnectionNext ready × (fault ≡ Io ConnectionRefused)

-- where none is due an accept waits until its deadline has passed
abbrev pub accepts_over_memory : List Supply → ConnectionError → Type 0
accepts_over_memory ready fault = NoPeerNext ready × (fault ≡ TimedOut)

-- a listener gets the IP that was asked for, and this port
abbrev pub IsBoundTo : ℕ → SocketAddr → SocketAddr → Type 0
IsBoundTo port address bound = (socket_ip bound ≡ socket_ip address) × (socket_port bound ≡ port) × SameFlowAndScope address bound

abbrev pub binds_over_memory : ℕ → SocketAddr → Result SocketAddr ConnectionError → Type 0
binds_over_memory port address (Ok bound) = IsBoundTo port address bound
binds_over_memory port address (Err fault) = ⊥
