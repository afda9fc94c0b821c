-- What a connection tells of itself.
use Rattle.std.specs.Prelude.{◌≡◌, ℕ, ◌≤◌, ◌<◌, ◌-◌, ◌==◌, ◌⊎◌, Bool, true, false, List, [], ◌++◌, length, take, drop, Option, Some, Result, Ok, Err, if◌then◌else◌}
use Rattle.std.specs.declared.io.ErrorKind.{ErrorKind}
use Rattle.std.specs.declared.net.socket_addr.SocketAddr.{SocketAddr}
use Rattle.ftp_transport.specs.declared.room.Room.{Room}
use Rattle.ftp_transport.specs.declared.room.Room.TheVariants.{Any, UpTo}
use Rattle.futures.specs.declared.task.Poll.{Poll}
use Rattle.futures.specs.declared.task.Poll.TheVariants.{Ready, Pending}

-- what is at hand: the bytes that came for reading, whether no others come, the room for writing, and the addresses of
-- both ends
pub record Given : Type 0 where
  pub bytes : List ℕ
  pub closed : Bool
  pub room : Room
  pub local : SocketAddr
  pub peer : SocketAddr

-- what went over a connection since its channel began: the bytes that reads gave, whether one met the end, the
-- bytes that writes took; whether this end closed it; how many calls failed, and the last with which error; and what is
-- at hand
pub record Told : Type 0 where
  pub received : List ℕ
  pub ended : Bool
  pub sent : List ℕ
  pub closed_here : Bool
  pub failures : ℕ
  pub last_fault : Option ErrorKind
  pub given : Given

-- so many bytes are within the room
abbrev pub HasRoomFor : Room → ℕ → Type 0
HasRoomFor Any count = Unit {0}
HasRoomFor (UpTo most) count = count ≤ most

-- what went out is within the room
abbrev pub Fits : Told → Type 0
Fits t = HasRoomFor t.given.room (length t.sent)

-- the room that is left after so many bytes
abbrev pub room_after : ℕ → Room → Room
room_after sent Any = Any
room_after sent (UpTo most) = UpTo (most - sent)

-- a channel begins on a connection: what came and wasn't read is still to come, and what room was left is left
abbrev pub begun : Told → Told
begun t = record {
  received = [];
  ended = false;
  sent = [];
  closed_here = t.closed_here;
  failures = t.failures;
  last_fault = t.last_fault;
  given = record t.given { bytes = drop (length t.received) t.given.bytes; room = room_after (length t.sent) t.given.room };
}

abbrev pub after_read : List ℕ → Told → Told
after_read bytes t = record t { received = t.received ++ bytes }

abbrev pub after_end : Told → Told
after_end t = record t { ended = true }

abbrev pub after_write : List ℕ → Told → Told
after_write bytes t = record t { sent = t.sent ++ bytes }

abbrev pub after_close : Told → Told
after_close t = record t { closed_here = true }

-- nothing is there to read, and more may come
pub record IsDry (t : Told) : Type 0 where
  pub all : t.received ≡ t.given.bytes
  pub open_end : t.given.closed ≡ false

-- no room is left to write
abbrev pub HasNoRoom : Room → ℕ → Type 0
HasNoRoom Any count = ⊥
HasNoRoom (UpTo most) count = most ≤ count

abbrev pub IsFull : Told → Type 0
IsFull t = HasNoRoom t.given.room (length t.sent)

-- a failure was counted, with its error; a count stays at its greatest value
abbrev pub HasCounted : ErrorKind → Told → Told → Type 0
HasCounted kind t u = ((t.failures < u.failures) ⊎ (u.failures ≡ 18446744073709551615)) × (u.last_fault ≡ Some kind)

-- a call failed with this error and was counted, and nothing else happened
pub record HasFailed (kind : ErrorKind) (t u : Told) : Type 0 where
  pub same : u ≡ record t { failures = u.failures; last_fault = u.last_fault }
  pub counts : HasCounted kind t u

-- the record as it was before a failure
abbrev pub before_fault : Told → Told → Told
before_fault t u = record u { failures = t.failures; last_fault = t.last_fault }

-- no call failed
pub record NoneFailed (t u : Told) : Type 0 where
  pub failures : u.failures ≡ t.failures
  pub last_fault : u.last_fault ≡ t.last_fault

-- what a read that was given room tells: bytes, the end, that it waits, or a failure
abbrev pub ReadTells : Result (Poll ℕ) ErrorKind → List ℕ → Told → Told → Type 0
ReadTells (Ok (Ready count)) buffer t u = u ≡ (if count == 0 then after_end t else after_read (take count buffer) t)
ReadTells (Ok Pending) buffer t u = (u ≡ t) × IsDry t
ReadTells (Err kind) buffer t u = HasFailed kind t u

-- the end is met only where it was told
abbrev pub EndsAsTold : Bool → Bool → Told → Type 0
EndsAsTold ended ended' t = ended' ≡ true → (ended ≡ true) ⊎ (t.given.closed ≡ true)

-- what a write of bytes tells: how many it took, within the room, that it waits, or a failure
abbrev pub WriteTells : Result (Poll ℕ) ErrorKind → List ℕ → Told → Told → Type 0
WriteTells (Ok (Ready count)) bytes t u = (u ≡ after_write (take count bytes) t) × (Fits t → Fits u)
WriteTells (Ok Pending) bytes t u = (u ≡ t) × IsFull t
WriteTells (Err kind) bytes t u = HasFailed kind t u

-- a read gives at most what there is room for
abbrev pub ReadsAtMost : Result (Poll ℕ) ErrorKind → ℕ → Type 0
ReadsAtMost (Ok (Ready count)) room = count ≤ room
ReadsAtMost (Ok Pending) room = Unit {0}
ReadsAtMost (Err kind) room = Unit {0}

-- a write takes at least one byte and at most all
abbrev pub WritesSome : Result (Poll ℕ) ErrorKind → ℕ → Type 0
WritesSome (Ok (Ready count)) all = (0 < count) × (count ≤ all)
WritesSome (Ok Pending) all = Unit {0}
WritesSome (Err kind) all = Unit {0}

-- the same of calls that never wait
abbrev pub as_poll : Result ℕ ErrorKind → Result (Poll ℕ) ErrorKind
as_poll (Ok count) = Ok (Ready count)
as_poll (Err kind) = Err kind

-- what a question for an address tells: this one, or a failure
abbrev pub AddressTells : SocketAddr → Result SocketAddr ErrorKind → Told → Told → Type 0
AddressTells address (Ok answer) t u = (answer ≡ address) × (u ≡ t)
AddressTells address (Err kind) t u = HasFailed kind t u

-- what a close tells: that this end closed the connection, and a failure, if it met one
abbrev pub CloseTells : Result (Unit {0}) ErrorKind → Told → Told → Type 0
CloseTells (Ok done) t u = u ≡ after_close t
CloseTells (Err kind) t u = HasFailed kind (after_close t) u
