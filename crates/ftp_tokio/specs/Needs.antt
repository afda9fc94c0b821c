-- What a connection, a connect and a listener wait for.
use Rattle.std.specs.Prelude.{◌≡◌, ◌≢◌, ◌⊎◌, ◌+◌, min, ℕ, Bool, true, false, Option, Some, None, Result, Ok, Err, IsSome, IsSomeAnd}
use Rattle.std.specs.declared.io.ErrorKind.{ErrorKind}
use Rattle.futures.specs.declared.task.Poll.{Poll}
use Rattle.futures.specs.declared.task.Poll.TheVariants.{Ready, Pending}
use Rattle.tokio.specs.declared.net.listener.TcpListener.{TcpListener}
use Rattle.tokio.specs.declared.net.stream.ConnectFuture.{ConnectFuture}
use Rattle.tokio.specs.declared.net.stream.TcpStream.{TcpStream}
use Rattle.futures.specs.declared.task.context.Context.{Context}
use Rattle.futures.specs.Task.{Hears}
use Rattle.tokio.specs.declared.time.interval.Interval.{Interval}
use Rattle.tokio.specs.Timers.{interval_delay, sleep_source}
use Rattle.ftp_tokio.specs.declared.conn.TokioConn.{TokioConn}
use Rattle.ftp_tokio.specs.declared.watch.Timing.{Timing}
use Rattle.ftp_tokio.specs.declared.watch.Watch.{Watch}
use Rattle.tokio.specs.Net.{ConnectNeeds, connect_state, listener_readable, stream_readable, stream_writable}

-- a flag says whether the call that gave this result waits
abbrev pub Remembers : {A : Type 0} → Result (Poll A) ErrorKind → Bool → Type 0
Remembers (Ok Pending) flag = flag ≡ true
Remembers (Ok (Ready value)) flag = flag ≡ false
Remembers (Err kind) flag = flag ≡ false

-- so many calls go on in a row, and one more waits; after one that waits they are counted anew
abbrev pub TakesTurns : {A : Type 0} → Result (Poll A) ErrorKind → ℕ → ℕ → Type 0
TakesTurns (Ok (Ready value)) before after = (before ≢ 32) × (after ≡ min (before + 1) 255)
TakesTurns (Ok Pending) before after = after ≡ 0
TakesTurns (Err kind) before after = Unit {0}

-- a read of an open connection fails with the error that a wait has met, where one has
abbrev pub FailsAsMet : {A : Type 0} → TokioConn → Result A ErrorKind → Type 0
FailsAsMet conn result = (kind : ErrorKind) → conn.read_error ≡ Some kind → IsSome conn.stream → result ≡ Err kind

-- a read that waits, of this socket, waits until it can be read
abbrev pub ReadNeeds : Option TcpStream → Bool → ℕ → Type 0
ReadNeeds stream waits source = (waits ≡ true) × IsSomeAnd stream (λ socket. source ≡ stream_readable socket)

-- a write that waits, of this socket, waits until it can be written
abbrev pub WriteNeeds : Option TcpStream → Bool → ℕ → Type 0
WriteNeeds stream waits source = (waits ≡ true) × IsSomeAnd stream (λ socket. source ≡ stream_writable socket)

-- a connection waits for what its last read needs, and for what its last write does
abbrev pub ConnNeeds : TokioConn → ℕ → Type 0
ConnNeeds conn source = ReadNeeds conn.stream conn.read_waits source ⊎ WriteNeeds conn.stream conn.write_waits source

-- the wait of the last read is over, or that of the last write
abbrev pub IsOverOn : TokioConn → TokioConn → Type 0
IsOverOn old new = ((old.read_waits ≡ true) × (new.read_waits ≡ false)) ⊎ ((old.write_waits ≡ true) × (new.write_waits ≡ false))

-- a connect waits for what its future does, until it has its outcome
abbrev pub ConnectWaits : {A : Type 0} → ConnectFuture → Option A → ℕ → Type 0
ConnectWaits future (Some outcome) source = ⊥
ConnectWaits future None source = ConnectNeeds (connect_state future) source

-- an accept that waits, of this socket, waits for a peer
abbrev pub AcceptNeeds : TcpListener → Bool → ℕ → Type 0
AcceptNeeds socket waits source = (waits ≡ true) × (source ≡ listener_readable socket)

-- the task is woken at this timer's next tick
abbrev pub Rings : Context → Interval → Type 0
Rings cx ticks = Hears cx (sleep_source (interval_delay ticks))

-- there is such a timer, or the task is polled again at once
abbrev pub IsRungBy : Context → Option Interval → Type 0
IsRungBy cx ticks = (cx.is_woken ≡ true) ⊎ IsSomeAnd ticks (Rings cx)

-- the task is woken at the end of a wait's limit, or at the turn from which it is counted; or is polled again at once
abbrev pub IsTimed : Context → Timing → Type 0
IsTimed cx timing = IsRungBy cx timing.end ⊎ IsRungBy cx timing.turn

-- the same where there is a limit
abbrev pub IsRung : Context → Watch → Type 0
IsRung cx watch = IsSomeAnd watch.timing (λ timing. IsTimed cx timing.value)
