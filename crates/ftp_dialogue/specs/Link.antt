-- What is known of a session's connection.
use Rattle.std.specs.Prelude.{◌≡◌, Option, Some, None, Result, Err}
use Rattle.std.specs.declared.io.ErrorKind.{ErrorKind}
use Rattle.std.specs.declared.io.ErrorKind.TheVariants as kinds
use Rattle.std.specs.declared.net.socket_addr.SocketAddr.{SocketAddr}
use Rattle.ftp_base.specs.declared.types.fault.FtpError.{FtpError}
use Rattle.ftp_base.specs.declared.types.fault.FtpError.TheVariants.{ConnectionError}
use Rattle.ftp_base.specs.declared.types.fault.ConnectionError.TheVariants.{NoAddress}
use Rattle.ftp_transport.specs.Told.{Told}

-- what a builder of passive data connections may answer for an address
abbrev pub Builds : Type 1
Builds = SocketAddr → Result Told FtpError → Type 0

-- what putting a data connection under TLS may result in: one of this record, or an error
abbrev pub Securing : Type 1
Securing = Result Told FtpError → Type 0

-- what the caller's builder and connector may answer
pub record Beside : Type 1 where
  pub builds : Builds
  pub secures : Securing

-- whether its record is true, and which errors its reads, its writes and a question for an address may answer, the
-- writes by what was recorded; whether a request may have to wait; and what is asked beside it may answer
pub record Link : Type 1 where
  pub tells : Type 0
  pub reads : ErrorKind → Type 0
  pub writes : Told → ErrorKind → Type 0
  pub ends : ErrorKind → Type 0
  pub asks_wait : Type 0
  pub beside : Beside

-- a connection of a transport whose requests may wait, or may not, beside a builder
abbrev pub building : Beside → Type 0 → (ErrorKind → Type 0) → (Told → ErrorKind → Type 0) → (ErrorKind → Type 0) → Type 0 → Link
building beside tells reads writes ends asks_wait = record { tells = tells; reads = reads; writes = writes; ends = ends; asks_wait = asks_wait; beside = beside }

abbrev pub built_beside : Builds → Securing → Type 0 → (ErrorKind → Type 0) → (Told → ErrorKind → Type 0) → (ErrorKind → Type 0) → Type 0 → Link
built_beside builds secures tells reads writes ends asks_wait = building (record { builds = builds; secures = secures }) tells reads writes ends asks_wait

-- no builder is asked
abbrev pub builds_nothing : Builds
builds_nothing = λ address built. ⊥

-- what a session's builder may answer; where it has none there is no address to connect to
abbrev pub built_by : {B : Type 0} → (B → Builds) → Option B → Builds
built_by answers None = λ address built. built ≡ Err (ConnectionError NoAddress)
built_by answers (Some builder) = answers builder

abbrev pub link : Securing → Type 0 → (ErrorKind → Type 0) → (Told → ErrorKind → Type 0) → (ErrorKind → Type 0) → Link
link secures tells reads writes ends = built_beside builds_nothing secures tells reads writes ends ⊥

-- what a clause has as C.Conn: all that is known of a connection that blocks; and as C.PollConn, of one that may wait
abbrev pub Blocks : Type 0 → Type 1
Blocks C = record { tells : Type 0; told : C → Told; end_faults : ErrorKind → Type 0; secures : Securing; blocking_read_faults : ErrorKind → Type 0; blocking_write_faults : Told → ErrorKind → Type 0 }

abbrev pub Polls : Type 0 → Type 1
Polls C = record { tells : Type 0; told : C → Told; end_faults : ErrorKind → Type 0; secures : Securing; may_wait : Type 0; read_faults : ErrorKind → Type 0; write_faults : Told → ErrorKind → Type 0 }

-- a connection that blocks, and one that may wait, where nothing is asked of a builder
abbrev pub blocking : {C : Type 0} → Blocks C → Link
blocking c = link c.secures c.tells c.blocking_read_faults c.blocking_write_faults c.end_faults

abbrev pub polling : {C : Type 0} → Polls C → Link
polling c = link c.secures c.tells c.read_faults c.write_faults c.end_faults

-- the same connection, beside a builder; its requests may wait, or not
abbrev pub asking : Builds → Type 0 → Link → Link
asking builds asks_wait link = record link { asks_wait = asks_wait; beside = record link.beside { builds = builds } }

-- the same connection, where nothing is asked
abbrev pub unasked : Link → Link
unasked link = asking builds_nothing ⊥ link

-- beside a connection that is never under TLS, of which nothing is known there
abbrev pub plain : Builds → Beside
plain builds = record { builds = builds; secures = λ made. Unit {0} }

-- a polled connection over memory: no read fails and no question, and a write fails only where an allocation does
abbrev pub over_memory : Builds → Link
over_memory builds = building (plain builds) (Unit {0}) (λ kind. ⊥) (λ told kind. kind ≡ kinds.OutOfMemory) (λ kind. ⊥) ⊥
