-- The connect that a transport has under way.
use Rattle.std.specs.Prelude.{◌≡◌, ℕ, Option, Some, None, Result, IsSome}
use Rattle.std.specs.declared.io.Error.{Error}
use Rattle.std.specs.declared.net.socket_addr.SocketAddr.{SocketAddr}
use Rattle.tokio.specs.declared.net.stream.TcpStream.{TcpStream}
use Rattle.ftp_tokio.specs.Needs.{ConnectWaits}
use Rattle.ftp_tokio.specs.declared.attempt.Attempt.{Attempt}

-- one to this address is under way
abbrev pub IsUnderWay : Option Attempt → SocketAddr → Type 0
IsUnderWay (Some attempt) address = (attempt.address ≡ address) × (attempt.outcome ≡ None)
IsUnderWay None address = ⊥

-- one to this address has this outcome
abbrev pub CameTo : Option Attempt → SocketAddr → Result TcpStream Error → Type 0
CameTo (Some attempt) address outcome = (attempt.address ≡ address) × (attempt.outcome ≡ Some outcome)
CameTo None address outcome = ⊥

-- there is one, with an outcome that no connect has returned
abbrev pub IsDone : Option Attempt → Type 0
IsDone (Some attempt) = IsSome attempt.outcome
IsDone None = ⊥

-- what it waits for
abbrev pub AttemptNeeds : Option Attempt → ℕ → Type 0
AttemptNeeds (Some attempt) source = ConnectWaits attempt.future attempt.outcome source
AttemptNeeds None source = ⊥
