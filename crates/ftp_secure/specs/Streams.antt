-- A connection that may be under TLS, as its caller sees it.
use Rattle.std.specs.Prelude.{◌≡◌, ◌⊎◌, ℕ, Option, Some, None, Result, Ok, Err}
use Rattle.std.specs.declared.io.ErrorKind.{ErrorKind}
use Rattle.std.specs.declared.io.ErrorKind.TheVariants.{NotConnected}
use Rattle.ftp_base.specs.declared.types.fault.ConnectionError.TheVariants.{Io}
use Rattle.ftp_base.specs.declared.types.fault.FtpError.{FtpError}
use Rattle.ftp_base.specs.declared.types.fault.FtpError.TheVariants.{ConnectionError}
use Rattle.ftp_transport.specs.Told.{Told}
use Rattle.ftp_secure.specs.Gone.{gone_after}
use Rattle.ftp_secure.specs.declared.data_stream.DataStream.{DataStream}
use Rattle.ftp_secure.specs.declared.data_stream.DataStream.TheVariants.{Tcp, Ssl, Gone}

-- the record of what its caller reads and writes: under TLS in clear
abbrev pub told_in_clear : {C : Type 0} {S : Type 0} → (C → Told) → (S → Told) → DataStream C S → Told
told_in_clear plain secure (Tcp conn) = plain conn
told_in_clear plain secure (Ssl stream) = secure stream
told_in_clear plain secure (Gone conn) = gone_after conn.failures conn.last_fault

-- the connection itself, under whatever TLS; none where it was handed over
abbrev pub conn_below : {C : Type 0} {S : Type 0} → (S → C) → DataStream C S → Option C
conn_below below (Tcp conn) = Some conn
conn_below below (Ssl stream) = Some (below stream)
conn_below below (Gone conn) = None

-- an error of either kind, or that the connection was handed over
abbrev pub AnyFault : (ErrorKind → Type 0) → (ErrorKind → Type 0) → ErrorKind → Type 0
AnyFault plain secure kind = plain kind ⊎ secure kind ⊎ (kind ≡ NotConnected)

-- there is no connection
abbrev pub not_connected : FtpError
not_connected = ConnectionError (Io NotConnected)

-- the record of the connection itself, under whatever TLS
abbrev pub told_below : {C : Type 0} {S : Type 0} → (C → Told) → (S → C) → DataStream C S → Told
told_below plain below (Tcp conn) = plain conn
told_below plain below (Ssl stream) = plain (below stream)
told_below plain below (Gone conn) = gone_after conn.failures conn.last_fault

-- asked for the connection below a plain one gives itself, and one under TLS what its stream may give: a connection of this
-- record, or an error
abbrev pub GivesBack : {C : Type 0} {S : Type 0} → (C → Told) → (S → Result Told FtpError → Type 0) → DataStream C S → Result Told FtpError → Type 0
GivesBack plain gives (Tcp conn) result = result ≡ Ok (plain conn)
GivesBack plain gives (Ssl stream) result = gives stream result
GivesBack plain gives (Gone conn) result = result ≡ Err not_connected

-- what a poll that waits needs: what the connection needs, or its stream
abbrev pub StreamNeeds : {C : Type 0} {S : Type 0} → (C → ℕ → Type 0) → (S → ℕ → Type 0) → DataStream C S → ℕ → Type 0
StreamNeeds plain secure (Tcp conn) source = plain conn source
StreamNeeds plain secure (Ssl stream) source = secure stream source
StreamNeeds plain secure (Gone conn) source = ⊥
