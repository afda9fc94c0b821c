-- What putting a connection under TLS results in.
use Rattle.std.specs.Prelude.{◌≡◌, ◌⊎◌, ℕ, List, Option, Some, None, Result, Ok, Err, string_bytes}
use Rattle.std.specs.declared.alloc.Global.{Global}
use Rattle.std.specs.declared.string.String.{String}
use Rattle.ftp_base.specs.declared.types.fault.FtpError.{FtpError}
use Rattle.ftp_base.specs.declared.types.fault.FtpError.TheVariants.{SecureError}
use Rattle.ftp_transport.specs.Told.{Told}

-- the connection below is given back, or why it can't be, and is handed to the connector; the stream has this record, or the
-- connector's text comes back
abbrev pub SecuresBy : (Result Told FtpError → Type 0) → (Told → Result Told (List ℕ) → Type 0) → Result Told FtpError → Type 0
SecuresBy gives answers (Ok told) = (handed : Told) × gives (Ok handed) × answers handed (Ok told)
SecuresBy gives answers (Err fault) =
    gives (Err fault) ⊎ ((handed : Told) × (text : List ℕ) × gives (Ok handed) × answers handed (Err text) × (fault ≡ SecureError text))

-- a connector and the server's name that are kept, if any: where none are the connection stays as it is
abbrev pub SecuresAsKept : {K : Type 0} → (K → List ℕ → Told → Result Told (List ℕ) → Type 0) → Option (K × String Global) → (Result Told FtpError → Type 0) → Told → Result Told FtpError → Type 0
SecuresAsKept answers None gives told result = result ≡ Ok told
SecuresAsKept answers (Some kept) gives told result = SecuresBy gives (answers kept.0 (string_bytes kept.1)) result

-- a handshake's stream, or its text
abbrev pub ComesAs : (Result Told (List ℕ) → Type 0) → Result Told FtpError → Type 0
ComesAs answers (Ok told) = answers (Ok told)
ComesAs answers (Err fault) = (text : List ℕ) × answers (Err text) × (fault ≡ SecureError text)
