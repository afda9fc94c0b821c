-- Why a command has no wire line.
use Rattle.std.specs.Prelude.{◌≡◌, ℕ, List, Result, Err}
use Rattle.ftp_base.specs.declared.types.fault.FtpError.{FtpError}
use Rattle.ftp_base.specs.declared.types.fault.FtpError.TheVariants.{ConnectionError, SecureError, UnexpectedResponse, BadResponse, InvalidAddress, DataConnectionAlreadyOpen, OutOfMemory, SessionFailed}
use Rattle.ftp_base.specs.declared.types.fault.ConnectionError.{ConnectionError as Cause}

-- the error is the wire's own; a failed allocation says nothing of the line
abbrev pub IsRefusalOf : Result (List ℕ) Cause → FtpError → Type 0
IsRefusalOf wire (ConnectionError cause) = wire ≡ Err cause
IsRefusalOf wire (SecureError text) = ⊥
IsRefusalOf wire (UnexpectedResponse reply) = ⊥
IsRefusalOf wire BadResponse = ⊥
IsRefusalOf wire InvalidAddress = ⊥
IsRefusalOf wire DataConnectionAlreadyOpen = ⊥
IsRefusalOf wire OutOfMemory = Unit {0}
IsRefusalOf wire SessionFailed = ⊥
