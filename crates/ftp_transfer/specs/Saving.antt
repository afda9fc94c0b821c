-- A download that goes to a caller's writer: RFC 959, sections 3.4.1 (the end of the data is the end of the file) and 4.1.3.
use Rattle.std.specs.Prelude.{◌≡◌, ◌⊎◌, ◌<◌, ℕ, true, List, ◌++◌, length, Option, Result, Ok, Err}
use Rattle.std.specs.Io.KnownBytes.{Appends}
use Rattle.std.specs.declared.io.ErrorKind.{ErrorKind}
use Rattle.ftp_base.specs.Ascii.{AppendsFront, most_bytes}
use Rattle.ftp_base.specs.declared.types.fault.FtpError.{FtpError}
use Rattle.ftp_base.specs.declared.types.fault.FtpError.TheVariants.{ConnectionError, OutOfMemory}
use Rattle.ftp_base.specs.declared.types.fault.ConnectionError.TheVariants.{Io, SourceTooLarge}
use Rattle.ftp_transfer.specs.Copying.{Failed}
use Rattle.ftp_transfer.specs.Transfer.{TransferValue, with_told}

-- these bytes came on a transfer, which is else as it was
pub record Gave (tells : Type 0) (bytes : List ℕ) (old new : TransferValue) : Type 0 where
  pub received : tells → new.told.received ≡ old.told.received ++ bytes
  pub kept : new ≡ with_told new.told old

-- all that a transfer gave, up to its end, was written, and so many bytes they were
pub record Saved (tells : Type 0) (writer writer' : Option (List ℕ)) (old new : TransferValue) (count : ℕ) : Type 0 where
  pub given : List ℕ
  pub gave : Gave tells given old new
  pub ended : tells → new.told.ended ≡ true
  pub calm : tells → new.told.failures ≡ old.told.failures
  pub wrote : Appends writer writer' given
  pub counted : count ≡ length given

-- there is no memory for a buffer, or the data connection failed
abbrev pub EndsEarly : Type 0 → TransferValue → TransferValue → FtpError → Type 0
EndsEarly tells old new fault = (fault ≡ OutOfMemory) ⊎ ((kind : ErrorKind) × (fault ≡ ConnectionError (Io kind)) × Failed tells kind old new)

-- the writer failed, or more bytes came than can be counted
abbrev pub StopsAt : List ℕ → FtpError → Type 0
StopsAt given fault = ((kind : ErrorKind) × (fault ≡ ConnectionError (Io kind))) ⊎ ((fault ≡ ConnectionError SourceTooLarge) × (most_bytes < length given))

-- the data connection counted no failure
abbrev pub CountsNone : Type 0 → TransferValue → TransferValue → Type 0
CountsNone tells old new = tells → new.told.failures ≡ old.told.failures

-- what came before the data ended early was written; where the writer stops a front of it was. A failure of the data
-- connection is told as its own
pub record SaveFails (tells : Type 0) (writer writer' : Option (List ℕ)) (old new : TransferValue) (fault : FtpError) : Type 0 where
  pub given : List ℕ
  pub gave : Gave tells given old new
  pub cause : (Appends writer writer' given × EndsEarly tells old new fault) ⊎ (AppendsFront writer writer' given × StopsAt given fault)
  pub own : CountsNone tells old new ⊎ (Appends writer writer' given × EndsEarly tells old new fault)

abbrev pub Saves : Type 0 → Option (List ℕ) → Option (List ℕ) → TransferValue → TransferValue → Result ℕ FtpError → Type 0
Saves tells writer writer' old new (Ok count) = Saved tells writer writer' old new count
Saves tells writer writer' old new (Err fault) = SaveFails tells writer writer' old new fault
