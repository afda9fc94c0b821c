-- A source that is copied to a transfer: RFC 959, sections 3.1.1.1 (a text's lines end in CR LF) and 3.4.1.
use Rattle.std.specs.Prelude.{◌≡◌, ◌⊎◌, ◌+◌, ◌≤◌, ◌<◌, ℕ, Bool, true, List, ◌++◌, length, Option, Result, Ok, Err}
use Rattle.std.specs.Io.KnownBytes.{Consumes, IsAtEnd}
use Rattle.std.specs.declared.io.ErrorKind.{ErrorKind}
use Rattle.ftp_base.specs.Ascii.{IsCopyFault, ends_in_return, most_bytes, wire_data}
use Rattle.ftp_base.specs.declared.types.fault.FtpError.{FtpError}
use Rattle.ftp_base.specs.declared.types.fault.FtpError.TheVariants.{ConnectionError, OutOfMemory}
use Rattle.ftp_base.specs.declared.types.fault.ConnectionError.TheVariants.{Io, SourceTooLarge}
use Rattle.ftp_transport.specs.Told.{HasCounted}
use Rattle.ftp_transfer.specs.Transfer.{TransferValue, with_told}

-- these bytes were written on a transfer, no call failed, and it is else as it was
pub record Wrote (tells : Type 0) (bytes : List ℕ) (old new : TransferValue) : Type 0 where
  pub sent : tells → new.told.sent ≡ old.told.sent ++ bytes
  pub calm : tells → new.told.failures ≡ old.told.failures
  pub kept : new ≡ with_told new.told old

-- a front of these bytes was written
pub record WroteFront (tells : Type 0) (bytes : List ℕ) (old new : TransferValue) : Type 0 where
  pub front : List ℕ
  pub rest : List ℕ
  pub parts : bytes ≡ front ++ rest
  pub sent : tells → new.told.sent ≡ old.told.sent ++ front
  pub kept : new ≡ with_told new.told old

-- the data connection counted a failure of this kind
abbrev pub Failed : Type 0 → ErrorKind → TransferValue → TransferValue → Type 0
Failed tells kind old new = tells → HasCounted kind old.told new.told

-- all bytes are written, or the connection fails after a front of them
abbrev pub WritesAll : Type 0 → List ℕ → TransferValue → TransferValue → Result (Unit {0}) ErrorKind → Type 0
WritesAll tells bytes old new (Ok done) = Wrote tells bytes old new
WritesAll tells bytes old new (Err kind) = WroteFront tells bytes old new × Failed tells kind old new

-- why a piece isn't written whole: memory, the size of the source, or the data connection
abbrev pub Hinders : Type 0 → TransferValue → TransferValue → FtpError → Type 0
Hinders tells old new fault =
    (fault ≡ OutOfMemory) ⊎ (fault ≡ ConnectionError SourceTooLarge) ⊎ ((kind : ErrorKind) × (fault ≡ ConnectionError (Io kind)) × Failed tells kind old new)

-- a source is too large only where more bytes than can be counted would go out
abbrev pub TooLarge : FtpError → ℕ → Type 0
TooLarge fault size = fault ≡ ConnectionError SourceTooLarge → most_bytes < size

-- bytes are written after so many
abbrev pub SendsAll : Type 0 → List ℕ → TransferValue → TransferValue → ℕ → Result ℕ FtpError → Type 0
SendsAll tells bytes old new count (Ok size) = Wrote tells bytes old new × (size ≡ count + length bytes) × (size ≤ most_bytes)
SendsAll tells bytes old new count (Err fault) = WroteFront tells bytes old new × Hinders tells old new fault × TooLarge fault (count + length bytes)

-- what a piece adds to what stands on the wire for the bytes before it
pub record Adds (text : Bool) (before piece added : List ℕ) : Type 0 where
  pub whole : wire_data text (before ++ piece) ≡ wire_data text before ++ added
  pub longer : length piece ≤ length added

-- the next piece is written
pub record SentPiece (tells : Type 0) (text : Bool) (before piece : List ℕ) (after : Bool) (old new : TransferValue) (count size : ℕ) : Type 0 where
  pub added : List ℕ
  pub adds : Adds text before piece added
  pub wrote : Wrote tells added old new
  pub counts : size ≡ count + length added
  pub within : size ≤ most_bytes
  pub last : text ≡ true → after ≡ ends_in_return (before ++ piece)

pub record HinderedPiece (tells : Type 0) (text : Bool) (before piece : List ℕ) (old new : TransferValue) (count : ℕ) (fault : FtpError) : Type 0 where
  pub added : List ℕ
  pub adds : Adds text before piece added
  pub wrote : WroteFront tells added old new
  pub cause : Hinders tells old new fault
  pub too_large : TooLarge fault (count + length added)

abbrev pub SendsPiece : Type 0 → Bool → List ℕ → List ℕ → Bool → TransferValue → TransferValue → ℕ → Result ℕ FtpError → Type 0
SendsPiece tells text before piece after old new count (Ok size) = SentPiece tells text before piece after old new count size
SendsPiece tells text before piece after old new count (Err fault) = HinderedPiece tells text before piece old new count fault

-- so many bytes have gone out for what a source gave
pub record Copied (tells : Type 0) (text : Bool) (source source' : Option (List ℕ)) (old new : TransferValue) (count : ℕ) : Type 0 where
  pub given : List ℕ
  pub taken : Consumes source source' given
  pub wrote : Wrote tells (wire_data text given) old new
  pub counted : count ≡ length (wire_data text given)

-- a copy gives up: the source failed, and what it gave has gone out; or its last piece couldn't be written whole
pub record GaveUp (tells : Type 0) (text : Bool) (source source' : Option (List ℕ)) (old new : TransferValue) (fault : FtpError) : Type 0 where
  pub given : List ℕ
  pub taken : Consumes source source' given
  pub wrote : (Wrote tells (wire_data text given) old new × IsCopyFault fault) ⊎ (WroteFront tells (wire_data text given) old new × Hinders tells old new fault)
  pub too_large : TooLarge fault (length (wire_data text given))

-- a source is copied to its end, or not
abbrev pub Copies : Type 0 → Bool → Option (List ℕ) → Option (List ℕ) → TransferValue → TransferValue → Result ℕ FtpError → Type 0
Copies tells text source source' old new (Ok count) = Copied tells text source source' old new count × IsAtEnd source'
Copies tells text source source' old new (Err fault) = GaveUp tells text source source' old new fault
