-- A transfer on a data connection: RFC 959, section 3.2.
use Rattle.std.specs.Prelude.{◌≡◌, ℕ, Bool, true, Result, Ok, Err}
use Rattle.std.specs.IoError.{error_kind}
use Rattle.std.specs.declared.io.Error.{Error}
use Rattle.std.specs.declared.io.ErrorKind.{ErrorKind}
use Rattle.ftp_transfer.specs.Mark.{End, loaded}
use Rattle.ftp_transport.specs.Told.{Told, after_close, before_fault}
use Rattle.ftp_transfer.specs.declared.direction.Direction.{Direction}

-- a transfer as its holder sees it: what its data connection has recorded, which way the bytes go, and its end of its
-- mark
pub record TransferValue : Type 0 where
  pub told : Told
  pub direction : Direction
  pub end : End

-- the transfer with another record of its data connection; the direction and the end stay
abbrev pub with_told : Told → TransferValue → TransferValue
with_told told t = record t { told = told }

-- the transfer after one load of its mark; the connection and the direction stay
abbrev pub looked : Bool → TransferValue → TransferValue
looked left t = record t { end = loaded left t.end }

-- what a call of std's readers and writers returned, with the error's kind alone
abbrev pub by_kind : Result ℕ Error → Result ℕ ErrorKind
by_kind (Ok count) = Ok count
by_kind (Err error) = Err (error_kind error)

-- a connection of this record was closed at this end, whether or not the system could: a connection has the record of that,
-- and of nothing else but a failure that was counted. What is generic over its type has no other connection
pub record WasClosed (C : Type 0) (told_by : C → Told) (before : Told) : Type 0 where
  pub conn : C
  pub closed : (told_by conn).closed_here ≡ true
  pub same : before_fault before (told_by conn) ≡ after_close before
