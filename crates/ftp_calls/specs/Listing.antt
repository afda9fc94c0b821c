-- The lines of a listing as it comes over a data connection: RFC 959, sections 3.1.1.5.2 and 4.1.3 (LIST, NLST), RFC 3659,
-- section 7 (MLSD).
use Rattle.std.specs.Prelude.{ℕ, Bool, ◌==◌, not, List, length, map, filter}
use Rattle.std.specs.List.{slice_split}
use Rattle.std.specs.declared.io.ErrorKind.TheVariants as kind
use Rattle.ftp_base.specs.declared.types.fault.FtpError.{FtpError}
use Rattle.ftp_base.specs.declared.types.fault.FtpError.TheVariants.{ConnectionError, BadResponse, OutOfMemory}
use Rattle.ftp_base.specs.declared.types.fault.ConnectionError.TheVariants.{Io}
use Rattle.ftp_calls.specs.Answers.{is_line_feed, without_return}

-- what stands between LFs, before the first and after the last
abbrev pub pieces : List ℕ → List (List ℕ)
pieces bytes = slice_split is_line_feed bytes

abbrev pub is_not_empty : List ℕ → Bool
is_not_empty piece = not (length piece == 0)

-- the pieces, each without one CR at its end; those that are empty are left out, the others decoded, in order
abbrev pub listing : (List ℕ → List ℕ) → List ℕ → List (List ℕ)
listing decode bytes = map decode (filter is_not_empty (map without_return (pieces bytes)))

-- the error of a listing whose stream failed so: out of memory stays what it is, from the stream too
abbrev pub stream_fault : FtpError → FtpError
stream_fault OutOfMemory = OutOfMemory
stream_fault (ConnectionError (Io kind.OutOfMemory)) = OutOfMemory
stream_fault fault = BadResponse
