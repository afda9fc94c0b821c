-- Errors, their kinds, their texts and their numbers.
use Rattle.std.specs.Prelude.{ℕ, List, Option, Some, None, codes}
use Rattle.std.specs.declared.io.ErrorKind.{ErrorKind}
use Rattle.std.specs.declared.io.ErrorKind.TheVariants as kind
use Rattle.ftp_base.specs.declared.types.fault.FtpError.{FtpError}
use Rattle.ftp_base.specs.declared.types.fault.FtpError.TheVariants.{ConnectionError as OfConnection, SecureError, UnexpectedResponse, BadResponse, DataConnectionAlreadyOpen, OutOfMemory, SessionFailed, InvalidAddress}
use Rattle.ftp_base.specs.declared.types.fault.ConnectionError.{ConnectionError}
use Rattle.ftp_base.specs.declared.types.fault.ConnectionError.TheVariants.{Io, UnexpectedEof, ReplyTooLarge, LineBreak, EncodedWithoutCrlf, EncodedLineBreak, Encoding, TimedOut, NoAddress, SourceTooLarge, NotOwed, AlreadyCompleted}

-- the kind of an error, in the standard library's words
abbrev pub kind_of : ConnectionError → ErrorKind
kind_of (Io kind) = kind
kind_of UnexpectedEof = kind.UnexpectedEof
kind_of ReplyTooLarge = kind.InvalidData
kind_of LineBreak = kind.InvalidInput
kind_of EncodedWithoutCrlf = kind.InvalidInput
kind_of EncodedLineBreak = kind.InvalidInput
kind_of (Encoding kind) = kind
kind_of TimedOut = kind.TimedOut
kind_of NoAddress = kind.InvalidInput
kind_of SourceTooLarge = kind.InvalidInput
kind_of NotOwed = kind.InvalidInput
kind_of AlreadyCompleted = kind.InvalidInput

-- the text of an error, but for one that ends in the text of a kind, which is the standard library's
abbrev pub connection_text : ConnectionError → Option (List ℕ)
connection_text (Io kind) = None
connection_text UnexpectedEof = Some (codes "the connection was closed before the reply was whole")
connection_text ReplyTooLarge = Some (codes "the server sent a reply larger than 262144 bytes")
connection_text LineBreak = Some (codes "a line break in the command")
connection_text EncodedWithoutCrlf = Some (codes "the encoded command doesn't end in CR LF")
connection_text EncodedLineBreak = Some (codes "a line break in the encoded command")
connection_text (Encoding kind) = None
connection_text TimedOut = Some (codes "timed out")
connection_text NoAddress = Some (codes "no address to connect to")
connection_text SourceTooLarge = Some (codes "the source is too large")
connection_text NotOwed = Some (codes "the transfer is not of this session")
connection_text AlreadyCompleted = Some (codes "the call has completed")

-- the number of a connection's error
abbrev pub connection_number : ConnectionError → ℕ
connection_number (Io kind) = 1
connection_number UnexpectedEof = 2
connection_number ReplyTooLarge = 3
connection_number LineBreak = 4
connection_number EncodedWithoutCrlf = 5
connection_number EncodedLineBreak = 6
connection_number (Encoding kind) = 7
connection_number TimedOut = 8
connection_number NoAddress = 16
connection_number SourceTooLarge = 17
connection_number NotOwed = 18
connection_number AlreadyCompleted = 19

-- the number of an error
abbrev pub number_of : FtpError → ℕ
number_of (OfConnection cause) = connection_number cause
number_of (SecureError cause) = 9
number_of (UnexpectedResponse reply) = 10
number_of BadResponse = 11
number_of DataConnectionAlreadyOpen = 12
number_of OutOfMemory = 13
number_of SessionFailed = 14
number_of InvalidAddress = 15
