-- Status codes: RFC 959, section 4.2.
use Rattle.std.specs.Prelude.{ℕ, List, [], ◌∷◌, ◌==◌, codes, unwrap_or, find}
use Rattle.ftp_base.specs.declared.status.Status.{Status}
use Rattle.ftp_base.specs.declared.status.Status.TheVariants.{Unknown, RestartMarker, ReadyMinute, AlreadyOpen, AboutToSend, CommandOk, CommandNotImplemented, System, Directory, File, Help, Name, Ready, Closing, DataConnectionOpen, ClosingDataConnection, PassiveMode, LongPassiveMode, ExtendedPassiveMode, LoggedIn, LoggedOut, LogoutAck, AuthOk, RequestedFileActionOk, PathCreated, NeedPassword, LoginNeedAccount, RequestFilePending, NotAvailable, CannotOpenDataConnection, TransferAborted, InvalidCredentials, HostUnavailable, RequestFileActionIgnored, ActionAborted, RequestedActionNotTaken, BadCommand, BadArguments, NotImplemented, BadSequence, NotImplementedParameter, NotLoggedIn, StoringNeedAccount, FileUnavailable, PageTypeUnknown, ExceededStorage, BadFilename}

-- the three-digit code of a status, 0 of an unknown one
abbrev pub code_of : Status → ℕ
code_of Unknown = 0
code_of RestartMarker = 110
code_of ReadyMinute = 120
code_of AlreadyOpen = 125
code_of AboutToSend = 150
code_of CommandOk = 200
code_of CommandNotImplemented = 202
code_of System = 211
code_of Directory = 212
code_of File = 213
code_of Help = 214
code_of Name = 215
code_of Ready = 220
code_of Closing = 221
code_of DataConnectionOpen = 225
code_of ClosingDataConnection = 226
code_of PassiveMode = 227
code_of LongPassiveMode = 228
code_of ExtendedPassiveMode = 229
code_of LoggedIn = 230
code_of LoggedOut = 231
code_of LogoutAck = 232
code_of AuthOk = 234
code_of RequestedFileActionOk = 250
code_of PathCreated = 257
code_of NeedPassword = 331
code_of LoginNeedAccount = 332
code_of RequestFilePending = 350
code_of NotAvailable = 421
code_of CannotOpenDataConnection = 425
code_of TransferAborted = 426
code_of InvalidCredentials = 430
code_of HostUnavailable = 434
code_of RequestFileActionIgnored = 450
code_of ActionAborted = 451
code_of RequestedActionNotTaken = 452
code_of BadCommand = 500
code_of BadArguments = 501
code_of NotImplemented = 502
code_of BadSequence = 503
code_of NotImplementedParameter = 504
code_of NotLoggedIn = 530
code_of StoringNeedAccount = 532
code_of FileUnavailable = 550
code_of PageTypeUnknown = 551
code_of ExceededStorage = 552
code_of BadFilename = 553

-- what a status means, in words
abbrev pub description_of : Status → List ℕ
description_of Unknown = codes "unknown error code"
description_of RestartMarker = codes "restart marker reply"
description_of ReadyMinute = codes "service ready in (n) minutes"
description_of AlreadyOpen = codes "data connection already open, transfer starting"
description_of AboutToSend = codes "file status okay, about to open data connection"
description_of CommandOk = codes "command okay"
description_of CommandNotImplemented = codes "command not implemented"
description_of System = codes "system status, or system help reply"
description_of Directory = codes "directory status"
description_of File = codes "file status"
description_of Help = codes "help message"
description_of Name = codes "NAME system type"
description_of Ready = codes "service ready for new user"
description_of Closing = codes "service closing control connection"
description_of DataConnectionOpen = codes "data connection open; no transfer in progress"
description_of ClosingDataConnection = codes "closing data connection"
description_of PassiveMode = codes "entering passive mode"
description_of LongPassiveMode = codes "entering long passive mode"
description_of ExtendedPassiveMode = codes "entering extended passive mode"
description_of LoggedIn = codes "user logged in, proceed. Logged out if appropriate."
description_of LoggedOut = codes "user logged out; service terminated"
description_of LogoutAck = codes "logout command noted, will complete when transfer done"
description_of AuthOk = codes "specifies that the server accepts the authentication mechanism specified by the client"
description_of RequestedFileActionOk = codes "requested file action okay"
description_of PathCreated = codes "pathname created"
description_of NeedPassword = codes "user name okay, need password"
description_of LoginNeedAccount = codes "need account for login"
description_of RequestFilePending = codes "requested file action pending further information"
description_of NotAvailable = codes "service not available, closing control connection"
description_of CannotOpenDataConnection = codes "can't open data connection"
description_of TransferAborted = codes "connection closed; transfer aborted"
description_of InvalidCredentials = codes "invalid username or password"
description_of HostUnavailable = codes "requested host unavailable"
description_of RequestFileActionIgnored = codes "requested file action not taken"
description_of ActionAborted = codes "requested action aborted"
description_of RequestedActionNotTaken = codes "requested action not taken"
description_of BadCommand = codes "syntax error, command unrecognized"
description_of BadArguments = codes "syntax error in parameters or arguments"
description_of NotImplemented = codes "comamnd not implemented"
description_of BadSequence = codes "bad sequence of commands"
description_of NotImplementedParameter = codes "command not implemented for that parameter"
description_of NotLoggedIn = codes "user not logged in"
description_of StoringNeedAccount = codes "need account for storing files"
description_of FileUnavailable = codes "requested action not taken; file unavailable"
description_of PageTypeUnknown = codes "requested action aborted; page type unknown"
description_of ExceededStorage = codes "requested file action aborted; execeeded storage allocation"
description_of BadFilename = codes "requested action not taken; file name not allowed"

-- every status that has a code
abbrev pub listed_statuses : List Status
listed_statuses =
    RestartMarker ∷ ReadyMinute ∷ AlreadyOpen ∷ AboutToSend ∷ CommandOk ∷ CommandNotImplemented ∷ System ∷ Directory ∷ File ∷ Help ∷ Name ∷ Ready ∷ Closing ∷ DataConnectionOpen ∷ ClosingDataConnection ∷ PassiveMode ∷ LongPassiveMode ∷ ExtendedPassiveMode ∷ LoggedIn ∷ LoggedOut ∷ LogoutAck ∷ AuthOk ∷ RequestedFileActionOk ∷ PathCreated ∷ NeedPassword ∷ LoginNeedAccount ∷ RequestFilePending ∷ NotAvailable ∷ CannotOpenDataConnection ∷ TransferAborted ∷ InvalidCredentials ∷ HostUnavailable ∷ RequestFileActionIgnored ∷ ActionAborted ∷ RequestedActionNotTaken ∷ BadCommand ∷ BadArguments ∷ NotImplemented ∷ BadSequence ∷ NotImplementedParameter ∷ NotLoggedIn ∷ StoringNeedAccount ∷ FileUnavailable ∷ PageTypeUnknown ∷ ExceededStorage ∷ BadFilename ∷ []

-- the status with a code, Unknown where no status has it
abbrev pub status_of : ℕ → Status
status_of code = unwrap_or (find (λ status. code_of status == code) listed_statuses) Unknown
