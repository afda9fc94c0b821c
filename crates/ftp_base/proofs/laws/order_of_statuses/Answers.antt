use Rattle.std.proofs.Common.{arith, ◌≡◌, ◌∙◌, ℕ, ℤ, pos, List, ◌∷◌, map, get_or, refl}
use Rattle.std.specs.Ordering.{int_cmp, nat_cmp}
use Rattle.std.proofs.lemmas.Grind.{common_steps}
use denote.Enum.Declared.{tag_of}
use Rattle.ftp_base.specs.Status.{code_of, listed_statuses}
use Rattle.ftp_base.specs.contracts.status.Status.{the_type}
use Rattle.ftp_base.specs.declared.status.Status.{Status}
use Rattle.ftp_base.specs.declared.status.Status.TheVariants.{Unknown, RestartMarker, ReadyMinute, AlreadyOpen, AboutToSend, CommandOk, CommandNotImplemented, System, Directory, File, Help, Name, Ready, Closing, DataConnectionOpen, ClosingDataConnection, PassiveMode, LongPassiveMode, ExtendedPassiveMode, LoggedIn, LoggedOut, LogoutAck, AuthOk, RequestedFileActionOk, PathCreated, NeedPassword, LoginNeedAccount, RequestFilePending, NotAvailable, CannotOpenDataConnection, TransferAborted, InvalidCredentials, HostUnavailable, RequestFileActionIgnored, ActionAborted, RequestedActionNotTaken, BadCommand, BadArguments, NotImplemented, BadSequence, NotImplementedParameter, NotLoggedIn, StoringNeedAccount, FileUnavailable, PageTypeUnknown, ExceededStorage, BadFilename}
use Rattle.ftp_base.proofs.laws.order_of_statuses.Goals as goal

-- the numbers of the variants, as they are listed
abbrev numbers : List ℤ
numbers = map (λ status. pos (code_of status)) (Unknown ∷ listed_statuses)

-- the number of each variant is its code
number_is : (status : Status) → get_or numbers (tag_of the_type status) (pos 0) ≡ pos (code_of status)
number_is Unknown = refl
number_is RestartMarker = refl
number_is ReadyMinute = refl
number_is AlreadyOpen = refl
number_is AboutToSend = refl
number_is CommandOk = refl
number_is CommandNotImplemented = refl
number_is System = refl
number_is Directory = refl
number_is File = refl
number_is Help = refl
number_is Name = refl
number_is Ready = refl
number_is Closing = refl
number_is DataConnectionOpen = refl
number_is ClosingDataConnection = refl
number_is PassiveMode = refl
number_is LongPassiveMode = refl
number_is ExtendedPassiveMode = refl
number_is LoggedIn = refl
number_is LoggedOut = refl
number_is LogoutAck = refl
number_is AuthOk = refl
number_is RequestedFileActionOk = refl
number_is PathCreated = refl
number_is NeedPassword = refl
number_is LoginNeedAccount = refl
number_is RequestFilePending = refl
number_is NotAvailable = refl
number_is CannotOpenDataConnection = refl
number_is TransferAborted = refl
number_is InvalidCredentials = refl
number_is HostUnavailable = refl
number_is RequestFileActionIgnored = refl
number_is ActionAborted = refl
number_is RequestedActionNotTaken = refl
number_is BadCommand = refl
number_is BadArguments = refl
number_is NotImplemented = refl
number_is BadSequence = refl
number_is NotImplementedParameter = refl
number_is NotLoggedIn = refl
number_is StoringNeedAccount = refl
number_is FileUnavailable = refl
number_is PageTypeUnknown = refl
number_is ExceededStorage = refl
number_is BadFilename = refl

-- so their order is that of the codes
codes_order : (a b : ℤ) (m n : ℕ) → a ≡ pos m → b ≡ pos n → int_cmp a b ≡ nat_cmp m n
codes_order a b m n one other = rw (one, other) (grind (arith, common_steps))

pub returns : goal.returns
returns c = c.cmp.ensures ∙ codes_order _ _ _ _ (number_is c.args.one.now) (number_is c.args.other.now)
