-- When an error of a connection is returned, and when `SessionFailed` is: only where a failure was counted, and only by a
-- session that had failed or whose transfers are spent.
use Rattle.std.specs.Prelude.{◌≡◌, ◌⊎◌, ◌<◌, true, List, [], ◌∷◌, Option, Some, None}
use Rattle.std.specs.declared.io.ErrorKind.{ErrorKind}
use Rattle.ftp_base.specs.declared.types.fault.FtpError.{FtpError}
use Rattle.ftp_base.specs.declared.types.fault.FtpError.TheVariants.{ConnectionError, SessionFailed}
use Rattle.ftp_base.specs.declared.types.fault.ConnectionError.TheVariants.{Io}
use Rattle.ftp_transport.specs.Told.{Told}
use Rattle.ftp_transport.specs.declared.request.RequestOutcome.TheVariants.{Done, Address, Refused}
use Rattle.ftp_calls.specs.declared.call.Answer.{Answer}
use Rattle.ftp_calls.specs.declared.call.Answer.TheVariants.{Fault}
use Rattle.ftp_dialogue.specs.Link.{Link}
use Rattle.ftp_dialogue.specs.NetEvents.{Net, NetEvent, NetEvents, outcomes_of}
use Rattle.ftp_dialogue.specs.Sound.{cannot_open}
use Rattle.ftp_dialogue.specs.State.{SessionValue}
use Rattle.ftp_dialogue.specs.declared.model.NetOutcome.{NetOutcome}
use Rattle.ftp_dialogue.specs.declared.model.NetOutcome.TheVariants.{Answered, Built, Secured, Failed}

-- the control connection counted a failure; the count ends at 2^64 - 1
abbrev pub CountsFailure : Told → Told → Type 0
CountsFailure t u = (t.failures < u.failures) ⊎ (u.failures ≡ 18446744073709551615)

-- the error that an outcome beside the control connection gives: of a request that was refused, of the caller's builder or
-- connector, or of the data connection
abbrev pub given_by : NetOutcome → Option FtpError
given_by (Answered Done) = None
given_by (Answered (Address address)) = None
given_by (Answered (Refused cause)) = Some (ConnectionError cause)
given_by (Built fault) = fault
given_by (Secured fault) = fault
given_by (Failed kind) = Some (ConnectionError (Io kind))
given_by other = None

abbrev pub IsAmong : FtpError → List NetOutcome → Type 0
IsAmong fault [] = ⊥
IsAmong fault (outcome ∷ outcomes) = (given_by outcome ≡ Some fault) ⊎ IsAmong fault outcomes

-- what happened beside the control connection gave this error
pub record IsGivenBeside (link : Link) (fault : FtpError) (n m : Net) : Type 0 where
  pub answered : List NetEvent
  pub net_events : link.tells → NetEvents link.beside answered n m
  pub among : IsAmong fault (outcomes_of answered)

-- a call that may ask something beside the control connection, or use the data connection
pub record CountsFaultsBeside (link : Link) (old new : SessionValue) (answer : Answer) : Type 0 where
  pub counted : (kind : ErrorKind) → answer ≡ Fault (ConnectionError (Io kind)) → link.tells → CountsFailure old.channel.told new.channel.told ⊎ IsGivenBeside link (ConnectionError (Io kind)) old.net new.net
  pub had_failed : answer ≡ Fault SessionFailed → (old.channel.failed ≡ true) ⊎ (cannot_open new.state.counts ≡ Some SessionFailed) ⊎ IsGivenBeside link SessionFailed old.net new.net

-- a command, which asks nothing there
pub record CountsFaults (tells : Type 0) (old new : SessionValue) (answer : Answer) : Type 0 where
  pub counted : (kind : ErrorKind) → answer ≡ Fault (ConnectionError (Io kind)) → tells → CountsFailure old.channel.told new.channel.told
  pub had_failed : answer ≡ Fault SessionFailed → old.channel.failed ≡ true
