-- Why a poll returns an error of a connection, or `SessionFailed`: also one that an earlier poll of the call met on its data
-- connection, and that the call kept for its answer.
use Rattle.std.specs.Prelude.{◌≡◌, ◌⊎◌, Bool, true, false, Option, Some, None}
use Rattle.std.specs.declared.io.ErrorKind.{ErrorKind}
use Rattle.std.specs.declared.io.ErrorKind.TheVariants.{WriteZero}
use Rattle.futures.specs.declared.task.Poll.{Poll}
use Rattle.futures.specs.declared.task.Poll.TheVariants.{Ready, Pending}
use Rattle.ftp_base.specs.declared.types.fault.ConnectionError.TheVariants.{Io}
use Rattle.ftp_base.specs.declared.types.fault.FtpError.{FtpError}
use Rattle.ftp_base.specs.declared.types.fault.FtpError.TheVariants.{ConnectionError as Connection, SessionFailed}
use Rattle.ftp_calls.specs.Exchanges.{Movements}
use Rattle.ftp_calls.specs.declared.call.Answer.{Answer}
use Rattle.ftp_calls.specs.declared.call.Answer.TheVariants.{Fault}
use Rattle.ftp_calls.specs.declared.call.Call.{Call}
use Rattle.ftp_calls.specs.declared.call.Call.TheVariants.{PutFile, AppendFile}
use Rattle.ftp_calls.specs.declared.exchange.Ending.{Ending}
use Rattle.ftp_calls.specs.declared.exchange.Ending.TheVariants.{Finishes}
use Rattle.ftp_calls.specs.declared.exchange.Turn.{Turn}
use Rattle.ftp_calls.specs.declared.exchange.Turn.TheVariants.{Closed}
use Rattle.ftp_dialogue.specs.Counted.{CountsFailure, IsGivenBeside}
use Rattle.ftp_dialogue.specs.Link.{Link}
use Rattle.ftp_dialogue.specs.Sound.{cannot_open}
use Rattle.ftp_dialogue.specs.State.{SessionValue}
use Rattle.ftp_dialogue.specs.Steps.Stages.{MayGive}
use Rattle.ftp_dialogue.specs.declared.stage.Stage.{Stage}
use Rattle.ftp_dialogue.specs.declared.stage.AfterClose.TheVariants.{Fetched}
use Rattle.ftp_dialogue.specs.declared.stage.AfterLine.TheVariants.{Hears}
use Rattle.ftp_dialogue.specs.declared.stage.Stage.TheVariants.{At, Saying, Hearing, Transferring, Closing}
use Rattle.ftp_dialogue.specs.declared.stage.Transferring.TheVariants.{Ending as LastReply}

-- What is kept

-- the error of an answer
abbrev pub error_of : Answer → Option FtpError
error_of (Fault fault) = Some fault
error_of other = None

-- the error of an upload's close is kept until the transfer's last reply
abbrev pub kept_by : Ending → Option FtpError
kept_by (Finishes (Some kind)) = Some (Connection (Io kind))
kept_by other = None

abbrev pub kept_at : Turn → Option FtpError
kept_at (Closed (Some kind)) = Some (Connection (Io kind))
kept_at other = None

-- the error that a call keeps at its stage for its answer, that of the data of a whole file or listing too; on the way to a
-- data connection it keeps none
abbrev pub kept_error : Stage → Option FtpError
kept_error (At turn) = kept_at turn
kept_error (Saying line (Hears a)) = kept_by a.ending
kept_error (Hearing a) = kept_by a.ending
kept_error (Closing (Fetched form answer)) = error_of answer
kept_error (Transferring (LastReply form answer)) = error_of answer
kept_error other = None

-- Why an error is returned

-- a call that uploads bytes of its own
abbrev pub sends : Call → Bool
sends (PutFile path bytes) = true
sends (AppendFile path bytes) = true
sends other = false

-- a call moves a whole file, and its data connection takes no more bytes
abbrev pub TakesNoMore : Call → ErrorKind → Type 0
TakesNoMore call kind = MayGive call Movements × (kind ≡ WriteZero)

-- a poll gives an answer: an error of a connection was counted in this poll, or given in it beside the control connection,
-- or kept before it; `SessionFailed` comes of a session that had failed, of transfers that are spent or from beside the
-- control connection, or was kept
pub record CausesAnswer (link : Link) (call : Call) (kept : Option FtpError) (old new : SessionValue) (answer : Answer) : Type 0 where
  pub counted : (kind : ErrorKind) → answer ≡ Fault (Connection (Io kind)) → link.tells → CountsFailure old.channel.told new.channel.told ⊎ IsGivenBeside link (Connection (Io kind)) old.net new.net ⊎ (kept ≡ Some (Connection (Io kind))) ⊎ TakesNoMore call kind
  pub had_failed : answer ≡ Fault SessionFailed → (old.channel.failed ≡ true) ⊎ (cannot_open new.state.counts ≡ Some SessionFailed) ⊎ IsGivenBeside link SessionFailed old.net new.net ⊎ (kept ≡ Some SessionFailed)

-- a poll waits: the error that its call keeps then was given in this poll beside the control connection, or kept before it
pub record CausesKept (link : Link) (call : Call) (kept kept' : Option FtpError) (old new : SessionValue) : Type 0 where
  pub met : (kind : ErrorKind) → kept' ≡ Some (Connection (Io kind)) → IsGivenBeside link (Connection (Io kind)) old.net new.net ⊎ (kept ≡ Some (Connection (Io kind))) ⊎ TakesNoMore call kind
  pub had_failed : kept' ≡ Some SessionFailed → IsGivenBeside link SessionFailed old.net new.net ⊎ (kept ≡ Some SessionFailed)

-- a poll of a call that kept this error before it, and keeps that one after it
abbrev pub CausesPoll : Link → Call → Option FtpError → Option FtpError → SessionValue → SessionValue → Poll Answer → Type 0
CausesPoll link call kept kept' old new (Ready answer) = CausesAnswer link call kept old new answer
CausesPoll link call kept kept' old new Pending = CausesKept link call kept kept' old new
