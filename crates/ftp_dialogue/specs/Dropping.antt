-- A call that waits is dropped: what it leaves. RFC 959, sections 3.2 and 5.4.
use Rattle.std.specs.Prelude.{◌≡◌, ◌&&◌, Bool, true, false, is_none, if◌then◌else◌}
use Rattle.ftp_calls.specs.Exchanges.{aborts, finishes, says_at}
use Rattle.ftp_calls.specs.declared.call.Call.{Call}
use Rattle.ftp_dialogue.specs.Dialogue.{with_aborted, with_abandoned, with_left}
use Rattle.ftp_dialogue.specs.State.{LetsGo, SessionValue}
use Rattle.ftp_dialogue.specs.Steps.Stages.{is_out}
use Rattle.ftp_dialogue.specs.Unanswered.{missed}
use Rattle.ftp_calls.specs.declared.exchange.Turn.{Turn}
use Rattle.ftp_calls.specs.declared.exchange.Turn.TheVariants.{Aborted}
use Rattle.ftp_dialogue.specs.declared.stage.AfterClose.TheVariants.{Aborts, Fetched}
use Rattle.ftp_dialogue.specs.declared.stage.OpeningData.{OpeningData}
use Rattle.ftp_dialogue.specs.declared.stage.OpeningData.TheVariants.{Negotiating, Choosing, Locating, Binding, Asking}
use Rattle.ftp_dialogue.specs.declared.stage.Asking.TheVariants.{PeerPort, Connection, Peer, Accepting, Securing}
use Rattle.ftp_dialogue.specs.declared.stage.Stage.{Stage}
use Rattle.ftp_dialogue.specs.declared.stage.Stage.TheVariants.{At, Saying, Hearing, Seeking, Closing, Transferring}
use Rattle.ftp_dialogue.specs.declared.stage.Stage.TheVariants as stages
use Rattle.ftp_dialogue.specs.declared.state.State.{State}

-- a data command was accepted, and its peer is waited for, or TLS
abbrev pub awaits_peer : OpeningData → Bool
awaits_peer (Asking turn (Peer opened)) = true
awaits_peer (Asking turn (Accepting address left opened)) = true
awaits_peer (Asking turn (Securing opened)) = true
awaits_peer (Asking turn (PeerPort port)) = false
awaits_peer (Asking turn (Connection address)) = false
awaits_peer (Negotiating offset) = false
awaits_peer (Choosing offset) = false
awaits_peer (Locating offset) = false
awaits_peer (Binding address offset) = false

-- a data command was accepted, so that the server owes the last reply of its transfer, which isn't counted yet: its peer
-- or TLS is waited for, or a whole file or listing is under way
abbrev pub owes_last_reply : Stage → Bool
owes_last_reply (Transferring fetching) = true
owes_last_reply (stages.OpeningData opening_data) = awaits_peer opening_data
owes_last_reply (Closing (Fetched form answer)) = true
owes_last_reply other = false

-- the transfer that a call was to bring to its end is left, and that of a data command that was accepted is opened and left
abbrev pub left_by : Call → Stage → State → State
left_by call stage state = if owes_last_reply stage then with_abandoned state else if finishes call then with_left state else state

-- a transfer was aborted whose ABOR has gone out whole
abbrev pub aborted_by : Call → Stage → State → State
aborted_by call stage state = if aborts call && is_out stage then with_aborted state else state

-- a line of the call was begun, and its reply hasn't come: of an abort ABOR's, else that of an exchange, or of NOOP
abbrev pub reply_unread : Call → Stage → Bool
reply_unread call (Hearing awaits) = says_at call awaits.turn
reply_unread call (Seeking turn left) = true
reply_unread call other = false

abbrev pub is_unanswered : Call → Stage → Bool
is_unanswered call (Saying line after) = is_none line
is_unanswered call stage = if aborts call then is_out stage else reply_unread call stage

-- the first reply of ABOR, which has gone out, hasn't come: 426 may be that
abbrev pub is_abort_turn : Turn → Bool
is_abort_turn Aborted = true
is_abort_turn other = false

abbrev pub awaits_abort : Stage → Bool
awaits_abort (At turn) = is_abort_turn turn
awaits_abort (Hearing awaits) = is_abort_turn awaits.turn
awaits_abort (Closing Aborts) = true
awaits_abort other = false

-- the reply of a command that was begun is due from now on
abbrev pub missed_by : Call → Stage → State → State
missed_by call stage state = if is_unanswered call stage then missed (aborts call && awaits_abort stage) state else state

-- a call that waits is dropped: nothing goes over the control connection, whose unsent tail and kept reply stay; the data
-- connection of the call is closed
pub record DropsCall (tells : Type 0) (call : Call) (stage : Stage) (old new : SessionValue) : Type 0 where
  pub closed : SessionValue
  pub lets_go : LetsGo tells (record old { state = left_by call stage old.state }) closed
  pub ends : new ≡ record closed { state = missed_by call stage (aborted_by call stage closed.state) }
