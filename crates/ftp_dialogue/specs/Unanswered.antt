-- Commands that were dropped before their replies were read, and which reply is whose: a server answers its commands in
-- their order. RFC 959, sections 4.2 and 5.4.
use Rattle.std.specs.Prelude.{◌+◌, ◌-◌, ◌==◌, ◌&&◌, ℕ, Bool, true, false, Result, Ok, Err, nat_le, if◌then◌else◌}
use Rattle.ftp_base.specs.declared.status.Status.TheVariants.{TransferAborted}
use Rattle.ftp_base.specs.Status.{code_of}
use Rattle.ftp_base.specs.Reply.{is_preliminary}
use Rattle.ftp_base.specs.declared.types.reply.Response.{Response}
use Rattle.ftp_base.specs.declared.types.fault.FtpError.{FtpError}
use Rattle.ftp_base.specs.declared.types.fault.FtpError.TheVariants.{UnexpectedResponse, BadResponse}
use Rattle.ftp_dialogue.specs.Sound.{none_left, one_drained}
use Rattle.ftp_dialogue.specs.declared.state.State.{State}

-- so many dropped commands can be counted
abbrev pub most_commands : ℕ
most_commands = 18446744073709551615

-- one command more was dropped before its reply was read; of ABOR 426 may come before that
abbrev pub one_unanswered : State → State
one_unanswered state = if state.unanswered == most_commands then state else record state { unanswered = state.unanswered + 1 }

abbrev pub missed : Bool → State → State
missed aborting state = if aborting then record (one_unanswered state) { aborting = true } else one_unanswered state

-- the reply of one of them was read; after the last one no 426 is awaited
abbrev pub one_answered : State → State
one_answered state = if nat_le state.unanswered 1 then record state { unanswered = 0; aborting = false } else record state { unanswered = state.unanswered - 1 }

-- a reply counts: it is the last one of a transfer that was left, or that of a command that was dropped
abbrev pub one_counted : State → State
one_counted state = if none_left state.counts.owed then one_answered state else record state { counts = one_drained state.counts }

-- this reply was read: while replies are due a preliminary one counts for none, nor does one 426 of an abort
abbrev pub counted_by : Response → State → State
counted_by reply state =
    if is_preliminary reply then state
    else if state.aborting && (code_of reply.status == code_of TransferAborted) then record state { aborting = false }
    else one_counted state

abbrev pub answered_by : Response → State → State
answered_by reply state = if state.unanswered == 0 then state else counted_by reply state

-- what can't be read as a reply counts as one; where none was read nothing changes
abbrev pub after_faulty : FtpError → State → State
after_faulty (UnexpectedResponse reply) state = answered_by reply state
after_faulty BadResponse state = if state.unanswered == 0 then state else one_counted state
after_faulty other state = state

abbrev pub after_heard : Result Response FtpError → State → State
after_heard (Ok reply) state = answered_by reply state
after_heard (Err fault) state = after_faulty fault state
