use Rattle.futures.specs.declared.task.Poll.{Poll}
use Rattle.std.specs.Prelude.{Option}
use Rattle.ftp_base.specs.declared.types.fault.FtpError.{FtpError}
use Rattle.ftp_dialogue.specs.CatchingUp.{ReadsDue}
use Rattle.ftp_dialogue.specs.Link.{link}
use Rattle.ftp_dialogue.specs.State.{SessionValue}
use Rattle.ftp_dialogue.specs.Unanswered.{most_commands}
use Rattle.ftp_dialogue.proofs.machine.Machine.poll_due.Given as goal

-- what comes of the replies that are left comes of all
abbrev pub invariant-due : goal.invariant-due
invariant-due g l =
    (new : SessionValue) (result : Poll (Option FtpError))
    → ReadsDue l.plain l.left (link g.Tr.Conn.Tells.secures g.Tr.Conn.Tells.tells g.Tr.Conn.PollConn.read_faults g.Tr.Conn.PollConn.write_faults g.Tr.Conn.Tells.end_faults) l.self new result
    → ReadsDue l.plain most_commands (link g.Tr.Conn.Tells.secures g.Tr.Conn.Tells.tells g.Tr.Conn.PollConn.read_faults g.Tr.Conn.PollConn.write_faults g.Tr.Conn.Tells.end_faults) l.fn.self new result

abbrev pub decreases-due : goal.decreases-due
decreases-due g l = l.left
