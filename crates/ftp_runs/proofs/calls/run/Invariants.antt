use Rattle.std.proofs.Common.{◌≡◌, ◌≤◌, length, drop, vec_capacity}
use Rattle.ftp_dialogue.specs.Coding.{coding_of}
use Rattle.ftp_dialogue.specs.Link.{built_beside, built_by}
use Rattle.ftp_dialogue.specs.Promises.{FailsWith}
use Rattle.ftp_runs.specs.Runs.{are_due}
use Rattle.ftp_runs.proofs.CallCauses.{CountsSoFar}
use Rattle.ftp_runs.proofs.Running.{RunsSoFar}
use Rattle.ftp_runs.proofs.calls.run.Given as goal

-- the answers so far
abbrev pub invariant-loop-call : goal.invariant-loop-call
invariant-loop-call g l =
    record {
      so_far : RunsSoFar (built_beside (built_by g.B.PassiveStreamBuilder.answers l.builder) g.Tr.Conn.Tells.secures g.Tr.Conn.Tells.tells g.Tr.Conn.Conn.blocking_read_faults g.Tr.Conn.Conn.blocking_write_faults g.Tr.Conn.Tells.end_faults ⊥) (coding_of g.E.Encoding.decoded g.E.Encoding.encoded l.encoding) l.calls (drop l.call-index l.calls) l.fn.machine l.machine l.answers.items;
      due : l.due ≡ are_due l.fn.machine;
      counts : CountsSoFar (are_due l.fn.machine) (built_beside (built_by g.B.PassiveStreamBuilder.answers l.builder) g.Tr.Conn.Tells.secures g.Tr.Conn.Tells.tells g.Tr.Conn.Conn.blocking_read_faults g.Tr.Conn.Conn.blocking_write_faults g.Tr.Conn.Tells.end_faults ⊥) (coding_of g.E.Encoding.decoded g.E.Encoding.encoded l.encoding) l.calls (drop l.call-index l.calls) l.fn.machine l.machine l.answers.items;
      fails : FailsWith l.fn.machine l.machine l.answers.items;
      count : length l.answers.items ≡ l.call-index;
      room : length l.calls ≤ vec_capacity l.answers;
    }
