use Rattle.ftp_transport.specs.Told.{EndsAsTold}
use Rattle.ftp_dialogue.specs.Coding.{coding_of}
use Rattle.ftp_dialogue.specs.Link.{built_beside}
use Rattle.ftp_dialogue.specs.Steps.Stages.{nodes_left}
use Rattle.ftp_dialogue.proofs.TransitionsLemmas.{SoFar}
use Rattle.ftp_dialogue.proofs.machine.Machine.poll_call.Given as goal

-- what was made of the call so far
abbrev pub invariant-loop-answer : goal.invariant-loop-answer
invariant-loop-answer g l =
    record {
      so_far : SoFar (built_beside (g.A.DataPath.builds l.data_path) g.Tr.Conn.Tells.secures g.Tr.Conn.Tells.tells g.Tr.Conn.PollConn.read_faults g.Tr.Conn.PollConn.write_faults g.Tr.Conn.Tells.end_faults g.A.DataPath.may_wait) (coding_of g.E.Encoding.decoded g.E.Encoding.encoded l.encoding) l.call l.fn.stage l.stage l.fn.self l.self;
      end : g.Tr.Conn.Tells.tells → g.Tr.Conn.PollConn.may_wait → EndsAsTold l.fn.self.channel.ended l.self.channel.ended l.fn.self.channel.told;
    }

-- each step but the last reaches the next node
abbrev pub decreases-loop-answer : goal.decreases-loop-answer
decreases-loop-answer g l = nodes_left l.stage
