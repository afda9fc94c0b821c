use Rattle.ftp_dialogue.specs.Link.{link}
use Rattle.ftp_dialogue.proofs.CatchingUpLemmas.{flush_fails, flush_said}
use Rattle.ftp_dialogue.proofs.machine.Machine.poll_flush.Goals as goal

pub returns-clause-flushes : goal.returns-clause-flushes
returns-clause-flushes g c =
    let going = rw (← c.self.view_is) at c.requires.going in
    rw (c.told_of_line.ensures, ← c.self.view_is)
    (flush_said _ c.self.inside.state _ c.self.inside.channel _ _ going _ (c.poll_perform.ensures.says going))

pub returns-clause-fails : goal.returns-clause-fails
returns-clause-fails g c =
    let going = rw (← c.self.view_is) at c.requires.going in
    rw (c.told_of_line.ensures, ← c.self.view_is)
    (flush_fails (link g.Tr.Conn.Tells.secures g.Tr.Conn.Tells.tells g.Tr.Conn.PollConn.read_faults g.Tr.Conn.PollConn.write_faults g.Tr.Conn.Tells.end_faults) c.self.inside.state c.args.self.now.net c.self.inside.channel _ _ going _ (c.poll_perform.ensures.says going))
