use Rattle.ftp_transport.proofs.Recorded.{all_read}
use Rattle.ftp_transport.proofs.memory.MemoryConnConn.read.Goals as goal

pub invariant_of-self : goal.invariant_of-self
invariant_of-self c =
    let same = rw (← c.self.view_is) at c.give-count.ensures.none in
    let held = c.self.invariant in
    (held.0, held.1, λ e. all_read c.self.inside.input.items c.self.inside.begun c.self.inside.read held.0 held.1 (same c.if-count-eq0.true c.requires))
