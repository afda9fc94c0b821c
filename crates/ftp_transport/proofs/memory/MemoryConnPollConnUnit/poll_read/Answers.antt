use Rattle.std.proofs.Common.{arith}
use Rattle.ftp_transport.proofs.Recorded.{all_read}
use Rattle.ftp_transport.proofs.memory.MemoryConnPollConnUnit.poll_read.Goals as goal

pub invariant_of-self : goal.invariant_of-self
invariant_of-self c =
    let same = rw (← c.self.view_is) at c.give-count.ensures.none in
    let held = c.self.invariant in
    (held.0, held.1, λ e. all_read c.self.inside.input.items c.self.inside.begun c.self.inside.read held.0 held.1 (same (omega (arith, c.if-count-gt0.false)) c.requires))
