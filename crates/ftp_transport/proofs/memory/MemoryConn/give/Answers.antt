use Rattle.std.proofs.Common.{◌≡◌, take, drop, ◌∙◌, ap}
use Rattle.ftp_transport.proofs.Recorded.{read_more}
use Rattle.ftp_transport.proofs.memory.MemoryConn.give.Goals as goal

pub returns-clause-given : goal.returns-clause-given
returns-clause-given c =
    let copied : take c.copy_front-count.result c.copy_front-count.new.to ≡ take c.copy_front-count.result (drop c.self.inside.read c.self.inside.input.items) = c.copy_front-count.ensures.copied ∙ ap (λ s. take c.copy_front-count.result s) (c.behind.ensures ∙ ap (λ s. drop c.self.inside.read s) c.as_slice.ensures.value) in
    let more = read_more c.self.inside.input.items c.self.inside.begun c.self.inside.read c.copy_front-count.result c.self.invariant.0 c.self.invariant.1 in
    rw (← c.self.view_is, copied, more)
