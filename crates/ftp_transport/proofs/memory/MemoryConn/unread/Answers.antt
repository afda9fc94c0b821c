use Rattle.std.proofs.Common.{drop, arith}
use Rattle.std.proofs.Math.ListN.{drop_of_length-le}
use Rattle.ftp_transport.proofs.Recorded.{read_and_ahead}
use Rattle.ftp_transport.proofs.memory.MemoryConn.unread.Goals as goal

pub returns-clause-given : goal.returns-clause-given
returns-clause-given c =
    let inside = c.self.inside in
    let held = c.self.invariant in
    rw (← c.self.view_is)
    (record {
      ahead = drop inside.read inside.input.items;
      front = read_and_ahead inside.input.items inside.begun inside.read held.0 held.1;
      over = λ ended. drop_of_length-le inside.input.items {i = inside.read} (omega (arith, held.2 ended));
    })
