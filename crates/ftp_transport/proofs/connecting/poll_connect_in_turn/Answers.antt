use Rattle.std.proofs.Common.{◌∙◌, ap, arith}
use Rattle.ftp_transport.proofs.Asking.{refused_another}
use Rattle.ftp_transport.proofs.connecting.poll_connect_in_turn.Goals as goal

-- the next address was refused, too
pub loop-tried-preserved-in-Ready-Ok-Err-2 : goal.loop-tried-preserved-in-Ready-Ok-Err-2
loop-tried-preserved-in-Ready-Ok-Err-2 g c =
    let held = c.loop-tried.invariant in
    let arm = c.in-Ready-Ok-Err in
    let asks = rw (arm.is, arm.field-0-is, arm.field-0-0-is) at c.poll_connect.ensures.asks in
    let supplies = rw (arm.is, arm.field-0-is, arm.field-0-0-is) at c.poll_connect.ensures.supplies in
    record {
      within = omega (arith, c.loop-tried-test.true);
      so_far = λ h. refused_another g.Tr.Network.refuses _ c.args.limit c.args.addresses.now c.loop-tried.tried.count _ _ _ _ _ _ _ _ _ _ c.loop-tried-test.true (held.so_far h) (asks h) (supplies h);
      nowhere = λ all. let same = held.nowhere all in absurd (omega (arith, all, ap (λ t. t.count) same, c.loop-tried-test.true));
      closed = c.poll_connect.ensures.closed ∙ held.closed;
      room = λ has. c.poll_connect.ensures.room (held.room has);
      port = c.poll_connect.ensures.port ∙ held.port;
    }
