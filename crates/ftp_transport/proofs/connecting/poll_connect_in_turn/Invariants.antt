use Rattle.std.proofs.Common.{◌≡◌, ◌≤◌, drop, length, ◌-◌}
use Rattle.ftp_transport.specs.Asking.{RefusedInTurn, connects_to}
use Rattle.ftp_transport.proofs.connecting.poll_connect_in_turn.Given as goal

-- those so far were refused
abbrev pub invariant-loop-tried : goal.invariant-loop-tried
invariant-loop-tried g l =
    record {
      within : l.tried.count ≤ length l.addresses;
      so_far : g.Tr.Conn.Tells.tells → RefusedInTurn g.Tr.Network.refuses (connects_to l.limit (drop l.fn.tried.count l.addresses)) (connects_to l.limit (drop l.tried.count l.addresses)) l.fn.tried.fault l.tried.fault (g.Tr.Network.ready l.fn.transport) (g.Tr.Network.ready l.transport) (g.Tr.Network.asked l.fn.transport) (g.Tr.Network.asked l.transport);
      nowhere : l.fn.tried.count ≡ length l.addresses → l.tried ≡ l.fn.tried;
      closed : g.Tr.Network.closed l.transport ≡ g.Tr.Network.closed l.fn.transport;
      room : g.Tr.Network.has_room l.fn.transport → g.Tr.Network.has_room l.transport;
      port : g.Tr.Network.port l.transport ≡ g.Tr.Network.port l.fn.transport;
    }

abbrev pub decreases-loop-tried : goal.decreases-loop-tried
decreases-loop-tried g l = length l.addresses - l.tried.count
