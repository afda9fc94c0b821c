use Rattle.std.proofs.Common.{List, None, Ok, inl, subst}
use Rattle.ftp_transport.specs.Told.{Told}
use Rattle.ftp_session.specs.Calls.{Connects, FailsToConnect}
use Rattle.ftp_dialogue.specs.Coding.{chosen}
use Rattle.ftp_dialogue.specs.NetEvents.{first_net}
use Rattle.ftp_dialogue.specs.Link.{link}
use Rattle.ftp_session.proofs.Connecting.{fails_by, is_connected, none_connects}
use Rattle.ftp_session.proofs.session.client.Session.connect_in_turn.Goals as goal

pub returns-in-Ok-clause-connects : goal.returns-in-Ok-clause-connects
returns-in-Ok-clause-connects g c =
    let arm = c.in-Ready-Ok-Ok in
    let tries = rw (arm.is, arm.field-0-is, arm.field-0-0-is) at c.poll_connect_in_turn.ensures.tries in
    let N : List Told → Type 0 = λ closed. Connects (link g.Tr.Conn.Tells.secures g.Tr.Conn.Tells.tells g.Tr.Conn.Conn.blocking_read_faults g.Tr.Conn.Conn.blocking_write_faults g.Tr.Conn.Tells.end_faults) (chosen g.E.Encoding.decoded g.E.Encoding.encoded None) c.args.rule (g.Tr.Conn.Tells.told arm.conn) (first_net (g.Tr.Network.asked c.poll_connect_in_turn.new.transport) (g.Tr.Network.ready c.poll_connect_in_turn.new.transport) closed) c.in-Ok.session.machine (Ok tt) in
    record { told = _; asked_by = _; connected = is_connected _ _ _ _ _ _ _ _ _ _ tries; connects = subst N c.poll_connect_in_turn.ensures.closed c.in-Ok.ensures.connects }

pub returns-in-Err-clause-connects : goal.returns-in-Err-clause-connects
returns-in-Err-clause-connects g c =
    let arm = c.in-Ready-Ok-Ok in
    let tries = rw (arm.is, arm.field-0-is, arm.field-0-0-is) at c.poll_connect_in_turn.ensures.tries in
    let N : List Told → Type 0 = λ closed. FailsToConnect (link g.Tr.Conn.Tells.secures g.Tr.Conn.Tells.tells g.Tr.Conn.Conn.blocking_read_faults g.Tr.Conn.Conn.blocking_write_faults g.Tr.Conn.Tells.end_faults) (chosen g.E.Encoding.decoded g.E.Encoding.encoded None) c.args.rule (g.Tr.Conn.Tells.told arm.conn) (first_net (g.Tr.Network.asked c.poll_connect_in_turn.new.transport) (g.Tr.Network.ready c.poll_connect_in_turn.new.transport) closed) c.in-Err.cause in
    fails_by _ _ _ _ _ _ _ _ _ _ _ _ _ tries (subst N c.poll_connect_in_turn.ensures.closed c.in-Err.ensures.connects)

pub returns-in-Ready-Ok-Err-clause-connects : goal.returns-in-Ready-Ok-Err-clause-connects
returns-in-Ready-Ok-Err-clause-connects g c =
    let arm = c.in-Ready-Ok-Err in
    let tries = rw (arm.is, arm.field-0-is, arm.field-0-0-is) at c.poll_connect_in_turn.ensures.tries in
    inl (none_connects _ _ _ _ _ _ _ _ _ _ tries)
