use Rattle.std.proofs.Common.{Some, ap, ◌∙◌}
use Rattle.ftp_dialogue.specs.NetEvents.{Net}
use Rattle.ftp_dialogue.specs.State.{SessionValue}
use Rattle.ftp_dialogue.proofs.NetEvents.{same_net}
use Rattle.ftp_session.specs.Handed.{with_data}
use Rattle.ftp_session.proofs.session.moving.read_held.Goals as goal

pub returns : goal.returns
returns g c =
    let with_net : Net → SessionValue = λ net. record { channel = c.machine.inside.channel; state = c.machine.inside.state; net = net } in
    let held = ap with_net (same_net _ _ c.make_room.ensures.asked c.make_room.ensures.ready c.make_room.ensures.closed (ap Some c.into_conn.ensures)) in
    record { moves = (c.read-read.new.transfer, c.read-read.ensures, c.take.ensures.after, held ∙ ap (with_data (Some c.read-read.new.transfer.told)) c.machine.view_is) }
