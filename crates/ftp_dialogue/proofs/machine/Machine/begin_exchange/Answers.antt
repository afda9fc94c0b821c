use Rattle.std.proofs.Common.{refl}
use Rattle.ftp_dialogue.proofs.machine.Machine.begin_exchange.Goals as goal

pub returns-in-Ok : goal.returns-in-Ok
returns-in-Ok g c =
    let begun = rw c.in-Ok.is at c.begin.ensures in
    rw c.go_to.ensures (refl, begun)

pub returns-in-Err : goal.returns-in-Err
returns-in-Err g c =
    let refused = rw c.in-Err.is at c.begin.ensures in
    record { fault = c.in-Err.fault; is = refl; cause = refused; leaves = rw c.is_later.ensures at c.abort_dialogue.ensures }
