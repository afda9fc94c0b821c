use Rattle.ftp_runs.proofs.Leaving.{has_left, has_none}
use Rattle.ftp_runs.proofs.dropping.leave_held.Goals.{then-holds_transfer, else-holds_transfer}
use Rattle.ftp_runs.proofs.dropping.leave_held.Goals as goal

pub returns : goal.returns
returns c =
    let held = c.holds_memory.ensures in
    record {
      leaves = elim c.if-holds_transfer.branch [
        | then-holds_transfer w ↦ has_left c.args.machine.now c.if-holds_transfer.machine w.local_call.result (rw c.holds_transfer.ensures at w.if-holds_transfer.true) (rw (← w.machine-is) at w.local_call.ensures.carries) held.given held.sound
        | else-holds_transfer w ↦ has_none c.args.machine.now c.if-holds_transfer.machine (rw c.holds_transfer.ensures at w.if-holds_transfer.false) w.machine-is held.given held.sound
      ];
    }
