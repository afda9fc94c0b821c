use Rattle.std.proofs.Common.{◌≤◌, ◌-◌, length, drop}
use Rattle.ftp_control.proofs.Sending.{SentSoFar}
use Rattle.ftp_control.proofs.control.outbox.flush.Given as goal

-- a front of what was unsent went out
abbrev pub invariant-loop-outbox : goal.invariant-loop-outbox
invariant-loop-outbox g l =
    let told = g.C.Tells.told in
    record {
      within : l.outbox.sent ≤ length l.outbox.line.items;
      so_far : SentSoFar g.C.Tells.tells (drop l.fn.outbox.sent l.fn.outbox.line.items) (drop l.outbox.sent l.outbox.line.items) (told l.fn.conn) (told l.conn);
    }

-- fewer bytes are unsent
abbrev pub decreases-loop-outbox : goal.decreases-loop-outbox
decreases-loop-outbox g l = length l.outbox.line.items - l.outbox.sent
