use Rattle.std.proofs.Common.{◌≡◌, ◌≤◌, ◌+◌, ◌-◌, length, cond}
use Rattle.ftp_control.specs.Inside.ReadLoop.{says_of, CanSeek}
use Rattle.ftp_control.specs.Inside.UnderWay.{IsUnderWay}
use Rattle.ftp_transport.specs.Memory.{IsGiven}
use Rattle.ftp_transport.specs.Told.{EndsAsTold}
use Rattle.ftp_control.proofs.ReadLoop.{SoFar}
use Rattle.ftp_control.proofs.control.read_loop.read_sought.Given as goal

-- what was read so far says nothing yet
abbrev pub invariant-loop-ended : goal.invariant-loop-ended
invariant-loop-ended g l =
    let told = g.C.Tells.told in
    record {
      under_way : IsUnderWay l.rule l.reply.bytes.items l.reply.line_start l.reply.phase;
      can_seek : CanSeek l.sought l.reply.bytes.items;
      known : g.C.Tells.tells → (told l.conn).ended ≡ l.ended;
      given : g.C.Tells.tells → IsGiven (told l.fn.conn) → IsGiven (told l.conn);
      end : g.C.Tells.tells → g.C.PollConn.may_wait → EndsAsTold l.fn.ended l.ended (told l.fn.conn);
      bound : length l.ahead ≤ 8192;
      so_far : SoFar g.C.Tells.tells (says_of l.rule l.sought) l.fn.reply.bytes.items l.reply.bytes.items l.fn.ahead l.ahead l.fn.ended l.ended (told l.fn.conn) (told l.conn);
    }

-- more bytes have come, or the input has ended
abbrev pub decreases-loop-ended : goal.decreases-loop-ended
decreases-loop-ended g l = cond l.ended 0 (270337 - (length l.reply.bytes.items + length l.ahead))
