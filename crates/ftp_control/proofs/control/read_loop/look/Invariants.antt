use Rattle.std.proofs.Common.{length}
use Rattle.ftp_control.specs.Inside.ReadLoop.{says_of, CanSeek}
use Rattle.ftp_control.specs.Inside.UnderWay.{IsUnderWay}
use Rattle.ftp_control.proofs.ReadLoop.{LooksSoFar}
use Rattle.ftp_control.proofs.control.read_loop.look.Given as goal

-- what was looked at so far says nothing yet
abbrev pub invariant-loop-alloc : goal.invariant-loop-alloc
invariant-loop-alloc l =
    record {
      under_way : IsUnderWay l.rule l.reply.bytes.items l.reply.line_start l.reply.phase;
      can_seek : CanSeek l.sought l.reply.bytes.items;
      so_far : LooksSoFar (says_of l.rule l.sought) l.fn.reply.bytes.items l.reply.bytes.items l.fn.ahead l.ahead;
    }

-- less lies ahead
abbrev pub decreases-loop-alloc : goal.decreases-loop-alloc
decreases-loop-alloc l = length l.ahead
