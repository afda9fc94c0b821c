use Rattle.std.proofs.Common.{◌≡◌, ◌≤◌, length, take}
use Rattle.ftp_list.proofs.trims.copied_line.Given as goal

abbrev pub invariant-loop-i : goal.invariant-loop-i
invariant-loop-i l = (length l.bytes ≤ length l.room) × (take l.i l.room ≡ take l.i l.bytes)
