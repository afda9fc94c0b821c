use Rattle.std.proofs.Common.{arith}
use Rattle.ftp_control.proofs.Outcomes.{too_little}
use Rattle.ftp_control.proofs.ReadLoop.{lacks_memory}
use Rattle.ftp_control.proofs.control.read_loop.look.Goals as goal

pub overflow_sub-most : goal.overflow_sub-most
overflow_sub-most c = let held = too_little _ _ _ c.loop-alloc.invariant.under_way.waits in omega (arith, c.count.ensures, held.fits)

pub piece_len-next-requires-clause-most : goal.piece_len-next-requires-clause-most
piece_len-next-requires-clause-most c = let held = too_little _ _ _ c.loop-alloc.invariant.under_way.waits in omega (arith, c.count.ensures, held.fits)

pub returns-then-is_err-clause-takes : goal.returns-then-is_err-clause-takes
returns-then-is_err-clause-takes c = rw c.reserve.ensures.items (lacks_memory _ _ _ _ _ c.loop-alloc.invariant.so_far)
