use Rattle.std.proofs.Common.{◌∙◌, refl, arith}
use Rattle.std.proofs.KnownBytes.{Consumes-nil}
use Rattle.ftp_transfer.proofs.CopyingLemmas.{block_end, block_kept, block_more}
use Rattle.ftp_transfer.proofs.copying.read_block.Goals as goal

pub loop-filled-init : goal.loop-filled-init
loop-filled-init g c = record { within = omega arith; size = refl; bytes = Consumes-nil _ }

pub returns-in-Ok-eq0-clause-bytes : goal.returns-in-Ok-eq0-clause-bytes
returns-in-Ok-eq0-clause-bytes g c =
    block_end _ _ _ c.loop-filled.input c.read_piece.new.input c.loop-filled.filled c.in-Ok-eq0.field-0 c.loop-filled.invariant.bytes c.in-Ok-eq0.ensures.front c.in-Ok-eq0.ensures.ok c.in-Ok-eq0.field-0-test

pub loop-filled-preserved : goal.loop-filled-preserved
loop-filled-preserved g c = record {
  within = c.in-Ok.ensures.fits;
  size = c.in-Ok.ensures.size ∙ c.loop-filled.invariant.size;
  bytes = block_more _ _ _ c.loop-filled.input c.read_piece.new.input c.loop-filled.filled c.in-Ok.taken c.loop-filled.invariant.bytes c.in-Ok.ensures.front c.in-Ok.ensures.ok;
}

pub returns-in-Err-clause-bytes : goal.returns-in-Err-clause-bytes
returns-in-Err-clause-bytes g c =
    block_kept _ _ _ c.loop-filled.input c.read_piece.new.input c.loop-filled.filled c.loop-filled.invariant.bytes c.in-Err.ensures.front c.in-Err.ensures.none_lost

pub returns-clause-within : goal.returns-clause-within
returns-clause-within g c = c.loop-filled.invariant.within

pub returns-clause-bytes : goal.returns-clause-bytes
returns-clause-bytes g c = c.loop-filled.invariant.bytes
