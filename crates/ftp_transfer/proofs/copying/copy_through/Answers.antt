use Rattle.std.proofs.Common.{◌≡◌, ◌∙◌, Ok, ap, length, take, arith, rules}
use Rattle.std.proofs.lemmas.List.{places}
use Rattle.ftp_transfer.proofs.CopyingLemmas.{gives_up_as, piece_fails, so_far_more, so_far_none, source_fails}
use Rattle.ftp_transfer.proofs.copying.copy_through.Goals as goal

pub loop-init : goal.loop-init
loop-init g c = record {
  copied = rw c.new-encoder.ensures (so_far_none _ c.args.text _ c.args.transfer.now);
  turns = omega arith;
  limit = omega arith;
}

pub returns-in_err-count : goal.returns-in_err-count
returns-in_err-count g c = record {
  copies =
      let far = c.loop.invariant.copied in
      let block = take c.read_block-taken.result.0 c.read_block-taken.new.input in
      gives_up_as _ c.args.text _ _ c.args.transfer.now c.send_piece.new.transfer _ c.from_residual.result c.from_residual.ensures.0 c.from_residual.ensures.1 (piece_fails _ c.args.text _ _ _ c.args.transfer.now c.loop.transfer c.send_piece.new.transfer _ _ block _ far c.read_block-taken.ensures.bytes (c.in_err-count.ensures.sends far.copied.given far.last));
}

pub returns-in-Err : goal.returns-in-Err
returns-in-Err g c = record {
  copies =
      let far = c.loop.invariant.copied in
      let block = take c.read_block-taken.result.0 c.read_block-taken.new.input in
      let sent = c.in_ok-count.ensures.sends far.copied.given far.last in
      rw c.source_fault.ensures (source_fails _ c.args.text _ _ c.args.transfer.now c.send_piece.new.transfer _ _ _ (so_far_more _ c.args.text _ _ _ c.args.transfer.now c.loop.transfer c.send_piece.new.transfer _ _ _ _ block far c.read_block-taken.ensures.bytes sent));
}

pub returns-in-Ok-false : goal.returns-in-Ok-false
returns-in-Ok-false g c = record {
  copies =
      let far = c.loop.invariant.copied in
      let block = take c.read_block-taken.result.0 c.read_block-taken.new.input in
      let sent = c.in_ok-count.ensures.sends far.copied.given far.last in
      let all = so_far_more _ c.args.text _ _ _ c.args.transfer.now c.loop.transfer c.send_piece.new.transfer _ _ _ _ block far c.read_block-taken.ensures.bytes sent in
      (all.copied, c.read_block-taken.ensures.end (c.in-Ok-false.is ∙ ap Ok c.in-Ok-false.field-0-test));
}

pub loop-preserved : goal.loop-preserved
loop-preserved g c =
    let far = c.loop.invariant.copied in
    let block = take c.read_block-taken.result.0 c.read_block-taken.new.input in
    let sent = c.in_ok-count.ensures.sends far.copied.given far.last in
    let some = c.read_block-taken.ensures.some (c.in-Ok-true.is ∙ ap Ok c.in-Ok-true.field-0-test) in
    let size : length block ≡ c.read_block-taken.result.0 = search (rules, places) in
    record {
      copied = so_far_more _ c.args.text _ _ _ c.args.transfer.now c.loop.transfer c.send_piece.new.transfer _ _ _ _ block far c.read_block-taken.ensures.bytes sent;
      turns = omega (arith, c.loop.invariant.turns, sent.counts, sent.adds.longer, some, size);
      limit = sent.within;
    }
