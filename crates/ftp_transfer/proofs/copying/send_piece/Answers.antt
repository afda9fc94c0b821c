use Rattle.ftp_transfer.proofs.CopyingLemmas.{adds_text, no_memory, text_sent}
use Rattle.ftp_transfer.proofs.copying.send_piece.Goals as goal

pub returns-in_err-encode : goal.returns-in_err-encode
returns-in_err-encode g c = record { sends = λ before last. no_memory _ c.args.text before c.args.piece.now _ c.args.transfer.now c.args.count c.from_residual.result c.from_residual.ensures.0 c.from_residual.ensures.1 }

pub returns : goal.returns
returns g c = record {
  sends = λ before last.
      let text = c.if-not-text.false in
      let follows = last text in
      let adds = adds_text before c.args.piece.now _ _ (c.in_ok-encode.ensures.written before follows) c.clear.ensures.items in
      rw text (text_sent _ before c.args.piece.now c.as_slice.result.now _ c.args.transfer.now c.send-2.new.transfer c.args.count c.send-2.result (rw c.as_slice.ensures.value adds) (c.in_ok-encode.ensures.last before follows) c.send-2.ensures.sends);
}
