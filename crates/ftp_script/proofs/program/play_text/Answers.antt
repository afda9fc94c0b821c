use Rattle.std.proofs.Common.{sym, subst, inr, Err}
use Rattle.ftp_script.specs.declared.program.PlayError.TheVariants.{Io}
use Rattle.ftp_script.specs.Program.{Ran, WritesFront}
use Rattle.ftp_script.proofs.program.play_text.Goals as goal

pub returns : goal.returns
returns g c =
    let old = g.W.Write.contents c.args.writer.now in
    let new = g.W.Write.contents c.write_all_retrying.new.writer in
    let front : WritesFront c.in-Ok.script old new = inr (c.in-Ok-transcript_of.transcript.items, c.in-Ok-transcript_of.ensures, rw c.as_slice.ensures.value at c.in-Err-write_all_retrying.ensures.err) in
    subst (λ r. Ran c.args.text.now r (Err (Io c.in-Err-write_all_retrying.error)) old new) (sym c.in-Ok.ensures) front
