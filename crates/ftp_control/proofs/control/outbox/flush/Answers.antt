use Rattle.std.proofs.Common.{length-drop, arith, sym, subst}
use Rattle.ftp_transport.specs.Told.{Told}
use Rattle.std.proofs.lemmas.List.{drop-drop}
use Rattle.ftp_control.proofs.Sending.{more_sent, before_failure}
use Rattle.ftp_control.proofs.control.outbox.flush.Goals as goal

pub loop-outbox-preserved : goal.loop-outbox-preserved
loop-outbox-preserved g c =
    let bound = rw (c.in-Ok-Ready.field-0-is, c.unsent.ensures) at c.in-Ok-Ready.ensures.bound in
    let told = rw (c.in-Ok-Ready.field-0-is, c.unsent.ensures) at c.in-Ok-Ready.ensures.told in
    record {
      within = omega (arith, bound.1, length-drop c.loop-outbox.outbox.sent c.loop-outbox.outbox.line.items);
      so_far = more_sent _ _ _ _ _ c.loop-outbox.invariant.so_far c.in-Ok-Ready.count _ _ (sym (drop-drop c.in-Ok-Ready.count c.loop-outbox.outbox.sent c.loop-outbox.outbox.line.items)) told;
    }

pub returns-in-Err-clause-fault : goal.returns-in-Err-clause-fault
returns-in-Err-clause-fault g c = λ h.
    let P : Told → Type 0 = λ t. g.C.PollConn.write_faults t c.in-Err.kind in
    subst P (before_failure _ _ _ _ _ c.loop-outbox.invariant.so_far c.in-Err.kind _ h (c.in-Err.ensures.told h)) (c.in-Err.ensures.fault h)
