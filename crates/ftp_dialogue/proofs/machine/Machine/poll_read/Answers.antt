use Rattle.std.proofs.Common.{◌∙◌, refl, ap, sym}
use Rattle.futures.specs.declared.task.Poll.TheVariants.{Ready, Pending}
use Rattle.ftp_dialogue.proofs.CatchingUpLemmas.{reads_at_once, reads_caught_up}
use Rattle.ftp_dialogue.proofs.machine.Machine.poll_read.Goals.{then-has_dropped_replies+in-Ready-None, else-has_dropped_replies}
use Rattle.ftp_dialogue.proofs.machine.Machine.poll_read.Goals as goal

pub returns-in-Ready-Some-clause-reads : goal.returns-in-Ready-Some-clause-reads
returns-in-Ready-Some-clause-reads g c = reads_caught_up _ _ _ c.args.self.now c.poll_dropped.new.self _ c.poll_dropped.result _ _ (sym c.if-has_dropped_replies.ensures) c.poll_dropped.ensures.catches_up (c.in-Ready-Some.is ∙ ap Ready c.in-Ready-Some.field-0-is) (refl, refl)

pub returns-in-Pending-clause-reads : goal.returns-in-Pending-clause-reads
returns-in-Pending-clause-reads g c = reads_caught_up _ _ _ c.args.self.now c.poll_dropped.new.self _ c.poll_dropped.result _ _ (sym c.if-has_dropped_replies.ensures) c.poll_dropped.ensures.catches_up c.in-Pending.is (refl, refl)

pub returns-clause-reads : goal.returns-clause-reads
returns-clause-reads g c =
    elim c.if-has_dropped_replies.branch [
      | then-has_dropped_replies+in-Ready-None w ↦ reads_caught_up _ _ _ c.args.self.now w.poll_dropped.new.self _ w.poll_dropped.result _ _ (sym w.if-has_dropped_replies.ensures) w.poll_dropped.ensures.catches_up (w.in-Ready-None.is ∙ ap Ready w.in-Ready-None.field-0-is) (rw w.self-is at c.poll_read_drained.ensures.reads)
      | else-has_dropped_replies w ↦ reads_at_once _ _ _ c.args.self.now c.args.self.now _ Pending _ (sym w.if-has_dropped_replies.ensures) (rw w.self-is at c.poll_read_drained.ensures.reads)
    ]
