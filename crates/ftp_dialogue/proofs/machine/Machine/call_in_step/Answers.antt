use Rattle.std.proofs.Common.{◌∙◌, inr, refl, ap, sym}
use Rattle.futures.specs.declared.task.Poll.TheVariants.{Ready}
use Rattle.ftp_calls.specs.declared.exchange.Turn.TheVariants.{First}
use Rattle.ftp_dialogue.proofs.CatchingUpLemmas.{in_step, step_fails, step_goes_on, undrained}
use Rattle.ftp_dialogue.proofs.machine.Machine.call_in_step.Goals.{then-reads_dropped_first+in-Ready-None, else-reads_dropped_first}
use Rattle.ftp_dialogue.proofs.machine.Machine.call_in_step.Goals as goal

pub returns-in-Ready-Some-clause-answers : goal.returns-in-Ready-Some-clause-answers
returns-in-Ready-Some-clause-answers g c = (First, inr tt, tt)

pub returns-in-Ready-Some-clause-made : goal.returns-in-Ready-Some-clause-made
returns-in-Ready-Some-clause-made g c = step_fails _ _ _ _ c.args.call.now c.args.self.now c.poll_dropped_replies.new.self _ _ c.in-Ready-Some.fault c.poll_dropped_replies.result (sym c.if-reads_dropped_first.ensures) c.poll_dropped_replies.ensures.catches_up (c.in-Ready-Some.is ∙ ap Ready c.in-Ready-Some.field-0-is) refl refl

pub returns-clause-made : goal.returns-clause-made
returns-clause-made g c =
    elim c.if-reads_dropped_first.branch [
      | then-reads_dropped_first+in-Ready-None w ↦ step_goes_on _ _ _ _ c.args.call.now c.args.self.now w.poll_dropped_replies.new.self _ _ w.poll_dropped_replies.result (sym w.if-reads_dropped_first.ensures) w.poll_dropped_replies.ensures.catches_up (w.in-Ready-None.is ∙ ap Ready w.in-Ready-None.field-0-is) (undrained c.args.call.now c.requires.unheld) (rw w.self-is at c.call.ensures.made)
      | else-reads_dropped_first w ↦ in_step _ _ _ _ c.args.call.now c.args.self.now c.args.self.now _ _ (sym w.if-reads_dropped_first.ensures) (rw w.self-is at c.call.ensures.made)
    ]
