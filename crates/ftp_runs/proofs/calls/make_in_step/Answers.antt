use Rattle.std.proofs.Common.{◌∙◌, refl, ap, sym}
use Rattle.futures.specs.declared.task.Poll.TheVariants.{Ready}
use Rattle.ftp_dialogue.proofs.CatchingUpLemmas.{in_step, step_ends, step_fails, step_goes_on}
use Rattle.ftp_runs.proofs.calls.make_in_step.Goals.{then-reads_dropped_first+in-Ready-None+else-drains, else-reads_dropped_first}
use Rattle.ftp_runs.proofs.calls.make_in_step.Goals as goal

pub returns-in-Ready-Some : goal.returns-in-Ready-Some
returns-in-Ready-Some g c = record { made = step_fails _ _ _ _ c.args.call.now c.args.machine.now c.poll_dropped_replies.new.self _ _ c.in-Ready-Some.fault c.poll_dropped_replies.result (sym c.if-reads_dropped_first.ensures) c.poll_dropped_replies.ensures.catches_up (c.in-Ready-Some.is ∙ ap Ready c.in-Ready-Some.field-0-is) refl refl }

pub returns-then-drains : goal.returns-then-drains
returns-then-drains g c = record { made = step_ends _ _ _ _ c.args.call.now c.args.machine.now c.poll_dropped_replies.new.self _ _ c.poll_dropped_replies.result (sym c.if-reads_dropped_first.ensures) c.poll_dropped_replies.ensures.catches_up (c.in-Ready-None.is ∙ ap Ready c.in-Ready-None.field-0-is) (sym c.if-drains.ensures) refl refl }

pub returns : goal.returns
returns g c =
    elim c.if-reads_dropped_first.branch [
      | then-reads_dropped_first+in-Ready-None+else-drains w ↦ record { made = step_goes_on _ _ _ _ c.args.call.now c.args.machine.now w.poll_dropped_replies.new.self _ _ w.poll_dropped_replies.result (sym w.if-reads_dropped_first.ensures) w.poll_dropped_replies.ensures.catches_up (w.in-Ready-None.is ∙ ap Ready w.in-Ready-None.field-0-is) (sym w.if-drains.ensures) (rw w.machine-is at c.make.ensures.made) }
      | else-reads_dropped_first w ↦ record { made = in_step _ _ _ _ c.args.call.now c.args.machine.now c.args.machine.now _ _ (sym w.if-reads_dropped_first.ensures) (rw w.machine-is at c.make.ensures.made) }
    ]
