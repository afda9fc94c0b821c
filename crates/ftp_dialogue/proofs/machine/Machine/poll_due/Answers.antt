use Rattle.std.proofs.Common.{◌∙◌, ◌-◌, sym, arith}
use Rattle.ftp_dialogue.specs.Unanswered.{most_commands}
use Rattle.ftp_dialogue.proofs.CatchingUpLemmas.{due_fails, reads_fault, reads_more, reads_no_more, reads_none, reads_waits}
use Rattle.ftp_dialogue.proofs.machine.Machine.poll_due.Goals as goal

pub due-init : goal.due-init
due-init g c = λ new result reads. reads

pub returns-then-is_caught_up-clause-reads : goal.returns-then-is_caught_up-clause-reads
returns-then-is_caught_up-clause-reads g c = c.due.invariant _ _ (reads_none _ _ c.due.left c.due.self (omega (arith, c.due-test.true)) (sym c.if-is_caught_up.ensures))

pub returns-in-Some-clause-reads : goal.returns-in-Some-clause-reads
returns-in-Some-clause-reads g c = c.due.invariant _ _ (reads_fault _ _ c.due.left (c.due.left - 1) c.due.self c.poll_read_alone.new.self c.poll_read_alone.result (omega (arith, c.due-test.true)) (omega (arith, c.due-test.true)) (sym c.if-is_caught_up.ensures) c.poll_read_alone.ensures.reads c.in-Ready.heard c.in-Some.fault c.in-Ready.is (sym c.in-Some.is ∙ c.fault_told.ensures))

pub returns-in-Pending-clause-reads : goal.returns-in-Pending-clause-reads
returns-in-Pending-clause-reads g c = c.due.invariant _ _ (reads_waits _ _ c.due.left (c.due.left - 1) c.due.self c.poll_read_alone.new.self c.poll_read_alone.result (omega (arith, c.due-test.true)) (omega (arith, c.due-test.true)) (sym c.if-is_caught_up.ensures) c.poll_read_alone.ensures.reads c.in-Pending.is)

pub due-preserved : goal.due-preserved
due-preserved g c = λ new result then. c.due.invariant new result (reads_more _ _ c.due.left (c.due.left - 1) c.due.self c.poll_read_alone.new.self c.poll_read_alone.result (omega (arith, c.due-test.true)) (omega (arith, c.due-test.true)) (sym c.if-is_caught_up.ensures) c.poll_read_alone.ensures.reads c.in-Ready.heard new result c.in-Ready.is (sym c.in_default.is ∙ c.fault_told.ensures) then)

pub returns-clause-reads : goal.returns-clause-reads
returns-clause-reads g c = c.due.invariant _ _ (reads_no_more _ _ c.due.left c.due.self c.due-test.false)

pub returns-then-is_caught_up-clause-fails : goal.returns-then-is_caught_up-clause-fails
returns-then-is_caught_up-clause-fails g c = due_fails _ _ most_commands c.args.self.now _ _ (returns-then-is_caught_up-clause-reads g c)

pub returns-in-Some-clause-fails : goal.returns-in-Some-clause-fails
returns-in-Some-clause-fails g c = due_fails _ _ most_commands c.args.self.now _ _ (returns-in-Some-clause-reads g c)

pub returns-in-Pending-clause-fails : goal.returns-in-Pending-clause-fails
returns-in-Pending-clause-fails g c = due_fails _ _ most_commands c.args.self.now _ _ (returns-in-Pending-clause-reads g c)

pub returns-clause-fails : goal.returns-clause-fails
returns-clause-fails g c = due_fails _ _ most_commands c.args.self.now _ _ (returns-clause-reads g c)
