use Rattle.std.proofs.Common.{◌≡◌, true, false, option_map, sym, ◌∙◌}
use Rattle.ftp_runs.proofs.Stretches.{reads_going}
use Rattle.ftp_runs.proofs.events.poll_in_step.Goals as goal

pub returns-then-reads_first-clause-failed : goal.returns-then-reads_first-clause-failed
returns-then-reads_first-clause-failed g c = λ failed.
    let going = reads_going (option_map (λ c'. c'.now) c.args.under_way.now) c.args.course.now c.args.machine.now (sym c.reads_first.ensures ∙ c.if-reads_first.true) in
    let clash : true ≡ false = sym failed ∙ going in
    cc
