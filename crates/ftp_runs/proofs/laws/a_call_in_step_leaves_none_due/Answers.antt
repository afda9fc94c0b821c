use Rattle.ftp_runs.proofs.NoneDue.{call_even}
use Rattle.ftp_runs.proofs.laws.a_call_in_step_leaves_none_due.Goals as goal

pub returns : goal.returns
returns c = record { none = λ coding room call s even. call_even room coding call s even }
