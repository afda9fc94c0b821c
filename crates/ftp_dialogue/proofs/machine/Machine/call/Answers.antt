use Rattle.ftp_dialogue.proofs.CarryingLemmas.{never_lacks}
use Rattle.ftp_dialogue.proofs.machine.Machine.call.Goals as goal

pub returns-clause-answers : goal.returns-clause-answers
returns-clause-answers g c = λ unheld. c.call_alone.ensures.answers (never_lacks c.args.call.now c.if-is_due.self unheld)
