use Rattle.ftp_dialogue.proofs.machine.Machine.hear.Goals as goal

pub returns-clause-hears : goal.returns-clause-hears
returns-clause-hears g c = λ next. let heard = rw c.form_of.ensures at c.hear_reply_of.ensures.hears in heard next
