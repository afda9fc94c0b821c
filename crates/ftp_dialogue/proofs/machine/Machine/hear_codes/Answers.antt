use Rattle.ftp_dialogue.proofs.machine.Machine.hear_codes.Goals as goal

pub returns-in-One-clause-hears : goal.returns-in-One-clause-hears
returns-in-One-clause-hears g c = λ next. rw c.in-One.is (c.hear.ensures.hears next)

pub returns-in-Either-clause-hears : goal.returns-in-Either-clause-hears
returns-in-Either-clause-hears g c = λ next. rw c.in-Either.is (c.hear-in-Either.ensures.hears next)

pub returns-in-Given-clause-hears : goal.returns-in-Given-clause-hears
returns-in-Given-clause-hears g c = λ next. let heard = rw (c.as_slice.ensures) at c.hear-in-Given.ensures.hears in rw c.in-Given.is (heard next)

pub returns-in-Features-clause-hears : goal.returns-in-Features-clause-hears
returns-in-Features-clause-hears g c = λ next. rw c.in-Features.is (c.hear_reply_of.ensures.hears next)
