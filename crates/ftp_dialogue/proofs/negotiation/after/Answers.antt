use Rattle.ftp_dialogue.proofs.Questioning.{first_continues, listens_continues}
use Rattle.ftp_dialogue.proofs.negotiation.after.Goals as goal

pub returns-in-Negotiating-Room : goal.returns-in-Negotiating-Room
returns-in-Negotiating-Room c = λ coding. rw (c.in-Negotiating-Room.is-0, c.in-Negotiating-Room.is-1, c.first.ensures) (first_continues coding _ c.requires.opens c.args.state.now c.in-Negotiating-Room.offset)

pub returns-in-Binding-Outcome : goal.returns-in-Binding-Outcome
returns-in-Binding-Outcome c = λ coding. rw (c.in-Binding-Outcome.is-0, c.in-Binding-Outcome.is-1, c.listens.ensures) (listens_continues coding _ c.requires.opens _ c.in-Binding-Outcome.local c.in-Binding-Outcome.offset c.in-Binding-Outcome.outcome)

pub returns-in-Asking-default : goal.returns-in-Asking-default
returns-in-Asking-default c = λ coding. rw c.in-Asking-default.is-0 (c.after_asking.ensures coding)
