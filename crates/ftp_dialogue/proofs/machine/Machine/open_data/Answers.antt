use Rattle.std.proofs.Common.{ap, sym, subst, ◌∙◌}
use Rattle.ftp_calls.specs.declared.call.Answer.TheVariants.{Unit}
use Rattle.ftp_dialogue.specs.declared.state.State.{State}
use Rattle.ftp_dialogue.specs.Dialogue.{Leaf}
use Rattle.ftp_dialogue.proofs.Questioning.{fails_there, found_there, lacks_memory_there, waits_there}
use Rattle.ftp_dialogue.specs.Steps.Questions.{Continues, Fits, question_at}
use Rattle.ftp_dialogue.proofs.machine.Machine.open_data.Goals as goal

pub after-reached-requires-clause-fits : goal.after-reached-requires-clause-fits
after-reached-requires-clause-fits g c =
    let question = c.question_of-question.ensures ∙ ap (λ v. question_at v.state c.args.opening_data) c.self.view_is in
    let asks = rw (c.in-Found.is, question) at c.ask.ensures.asks in
    let same = (asks.1 (λ came. Leaf Unit c.args.self.now.state)).advances.moves.state in
    let F : State → Type 0 = λ state. Fits (question_at state c.args.opening_data) c.in-Found.found in
    subst F (sym same ∙ sym (ap (λ v. v.state) c.self-in-Found.view_is)) asks.0

pub returns-in-Found-clause-makes : goal.returns-in-Found-clause-makes
returns-in-Found-clause-makes g c = λ coding.
    let question = c.question_of-question.ensures ∙ ap (λ v. question_at v.state c.args.opening_data) c.self.view_is in
    let asks = rw (c.in-Found.is, question) at c.ask.ensures.asks in
    let C : State → Type 0 = λ state. Continues coding c.args.call.now c.args.opening_data c.in-Found.found state c.after-reached.result in
    let continues = subst C (ap (λ v. v.state) c.self-in-Found.view_is) (c.after-reached.ensures coding) in
    found_there _ coding _ c.args.opening_data c.requires.opens c.in-Found.found _ _ c.args.self.now c.ask.new.self _ _ asks continues c.arrive.ensures.arrives

pub returns-in-Waits-clause-makes : goal.returns-in-Waits-clause-makes
returns-in-Waits-clause-makes g c = λ coding.
    let question = c.question_of-question.ensures ∙ ap (λ v. question_at v.state c.args.opening_data) c.self.view_is in
    let asks = rw (c.in-Waits.is, question) at c.ask.ensures.asks in
    rw c.go_to.ensures (waits_there _ coding _ c.args.opening_data c.requires.opens c.args.self.now c.ask.new.self c.requires.way asks)

pub returns-in-Failed-clause-makes : goal.returns-in-Failed-clause-makes
returns-in-Failed-clause-makes g c = λ coding.
    let question = c.question_of-question.ensures ∙ ap (λ v. question_at v.state c.args.opening_data) c.self.view_is in
    let asks = rw (c.in-Failed.is, question) at c.ask.ensures.asks in
    fails_there _ coding _ c.args.opening_data c.requires.opens _ c.in-Failed.kind c.args.self.now c.ask.new.self asks

pub returns-in-NoMemory-clause-makes : goal.returns-in-NoMemory-clause-makes
returns-in-NoMemory-clause-makes g c = λ coding.
    let question = c.question_of-question.ensures ∙ ap (λ v. question_at v.state c.args.opening_data) c.self.view_is in
    let asks = rw (c.in-NoMemory.is, question) at c.ask.ensures.asks in
    rw (c.abort_dialogue.ensures, c.has_asked-begun.ensures) (lacks_memory_there _ coding _ c.args.opening_data c.requires.opens _ c.args.self.now c.ask.new.self c.requires.going asks)
