use Rattle.std.proofs.Common.{inl, ap}
use Rattle.ftp_dialogue.specs.Coding.{coding_of}
use Rattle.ftp_dialogue.specs.State.{SessionValue}
use Rattle.ftp_dialogue.proofs.OpeningData.{asking_answers, asking_fewer, fetch_fewer, may_perform, asks_opens, row_answers}
use Rattle.ftp_dialogue.proofs.NegotiationLemmas.{concludes_on}
use Rattle.ftp_dialogue.proofs.FallingBack.{falls_begun, falls_fewer, falls_on, falls_stage}
use Rattle.ftp_dialogue.proofs.Nexts.{stage_after}
use Rattle.ftp_dialogue.proofs.machine.Machine.accept_reply.Goals as goal

pub returns-in-Done-clause-answers : goal.returns-in-Done-clause-answers
returns-in-Done-clause-answers g c =
    let answers = rw c.in-Done.is at c.accept.ensures.answers in
    (c.args.awaits.turn, inl c.requires.stage.2, row_answers _ c.args.awaits.ending _ c.requires.stage.0 answers)

pub returns-in-GoesOn-clause-concludes : goal.returns-in-GoesOn-clause-concludes
returns-in-GoesOn-clause-concludes g c =
    let accepts = rw c.in-GoesOn.is at c.accept.ensures.accepts in
    let F : SessionValue → SessionValue = λ v. record v { state = c.accept.new.state } in
    let same = ap F c.self.view_is in
    let state = ap (λ v. v.state) c.self.view_is in
    let here = rw state at accepts in
    concludes_on (coding_of g.E.Encoding.decoded g.E.Encoding.encoded c.args.encoding.now) c.args.call.now c.args.awaits c.args.reply _ c.args.self.now _ _ same here c.go_on.ensures.on

pub returns-in-GoesOn-clause-stage : goal.returns-in-GoesOn-clause-stage
returns-in-GoesOn-clause-stage g c =
    let answers = rw c.in-GoesOn.is at c.accept.ensures.answers in
    stage_after c.args.call.now c.args.awaits c.go_on.new.stage c.go_on.result c.requires.stage answers.0 answers.1 c.go_on.ensures.on

pub returns-in-Asks-clause-stage : goal.returns-in-Asks-clause-stage
returns-in-Asks-clause-stage g c =
    let answers = rw c.in-Asks.is at c.accept.ensures.answers in
    rw c.go_to.ensures (asks_opens _ c.args.awaits.turn c.args.awaits.ending c.requires.stage.0 answers.0 c.requires.stage.2, asking_answers _ c.args.awaits.turn c.args.awaits.ending c.in-Asks.asking c.requires.stage.2 c.requires.stage.0 answers.0 answers.1)

pub returns-in-Asks-clause-fewer : goal.returns-in-Asks-clause-fewer
returns-in-Asks-clause-fewer g c = λ next.
    let answers = rw c.in-Asks.is at c.accept.ensures.answers in
    rw c.go_to.ensures (asking_fewer c.args.awaits.turn _ c.in-Asks.asking answers.1)

pub returns-in-Performs-clause-stage : goal.returns-in-Performs-clause-stage
returns-in-Performs-clause-stage g c =
    let answers = rw c.in-Performs.is at c.accept.ensures.answers in
    rw c.go_to-in-Performs.ensures (may_perform _ c.args.awaits.turn c.args.awaits.ending c.in-Performs.task c.requires.stage.2 c.requires.stage.0 answers.0 answers.1)

pub returns-in-Performs-clause-fewer : goal.returns-in-Performs-clause-fewer
returns-in-Performs-clause-fewer g c = λ next. rw c.go_to-in-Performs.ensures (fetch_fewer c.args.awaits.turn)

pub returns-in-FallsBack-clause-stage : goal.returns-in-FallsBack-clause-stage
returns-in-FallsBack-clause-stage g c =
    let answers = rw c.in-FallsBack.is at c.accept.ensures.answers in
    falls_stage _ c.args.awaits _ c.requires.stage answers (rw c.falling_back.ensures at c.go_to-in-FallsBack.ensures)

pub returns-in-FallsBack-clause-fewer : goal.returns-in-FallsBack-clause-fewer
returns-in-FallsBack-clause-fewer g c = λ next.
    let answers = rw c.in-FallsBack.is at c.accept.ensures.answers in
    falls_fewer _ c.args.awaits _ c.requires.stage answers (rw c.falling_back.ensures at c.go_to-in-FallsBack.ensures)

pub returns-in-FallsBack-clause-goes_on : goal.returns-in-FallsBack-clause-goes_on
returns-in-FallsBack-clause-goes_on g c = λ next.
    let answers = rw c.in-FallsBack.is at c.accept.ensures.answers in
    falls_begun _ c.args.awaits _ c.requires.stage answers (rw c.falling_back.ensures at c.go_to-in-FallsBack.ensures)

pub returns-in-FallsBack-clause-concludes : goal.returns-in-FallsBack-clause-concludes
returns-in-FallsBack-clause-concludes g c =
    let answers = rw c.in-FallsBack.is at c.accept.ensures.answers in
    let accepts = rw c.in-FallsBack.is at c.accept.ensures.accepts in
    let F : SessionValue → SessionValue = λ v. record v { state = c.accept.new.state } in
    let same = ap F c.self.view_is in
    let state = ap (λ v. v.state) c.self.view_is in
    let here = rw state at accepts in
    falls_on c.args.call.now c.args.awaits _ c.requires.stage answers (rw c.falling_back.ensures at c.go_to-in-FallsBack.ensures) (coding_of g.E.Encoding.decoded g.E.Encoding.encoded c.args.encoding.now) c.args.reply c.args.self.now _ same here
