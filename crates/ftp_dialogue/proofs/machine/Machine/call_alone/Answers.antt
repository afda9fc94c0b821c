use Rattle.std.proofs.Common.{ap, inl, ◌∙◌}
use Rattle.ftp_dialogue.specs.Coding.{coding_of}
use Rattle.ftp_dialogue.proofs.CarryingLemmas.{refused_answer, taken_going}
use Rattle.ftp_dialogue.specs.Promises.{lacks_of}
use Rattle.ftp_dialogue.proofs.TransitionsLemmas.{made_after}
use Rattle.ftp_dialogue.proofs.machine.Machine.call_alone.Goals as goal

pub returns-in-Some-clause-answers : goal.returns-in-Some-clause-answers
returns-in-Some-clause-answers g c = λ held. refused_answer _ c.args.call.now _ _ _ held (c.refuse.ensures.refused c.in-Some.answer c.in-Some.is)

pub returns-in-Some-clause-made : goal.returns-in-Some-clause-made
returns-in-Some-clause-made g c = inl (c.refuse.ensures.refused c.in-Some.answer c.in-Some.is)

pub returns-clause-made : goal.returns-clause-made
returns-clause-made g c =
    let coding = coding_of g.E.Encoding.decoded g.E.Encoding.encoded c.args.encoding.now in
    let polls = rw c.in-Ready.is at c.poll_call.ensures.polls in
    let taken = c.refuse.ensures.taken c.in_default.is in
    made_after _ coding c.args.call.now c.enter-stage.result c.poll_call.new.stage c.args.self.now c.refuse.new.self _ _ _ _ taken.0 taken.1 c.requires.channel c.enter-stage.ensures.state (c.enter-stage.ensures.enters coding) c.enter-stage.ensures.begun polls c.let_go.ensures

pub poll_call-requires-clause-going : goal.poll_call-requires-clause-going
poll_call-requires-clause-going g c =
    let taken = c.refuse.ensures.taken c.in_default.is in
    ap (λ v. v.channel.failed) c.enter-stage.ensures.state ∙ ap (λ v. v.channel.failed) taken.1 ∙ taken_going c.args.call.now c.args.self.now.channel.failed (lacks_of c.args.call.now c.args.self.now) taken.0 c.requires.channel
