use Rattle.std.proofs.Common.{inl, inr, refl}
use Rattle.ftp_dialogue.proofs.Polls.{starts_on}
use Rattle.ftp_dialogue.proofs.machine.Machine.poll_started.Goals as goal

pub returns-in-Some-clause-starts : goal.returns-in-Some-clause-starts
returns-in-Some-clause-starts g c = inl (c.in-Some.answer, refl, c.refuse_at.ensures.refused c.in-Some.answer c.in-Some.is)

pub returns-clause-starts : goal.returns-clause-starts
returns-clause-starts g c =
    let taken = c.refuse_at.ensures.taken c.in_default.is in
    let made = c.poll_taken.ensures in
    inr (starts_on _ _ _ c.args.call.now c.args.stage.now c.poll_taken.new.stage c.args.self.now c.refuse_at.new.self c.poll_taken.new.self c.poll_taken.result taken.0 taken.1 taken.2 made.polls made.rests made.begun made.fails made.end)
