use Rattle.std.proofs.Common.{inl}
use Rattle.ftp_dialogue.proofs.TransitionsLemmas.{nothing_so_far, next_step, last_step, waits_step, begun_on, end_on, rests_from}
use Rattle.ftp_dialogue.proofs.machine.Machine.poll_call.Goals as goal

pub loop-answer-init : goal.loop-answer-init
loop-answer-init g c = record { so_far = nothing_so_far _ _ _ _ _ c.requires.stage; end = λ h may e. inl e }

pub loop-answer-preserved : goal.loop-answer-preserved
loop-answer-preserved g c =
    let so_far = c.loop-answer.invariant.so_far in
    let made = rw c.in-Next.is at c.step.ensures.makes.steps in
    let quiet = rw c.in-Next.is at c.step.ensures.makes.quiet in
    let begun = rw c.in-Next.is at c.step.ensures.makes.begun in
    let stage_of = rw c.in-Next.is at c.step.ensures.makes.stage_of in
    record {
      so_far = next_step _ _ _ _ _ _ _ so_far c.step.new.stage c.step.new.self made quiet begun stage_of c.step.ensures.net;
      end = λ h may. end_on c.args.self.now.channel.ended c.loop-answer.self.channel.ended c.step.new.self.channel.ended c.args.self.now.channel.told c.loop-answer.self.channel.told (so_far.moved.moves.leads.goes.given h) (c.loop-answer.invariant.end h may) (c.step.ensures.end h may);
    }

pub returns-in-Pending-clause-polls : goal.returns-in-Pending-clause-polls
returns-in-Pending-clause-polls g c =
    let made = rw c.in-Pending.is at c.step.ensures.makes.steps in
    waits_step _ _ _ _ _ _ _ c.loop-answer.invariant.so_far c.step.new.stage c.step.new.self made

pub returns-in-Pending-clause-begun : goal.returns-in-Pending-clause-begun
returns-in-Pending-clause-begun g c = λ waits.
    let made = rw c.in-Pending.is at c.step.ensures.makes.steps in
    let begun = rw c.in-Pending.is at c.step.ensures.makes.begun in
    begun_on _ _ _ _ _ _ _ c.loop-answer.invariant.so_far c.step.new.stage c.step.new.self made.0.moves begun

pub returns-in-Done-clause-polls : goal.returns-in-Done-clause-polls
returns-in-Done-clause-polls g c =
    let made = rw c.in-Done.is at c.step.ensures.makes.steps in
    last_step _ _ _ _ _ _ _ c.loop-answer.invariant.so_far c.step.new.stage c.step.new.self c.in-Done.answer made

pub returns-in-Pending-clause-rests : goal.returns-in-Pending-clause-rests
returns-in-Pending-clause-rests g c = λ waits read. rests_from _ _ _ _ _ _ _ c.loop-answer.invariant.so_far c.step.new.self read (c.step.ensures.rests c.in-Pending.is read)
