use Rattle.std.proofs.Common.{◌≡◌, ◌++◌, ◌∷◌, [], length, length-append, inl, ap, ◌∙◌, arith}
use Rattle.ftp_runs.proofs.CallCauses.{all_counted, next_counted, none_made}
use Rattle.ftp_runs.specs.Runs.{are_due}
use Rattle.ftp_runs.proofs.InStep.{all_of, among_fails_with, next_of}
use Rattle.ftp_runs.proofs.Running.{fails_more, ran_nothing}
use Rattle.ftp_runs.proofs.calls.run.Goals as goal

pub loop-call-init : goal.loop-call-init
loop-call-init g c =
    record { due = ap are_due c.machine.view_is; so_far = inl (rw c.requires.none (ran_nothing _ _ _ _)); counts = rw c.requires.none (none_made _ _ _ _ _); fails = λ failed. inl failed; count = ap length c.requires.none; room = c.requires.room }

pub loop-call-preserved : goal.loop-call-preserved
loop-call-preserved g c =
    let held = c.loop-call.invariant in
    let pushed : c.push.new.self.items ≡ c.loop-call.answers.items ++ c.make_among-answer.result ∷ [] = rw c.unwrap.ensures at c.push.ensures.items in
    let made = rw held.due at c.make_among-answer.ensures.made in
    let longer = ap length pushed ∙ length-append c.loop-call.answers.items (c.make_among-answer.result ∷ []) in
    record {
      due = held.due;
      so_far = next_of _ _ c.args.calls.now c.loop-call.call-index c.call-item.result _ _ _ _ _ _ c.loop-call-test.true c.call-item.is pushed held.so_far made;
      counts = next_counted _ _ _ c.args.calls.now c.loop-call.call-index c.call-item.result _ _ _ _ _ _ c.loop-call-test.true c.call-item.is pushed held.counts made;
      fails = fails_more c.args.machine.now c.loop-call.machine c.make_among-answer.new.machine c.loop-call.answers.items (c.make_among-answer.result ∷ []) _ pushed held.fails (among_fails_with _ _ _ _ _ _ _ made);
      count = omega (arith, longer, held.count);
      room = omega (arith, held.room, c.push.ensures.capacity);
    }

pub returns-clause-runs : goal.returns-clause-runs
returns-clause-runs g c = all_of _ _ _ c.loop-call.call-index _ _ _ c.loop-call-test.false c.loop-call.invariant.so_far

pub returns-clause-counts : goal.returns-clause-counts
returns-clause-counts g c = all_counted _ _ _ _ c.loop-call.call-index _ _ _ c.loop-call-test.false c.loop-call.invariant.counts
