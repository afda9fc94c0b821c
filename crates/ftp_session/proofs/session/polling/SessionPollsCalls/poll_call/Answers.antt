use Rattle.std.proofs.Common.{rules}
use Rattle.futures.specs.declared.task.Poll.TheVariants.{Ready, Pending}
use Rattle.ftp_session.proofs.PollGrounds.{polls_caused, polls_counted}
use Rattle.ftp_session.proofs.PolledLemmas.{polls_seen}
use Rattle.ftp_session.proofs.session.polling.SessionPollsCalls.poll_call.Goals as goal

pub returns-in-Ready-clause-polls : goal.returns-in-Ready-clause-polls
returns-in-Ready-clause-polls g c =
    let polls = rw c.in-Ready.is at c.poll_in_step.ensures.polls in
    rw (← c.polled.view_is) (polls_seen _ _ _ _ _ _ _ _ c.look_first.new.machine _ c.poll_in_step.new.stage c.poll_in_step.new.behind (Ready c.in-Ready.answer) c.if-polled.false c.look_first.ensures polls (search rules))

pub returns-after-polled-2-clause-polls : goal.returns-after-polled-2-clause-polls
returns-after-polled-2-clause-polls g c =
    let polls = rw c.in-Pending.is at c.poll_in_step.ensures.polls in
    rw (← c.polled.view_is) (polls_seen _ _ _ _ _ _ _ _ c.look_first.new.machine _ c.poll_in_step.new.stage c.poll_in_step.new.behind Pending c.if-polled.false c.look_first.ensures polls (search rules))

pub returns-in-Ready-clause-counts : goal.returns-in-Ready-clause-counts
returns-in-Ready-clause-counts g c = λ plain. polls_counted _ _ _ _ _ _ _ _ _ (Ready c.in-Ready.answer) (search rules) (returns-in-Ready-clause-polls g c) plain

pub returns-after-polled-2-clause-counts : goal.returns-after-polled-2-clause-counts
returns-after-polled-2-clause-counts g c = λ plain. tt

pub returns-in-Ready-clause-causes : goal.returns-in-Ready-clause-causes
returns-in-Ready-clause-causes g c = polls_caused _ _ _ _ _ _ _ _ _ (Ready c.in-Ready.answer) (search rules) (returns-in-Ready-clause-polls g c)

pub returns-after-polled-2-clause-causes : goal.returns-after-polled-2-clause-causes
returns-after-polled-2-clause-causes g c = polls_caused _ _ _ _ _ _ _ _ _ Pending (search rules) (returns-after-polled-2-clause-polls g c)
