use Rattle.ftp_calls.specs.Exchanges.{call_of}
use Rattle.ftp_session.proofs.Trees.{plays_own}
use Rattle.ftp_session.proofs.session.client.Session.perform_for_reply.Goals as goal

pub reply-requires : goal.reply-requires
reply-requires g c = (call_of c.args.call, c.made.ensures.answers, c.requires)

pub returns-clause-plays : goal.returns-clause-plays
returns-clause-plays g c = rw c.reply.ensures c.made.ensures.plays

pub returns-clause-row : goal.returns-clause-row
returns-clause-row g c = plays_own _ _ (call_of c.args.call) _ _ _ _ _ (returns-clause-plays g c)

pub returns-clause-counts : goal.returns-clause-counts
returns-clause-counts g c = rw c.reply.ensures c.made.ensures.counts
