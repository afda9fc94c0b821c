use Rattle.ftp_session.proofs.Handed.{seen_failing, seen_reads}
use Rattle.ftp_session.proofs.PollGrounds.{reads_counted}
use Rattle.ftp_session.proofs.session.client.Session.poll_read_response_in.Goals as goal

pub returns-clause-reads : goal.returns-clause-reads
returns-clause-reads g c = seen_reads _ _ _ _ _ _ _ _ _ c.look.ensures.looks c.look.ensures.seen c.poll_read.ensures.reads

pub returns-clause-counts : goal.returns-clause-counts
returns-clause-counts g c = reads_counted _ _ _ _ _ _ _ _ (returns-clause-reads g c)

pub returns-clause-fails : goal.returns-clause-fails
returns-clause-fails g c = seen_failing c.look.new.mark c.args.self.now.machine c.look.new.machine c.poll_read.new.self c.poll_read.result c.look.ensures.seen c.poll_read.ensures.fails
