use Rattle.ftp_session.proofs.FilesLemmas.{received}
use Rattle.ftp_session.proofs.session.client.Session.receive.Goals as goal

pub returns-clause-receives : goal.returns-clause-receives
returns-clause-receives g c = rw c.end_download.ensures.mark (received _ _ _ _ _ _ _ _ _ _ _ c.write_held-saved.ensures.moves c.end_download.ensures.ends)
