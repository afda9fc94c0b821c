use Rattle.ftp_session.proofs.session.client.Session.end_download.Goals as goal

pub returns-in-Some-clause-ends : goal.returns-in-Some-clause-ends
returns-in-Some-clause-ends g c = rw c.in-Some.is (c.finish_held.result, rw (c.note.ensures.keeps.encoding, c.note.ensures.machine) at c.finish_held.ensures.finishes, c.first_of.ensures)
