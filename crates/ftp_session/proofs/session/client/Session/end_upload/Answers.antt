use Rattle.ftp_session.proofs.session.client.Session.end_upload.Goals as goal

pub returns-in-Ok-clause-ends : goal.returns-in-Ok-clause-ends
returns-in-Ok-clause-ends g c = rw c.in-Ok.is (c.finish_held.result, rw (c.note.ensures.keeps.encoding, c.note.ensures.machine) at c.finish_held.ensures.finishes, c.unless_failed.ensures)
