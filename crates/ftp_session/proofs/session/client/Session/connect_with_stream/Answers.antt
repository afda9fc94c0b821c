use Rattle.ftp_session.proofs.Connecting.{greeting_counts, on_error}
use Rattle.ftp_session.proofs.session.client.Session.connect_with_stream.Goals as goal

pub returns-clause-counts : goal.returns-clause-counts
returns-clause-counts g c = on_error _ _ _ _ c.greeted.ensures.connects (λ fault fails. greeting_counts _ _ _ _ _ fault fails)
