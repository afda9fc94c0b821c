use Rattle.ftp_session.proofs.Connecting.{connecting_counts, on_error}
use Rattle.ftp_session.proofs.session.client.Session.connect_lenient.Goals as goal

pub returns-clause-counts : goal.returns-clause-counts
returns-clause-counts g c = on_error _ _ _ _ c.connect_in_turn.ensures.connects (λ fault fails. connecting_counts _ _ _ _ _ _ _ _ (λ kind is. cc is) fault _ fails)
