use Rattle.std.proofs.Common.{◌≡◌, true, false, refl}
use Rattle.ftp_session.proofs.Connecting.{within_none, within_some, connecting_counts, on_error}
use Rattle.ftp_session.proofs.session.client.Session.connect_timeout.Goals.{then-is_zero, else-is_zero}
use Rattle.ftp_session.proofs.session.client.Session.connect_timeout.Goals as goal

pub returns-clause-connects : goal.returns-clause-connects
returns-clause-connects g c =
    elim c.if-is_zero.branch [
      | then-is_zero w ↦ rw (← within_none c.args.limit c.args.address c.if-is_zero.count w.count-is (w.if-is_zero.ensures.0 refl)) c.connect_in_turn.ensures.connects
      | else-is_zero w ↦ rw (← within_some c.args.limit c.args.address c.if-is_zero.count w.count-is (λ zero. let clash : false ≡ true = w.if-is_zero.ensures.1 zero in cc)) c.connect_in_turn.ensures.connects
    ]

pub returns-clause-counts : goal.returns-clause-counts
returns-clause-counts g c = on_error _ _ _ _ (returns-clause-connects g c) (λ fault fails. connecting_counts _ _ _ _ _ _ _ _ (λ kind is. cc is) fault _ fails)
