use Rattle.std.proofs.Common.{inl, inr}
use Rattle.ftp_session.proofs.Connecting.{is_connected, none_connects, connecting_under_counts}
use Rattle.ftp_session.proofs.session.client.Session.connect_secure_implicit.Goals as goal

pub returns-in-Ok-greeted_under-clause-connects : goal.returns-in-Ok-greeted_under-clause-connects
returns-in-Ok-greeted_under-clause-connects g c =
    let arm = c.in-Ready-Ok-Ok in
    let tries = rw (arm.is, arm.field-0-is, arm.field-0-0-is) at c.poll_connect_in_turn.ensures.tries in
    record { told = _; asked_by = _; connected = is_connected _ _ _ _ _ _ _ _ _ _ tries; greets = rw (c.in-Ok.ensures.ok, c.poll_connect_in_turn.ensures.closed) at c.in-Ok-greeted_under.ensures.greets }

pub returns-in-Err-clause-connects : goal.returns-in-Err-clause-connects
returns-in-Err-clause-connects g c =
    let arm = c.in-Ready-Ok-Ok in
    let tries = rw (arm.is, arm.field-0-is, arm.field-0-0-is) at c.poll_connect_in_turn.ensures.tries in
    inr (inl (_, _, is_connected _ _ _ _ _ _ _ _ _ _ tries, rw (c.in-Ok.ensures.ok, c.poll_connect_in_turn.ensures.closed) at c.in-Err.ensures.greets))

pub returns-in-Ready-Ok-Err-clause-connects : goal.returns-in-Ready-Ok-Err-clause-connects
returns-in-Ready-Ok-Err-clause-connects g c =
    let arm = c.in-Ready-Ok-Err in
    let tries = rw (arm.is, arm.field-0-is, arm.field-0-0-is) at c.poll_connect_in_turn.ensures.tries in
    inl (none_connects _ _ _ _ _ _ _ _ _ _ tries)

pub returns-in-Err-clause-counts : goal.returns-in-Err-clause-counts
returns-in-Err-clause-counts g c = connecting_under_counts _ _ _ _ _ _ _ _ (λ kind is. cc is) _ _ (returns-in-Err-clause-connects g c)

pub returns-in-Ready-Ok-Err-clause-counts : goal.returns-in-Ready-Ok-Err-clause-counts
returns-in-Ready-Ok-Err-clause-counts g c = connecting_under_counts _ _ _ _ _ _ _ _ (λ kind is. cc is) _ _ (returns-in-Ready-Ok-Err-clause-connects g c)
