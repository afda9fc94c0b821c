use Rattle.std.proofs.Common.{inl, inr, ap, ◌∙◌, refl, true}
use Rattle.ftp_session.specs.Handed.{left_if}
use Rattle.ftp_session.proofs.session.client.Session.store.Goals as goal

pub returns-in-Some-clause-stores : goal.returns-in-Some-clause-stores
returns-in-Some-clause-stores g c =
    let moves = rw c.in-Some.is at c.send_held-copied.ensures.moves in
    let ends = rw moves.3 at c.end_upload.ensures.ends in
    inl (record { sent = moves.0; copied = c.in-Some.copied; copies = moves.1; mark = c.end_upload.ensures.mark ∙ moves.2; ends = ends })

pub returns-in-None-clause-stores : goal.returns-in-None-clause-stores
returns-in-None-clause-stores g c =
    let moves = rw c.in-None.is at c.send_held-copied.ensures.moves in
    inr (record { stays = moves.0; mark_stays = moves.1; left = c.leave_behind.ensures ∙ ap (left_if true) moves.2; is = refl })
