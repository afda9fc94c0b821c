use Rattle.std.proofs.Common.{Ok}
use Rattle.ftp_session.proofs.session.client.Session.change_and_protect.Goals as goal

pub returns-in-Ok-clause-changes : goal.returns-in-Ok-clause-changes
returns-in-Ok-clause-changes g c =
    let protects = rw (c.change.ensures.mark, c.change.ensures.keeps.encoding) at c.protect.ensures.protects in
    record { middle = c.change.new.self.machine; changed = Ok tt; changes = c.in-Ok.ensures.changes; then_protects = protects }
