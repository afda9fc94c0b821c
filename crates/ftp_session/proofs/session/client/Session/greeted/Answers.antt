use Rattle.std.proofs.Common.{inl}
use Rattle.ftp_session.proofs.session.client.Session.greeted.Goals as goal

pub returns-in-Ok-clause-connects : goal.returns-in-Ok-clause-connects
returns-in-Ok-clause-connects g c =
    let begun = c.in_ok-session.ensures in
    let plays = rw begun.encoding at c.in-Ok.ensures.plays in
    record { old = c.in_ok-session.session.machine; begins = begun.begins; greets = plays; sound = c.in-Ok.ensures.sound }

pub returns-in-Err-clause-connects : goal.returns-in-Err-clause-connects
returns-in-Err-clause-connects g c =
    let begun = c.in_ok-session.ensures in
    let plays = rw begun.encoding at c.in-Err.ensures.plays in
    inl (c.greet.new.self.machine, record { old = c.in_ok-session.session.machine; begins = begun.begins; greets = plays; sound = c.in-Err.ensures.sound })
