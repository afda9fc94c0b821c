use Rattle.std.proofs.Common.{Ok, Err}
use Rattle.ftp_session.proofs.session.client.Session.protect.Goals as goal

pub returns-in-Ok-clause-protects : goal.returns-in-Ok-clause-protects
returns-in-Ok-clause-protects g c =
    let protects = rw c.custom_command.ensures.keeps.encoding at c.protect_data.ensures.protects in
    record { between = c.custom_command.new.self.mark; middle = c.custom_command.new.self.machine; reply = Ok c.in-Ok.reply; plays = c.in-Ok.ensures.plays; later = protects }

pub returns-in-Err-clause-protects : goal.returns-in-Err-clause-protects
returns-in-Err-clause-protects g c =
    record { between = c.custom_command.new.self.mark; middle = c.custom_command.new.self.machine; reply = Err c.in-Err.fault; plays = c.in-Err.ensures.plays; later = (c.fail_by.ensures.fails, c.fail_by.ensures.mark, c.fail_by.ensures.machine) }
