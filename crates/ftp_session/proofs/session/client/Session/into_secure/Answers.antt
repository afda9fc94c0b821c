use Rattle.std.proofs.Common.{Ok, Err, inr, refl}
use Rattle.ftp_session.proofs.SecuringCounts.{securing_counts}
use Rattle.ftp_session.proofs.session.client.Session.into_secure.Goals as goal

pub returns-in-Ok-custom_command-clause-secures : goal.returns-in-Ok-custom_command-clause-secures
returns-in-Ok-custom_command-clause-secures g c =
    let beside = rw (c.is_beside.ensures, c.look.ensures.seen) at c.if-is_beside.false in
    let plays = rw c.look.ensures.seen at c.in-Ok-custom_command.ensures.plays in
    let changes = rw (c.in-Ok.ensures.ok, c.custom_command.ensures.keeps.encoding) at c.change_and_protect.ensures.changes in
    record {
      seen = c.look.new.mark;
      looks = c.look.ensures.looks;
      secures = inr (inr (beside, record { between = c.custom_command.new.self.mark; middle = c.custom_command.new.self.machine; reply = Ok c.in-Ok-custom_command.reply; plays = plays; later = changes }));
    }

pub returns-in-Err-clause-secures : goal.returns-in-Err-clause-secures
returns-in-Err-clause-secures g c =
    let beside = rw (c.is_beside.ensures, c.look.ensures.seen) at c.if-is_beside.false in
    let plays = rw c.look.ensures.seen at c.in-Err.ensures.plays in
    record {
      seen = c.look.new.mark;
      looks = c.look.ensures.looks;
      secures = inr (inr (beside, record { between = c.custom_command.new.self.mark; middle = c.custom_command.new.self.machine; reply = Err c.in-Err.fault; plays = plays; later = (refl, refl, refl) }));
    }

pub returns-in-Ok-custom_command-clause-counts : goal.returns-in-Ok-custom_command-clause-counts
returns-in-Ok-custom_command-clause-counts g c = securing_counts _ _ _ _ _ _ _ _ (returns-in-Ok-custom_command-clause-secures g c)
