use Rattle.std.proofs.Common.{Ok, Err, inr, refl}
use Rattle.ftp_session.proofs.SecuringCounts.{clearing_counts}
use Rattle.ftp_session.proofs.session.client.Session.clear_command_channel.Goals as goal

pub returns-in-Ok-clause-clears : goal.returns-in-Ok-clause-clears
returns-in-Ok-clause-clears g c =
    let beside = rw (c.is_beside.ensures, c.look.ensures.seen) at c.if-is_beside.false in
    let plays = rw c.look.ensures.seen at c.in-Ok.ensures.plays in
    record {
      seen = c.look.new.mark;
      looks = c.look.ensures.looks;
      clears = inr (beside, record { between = c.custom_command.new.self.mark; middle = c.custom_command.new.self.machine; reply = Ok c.in-Ok.reply; plays = plays; later = (c.uncover.ensures.changes, c.uncover.ensures.mark) });
    }

pub returns-in-Err-clause-clears : goal.returns-in-Err-clause-clears
returns-in-Err-clause-clears g c =
    let beside = rw (c.is_beside.ensures, c.look.ensures.seen) at c.if-is_beside.false in
    let plays = rw c.look.ensures.seen at c.in-Err.ensures.plays in
    record {
      seen = c.look.new.mark;
      looks = c.look.ensures.looks;
      clears = inr (beside, record { between = c.custom_command.new.self.mark; middle = c.custom_command.new.self.machine; reply = Err c.in-Err.fault; plays = plays; later = (refl, refl, refl) });
    }

pub returns-in-Ok-clause-counts : goal.returns-in-Ok-clause-counts
returns-in-Ok-clause-counts g c = clearing_counts _ _ _ _ _ _ _ _ (returns-in-Ok-clause-clears g c)
