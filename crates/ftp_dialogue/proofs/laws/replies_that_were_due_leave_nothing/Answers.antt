use Rattle.std.proofs.Common.{false}
use Rattle.ftp_dialogue.proofs.DueReplies.{begins_anew}
use Rattle.ftp_dialogue.proofs.laws.replies_that_were_due_leave_nothing.Goals as goal

pub returns : goal.returns
returns g c = record { anew = λ old new due up. begins_anew _ false old new due up }
