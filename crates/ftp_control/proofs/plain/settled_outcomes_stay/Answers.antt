use Rattle.ftp_control.proofs.Law.{settled_stays}
use Rattle.ftp_control.proofs.plain.settled_outcomes_stay.Goals as goal

pub returns : goal.returns
returns c = settled_stays
