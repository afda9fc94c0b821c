use Rattle.ftp_list.proofs.DateFacts.{no_midnight}
use Rattle.ftp_list.proofs.moments.midnight.Goals as goal

pub returns-then-year-gt9999 : goal.returns-then-year-gt9999
returns-then-year-gt9999 c = no_midnight c.args.year c.args.month c.args.day c.if-year-gt9999.true
