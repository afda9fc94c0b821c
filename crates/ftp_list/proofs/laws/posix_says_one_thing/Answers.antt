use Rattle.ftp_list.proofs.LawFacts.{one_posix}
use Rattle.ftp_list.proofs.laws.posix_says_one_thing.Goals as goal

pub returns : goal.returns
returns c = one_posix
