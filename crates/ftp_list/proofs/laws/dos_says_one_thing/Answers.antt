use Rattle.ftp_list.proofs.LawFacts.{one_dos}
use Rattle.ftp_list.proofs.laws.dos_says_one_thing.Goals as goal

pub returns : goal.returns
returns c = one_dos
