use Rattle.std.proofs.Common.{rules}
use Rattle.ftp_transfer.proofs.Marks.{loads}
use Rattle.ftp_transfer.proofs.mark.word.Place.load.Goals as goal

pub load-requires : goal.load-requires
load-requires c = (search rules, search rules, loads _ _ _)
