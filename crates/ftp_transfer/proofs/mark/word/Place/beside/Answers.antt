use Rattle.std.proofs.Common.{rules}
use Rattle.ftp_transfer.proofs.Marks.{splits}
use Rattle.ftp_transfer.proofs.mark.word.Place.beside.Goals as goal

pub split_seat-seat-requires : goal.split_seat-seat-requires
split_seat-seat-requires c = (search rules, search rules, splits _ _)
