use Rattle.ftp_transfer.proofs.Marks.{begins}
use Rattle.ftp_transfer.proofs.mark.word.Place.new.Goals as goal

pub of_words-requires : goal.of_words-requires
of_words-requires c = begins
