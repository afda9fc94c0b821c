use Rattle.std.proofs.Common.{length}
use Rattle.rows_plays.proofs.encodings.+latin_1.Given as goal

abbrev pub decreases-latin_1 : goal.decreases-latin_1
decreases-latin_1 l = length l.letters.now
