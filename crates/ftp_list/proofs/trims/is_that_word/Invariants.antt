use Rattle.std.proofs.Common.{◌≡◌, drop}
use Rattle.ftp_list.specs.Texts.{is_word}
use Rattle.ftp_list.proofs.trims.is_that_word.Given as goal

abbrev pub invariant-loop-i : goal.invariant-loop-i
invariant-loop-i l = is_word (drop l.i l.word) (drop l.i l.text) ≡ is_word l.word l.text
