use Rattle.std.proofs.Common.{◌≡◌, take, true}
use Rattle.std.specs.List.{list_all}
use Rattle.ftp_base.specs.Latin1.{is_latin1}
use Rattle.ftp_base.proofs.encoding.latin1.bytes_of.Given as goal

abbrev pub invariant-loop-letter : goal.invariant-loop-letter
invariant-loop-letter l =
    (l.bytes.items ≡ take l.letter-index l.letters) × (list_all is_latin1 (take l.letter-index l.letters) ≡ true)
