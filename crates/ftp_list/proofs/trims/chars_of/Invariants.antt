use Rattle.std.proofs.Common.{◌≡◌, take}
use Rattle.ftp_list.proofs.trims.chars_of.Given as goal

abbrev pub invariant-loop-byte : goal.invariant-loop-byte
invariant-loop-byte l = l.text.items ≡ take l.byte-index l.byte-items
