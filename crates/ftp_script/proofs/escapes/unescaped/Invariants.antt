use Rattle.std.proofs.Common.{◌≡◌, drop}
use Rattle.ftp_script.specs.Escapes.{read_from, unescaped}
use Rattle.ftp_script.proofs.Escaping.{after}
use Rattle.ftp_script.proofs.escapes.unescaped.Given as goal

abbrev pub invariant-loop-byte : goal.invariant-loop-byte
invariant-loop-byte l = unescaped l.text ≡ after l.bytes.items (read_from l.place (drop l.byte-index l.text))
