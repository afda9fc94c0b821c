use Rattle.std.proofs.Common.{◌≡◌, ◌++◌, drop}
use Rattle.ftp_base.specs.Telnet.{unescaped}
use Rattle.ftp_base.proofs.TelnetLemmas.{unescaped_after}
use Rattle.ftp_base.proofs.command.telnet.unescape_telnet_iac.Given as goal

-- what is written, and what is left unescaped, is the whole unescaped
abbrev pub invariant-loop-byte : goal.invariant-loop-byte
invariant-loop-byte l = l.plain.items ++ unescaped_after l.opens_pair (drop l.byte-index l.bytes) ≡ unescaped l.bytes
