use Rattle.std.proofs.Common.{◌≡◌, ◌++◌, drop}
use Rattle.ftp_base.specs.Telnet.{escaped}
use Rattle.ftp_base.proofs.command.telnet.escape_telnet_iac.Given as goal

-- what is written, and what is left escaped, is the whole escaped
abbrev pub invariant-loop-byte : goal.invariant-loop-byte
invariant-loop-byte l = l.line.items ++ escaped (drop l.byte-index l.bytes) ≡ escaped l.bytes
