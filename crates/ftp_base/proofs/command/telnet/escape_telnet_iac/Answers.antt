use Rattle.std.proofs.Common.{◌≡◌, arith}
use Rattle.std.proofs.lemmas.Grind.{common_steps}
use Rattle.ftp_base.specs.Telnet.{escaped}
use Rattle.ftp_base.proofs.TelnetLemmas.{unescaped_escaped}
use Rattle.ftp_base.proofs.command.telnet.escape_telnet_iac.Goals as goal

pub returns-clause-undone : goal.returns-clause-undone
returns-clause-undone c =
    let whole : c.loop-byte.line.items ≡ escaped c.args.bytes.now = grind (arith, common_steps) in
    rw whole (unescaped_escaped c.args.bytes.now)
