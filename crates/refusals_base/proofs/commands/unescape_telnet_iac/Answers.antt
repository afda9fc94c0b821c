use Rattle.std.proofs.Common.{rules}
use Rattle.refusals_base.proofs.commands.unescape_telnet_iac.Goals as goal

pub returns-clause-single : goal.returns-clause-single
returns-clause-single c = search rules
