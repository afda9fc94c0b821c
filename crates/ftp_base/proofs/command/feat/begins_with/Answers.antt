use Rattle.std.proofs.lemmas.Str.Pattern.{starts_text}
use Rattle.ftp_base.proofs.command.feat.begins_with.Goals as goal

pub returns : goal.returns
returns c = starts_text c.starts_with.result c.args.start.now c.args.line.now c.starts_with.ensures.cases
