use Rattle.ftp_dialogue.proofs.UnsentLemmas.{wire_start}
use Rattle.ftp_dialogue.proofs.unsent.Unsent.new.Goals as goal

pub returns : goal.returns
returns c = wire_start c.args.text c.args.bytes
