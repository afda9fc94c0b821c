use Rattle.std.proofs.Common.{arith}
use Rattle.ftp_base.specs.Ascii.{wire_data}
use Rattle.ftp_dialogue.proofs.UnsentLemmas.{size_none, size_some, wire_longer}
use Rattle.ftp_dialogue.proofs.unsent.size_to_send.Goals as goal

pub returns-then-count-gt-MOST_BYTES : goal.returns-then-count-gt-MOST_BYTES
returns-then-count-gt-MOST_BYTES c = size_none (wire_data c.args.text c.args.bytes.now) (omega (arith, wire_longer c.args.text c.args.bytes.now, c.if-count-gt-MOST_BYTES.true))

pub returns-then-size : goal.returns-then-size
returns-then-size c = size_some (wire_data c.args.text c.args.bytes.now) _ c.added.ensures.counts c.if-size.true

pub returns-else-size : goal.returns-else-size
returns-else-size c = size_none (wire_data c.args.text c.args.bytes.now) (omega (arith, c.added.ensures.counts, c.if-size.false))
