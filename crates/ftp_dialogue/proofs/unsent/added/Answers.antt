use Rattle.std.proofs.Common.{length, ap, ◌∙◌}
use Rattle.ftp_base.proofs.AsciiLemmas.{crlf-converted}
use Rattle.ftp_dialogue.proofs.unsent.added.Goals as goal

pub returns-then-text-clause-counts : goal.returns-then-text-clause-counts
returns-then-text-clause-counts c = rw c.if-text.true (ap length (crlf-converted c.args.bytes.now) ∙ c.lacking_returns.ensures.counts)
