use Rattle.std.proofs.Common.{length}
use Rattle.ftp_dialogue.proofs.UnsentLemmas.{plain_line}
use Rattle.ftp_dialogue.proofs.unsent.line_len.Goals as goal

pub returns-in-Some-clause-plain : goal.returns-in-Some-clause-plain
returns-in-Some-clause-plain c = λ after. plain_line after c.in-Some.end c.args.bytes.now (λ k low high is. c.in-Some.ensures.0.before k low high is)

pub returns-in-None-clause-plain : goal.returns-in-None-clause-plain
returns-in-None-clause-plain c = λ after. plain_line after (length c.args.bytes.now) c.args.bytes.now (λ k low high is. c.in-None.ensures k low high is)
