use Rattle.std.proofs.Common.{add-one}
use Rattle.std.proofs.Math.Seq.{take-length, drop-length}
use Rattle.ftp_script.proofs.Showing.{line-at, line-last}
use Rattle.ftp_script.proofs.shown.line_end.Goals as goal

pub returns-in-Some-clause-line : goal.returns-in-Some-clause-line
returns-in-Some-clause-line c = rw (add-one c.in-Some.place) (line-at _ _ c.in-Some.ensures.0.high (λ k low high is. c.in-Some.ensures.0.before k low high is) c.in-Some.ensures.1)

pub returns-in-None-clause-line : goal.returns-in-None-clause-line
returns-in-None-clause-line c =
    rw (take-length c.args.bytes.now, drop-length c.args.bytes.now) (line-last _ c.requires (λ k low high is. c.in-None.ensures k low high is))
