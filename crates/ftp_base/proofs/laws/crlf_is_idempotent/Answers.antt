use Rattle.ftp_base.proofs.AsciiLemmas.{crlf-twice}
use Rattle.ftp_base.proofs.laws.crlf_is_idempotent.Goals as goal

pub returns : goal.returns
returns c bytes = crlf-twice bytes
