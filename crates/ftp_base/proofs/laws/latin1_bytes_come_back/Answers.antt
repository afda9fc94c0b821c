use Rattle.ftp_base.proofs.Latin1Lemmas.{bytes_back}
use Rattle.ftp_base.proofs.laws.latin1_bytes_come_back.Goals as goal

pub returns : goal.returns
returns c bytes small = bytes_back bytes small
