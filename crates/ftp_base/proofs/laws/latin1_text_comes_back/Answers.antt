use Rattle.ftp_base.proofs.Latin1Lemmas.{text_back}
use Rattle.ftp_base.proofs.laws.latin1_text_comes_back.Goals as goal

pub returns : goal.returns
returns c text bytes utf8 sent = text_back text bytes utf8 sent
