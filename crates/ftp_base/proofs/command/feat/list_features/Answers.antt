use Rattle.std.proofs.Common.{[], map, string_bytes}
use Rattle.ftp_base.proofs.FeatureLemmas.{listed_from-is}
use Rattle.ftp_base.proofs.command.feat.list_features.Goals as goal

pub loop-line-init : goal.loop-line-init
loop-line-init c = rw c.new-features.ensures (listed_from-is [] (map string_bytes c.args.lines.now))
