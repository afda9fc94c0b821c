use Rattle.std.proofs.Common.{◌∙◌, sym}
use Rattle.ftp_base.proofs.FeatureLemmas.{shown-same}
use Rattle.ftp_base.proofs.types.features.FeaturesPartialEq.eq.Goals as goal

pub returns : goal.returns
returns c = rw (← c.self.view_is, ← c.other.view_is) (c.eq.ensures ∙ sym (shown-same c.self.inside.map.entries c.other.inside.map.entries))
