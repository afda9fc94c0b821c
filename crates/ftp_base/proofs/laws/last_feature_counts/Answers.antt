use Rattle.ftp_base.proofs.FeatureLemmas.{value_at-map_of}
use Rattle.ftp_base.proofs.laws.last_feature_counts.Goals as goal

pub returns : goal.returns
returns c features feature name = value_at-map_of features feature name
