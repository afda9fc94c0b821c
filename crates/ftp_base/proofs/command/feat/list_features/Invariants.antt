use Rattle.std.proofs.Common.{◌≡◌, map, drop, string_bytes}
use Rattle.ftp_base.specs.Features.{listed_features}
use Rattle.ftp_base.proofs.FeatureLemmas.{listed_from}
use Rattle.ftp_base.proofs.command.feat.list_features.Given as goal

abbrev pub invariant-loop-line : goal.invariant-loop-line
invariant-loop-line l = listed_from l.features (map string_bytes (drop l.line-index l.lines)) ≡ listed_features (map string_bytes l.fn.lines)
