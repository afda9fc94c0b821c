use Rattle.std.proofs.Common.{◌∙◌, ap, sym}
use Rattle.ftp_base.specs.Features.{Entries, value_at}
use Rattle.ftp_base.proofs.FeatureLemmas.{value_at-shown, lent_value}
use Rattle.ftp_base.proofs.types.features.Features.get.Goals as goal

pub returns : goal.returns
returns c = lent_value c.get.result _ _ c.get.ensures.value
    (ap (λ (entries : Entries). value_at entries c.args.name.now) (sym c.self.view_is) ∙ value_at-shown c.self.inside.map.entries c.args.name.now)
