use Rattle.std.proofs.Common.{◌∙◌, ap, string_bytes}
use Rattle.std.specs.Option.{option_map}
use Rattle.ftp_base.specs.Features.{Entries, shown, with_feature}
use Rattle.ftp_base.proofs.FeatureLemmas.{shown-insert_entry}
use Rattle.ftp_base.proofs.types.features.Features.insert.Goals as goal

pub returns-clause-ok : goal.returns-clause-ok
returns-clause-ok c =
    ap shown c.in_ok-insert.ensures.entries ∙ shown-insert_entry c.self.inside.map.entries c.args.name c.args.value
    ∙ ap (λ (entries : Entries). with_feature entries (string_bytes c.args.name, option_map string_bytes c.args.value)) c.self.view_is
