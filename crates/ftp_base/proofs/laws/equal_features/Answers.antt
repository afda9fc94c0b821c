use Rattle.std.proofs.Common.{rules, ◌≡◌, ◌∙◌, refl, sym, nat_eq, ◌&&◌}
use Rattle.std.specs.Bool.{Decides}
use Rattle.std.specs.Option.{option_eq}
use Rattle.std.specs.Cmp.Lexicographic.{pointwise}
use Rattle.std.proofs.lemmas.Slice.Eq.{slice_eq-Decides}
use Rattle.ftp_base.specs.Features.{Feature, is_same_map}
use Rattle.ftp_base.proofs.laws.equal_features.Goals as goal

-- equal entries are the same
entry_same : (a b : Feature) → Decides (pointwise nat_eq a.0 b.0 && option_eq (pointwise nat_eq) a.1 b.1) (a ≡ b)
entry_same a b = search rules

pub returns : goal.returns
returns c =
    let same : Decides (is_same_map c.args.one.now c.args.other.now) (c.args.one.now ≡ c.args.other.now) = slice_eq-Decides entry_same c.args.one.now c.args.other.now _ refl in
    (λ t. same.0 (sym c.eq.ensures ∙ t), λ e. c.eq.ensures ∙ same.1 e)
