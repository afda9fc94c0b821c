use Rattle.std.proofs.Common.{◌≡◌, ℕ, List, ◌++◌, codes, string_bytes, refl, ap, append_assoc, append-nil, sym, ◌∙◌}
use Rattle.std.specs.Option.{option_map}
use Rattle.std.specs.List.{flat_map}
use Rattle.ftp_base.specs.Features.{shown as entries}
use Rattle.ftp_script.specs.Shown.{feature_text, later_text}
use Rattle.ftp_script.proofs.shown.push_later.Goals as goal

pub loop-name-init : goal.loop-name-init
loop-name-init c = refl

step : (text mark feature others : List ℕ) → ((text ++ mark) ++ feature) ++ others ≡ text ++ ((mark ++ feature) ++ others)
step text mark feature others =
    append_assoc (text ++ mark) feature others
    ∙ append_assoc text mark (feature ++ others)
    ∙ ap (λ l. text ++ l) (sym (append_assoc mark feature others))

pub loop-name-preserved : goal.loop-name-preserved
loop-name-preserved c =
    let left = ap (λ l. c.loop-name.text.items ++ flat_map later_text (entries l)) c.in-Some.ensures.steps in
    let feature = feature_text (string_bytes c.in-Some.name.now, option_map string_bytes c.in-Some.value.now) in
    rw (c.in_ok-push_feature.ensures, c.in_ok-extend_from_slice.ensures.items)
    (step c.loop-name.text.items (codes ";") feature (flat_map later_text (entries c.next.new.self)) ∙ (sym left ∙ c.loop-name.invariant))

pub returns : goal.returns
returns c =
    let left = ap (λ l. c.loop-name.text.items ++ flat_map later_text (entries l)) c.in_default.ensures.steps.0 in
    sym (append-nil c.loop-name.text.items) ∙ sym left ∙ c.loop-name.invariant
