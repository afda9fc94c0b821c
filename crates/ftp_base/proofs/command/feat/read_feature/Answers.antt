use Rattle.std.proofs.Common.{◌≡◌, ◌∙◌, ◌<◌, ℕ, List, Some, None, length, sym, ap, arith, refl, take_all}
use Rattle.std.specs.List.{position_or_len, before_first, after_first}
use Rattle.std.specs.Str.{trim}
use Rattle.std.proofs.lemmas.Str.Pattern.{split_once_first}
use Rattle.ftp_base.specs.Features.{Feature, feature_of, is_space}
use Rattle.ftp_base.proofs.FeatureLemmas.{has_space, no_space}
use Rattle.ftp_base.proofs.command.feat.read_feature.Goals as goal

-- a trimmed line that a space parts
parted : (line words name value : List ℕ) → words ≡ trim line → position_or_len is_space words < length words → name ≡ before_first is_space words → value ≡ after_first is_space words →
    ◌≡◌ {A = Feature} (name, Some value) (feature_of line)
parted line words name value trimmed before name_is value_is =
    rw (← trimmed, has_space words before, name_is, value_is) refl

-- a trimmed line without a space
whole : (line words name : List ℕ) → words ≡ trim line → position_or_len is_space words ≡ length words → name ≡ words → ◌≡◌ {A = Feature} (name, None) (feature_of line)
whole line words name trimmed end name_is =
    rw (← trimmed, no_space words end, name_is, end) (ap (λ (n : List ℕ). let f : Feature = (n, None) in f) (sym (take_all (length words) words (omega arith))))

pub returns-in_ok-from_str-in-Some : goal.returns-in_ok-from_str-in-Some
returns-in_ok-from_str-in-Some c =
    let h = rw c.in-Some.is at (split_once_first 32 c.trim-words.result.now c.split_once.result c.split_once.ensures.cases (omega arith)) in
    parted c.args.line.now c.trim-words.result.now _ _ c.trim-words.ensures.trim h.0 (c.in_ok-name-in-Some.ensures.ok ∙ h.1) (c.in_ok-from_str-in-Some.ensures.ok ∙ h.2)

pub returns-in_ok-from_str-in-None : goal.returns-in_ok-from_str-in-None
returns-in_ok-from_str-in-None c =
    let h = rw c.in-None.is at (split_once_first 32 c.trim-words.result.now c.split_once.result c.split_once.ensures.cases (omega arith)) in
    whole c.args.line.now c.trim-words.result.now _ c.trim-words.ensures.trim h c.in_ok-from_str-in-None.ensures.ok
