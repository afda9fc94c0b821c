use Rattle.std.proofs.Common.{◌≡◌, ◌+◌, List, ℕ, take, drop, arith, sym, ap, ◌∙◌}
use Rattle.std.specs.Prelude.{◌==◌, Option}
use Rattle.std.specs.List.{fold, position_or_len}
use Rattle.std.specs.Option.{option_map}
use Rattle.std.proofs.lemmas.List.{take_all}
use Rattle.ftp_list.specs.OwnTypes.{own_after, pieces}
use Rattle.ftp_list.proofs.OwnTypeFacts.{fold_last, fold_more}
use Rattle.ftp_list.proofs.own_types.own_type_in.Goals as goal

pub returns-then-end-left : goal.returns-then-end-left
returns-then-end-left c =
    let left = c.pieces.left.now in
    let found : Option (List ℕ) = option_map (λ value. value.now) c.pieces.found in
    let value = c.semicolon_in-end.ensures.value in
    let whole : c.front.result.now ≡ left = c.front.ensures ∙ take_all c.semicolon_in-end.result left (omega arith) in
    sym (c.pieces.invariant ∙ fold_last own_after found left (sym value ∙ c.if-end-left.true) ∙ ap (own_after found) (sym whole) ∙ sym c.own_type_after-found.ensures)

pub pieces-preserved : goal.pieces-preserved
pieces-preserved c =
    let left = c.pieces.left.now in
    let found : Option (List ℕ) = option_map (λ value. value.now) c.pieces.found in
    let after : Option (List ℕ) = option_map (λ value. value.now) c.own_type_after-found.result in
    let value = c.semicolon_in-end.ensures.value in
    let within = c.semicolon_in-end.ensures.bound in
    let piece : c.front.result.now ≡ take (position_or_len (λ x. x == 59) left) left = c.front.ensures ∙ ap (λ n. take n left) value in
    let later : c.rest-left.result.now ≡ drop (position_or_len (λ x. x == 59) left + 1) left = c.rest-left.ensures ∙ ap (λ n. drop (n + 1) left) value in
    c.pieces.invariant
    ∙ fold_more own_after found left (omega arith)
    ∙ ap (λ (o : Option (List ℕ)). fold own_after o (pieces (drop (position_or_len (λ x. x == 59) left + 1) left))) (ap (own_after found) (sym piece) ∙ sym c.own_type_after-found.ensures)
    ∙ ap (λ (t : List ℕ). fold own_after after (pieces t)) (sym later)
