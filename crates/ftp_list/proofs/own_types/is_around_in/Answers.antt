use Rattle.std.proofs.Common.{◌≡◌, ◌+◌, List, ℕ, take, drop, arith, sym, ap, ◌∙◌}
use Rattle.std.specs.Prelude.{◌==◌}
use Rattle.std.specs.List.{fold, position_or_len}
use Rattle.std.proofs.lemmas.List.{take_all}
use Rattle.ftp_list.specs.OwnTypes.{around_after, pieces}
use Rattle.ftp_list.proofs.OwnTypeFacts.{fold_last, fold_more}
use Rattle.ftp_list.proofs.own_types.is_around_in.Goals as goal

pub returns-then-end-left : goal.returns-then-end-left
returns-then-end-left c =
    let left = c.pieces.left.now in
    let value = c.semicolon_in-end.ensures.value in
    let whole : c.front.result.now ≡ left = c.front.ensures ∙ take_all c.semicolon_in-end.result left (omega arith) in
    sym (c.pieces.invariant ∙ fold_last around_after c.pieces.so left (sym value ∙ c.if-end-left.true) ∙ ap (around_after c.pieces.so) (sym whole) ∙ sym c.is_around_after-so.ensures)

pub pieces-preserved : goal.pieces-preserved
pieces-preserved c =
    let left = c.pieces.left.now in
    let value = c.semicolon_in-end.ensures.value in
    let within = c.semicolon_in-end.ensures.bound in
    let piece : c.front.result.now ≡ take (position_or_len (λ x. x == 59) left) left = c.front.ensures ∙ ap (λ n. take n left) value in
    let later : c.rest-left.result.now ≡ drop (position_or_len (λ x. x == 59) left + 1) left = c.rest-left.ensures ∙ ap (λ n. drop (n + 1) left) value in
    c.pieces.invariant
    ∙ fold_more around_after c.pieces.so left (omega arith)
    ∙ ap (λ so. fold around_after so (pieces (drop (position_or_len (λ x. x == 59) left + 1) left))) (ap (around_after c.pieces.so) (sym piece) ∙ sym c.is_around_after-so.ensures)
    ∙ ap (λ (t : List ℕ). fold around_after c.is_around_after-so.result (pieces t)) (sym later)
