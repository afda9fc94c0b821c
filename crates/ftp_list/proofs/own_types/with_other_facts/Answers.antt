use Rattle.std.proofs.Common.{◌≡◌, ◌+◌, List, ℕ, take, drop, arith, sym, ap, ◌∙◌}
use Rattle.std.specs.Prelude.{◌==◌, Result}
use Rattle.std.specs.List.{position_or_len}
use Rattle.std.proofs.lemmas.List.{take_all}
use Rattle.ftp_list.specs.declared.error.ParseError.{ParseError}
use Rattle.ftp_list.specs.Entry.{Entry}
use Rattle.ftp_list.specs.ResultSteps.{◌>>=◌}
use Rattle.ftp_list.specs.Facts.{with_facts}
use Rattle.ftp_list.specs.OwnTypes.{other_facts, with_other_piece}
use Rattle.ftp_list.proofs.OwnTypeFacts.{others_fault, others_last, others_more}
use Rattle.ftp_list.proofs.own_types.with_other_facts.Goals as goal

pub returns-in-Err : goal.returns-in-Err
returns-in-Err c =
    let left = c.pieces.left.now in
    let piece : c.front.result.now ≡ take (position_or_len (λ x. x == 59) left) left = c.front.ensures ∙ ap (λ n. take n left) c.semicolon_in-end.ensures.value in
    let within = c.semicolon_in-end.ensures.bound in
    let value = c.semicolon_in-end.ensures.value in
    sym (c.pieces.invariant ∙ others_fault c.pieces.file left c.in-Err.fault (ap (with_other_piece c.pieces.file) (sym piece) ∙ sym c.in-Err.ensures) (omega arith))

pub returns-then-end-left : goal.returns-then-end-left
returns-then-end-left c =
    let left = c.pieces.left.now in
    let value = c.semicolon_in-end.ensures.value in
    let whole : c.front.result.now ≡ left = c.front.ensures ∙ take_all c.semicolon_in-end.result left (omega arith) in
    sym (c.pieces.invariant ∙ others_last c.pieces.file left (sym value ∙ c.if-end-left.true) ∙ ap (with_other_piece c.pieces.file) (sym whole) ∙ sym c.in-Ok.ensures)

pub pieces-preserved : goal.pieces-preserved
pieces-preserved c =
    let left = c.pieces.left.now in
    let value = c.semicolon_in-end.ensures.value in
    let within = c.semicolon_in-end.ensures.bound in
    let piece : c.front.result.now ≡ take (position_or_len (λ x. x == 59) left) left = c.front.ensures ∙ ap (λ n. take n left) value in
    let later : c.rest-left.result.now ≡ drop (position_or_len (λ x. x == 59) left + 1) left = c.rest-left.ensures ∙ ap (λ n. drop (n + 1) left) value in
    c.pieces.invariant
    ∙ others_more c.pieces.file left (omega arith)
    ∙ ap (λ (r : Result Entry ParseError). r >>= λ changed. with_facts changed (other_facts (drop (position_or_len (λ x. x == 59) left + 1) left))) (ap (with_other_piece c.pieces.file) (sym piece) ∙ sym c.in-Ok.ensures)
    ∙ ap (λ (t : List ℕ). with_facts c.in-Ok.changed (other_facts t)) (sym later)
