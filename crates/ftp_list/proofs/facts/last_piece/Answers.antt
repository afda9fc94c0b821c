use Rattle.std.proofs.Common.{◌≡◌, ◌-◌, ◌<◌, arith, sym, ◌∙◌, false, eqb, get_or}
use Rattle.std.specs.Prelude.{not}
use Rattle.std.proofs.lemmas.List.{get_or_default}
use Rattle.ftp_list.proofs.FactFacts.{last_piece_is, at_semicolon}
use Rattle.ftp_list.proofs.facts.last_piece.Goals as goal
use Rattle.ftp_list.proofs.facts.last_piece.Goals.{then-loop-count-test+else-text-count-ne59, else-loop-count-test}

pub returns : goal.returns
returns c =
    let text = c.args.text.now in
    let n = c.loop-count.count in
    c.rest.ensures ∙ sym (last_piece_is text n c.loop-count.invariant.0 c.loop-count.invariant.1 (elim c.loop-count-test.branch as (λ _. 0 < n → not (eqb (get_or text (n - 1) 0) 59) ≡ false) [
      | then-loop-count-test+else-text-count-ne59 w ↦ λ p. at_semicolon text (n - 1) w.index-text-count.result (get_or_default text (n - 1) 0 w.index-text-count.result (omega arith) ∙ sym w.index-text-count.is) w.if-text-count-ne59.false
      | else-loop-count-test w ↦ λ p. absurd (omega arith)
    ]))
