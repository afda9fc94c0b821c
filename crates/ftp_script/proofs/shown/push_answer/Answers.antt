use Rattle.std.proofs.Common.{◌≡◌, ◌++◌, Result, Ok, Err, OnOk, codes, ap, append_assoc, sym, ◌∙◌}
use Rattle.std.specs.declared.alloc.AllocError.{AllocError}
use Rattle.ftp_script.specs.Shown.{answer_text, shown}
use Rattle.ftp_script.proofs.shown.push_answer.Goals as goal

on_ok : (result : Result (Unit {0}) AllocError) (P Q : Type 0) → (P → Q) → OnOk result P → OnOk result Q
on_ok (Ok done) P Q from is = from is
on_ok (Err fault) P Q from is = tt

-- the reply comes after the words
pub returns-in_ok-extend_from_slice-in-OpenedWith : goal.returns-in_ok-extend_from_slice-in-OpenedWith
returns-in_ok-extend_from_slice-in-OpenedWith c =
    let text = c.args.text.now.items in
    let words = codes "ok " in
    let body = c.in-OpenedWith.reply.body in
    let same : (text ++ words) ++ shown body ≡ text ++ answer_text c.args.answer.now = append_assoc text words (shown body) ∙ ap (λ a. text ++ answer_text a) (sym c.in-OpenedWith.is) in
    on_ok c.push_shown-in-OpenedWith.result _ _ (λ is. is ∙ ap (λ t. t ++ shown c.as_slice-in-OpenedWith.result.now) c.in_ok-extend_from_slice-in-OpenedWith.ensures.items ∙ ap (λ b. (text ++ words) ++ shown b) c.as_slice-in-OpenedWith.ensures ∙ same) c.push_shown-in-OpenedWith.ensures
