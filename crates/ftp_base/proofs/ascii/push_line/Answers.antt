use Rattle.std.proofs.Common.{◌≡◌, true, false, [], ◌∷◌, ◌++◌, sym, ap, ◌∙◌, append_assoc}
use Rattle.ftp_base.specs.Ascii.{on_wire, last_return}
use Rattle.ftp_base.proofs.AsciiLemmas.{line_converted}
use Rattle.ftp_base.proofs.ascii.push_line.Goals as goal

pub returns-in_ok-push-clause-written : goal.returns-in_ok-push-clause-written
returns-in_ok-push-clause-written c =
    let out = c.args.out.now.items in
    let line = c.args.line.now in
    let last : last_return c.args.after_return line ≡ true = sym c.is_return_last.ensures ∙ c.if-is_return_last.true in
    c.in_ok-push.ensures.items
    ∙ ap (λ l. l ++ 10 ∷ []) c.in_ok-extend_from_slice.ensures.items
    ∙ append_assoc out line (10 ∷ [])
    ∙ ap (λ l. out ++ l) (sym (line_converted c.args.after_return line c.requires.plain ∙ ap (λ t. line ++ on_wire t 10) last))

pub returns-in_ok-extend_from_slice-2-clause-written : goal.returns-in_ok-extend_from_slice-2-clause-written
returns-in_ok-extend_from_slice-2-clause-written c =
    let out = c.args.out.now.items in
    let line = c.args.line.now in
    let other : last_return c.args.after_return line ≡ false = sym c.is_return_last.ensures ∙ c.if-is_return_last.false in
    c.in_ok-extend_from_slice-2.ensures.items
    ∙ ap (λ l. l ++ 13 ∷ 10 ∷ []) c.in_ok-extend_from_slice.ensures.items
    ∙ append_assoc out line (13 ∷ 10 ∷ [])
    ∙ ap (λ l. out ++ l) (sym (line_converted c.args.after_return line c.requires.plain ∙ ap (λ t. line ++ on_wire t 10) other))
