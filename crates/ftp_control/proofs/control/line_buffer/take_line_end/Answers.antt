use Rattle.std.proofs.Common.{◌≡◌, [], length, sym, ◌∙◌, arith, List, ℕ, ◌∷◌, refl}
use Rattle.ftp_control.proofs.Outcomes.{too_little, line_ends, line_nothing, nothing_under_way}
use Rattle.ftp_control.proofs.control.line_buffer.take_line_end.Goals as goal

no_bytes : (bytes : List ℕ) → length bytes ≡ 0 → bytes ≡ []
no_bytes [] none = refl
no_bytes (b ∷ bytes) none = absurd (omega arith)

pub returns-then-count-eq0-clause-outcome : goal.returns-then-count-eq0-clause-outcome
returns-then-count-eq0-clause-outcome c =
    let none : c.args.reply.now.bytes.items ≡ [] = no_bytes _ (sym c.count.ensures ∙ c.if-count-eq0.true) in
    rw none (sym line_nothing)

pub returns-clause-outcome : goal.returns-clause-outcome
returns-clause-outcome c =
    let held = too_little _ _ _ c.requires.under_way.waits in
    rw c.take_all.ensures.taken
    (sym (line_ends _ c.requires.no_line held.fits (omega (arith, c.count.ensures, c.if-count-eq0.false))))

pub returns-clause-under_way : goal.returns-clause-under_way
returns-clause-under_way c = rw (c.take_all.ensures.left, c.take_all.ensures.start, c.take_all.ensures.phase) (nothing_under_way _)
