use Rattle.std.proofs.Common.{ap, inl, inr, refl, sym, ◌∙◌}
use Rattle.ftp_dialogue.specs.Steps.Stages.{is_barred}
use Rattle.ftp_dialogue.proofs.machine.Machine.compose.Goals as goal

pub returns-then-is_barred : goal.returns-then-is_barred
returns-then-is_barred g c =
    let live = ap (λ v. is_barred c.args.recovery v.state) (sym c.self.view_is) ∙ sym c.is_barred.ensures ∙ c.if-is_barred.true in
    record { fault = _; is = refl; cause = inl (live, refl, refl) }

pub returns-in-Ok : goal.returns-in-Ok
returns-in-Ok g c =
    let free = ap (λ v. is_barred c.args.recovery v.state) (sym c.self.view_is) ∙ sym c.is_barred.ensures ∙ c.if-is_barred.false in
    let line = rw (c.in-Ok.is, c.command_of.ensures) at c.line_of.ensures.line in
    (free, (_, line, c.go_to.ensures), refl)

pub returns-in-Err : goal.returns-in-Err
returns-in-Err g c =
    let free = ap (λ v. is_barred c.args.recovery v.state) (sym c.self.view_is) ∙ sym c.is_barred.ensures ∙ c.if-is_barred.false in
    let refused = rw (c.in-Err.is, c.command_of.ensures) at c.line_of.ensures.refused in
    let leaves = rw c.begun_for.ensures at c.abort_dialogue.ensures in
    record { fault = c.in-Err.fault; is = refl; cause = inr (free, refused, leaves) }
