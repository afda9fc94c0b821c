use Rattle.std.proofs.Common.{refl}
use Rattle.ftp_dialogue.proofs.Moving.{line_said, line_taken}
use Rattle.ftp_dialogue.proofs.Stages.{line_fails, line_waits, line_went}
use Rattle.ftp_dialogue.proofs.machine.Machine.say_line.Goals as goal

pub returns-in-Ready-Ok-clause-makes : goal.returns-in-Ready-Ok-clause-makes
returns-in-Ready-Ok-clause-makes g c = λ coding call of.
    let going = rw (← c.self.view_is) at c.requires.going in
    let said = rw (c.in-Ready-Ok.is, c.in-Ready-Ok.field-0-is) at (c.poll_perform-performed.ensures.says going) in
    rw (c.go_to.ensures, c.stage_said.ensures, ← c.self.view_is)
    (line_went coding call _ c.args.line _ c.args.after of _ _ (line_taken _ c.self.inside.state _ c.self.inside.channel _ _ _ _ said) (line_said _ c.self.inside.state _ c.self.inside.channel _ _ _ _ going said))

pub returns-in-Ready-Err-clause-makes : goal.returns-in-Ready-Err-clause-makes
returns-in-Ready-Err-clause-makes g c = λ coding call of.
    let going = rw (← c.self.view_is) at c.requires.going in
    let said = rw (c.in-Ready-Err.is, c.in-Ready-Err.field-0-is) at (c.poll_perform-performed.ensures.says going) in
    rw (← c.self.view_is)
    (line_fails coding call _ c.args.line c.poll_perform-performed.new.line c.args.after of _ _ _ c.in-Ready-Err.fault _ refl (line_said _ c.self.inside.state _ c.self.inside.channel _ _ _ _ going said))

pub returns-clause-makes : goal.returns-clause-makes
returns-clause-makes g c = λ coding call of.
    let going = rw (← c.self.view_is) at c.requires.going in
    let said = rw c.in-Pending.is at (c.poll_perform-performed.ensures.says going) in
    rw (c.go_to-in-Pending.ensures, ← c.self.view_is)
    (line_waits coding call _ c.args.line _ c.args.after of _ _ (line_taken _ c.self.inside.state _ c.self.inside.channel _ _ _ _ said) (line_said _ c.self.inside.state _ c.self.inside.channel _ _ _ _ going said))
