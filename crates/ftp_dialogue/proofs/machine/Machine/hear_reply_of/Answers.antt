use Rattle.std.proofs.Common.{ap, ◌∙◌}
use Rattle.ftp_dialogue.proofs.Hearing.{reply_heard, reply_left}
use Rattle.ftp_dialogue.proofs.machine.Machine.hear_reply_of.Goals as goal

pub returns-clause-hears : goal.returns-clause-hears
returns-clause-hears g c = λ next.
    let going = rw (← c.self.view_is) at c.requires in
    rw (← c.self.view_is)
    (reply_heard _ c.self.inside.state _ c.self.inside.channel c.set_rule.new.self _ _ _ going c.set_rule.ensures.under_way c.set_rule.ensures.sound (c.poll_read_reply-reply.ensures.reads (ap (λ x. x.failed) c.set_rule.ensures.under_way ∙ going)) next)

pub returns-clause-leaves : goal.returns-clause-leaves
returns-clause-leaves g c =
    let going = rw (← c.self.view_is) at c.requires in
    rw (← c.self.view_is)
    (reply_left _ _ c.self.inside.state _ c.self.inside.channel c.set_rule.new.self _ _ _ _ c.set_rule.ensures.under_way (c.poll_read_reply-reply.ensures.reads (ap (λ x. x.failed) c.set_rule.ensures.under_way ∙ going)))
