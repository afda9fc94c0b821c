use Rattle.std.proofs.Common.{◌∙◌, refl, ap, sym}
use Rattle.futures.specs.declared.task.Poll.TheVariants.{Ready}
use Rattle.ftp_calls.specs.declared.call.Call.TheVariants.{Drain}
use Rattle.ftp_dialogue.specs.Coding.{coding_of}
use Rattle.ftp_dialogue.specs.Link.{Link, link}
use Rattle.ftp_dialogue.specs.Steps.Moving.{Made}
use Rattle.ftp_dialogue.proofs.CatchingUpLemmas.{drain_held, in_step, step_ends, step_fails}
use Rattle.ftp_dialogue.proofs.DrainingLemmas.{makes_undue, not_first}
use Rattle.ftp_dialogue.proofs.machine.Machine.settle.Goals as goal

pub returns-in-Ready-None : goal.returns-in-Ready-None
returns-in-Ready-None g c = record { made = step_ends _ _ _ _ Drain c.args.self.now c.poll_dropped_replies.new.self _ _ c.poll_dropped_replies.result (sym c.if-reads_dropped_first.ensures) c.poll_dropped_replies.ensures.catches_up (c.in-Ready-None.is ∙ ap Ready c.in-Ready-None.field-0-is) refl refl refl }

pub returns-in-Ready-Some : goal.returns-in-Ready-Some
returns-in-Ready-Some g c = record { made = step_fails _ _ _ _ Drain c.args.self.now c.poll_dropped_replies.new.self _ _ c.in-Ready-Some.fault c.poll_dropped_replies.result (sym c.if-reads_dropped_first.ensures) c.poll_dropped_replies.ensures.catches_up (c.in-Ready-Some.is ∙ ap Ready c.in-Ready-Some.field-0-is) refl refl }

pub drained-requires : goal.drained-requires
drained-requires g c = c.call_alone.ensures.answers (drain_held c.args.self.now c.requires.left)

pub returns : goal.returns
returns g c =
    let over : Link = link g.Tr.Conn.Tells.secures g.Tr.Conn.Tells.tells g.Tr.Conn.Conn.blocking_read_faults g.Tr.Conn.Conn.blocking_write_faults g.Tr.Conn.Tells.end_faults in
    let coding = coding_of g.E.Encoding.decoded g.E.Encoding.encoded c.args.encoding.now in
    record { made = rw c.drained.ensures (in_step _ _ _ _ Drain c.args.self.now c.args.self.now _ _ (sym c.if-reads_dropped_first.ensures) (record { makes = makes_undue (Made over coding) Drain c.args.self.now _ _ (not_first Drain c.args.self.now.channel.failed c.args.self.now.state.counts.owed refl) c.call_alone.ensures.made })) }
