use Rattle.ftp_dialogue.specs.declared.stage.Transferring.TheVariants.{Sending}
use Rattle.ftp_dialogue.proofs.FetchingLemmas.{fetch_lacks, sending_unheard}
use Rattle.ftp_dialogue.proofs.SendingLemmas.{all_sent, none_sent, sends_later, sent_none, sent_some}
use Rattle.ftp_dialogue.proofs.UnsentLemmas.{nil_of, some_of}
use Rattle.ftp_dialogue.proofs.machine.Machine.send_more.Goals as goal

pub returns-then-is_empty-clause-makes : goal.returns-then-is_empty-clause-makes
returns-then-is_empty-clause-makes g c = λ coding call of.
    rw c.go_to.ensures (all_sent _ coding call c.args.left c.args.total c.args.unsent c.args.self.now (nil_of c.args.unsent c.if-is_empty.ensures) of)

pub returns-then-left-eq0-clause-makes : goal.returns-then-left-eq0-clause-makes
returns-then-left-eq0-clause-makes g c = λ coding call of.
    rw c.give_up.ensures.done (none_sent _ coding call c.args.left c.args.total c.args.unsent _ c.args.self.now c.give_up.new.self c.if-left-eq0.true (some_of c.args.unsent c.if-is_empty.ensures) c.give_up.ensures.left)

pub returns-then-is_unheld-clause-makes : goal.returns-then-is_unheld-clause-makes
returns-then-is_unheld-clause-makes g c = λ coding call of.
    rw (c.lack_memory.ensures.done, c.lack_memory.ensures.failed) (fetch_lacks _ coding call (Sending c.args.left c.args.total c.args.unsent) _ c.args.self.now (sending_unheard c.args.left c.args.total c.args.unsent c.args.self.now.state _) c.requires.going)

pub returns-in-Ok-Ready-clause-makes : goal.returns-in-Ok-Ready-clause-makes
returns-in-Ok-Ready-clause-makes g c = λ coding call of.
    let sends = rw (c.in-Ok-Ready.is, c.in-Ok-Ready.field-0-is) at c.write_some.ensures.sends in
    rw c.go_to-in-Ok-Ready.ensures (sent_some _ coding call c.args.left c.args.total c.args.unsent c.write_some.new.unsent c.args.self.now c.write_some.new.self of c.if-left-eq0.false (some_of c.args.unsent c.if-is_empty.ensures) sends)

pub returns-in-Ok-Pending-clause-makes : goal.returns-in-Ok-Pending-clause-makes
returns-in-Ok-Pending-clause-makes g c = λ coding call of.
    let sends = rw (c.in-Ok-Pending.is, c.in-Ok-Pending.field-0-is) at c.write_some.ensures.sends in
    rw c.go_to-in-Ok-Pending.ensures (sends_later _ coding call c.args.left c.args.total c.args.unsent c.write_some.new.unsent c.args.self.now c.write_some.new.self of c.if-left-eq0.false (some_of c.args.unsent c.if-is_empty.ensures) sends)

pub returns-in-Err-clause-makes : goal.returns-in-Err-clause-makes
returns-in-Err-clause-makes g c = λ coding call of.
    let sends = rw (c.in-Err.is, c.in-Err.kind-is) at c.write_some.ensures.sends in
    rw c.give_up-in-Err.ensures.done (sent_none _ coding call c.args.left c.args.total c.args.unsent c.write_some.new.unsent c.in-Err.kind _ c.args.self.now c.write_some.new.self c.give_up-in-Err.new.self c.if-left-eq0.false (some_of c.args.unsent c.if-is_empty.ensures) sends c.give_up-in-Err.ensures.left)
