use Rattle.ftp_dialogue.specs.Coding.{coding_of}
use Rattle.ftp_dialogue.specs.declared.stage.Transferring.TheVariants.{Gathering}
use Rattle.ftp_dialogue.proofs.FetchingLemmas.{fetch_full, fetch_lacks, fetch_read_at, fetch_waits_at, gathering_unheard}
use Rattle.ftp_dialogue.proofs.machine.Machine.gather.Goals as goal

pub returns-then-left-eq0-clause-makes : goal.returns-then-left-eq0-clause-makes
returns-then-left-eq0-clause-makes g c = λ call of.
    rw (c.go_to.ensures, c.too_long.ensures) (fetch_full _ (coding_of g.E.Encoding.decoded g.E.Encoding.encoded c.args.encoding.now) call c.args.form c.args.left c.args.gathered c.args.self.now c.if-left-eq0.true of)

pub returns-then-is_unheld-clause-makes : goal.returns-then-is_unheld-clause-makes
returns-then-is_unheld-clause-makes g c = λ call of.
    rw (c.lack_memory.ensures.done, c.lack_memory.ensures.failed) (fetch_lacks _ (coding_of g.E.Encoding.decoded g.E.Encoding.encoded c.args.encoding.now) call (Gathering c.args.form c.args.left c.args.gathered) _ c.args.self.now (gathering_unheard (coding_of g.E.Encoding.decoded g.E.Encoding.encoded c.args.encoding.now) c.args.form c.args.left c.args.gathered c.args.self.now.state _) c.requires.going)

pub returns-in-Ready-clause-makes : goal.returns-in-Ready-clause-makes
returns-in-Ready-clause-makes g c = λ call of.
    let grows = rw c.in-Ready.is at c.read_more.ensures.grows in
    rw c.go_to-in-Ready.ensures (fetch_read_at _ (coding_of g.E.Encoding.decoded g.E.Encoding.encoded c.args.encoding.now) call c.args.form c.args.left c.args.gathered c.args.self.now c.read_more.new.self c.read_more.new.gathered c.in-Ready.more c.follow-next.result of c.if-left-eq0.false grows c.follow-next.ensures)

pub returns-in-Pending-clause-makes : goal.returns-in-Pending-clause-makes
returns-in-Pending-clause-makes g c = λ call of.
    let grows = rw c.in-Pending.is at c.read_more.ensures.grows in
    rw c.go_to-in-Pending.ensures (fetch_waits_at _ (coding_of g.E.Encoding.decoded g.E.Encoding.encoded c.args.encoding.now) call c.args.form c.args.left c.args.gathered c.args.self.now c.read_more.new.self c.read_more.new.gathered of c.if-left-eq0.false grows)
