use Rattle.std.proofs.Common.{ap, sym, ◌∙◌}
use Rattle.ftp_dialogue.specs.Dialogue.{Leaf, expecting}
use Rattle.ftp_dialogue.specs.Reading.{after_poll}
use Rattle.ftp_dialogue.specs.State.{SessionValue}
use Rattle.ftp_dialogue.specs.declared.state.State.{State}
use Rattle.ftp_calls.specs.declared.call.Answer.TheVariants.{Unit}
use Rattle.ftp_dialogue.proofs.Reading.{alone_reads, counted_fails, hears_goes_on}
use Rattle.ftp_dialogue.proofs.TransitionsLemmas.{hears_fail, hears_reads}
use Rattle.ftp_dialogue.proofs.machine.Machine.poll_read_alone.Goals as goal

pub returns-clause-reads : goal.returns-clause-reads
returns-clause-reads g c = alone_reads _ (expecting c.args.expected.now) c.args.self.now c.count_heard.new.self c.hear-heard.result (ap (λ v. v.channel.failed) (sym c.self.view_is) ∙ sym c.failed.ensures.value ∙ c.if-failed.false) (record { last = c.hear-heard.new.self; reads = λ next. hears_reads _ _ _ _ _ _ (c.hear-heard.ensures.hears next); leaves = c.hear-heard.ensures.leaves; counts = c.count_heard.ensures ∙ ap (λ (s : State). record c.hear-heard.new.self { state = after_poll c.hear-heard.result s }) (ap (λ (v : SessionValue). v.state) c.hear-heard.ensures.leaves.beside); goes_on = hears_goes_on _ _ _ _ _ _ (c.hear-heard.ensures.hears (λ heard. Leaf Unit c.args.self.now.state)) })

pub returns-clause-fails : goal.returns-clause-fails
returns-clause-fails g c = counted_fails c.args.self.now c.hear-heard.new.self c.count_heard.new.self c.hear-heard.result c.count_heard.ensures (hears_fail _ _ _ _ _ _ (c.hear-heard.ensures.hears (λ heard. Leaf Unit c.args.self.now.state)))
