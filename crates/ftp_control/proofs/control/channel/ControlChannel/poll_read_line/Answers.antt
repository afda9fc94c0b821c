use Rattle.std.proofs.Common.{◌≡◌, [], ap, sym, ◌∙◌}
use Rattle.ftp_control.specs.Grammar.{whole_lines}
use Rattle.ftp_control.proofs.Outcomes.{no_line_starts, starts_no_line}
use Rattle.ftp_control.proofs.Channels.{read_holds}
use Rattle.ftp_control.proofs.Reading.{reads_line}
use Rattle.ftp_control.proofs.control.channel.ControlChannel.poll_read_line.Goals as goal

pub returns-then-self-ne0-clause-reads : goal.returns-then-self-ne0-clause-reads
returns-then-self-ne0-clause-reads g c = λ failed none.
    let kept : whole_lines c.self.inside.reply.bytes.items ≡ [] = ap (λ s. whole_lines s.kept) c.self.view_is ∙ none in
    absurd (c.if-self-ne0.true (no_line_starts _ _ c.self.invariant.under_way.split kept))

pub read_sought-heard-requires-clause-can_seek : goal.read_sought-heard-requires-clause-can_seek
read_sought-heard-requires-clause-can_seek g c = starts_no_line _ _ c.self.invariant.under_way.split c.if-self-ne0.false

pub returns-clause-reads : goal.returns-clause-reads
returns-clause-reads g c = λ failed none. rw (← c.self.view_is) (record {
  result = c.read_sought-heard.result;
  reads = reads_line _ _ _ _ (rw c.fails-self-inside.ensures) _ c.self.invariant.under_way.waits (starts_no_line _ _ c.self.invariant.under_way.split c.if-self-ne0.false) c.read_sought-heard.ensures.heard;
  fault = c.read_sought-heard.ensures.fault;
  given = c.read_sought-heard.ensures.given;
  is = c.answer.ensures;
})

pub invariant_of-self : goal.invariant_of-self
invariant_of-self g c =
    read_holds _ _ _ _ _ _ _ _ _ _ _ _ _ _ _ _ _ _ _ _ c.self.invariant c.read_sought-heard.ensures.under_way c.read_sought-heard.ensures.bound c.read_sought-heard.ensures.known c.read_sought-heard.ensures.heard

pub returns-clause-under_way : goal.returns-clause-under_way
returns-clause-under_way g c = λ failed some.
    let none : whole_lines c.self.inside.reply.bytes.items ≡ [] = starts_no_line _ _ c.self.invariant.under_way.split c.if-self-ne0.false in
    absurd (some (ap (λ s. whole_lines s.kept) (sym c.self.view_is) ∙ none))
