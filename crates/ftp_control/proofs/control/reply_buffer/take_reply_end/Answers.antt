use Rattle.std.proofs.Common.{◌≡◌, ◌≢◌, length, sym, ◌∙◌, true, Ok}
use Rattle.ftp_control.specs.Grammar.{whole_lines, rest}
use Rattle.ftp_control.specs.Inside.ReadLoop.{TakesAll}
use Rattle.ftp_control.specs.Inside.Phases.{is_listing, phase_after}
use Rattle.ftp_control.specs.Inside.Verdict.{verdict, outcome_by}
use Rattle.ftp_control.proofs.Outcomes.{is_first_of, phase_so_far, ends_empty, ends_inside, judged_end, phased_end, end_leaves, end_phase, end_settled, empty_rest, open_rest, nothing_under_way}
use Rattle.ftp_control.proofs.control.reply_buffer.take_reply_end.Goals as goal

pub returns-then-reply-count-clause-outcome : goal.returns-then-reply-count-clause-outcome
returns-then-reply-count-clause-outcome c = λ waits.
    rw (c.end.ensures.outcome, c.requires.phase_is)
    (sym (ends_empty _ _ _ waits (empty_rest _ _ c.requires.split (c.if-reply-count.true ∙ c.count.ensures))))

pub returns-then-reply-count-clause-under_way : goal.returns-then-reply-count-clause-under_way
returns-then-reply-count-clause-under_way c = rw (c.end.ensures.none, c.end.ensures.start, c.end.ensures.phase) (nothing_under_way _)

pub returns-clause-outcome : goal.returns-clause-outcome
returns-clause-outcome c = λ waits.
    let inside : c.args.reply.now.line_start ≢ length c.args.reply.now.bytes.items = λ same. c.if-reply-count.false (same ∙ sym c.count.ensures) in
    let judged : c.judge_line-verdict.result ≡ verdict c.args.rule c.args.form (is_first_of (whole_lines c.args.reply.now.bytes.items)) (phase_so_far c.args.rule c.args.reply.now.bytes.items) c.args.reply.now.bytes.items (rest c.args.reply.now.bytes.items) =
    c.judge_line-verdict.ensures ∙ judged_end _ _ _ _ _ c.requires in
    let phased : c.next_phase-phase.result ≡ phase_after c.args.rule (phase_so_far c.args.rule c.args.reply.now.bytes.items) c.args.reply.now.bytes.items (rest c.args.reply.now.bytes.items) =
    c.next_phase-phase.ensures ∙ phased_end _ _ _ _ c.requires in
    rw (c.settle.ensures.outcome, judged, phased)
    (sym (ends_inside _ _ _ waits (open_rest _ _ c.requires.split inside)))

pub returns-clause-settled : goal.returns-clause-settled
returns-clause-settled c = λ waits. end_settled (is_listing c.args.form c.next_phase-phase.result) c.judge_line-verdict.result c.args.reply.now.bytes.items (sym c.settle.ensures.outcome ∙ waits)

pub returns-clause-under_way : goal.returns-clause-under_way
returns-clause-under_way c =
    let all : TakesAll (Ok (outcome_by true (is_listing c.args.form c.next_phase-phase.result) c.judge_line-verdict.result c.args.reply.now.bytes.items)) c.args.reply.now.bytes.items c.settle.new.reply.bytes.items =
    rw c.settle.ensures.outcome at c.settle.ensures.all in
    rw (c.settle.ensures.start, c.settle.ensures.phase, end_phase c.judge_line-verdict.result _, end_leaves _ _ _ _ all) (nothing_under_way _)
