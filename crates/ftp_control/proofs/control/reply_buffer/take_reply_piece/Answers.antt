use Rattle.std.proofs.Common.{◌≡◌, ◌≢◌, ◌++◌, ◌∷◌, [], ◌+◌, length, arith, sym, ◌∙◌, ap, ne_eqb, false, Ok}
use Rattle.ftp_control.specs.Grammar.{rest}
use Rattle.ftp_control.specs.Inside.ReadLoop.{TakesAll}
use Rattle.ftp_control.specs.Inside.Phases.{is_listing, phase_after}
use Rattle.ftp_control.specs.Inside.UnderWay.{IsUnderWay}
use Rattle.ftp_control.specs.Inside.Verdict.{outcome_by}
use Rattle.ftp_control.proofs.Ahead.{piece_last, piece_ends, piece_count, front_fits}
use Rattle.ftp_control.proofs.Outcomes.{byte_too_many, waits_on, line_more, byte_leaves, line_leaves, front_waits, front_leaves, judged_line, phased_line, verdict_on, nothing_under_way}
use Rattle.ftp_control.proofs.control.reply_buffer.take_reply_piece.Goals as goal

pub returns-then-count-gt-REPLY_LIMIT-clause-outcome :
    goal.returns-then-count-gt-REPLY_LIMIT-clause-outcome
returns-then-count-gt-REPLY_LIMIT-clause-outcome c = λ waits.
    let kept = c.args.reply.now.bytes.items in
    let p = c.requires.piece in
    let pushed : c.extend_from_slice.new.self.items ≡ kept ++ c.args.piece.now = rw c.unwrap.ensures at c.extend_from_slice.ensures.items in
    let count : c.count.result ≡ length (kept ++ p.front) + 1 = c.count.ensures ∙ ap length pushed ∙ piece_count kept c.args.piece.now p in
    rw (piece_ends kept c.args.piece.now p)
    (sym (byte_too_many _ _ (kept ++ p.front) p.last (front_waits _ _ kept p.front waits p.before (front_fits kept c.args.piece.now p c.requires.limit)) (omega (arith, count, c.if-count-gt-REPLY_LIMIT.true))))

pub returns-then-count-gt-REPLY_LIMIT-clause-under_way :
    goal.returns-then-count-gt-REPLY_LIMIT-clause-under_way
returns-then-count-gt-REPLY_LIMIT-clause-under_way c = rw (c.take_all.ensures.left, c.take_all.ensures.start, c.take_all.ensures.phase) (nothing_under_way _)

pub returns-then-piece-ne10-clause-outcome : goal.returns-then-piece-ne10-clause-outcome
returns-then-piece-ne10-clause-outcome c = λ waits.
    let kept = c.args.reply.now.bytes.items in
    let p = c.requires.piece in
    let pushed : c.extend_from_slice.new.self.items ≡ kept ++ c.args.piece.now = rw c.unwrap.ensures at c.extend_from_slice.ensures.items in
    let count : c.count.result ≡ length (kept ++ p.front) + 1 = c.count.ensures ∙ ap length pushed ∙ piece_count kept c.args.piece.now p in
    let other : p.last ≢ 10 = rw (piece_last kept c.args.piece.now p) at c.if-piece-ne10.true in
    rw (piece_ends kept c.args.piece.now p)
    (sym (waits_on _ _ (kept ++ p.front) p.last (front_waits _ _ kept p.front waits p.before (front_fits kept c.args.piece.now p c.requires.limit)) (ne_eqb _ _ other) (omega (arith, count, c.if-count-gt-REPLY_LIMIT.false))))

pub returns-then-piece-ne10-clause-under_way : goal.returns-then-piece-ne10-clause-under_way
returns-then-piece-ne10-clause-under_way c =
    let kept = c.args.reply.now.bytes.items in
    let p = c.requires.piece in
    let pushed : c.extend_from_slice.new.self.items ≡ kept ++ c.args.piece.now = rw c.unwrap.ensures at c.extend_from_slice.ensures.items in
    let count : c.count.result ≡ length (kept ++ p.front) + 1 = c.count.ensures ∙ ap length pushed ∙ piece_count kept c.args.piece.now p in
    let other : p.last ≢ 10 = rw (piece_last kept c.args.piece.now p) at c.if-piece-ne10.true in
    rw (pushed, piece_ends kept c.args.piece.now p)
    (byte_leaves _ (kept ++ p.front) _ _ p.last (front_leaves _ kept p.front _ _ c.requires.under_way p.before (front_fits kept c.args.piece.now p c.requires.limit)) (ne_eqb _ _ other) (omega (arith, count, c.if-count-gt-REPLY_LIMIT.false)))

pub returns-clause-outcome : goal.returns-clause-outcome
returns-clause-outcome c = λ waits.
    let kept = c.args.reply.now.bytes.items in
    let p = c.requires.piece in
    let pushed : c.extend_from_slice.new.self.items ≡ kept ++ c.args.piece.now = rw c.unwrap.ensures at c.extend_from_slice.ensures.items in
    let count : c.count.result ≡ length (kept ++ p.front) + 1 = c.count.ensures ∙ ap length pushed ∙ piece_count kept c.args.piece.now p in
    let feed : p.last ≡ 10 = rw (piece_last kept c.args.piece.now p) at c.if-piece-ne10.false in
    let fits = front_fits kept c.args.piece.now p c.requires.limit in
    let under : IsUnderWay c.args.rule (kept ++ p.front) c.args.reply.now.line_start c.args.reply.now.phase = front_leaves _ kept p.front _ _ c.requires.under_way p.before fits in
    let judged : c.judge_line-verdict.result ≡ verdict_on c.args.rule c.args.form (kept ++ p.front) (10 ∷ []) =
    c.judge_line-verdict.ensures ∙ rw (pushed, piece_ends kept c.args.piece.now p, feed) (judged_line _ _ _ _ _ under) in
    let phased : c.next_phase-phase.result ≡ phase_after c.args.rule c.args.reply.now.phase ((kept ++ p.front) ++ 10 ∷ []) (rest (kept ++ p.front) ++ 10 ∷ []) =
    c.next_phase-phase.ensures ∙ rw (pushed, piece_ends kept c.args.piece.now p, feed) (phased_line _ _ _ _ under) in
    rw (c.settle.ensures.outcome, judged, phased, pushed, piece_ends kept c.args.piece.now p, feed, under.phase_is)
    (sym (line_more _ _ (kept ++ p.front) (front_waits _ _ kept p.front waits p.before fits) (omega (arith, count, c.if-count-gt-REPLY_LIMIT.false))))

pub returns-clause-under_way : goal.returns-clause-under_way
returns-clause-under_way c =
    let kept = c.args.reply.now.bytes.items in
    let p = c.requires.piece in
    let pushed : c.extend_from_slice.new.self.items ≡ kept ++ c.args.piece.now = rw c.unwrap.ensures at c.extend_from_slice.ensures.items in
    let count : c.count.result ≡ length (kept ++ p.front) + 1 = c.count.ensures ∙ ap length pushed ∙ piece_count kept c.args.piece.now p in
    let feed : p.last ≡ 10 = rw (piece_last kept c.args.piece.now p) at c.if-piece-ne10.false in
    let fits = front_fits kept c.args.piece.now p c.requires.limit in
    let under : IsUnderWay c.args.rule (kept ++ p.front) c.args.reply.now.line_start c.args.reply.now.phase = front_leaves _ kept p.front _ _ c.requires.under_way p.before fits in
    let judged : c.judge_line-verdict.result ≡ verdict_on c.args.rule c.args.form (kept ++ p.front) (10 ∷ []) =
    c.judge_line-verdict.ensures ∙ rw (pushed, piece_ends kept c.args.piece.now p, feed) (judged_line _ _ _ _ _ under) in
    let phased : c.next_phase-phase.result ≡ phase_after c.args.rule c.args.reply.now.phase ((kept ++ p.front) ++ 10 ∷ []) (rest (kept ++ p.front) ++ 10 ∷ []) =
    c.next_phase-phase.ensures ∙ rw (pushed, piece_ends kept c.args.piece.now p, feed) (phased_line _ _ _ _ under) in
    let all : TakesAll (Ok (outcome_by false (is_listing c.args.form c.next_phase-phase.result) c.judge_line-verdict.result ((kept ++ p.front) ++ 10 ∷ []))) ((kept ++ p.front) ++ 10 ∷ []) c.settle.new.reply.bytes.items =
    rw (c.settle.ensures.outcome, pushed, piece_ends kept c.args.piece.now p, feed) at c.settle.ensures.all in
    rw (c.settle.ensures.start, c.settle.ensures.phase, phased)
    (line_leaves _ _ (kept ++ p.front) _ _ (is_listing c.args.form c.next_phase-phase.result) _ under (omega (arith, count, c.if-count-gt-REPLY_LIMIT.false)) (sym judged) _ all)
