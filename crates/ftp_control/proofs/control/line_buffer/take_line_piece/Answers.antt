use Rattle.std.proofs.Common.{◌≡◌, ◌≢◌, ◌++◌, ◌+◌, length, arith, sym, ◌∙◌, ap, ne_eqb}
use Rattle.ftp_control.proofs.Ahead.{piece_last, piece_ends, piece_count, front_fits}
use Rattle.ftp_control.proofs.Outcomes.{line_too_long, line_waits, line_closes, no_line_yet, byte_leaves, front_leaves, front_no_line, nothing_under_way}
use Rattle.ftp_control.proofs.control.line_buffer.take_line_piece.Goals as goal

pub returns-then-count-gt-REPLY_LIMIT-clause-outcome :
    goal.returns-then-count-gt-REPLY_LIMIT-clause-outcome
returns-then-count-gt-REPLY_LIMIT-clause-outcome c =
    let kept = c.args.reply.now.bytes.items in
    let p = c.requires.piece in
    let pushed : c.extend_from_slice.new.self.items ≡ kept ++ c.args.piece.now = rw c.unwrap.ensures at c.extend_from_slice.ensures.items in
    let count : c.count.result ≡ length (kept ++ p.front) + 1 = c.count.ensures ∙ ap length pushed ∙ piece_count kept c.args.piece.now p in
    rw (piece_ends kept c.args.piece.now p)
    (sym (line_too_long (kept ++ p.front) p.last (front_no_line kept p.front c.requires.no_line p.before) (omega (arith, count, c.if-count-gt-REPLY_LIMIT.true))))

pub returns-then-count-gt-REPLY_LIMIT-clause-under_way :
    goal.returns-then-count-gt-REPLY_LIMIT-clause-under_way
returns-then-count-gt-REPLY_LIMIT-clause-under_way c = rw (c.take_all.ensures.left, c.take_all.ensures.start, c.take_all.ensures.phase) (nothing_under_way _)

pub returns-then-piece-ne10-clause-outcome : goal.returns-then-piece-ne10-clause-outcome
returns-then-piece-ne10-clause-outcome c =
    let kept = c.args.reply.now.bytes.items in
    let p = c.requires.piece in
    let pushed : c.extend_from_slice.new.self.items ≡ kept ++ c.args.piece.now = rw c.unwrap.ensures at c.extend_from_slice.ensures.items in
    let count : c.count.result ≡ length (kept ++ p.front) + 1 = c.count.ensures ∙ ap length pushed ∙ piece_count kept c.args.piece.now p in
    let other : p.last ≢ 10 = rw (piece_last kept c.args.piece.now p) at c.if-piece-ne10.true in
    rw (piece_ends kept c.args.piece.now p)
    (sym (line_waits (kept ++ p.front) p.last (front_no_line kept p.front c.requires.no_line p.before) (ne_eqb _ _ other) (omega (arith, count, c.if-count-gt-REPLY_LIMIT.false))))

pub returns-then-piece-ne10-clause-under_way : goal.returns-then-piece-ne10-clause-under_way
returns-then-piece-ne10-clause-under_way c =
    let kept = c.args.reply.now.bytes.items in
    let p = c.requires.piece in
    let pushed : c.extend_from_slice.new.self.items ≡ kept ++ c.args.piece.now = rw c.unwrap.ensures at c.extend_from_slice.ensures.items in
    let count : c.count.result ≡ length (kept ++ p.front) + 1 = c.count.ensures ∙ ap length pushed ∙ piece_count kept c.args.piece.now p in
    let other : p.last ≢ 10 = rw (piece_last kept c.args.piece.now p) at c.if-piece-ne10.true in
    rw (pushed, piece_ends kept c.args.piece.now p)
    (byte_leaves _ (kept ++ p.front) _ _ p.last (front_leaves _ kept p.front _ _ c.requires.under_way p.before (front_fits kept c.args.piece.now p c.requires.limit)) (ne_eqb _ _ other) (omega (arith, count, c.if-count-gt-REPLY_LIMIT.false)))

pub returns-then-piece-ne10-clause-no_line : goal.returns-then-piece-ne10-clause-no_line
returns-then-piece-ne10-clause-no_line c =
    let kept = c.args.reply.now.bytes.items in
    let p = c.requires.piece in
    let pushed : c.extend_from_slice.new.self.items ≡ kept ++ c.args.piece.now = rw c.unwrap.ensures at c.extend_from_slice.ensures.items in
    let other : p.last ≢ 10 = rw (piece_last kept c.args.piece.now p) at c.if-piece-ne10.true in
    rw (pushed, piece_ends kept c.args.piece.now p) (no_line_yet (kept ++ p.front) p.last (front_no_line kept p.front c.requires.no_line p.before) (ne_eqb _ _ other))

pub returns-clause-outcome : goal.returns-clause-outcome
returns-clause-outcome c =
    let kept = c.args.reply.now.bytes.items in
    let p = c.requires.piece in
    let pushed : c.extend_from_slice.new.self.items ≡ kept ++ c.args.piece.now = rw c.unwrap.ensures at c.extend_from_slice.ensures.items in
    let count : c.count.result ≡ length (kept ++ p.front) + 1 = c.count.ensures ∙ ap length pushed ∙ piece_count kept c.args.piece.now p in
    let feed : p.last ≡ 10 = rw (piece_last kept c.args.piece.now p) at c.if-piece-ne10.false in
    rw (c.take_all-2.ensures.taken, pushed, piece_ends kept c.args.piece.now p, feed)
    (sym (line_closes (kept ++ p.front) (front_no_line kept p.front c.requires.no_line p.before) (omega (arith, count, c.if-count-gt-REPLY_LIMIT.false))))

pub returns-clause-under_way : goal.returns-clause-under_way
returns-clause-under_way c = rw (c.take_all-2.ensures.left, c.take_all-2.ensures.start, c.take_all-2.ensures.phase) (nothing_under_way _)
