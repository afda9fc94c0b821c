use Rattle.std.proofs.Common.{sym, ◌∙◌, ◌<◌, length}
use Rattle.ftp_list.proofs.RowFacts.{any_tells, any_tells_nil, positive, nothing}
use Rattle.ftp_list.proofs.rows.splits_with_any_number.Goals as goal

pub returns : goal.returns
returns c =
    let some_left : 0 < length c.args.text.now = positive (length c.args.text.now) (sym c.is_empty.ensures ∙ c.if-is_empty.false) in
    λ shapes told later. rw c.contains.ensures (any_tells c.args.class shapes c.args.text.now c.args.next.now c.args.shorter c.index-text-0.result some_left c.index-text-0.is told (later some_left))

pub returns-then-is_empty : goal.returns-then-is_empty
returns-then-is_empty c =
    λ shapes told later. any_tells_nil c.args.class shapes c.args.text.now c.args.next.now (nothing (length c.args.text.now) (sym c.is_empty.ensures ∙ c.if-is_empty.true)) told
