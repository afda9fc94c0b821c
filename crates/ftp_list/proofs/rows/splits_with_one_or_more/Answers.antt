use Rattle.std.proofs.Common.{sym, ◌∙◌, ◌<◌, length}
use Rattle.ftp_list.proofs.RowFacts.{one_tells, positive}
use Rattle.ftp_list.proofs.rows.splits_with_one_or_more.Goals as goal

pub returns : goal.returns
returns c =
    let some_left : 0 < length c.args.text.now = positive (length c.args.text.now) (sym c.is_empty.ensures ∙ c.if-is_empty.false) in
    λ shapes told later. rw c.contains.ensures (one_tells c.args.class shapes c.args.text.now c.args.next.now c.args.shorter c.index-text-0.result some_left c.index-text-0.is told (later some_left))
