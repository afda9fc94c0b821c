use Rattle.ftp_list.proofs.RowFacts.{open_tells}
use Rattle.ftp_list.proofs.rows.splits_with.Goals as goal

pub returns-in-Short : goal.returns-in-Short
returns-in-Short c =
    λ shapes told later. rw c.is_some.ensures (open_tells c.args.shape shapes c.args.text.now c.args.next.now c.longest_open.result c.longest_open.ensures told)
