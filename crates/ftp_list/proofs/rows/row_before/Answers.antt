use Rattle.std.proofs.Common.{arith}
use Rattle.ftp_list.proofs.RowFacts.{row_more}
use Rattle.ftp_list.proofs.rows.row_before.Goals as goal

pub loop-j-preserved : goal.loop-j-preserved
loop-j-preserved c =
    row_more c.args.next.now c.args.shape c.args.text.now c.loop-j.row.items c.push.new.self.items c.loop-j.j c.loop-j.shorter c.splits_with-splits.result c.rest.result.now (omega arith) c.rest.ensures c.loop-j.invariant c.splits_with-splits.ensures c.in_ok-push.ensures.items
