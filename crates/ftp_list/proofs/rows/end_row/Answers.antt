use Rattle.ftp_list.proofs.RowFacts.{end_tells}
use Rattle.ftp_list.proofs.rows.end_row.Goals as goal

pub returns-clause-tells : goal.returns-clause-tells
returns-clause-tells c = end_tells c.loop-i.row.items c.args.text.now c.loop-i.invariant.1 c.loop-i.invariant.2
