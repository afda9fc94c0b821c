use Rattle.ftp_list.proofs.ReachFacts.{open_any, open_one}
use Rattle.ftp_list.proofs.reach.longest_open.Goals as goal

pub returns-in-OneOrMore : goal.returns-in-OneOrMore
returns-in-OneOrMore c =
    rw c.in-OneOrMore.is (open_one c.args.row.now c.in-OneOrMore.class c.args.text.now c.run.result c.open_run.result c.run.ensures.value c.run.ensures.bound (record { found_or_none = c.open_run.ensures.none; greatest = c.open_run.ensures.greatest }))

pub returns-in-AnyNumber : goal.returns-in-AnyNumber
returns-in-AnyNumber c =
    rw c.in-AnyNumber.is (open_any c.args.row.now c.in-AnyNumber.class c.args.text.now c.run-in-AnyNumber.result c.open_run-in-AnyNumber.result c.run-in-AnyNumber.ensures.value c.run-in-AnyNumber.ensures.bound (record { found_or_none = c.open_run-in-AnyNumber.ensures.none; greatest = c.open_run-in-AnyNumber.ensures.greatest }))
