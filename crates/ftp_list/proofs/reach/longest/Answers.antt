use Rattle.std.proofs.Common.{arith}
use Rattle.ftp_list.proofs.ReachFacts.{longest_any, longest_one}
use Rattle.ftp_list.proofs.reach.longest.Goals as goal

pub returns-in_default : goal.returns-in_default
returns-in_default c =
    rw c.in-OneOrMore.is (longest_one c.in-OneOrMore.class c.args.text.now c.run.result c.run.ensures.value c.run.ensures.bound (omega arith))

pub returns-in-AnyNumber : goal.returns-in-AnyNumber
returns-in-AnyNumber c =
    rw c.in-AnyNumber.is (longest_any c.in-AnyNumber.class c.args.text.now c.run-in-AnyNumber.result c.run-in-AnyNumber.ensures.value c.run-in-AnyNumber.ensures.bound)
