use Rattle.std.proofs.Common.{◌<◌, length, get_or, arith}
use Rattle.std.proofs.lemmas.List.{get_or_default}
use Rattle.ftp_list.proofs.StartFacts.{starts_more}
use Rattle.ftp_list.proofs.split.starts_of.Goals as goal

pub loop-i-preserved : goal.loop-i-preserved
loop-i-preserved c =
    let lengths = c.args.lengths.now in
    let i = c.loop-i.i in
    let count = get_or lengths i 0 in
    let lt : i < length lengths = omega arith in
    let known : i < 18 = omega arith in
    rw c.min-start.ensures (starts_more c.loop-i.starts lengths c.args.text.now i c.loop-i.start count lt known (get_or_default lengths i 0 count lt) c.loop-i.invariant)
