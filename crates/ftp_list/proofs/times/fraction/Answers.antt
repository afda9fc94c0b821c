use Rattle.std.proofs.Common.{◌<◌, ◌^◌, length, arith}
use Rattle.ftp_list.specs.Numbers.{digits_after}
use Rattle.ftp_list.proofs.NumberFacts.{front_bound, nine_bound}
use Rattle.ftp_list.proofs.times.fraction.Goals as goal

pub scaled-requires-clause-value : goal.scaled-requires-clause-value
scaled-requires-clause-value c =
    let bound : digits_after 0 c.front-shown.result.now < 10 ^ length c.front-shown.result.now = rw c.front-shown.ensures (front_bound c.args.digits.now 9 c.requires) in
    omega (arith, c.in-Some.ensures)

pub unreachable-requires : goal.unreachable-requires
unreachable-requires c =
    let bound : digits_after 0 c.front-shown.result.now < 1_000_000_000 = rw c.front-shown.ensures (nine_bound c.args.digits.now c.requires) in
    omega (arith, c.in-None.ensures)
