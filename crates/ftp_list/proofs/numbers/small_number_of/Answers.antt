use Rattle.std.proofs.Common.{◌^◌, ◌<◌, ◌≤◌, arith, lit≤}
use Rattle.ftp_list.proofs.NumberFacts.{number_lower, number_too_large, number_none_lower}
use Rattle.ftp_list.proofs.numbers.small_number_of.Goals as goal

pub returns-in-Some : goal.returns-in-Some
returns-in-Some c =
    let below : c.in-Some.value < 2 ^ 32 = omega (arith, c.from.ensures) in
    number_lower c.args.text.now c.in-Some.value (2 ^ 32) (2 ^ 64) c.in-Some.ensures below

pub returns-in_default : goal.returns-in_default
returns-in_default c =
    let above : 2 ^ 32 ≤ c.in-Some.value = omega (arith, c.from.ensures) in
    number_too_large c.args.text.now c.in-Some.value (2 ^ 32) (2 ^ 64) c.in-Some.ensures above

pub returns-in_default-2 : goal.returns-in_default-2
returns-in_default-2 c = number_none_lower c.args.text.now (2 ^ 32) (2 ^ 64) c.in_default.ensures (lit≤ tt)
