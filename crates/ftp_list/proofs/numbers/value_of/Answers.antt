use Rattle.std.proofs.Common.{◌≡◌, ◌+◌, ◌-◌, ◌*◌, ◌≤◌, drop, get_or, arith}
use Rattle.ftp_list.specs.Numbers.{digits_after}
use Rattle.ftp_list.proofs.NumberFacts.{digits_after_more, digits_after_grows}
use Rattle.ftp_list.proofs.numbers.value_of.Goals as goal

pub returns-in_default : goal.returns-in_default
returns-in_default c =
    let ds = c.args.digits.now in
    let i = c.loop-c.c-index in
    let next = c.loop-c.value * 10 + (get_or ds i c.c-item.result - 48) in
    let step : digits_after c.loop-c.value (drop i ds) ≡ digits_after next (drop (i + 1) ds) = digits_after_more c.loop-c.value ds i c.c-item.result (omega arith) in
    let grows : next ≤ digits_after next (drop (i + 1) ds) = digits_after_grows next (drop (i + 1) ds) in
    omega (arith, c.in_default.ensures)

pub returns-in_default-checked_add : goal.returns-in_default-checked_add
returns-in_default-checked_add c =
    let ds = c.args.digits.now in
    let i = c.loop-c.c-index in
    let next = c.loop-c.value * 10 + (get_or ds i c.c-item.result - 48) in
    let step : digits_after c.loop-c.value (drop i ds) ≡ digits_after next (drop (i + 1) ds) = digits_after_more c.loop-c.value ds i c.c-item.result (omega arith) in
    let grows : next ≤ digits_after next (drop (i + 1) ds) = digits_after_grows next (drop (i + 1) ds) in
    omega (arith, c.in_default-checked_add.ensures, c.in-Some.ensures)
