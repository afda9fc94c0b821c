use Rattle.std.proofs.Common.{◌≡◌, ◌<◌, ◌^◌, drop}
use Rattle.ftp_list.specs.Numbers.{digits_after}
use Rattle.ftp_list.proofs.numbers.value_of.Given as goal

abbrev pub invariant-loop-c : goal.invariant-loop-c
invariant-loop-c l = (l.value < 2 ^ 64) × (digits_after l.value (drop l.c-index l.digits) ≡ digits_after 0 l.digits)
