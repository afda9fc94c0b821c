use Rattle.std.proofs.Common.{◌≡◌, ◌+◌, drop}
use Rattle.ftp_list.specs.Dates.{number_among}
use Rattle.ftp_list.proofs.dates.number_in.Given as goal

abbrev pub invariant-loop-i : goal.invariant-loop-i
invariant-loop-i l = number_among (l.i + 1) (drop l.i l.names) l.text ≡ number_among 1 l.names l.text
