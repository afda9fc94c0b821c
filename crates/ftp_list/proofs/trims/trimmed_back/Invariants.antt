use Rattle.std.proofs.Common.{◌≡◌, ◌≤◌, length, take}
use Rattle.ftp_list.specs.Texts.{trim_back}
use Rattle.ftp_list.proofs.trims.trimmed_back.Given as goal

abbrev pub invariant-loop-count : goal.invariant-loop-count
invariant-loop-count l = (l.count ≤ length l.text) × (trim_back (take l.count l.text) ≡ trim_back l.text)

abbrev pub decreases-loop-count : goal.decreases-loop-count
decreases-loop-count l = l.count
