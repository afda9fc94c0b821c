use Rattle.std.proofs.Common.{◌≡◌, length}
use Rattle.ftp_list.specs.Facts.{facts, with_facts}
use Rattle.ftp_list.proofs.facts.with_all_facts.Given as goal

abbrev pub invariant-pieces : goal.invariant-pieces
invariant-pieces l = with_facts l.fn.file (facts l.text) ≡ with_facts l.file (facts l.left)

abbrev pub decreases-pieces : goal.decreases-pieces
decreases-pieces l = length l.left
