use Rattle.std.proofs.Common.{◌≡◌, length}
use Rattle.ftp_list.specs.Facts.{with_facts}
use Rattle.ftp_list.specs.OwnTypes.{other_facts}
use Rattle.ftp_list.proofs.own_types.with_other_facts.Given as goal

abbrev pub invariant-pieces : goal.invariant-pieces
invariant-pieces l = with_facts l.fn.file (other_facts l.fn.text) ≡ with_facts l.file (other_facts l.left)

abbrev pub decreases-pieces : goal.decreases-pieces
decreases-pieces l = length l.left
