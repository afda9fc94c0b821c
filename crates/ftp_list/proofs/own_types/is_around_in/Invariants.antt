use Rattle.std.proofs.Common.{◌≡◌, length}
use Rattle.std.specs.List.{fold}
use Rattle.ftp_list.specs.OwnTypes.{around_after, says_around, pieces}
use Rattle.ftp_list.proofs.own_types.is_around_in.Given as goal

abbrev pub invariant-pieces : goal.invariant-pieces
invariant-pieces l = says_around l.fn.text ≡ fold around_after l.so (pieces l.left)

abbrev pub decreases-pieces : goal.decreases-pieces
decreases-pieces l = length l.left
