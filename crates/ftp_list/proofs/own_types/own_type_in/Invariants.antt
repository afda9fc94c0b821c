use Rattle.std.proofs.Common.{◌≡◌, length}
use Rattle.std.specs.List.{fold}
use Rattle.std.specs.Option.{option_map}
use Rattle.ftp_list.specs.OwnTypes.{own_after, own_type, pieces}
use Rattle.ftp_list.proofs.own_types.own_type_in.Given as goal

abbrev pub invariant-pieces : goal.invariant-pieces
invariant-pieces l = own_type l.fn.text ≡ fold own_after (option_map (λ value. value.now) l.found) (pieces l.left)

abbrev pub decreases-pieces : goal.decreases-pieces
decreases-pieces l = length l.left
