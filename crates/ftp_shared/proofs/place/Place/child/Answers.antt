use Rattle.std.proofs.Common.{arith}
use Rattle.std.proofs.lemmas.Grind.{common_steps}
use Rattle.ftp_shared.proofs.PlaceFacts.{are_plain-push}
use Rattle.ftp_shared.proofs.place.Place.child.Goals as goal

pub invariant_of-result : goal.invariant_of-result
invariant_of-result c =
    rw c.in_ok-push.ensures.items (are_plain-push c.names.inside.names.items c.in_ok-from_str.field-0 c.names.invariant (grind (arith, common_steps)))
