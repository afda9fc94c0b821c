use Rattle.std.proofs.Common.{◌≡◌, ◌+◌, drop}
use Rattle.ftp_list.specs.Places.{place}
use Rattle.ftp_list.proofs.places.place_of_many.Given as goal

abbrev pub invariant-loop-i : goal.invariant-loop-i
invariant-loop-i l = place l.marker l.text ≡ l.i + place l.marker (drop l.i l.text)
