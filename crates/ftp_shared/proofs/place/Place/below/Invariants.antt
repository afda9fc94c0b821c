use Rattle.std.proofs.Common.{◌≡◌, drop, string_bytes}
use Rattle.ftp_shared.specs.Places.{joined}
use Rattle.ftp_shared.proofs.place.Place.below.Given as goal

-- what is written so far and the names that are left make the path
abbrev pub invariant-loop-name : goal.invariant-loop-name
invariant-loop-name l = joined (string_bytes l.path) (drop l.name-index l.names) ≡ joined l.fn.folder l.names
