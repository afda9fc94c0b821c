use Rattle.std.proofs.Common.{map, take}
use Rattle.std.specs.String.{string_bytes}
use Rattle.ftp_list.specs.Entries.{contents, IsRead}
use Rattle.ftp_list.specs.Sorts.{IsOfMlsd}
use Rattle.ftp_list.proofs.entries.Listing.of_mlsd.Given as goal

abbrev pub invariant-loop-line : goal.invariant-loop-line
invariant-loop-line l = IsRead IsOfMlsd (map string_bytes (take l.line-index l.lines)) (contents l.listing)
