use Rattle.std.proofs.Common.{map, take}
use Rattle.std.specs.String.{string_bytes}
use Rattle.ftp_list.specs.Entries.{contents, entries, IsRead}
use Rattle.ftp_list.specs.Sorts.{IsOfList}
use Rattle.ftp_list.proofs.entries.Listing.of_list.Given as goal

abbrev pub invariant-loop-line : goal.invariant-loop-line
invariant-loop-line l =
    IsRead (IsOfList l.now.nanosecond) (entries (map string_bytes (take l.line-index l.lines))) (contents l.listing)
