use Rattle.std.specs.Prelude.{◌≡◌, ◌++◌, length, map, string_bytes}
use Rattle.ftp_calls.specs.Listing.{listing}
use Rattle.ftp_calls.proofs.answers.listing.read_listing.Given as goal

abbrev pub invariant-loop-end : goal.invariant-loop-end
invariant-loop-end g l =
    map string_bytes l.lines.items ++ listing (g.E.Encoding.decoded l.encoding) l.rest ≡ listing (g.E.Encoding.decoded l.encoding) l.fn.bytes

abbrev pub decreases-loop-end : goal.decreases-loop-end
decreases-loop-end g l = length l.rest
