use Rattle.std.proofs.Common.{◌∙◌, ◌++◌, ◌-◌, length, take, drop, map, string_bytes, append_assoc, ap, arith}
use Rattle.ftp_calls.specs.Listing.{listing}
use Rattle.ftp_calls.proofs.ListingFacts.{listing_next, no_line_feed}
use Rattle.ftp_calls.proofs.answers.listing.read_listing.Goals as goal

pub loop-end-preserved : goal.loop-end-preserved
loop-end-preserved g c =
    let decode = g.E.Encoding.decoded c.args.encoding.now in
    let lines = map string_bytes c.loop-end.lines.items in
    let piece = c.split_at.result.0.now in
    let after = c.split_at.result.1.now in
    let left = listing decode (take (length after - 1) (drop 1 after)) in
    let found = c.in-Some.ensures in
    ap (λ l. l ++ left) c.in_ok-push_line.ensures
    ∙ append_assoc lines (listing decode piece) left
    ∙ ap (λ l. lines ++ l) (listing_next decode c.loop-end.rest.now piece after c.in-Some.end found.0.high (λ k low. found.0.before k (omega arith) low) found.1 c.split_at.ensures.front c.split_at.ensures.back)
    ∙ c.loop-end.invariant

pub push_line-requires-2 : goal.push_line-requires-2
push_line-requires-2 g c = no_line_feed c.loop-end.rest.now (λ k low. c.in_default.ensures k (omega arith) low)
