use Rattle.std.proofs.Common.{◌∙◌, ◌∷◌, [], ◌++◌, not, map, string_bytes, sym, ap}
use Rattle.std.proofs.lemmas.List.{map-append}
use Rattle.ftp_calls.proofs.ListingFacts.{listing_line}
use Rattle.ftp_calls.proofs.answers.listing.push_line.Goals as goal

pub returns-in_ok-push : goal.returns-in_ok-push
returns-in_ok-push g c =
    let decode = g.E.Encoding.decoded c.args.encoding.now in
    let line = listing_line decode c.args.piece.now c.before_return-line.result.now c.requires c.before_return-line.ensures (ap not (sym c.is_empty.ensures ∙ c.if-not-is_empty.true)) in
    ap (map string_bytes) c.in_ok-push.ensures.items ∙ map-append string_bytes c.args.lines.now.items (c.in_ok-decode.field-0 ∷ [])
    ∙ ap (λ l. map string_bytes c.args.lines.now.items ++ l ∷ []) c.in_ok-decode.ensures ∙ ap (λ l. map string_bytes c.args.lines.now.items ++ l) (sym line)
