use Rattle.std.proofs.Common.{◌≡◌, take, map, string_bytes}
use Rattle.ftp_calls.proofs.ListingFacts.{lines_from}
use Rattle.rows_base.proofs.plain.lines.listing.Given as goal

abbrev pub invariant-loop-piece : goal.invariant-loop-piece
invariant-loop-piece g l =
    map string_bytes l.lines.items ≡ lines_from (g.E.Encoding.decoded l.encoding) (take l.piece-index (map (λ piece. piece.now) l.piece-items))
