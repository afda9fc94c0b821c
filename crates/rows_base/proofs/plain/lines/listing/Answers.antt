use Rattle.std.proofs.Common.{◌≡◌, ◌∙◌, ◌<◌, ◌+◌, ◌++◌, ◌∷◌, [], ℕ, List, length, take, map, get_or, string_bytes, sym, ap, arith}
use Rattle.std.specs.Prelude.{filter}
use Rattle.std.proofs.lemmas.List.{take_more, get_or-map, length-map}
use Rattle.ftp_calls.specs.Answers.{without_return}
use Rattle.ftp_calls.specs.Listing.{is_not_empty}
use Rattle.ftp_calls.proofs.ListingFacts.{lines_from, lines_from-append}
use Rattle.rows_base.proofs.plain.lines.listing.Goals as goal

-- the lines of the pieces so far and of the next are those of one piece more
next_piece : {A : Type 0} (decode : List ℕ → List ℕ) (text : A → List ℕ) (items : List A) (i : ℕ) (d : A) (line : List ℕ) → i < length items → line ≡ without_return (text (get_or items i d)) →
    lines_from decode (take i (map text items)) ++ map decode (filter is_not_empty (line ∷ [])) ≡ lines_from decode (take (i + 1) (map text items))
next_piece decode text items i d line within is =
    let parts = map text items in
    ap (λ (l : List ℕ). lines_from decode (take i parts) ++ map decode (filter is_not_empty (l ∷ []))) (is ∙ ap without_return (sym (get_or-map text items i d (text d) within)))
    ∙ sym (lines_from-append decode (take i parts) (get_or parts i (text d) ∷ []))
    ∙ ap (lines_from decode) (sym (take_more parts i (text d) (omega (arith, within, length-map items text))))

-- lines that grew, in other words
grown : (before after lines new added : List (List ℕ)) → new ≡ lines ++ added → lines ≡ before → before ++ added ≡ after → new ≡ after
grown before after lines new added grows same is = grows ∙ ap (λ (l : List (List ℕ)). l ++ added) same ∙ is

pub loop-piece-preserved : goal.loop-piece-preserved
loop-piece-preserved g c =
    grown _ _ _ _ _ c.in_ok-push_unless_empty.ensures c.loop-piece.invariant
    (next_piece (g.E.Encoding.decoded c.args.encoding.now) (λ piece. piece.now) c.deref-piece-items.result.now c.loop-piece.piece-index _ c.without_return.result.now c.loop-piece-test.true c.without_return.ensures)
