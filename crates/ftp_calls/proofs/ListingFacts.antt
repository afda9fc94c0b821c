-- The lines of a listing, piece by piece.
use Rattle.std.proofs.Common.{◌≡◌, ℕ, suc, ◌+◌, ◌<◌, ◌≤◌, Bool, true, false, cond, List, [], ◌∷◌, ◌++◌, ◌-◌, length, map, take, drop, get_or, refl, sym, ap, ◌∙◌, arith}
use Rattle.std.specs.Prelude.{filter}
use Rattle.std.specs.List.{All}
use Rattle.std.proofs.Math.Seq.{split_at}
use Rattle.std.proofs.lemmas.List.{get_or-take, get_or_default, length-take-le, length-drop, drop-drop, take_all, map-append}
use Rattle.std.proofs.lemmas.List.Elements.{filter-append}
use Rattle.std.proofs.lemmas.List.Splits.{slice_split_at, slice_split_none}
use Rattle.ftp_calls.specs.Answers.{is_line_feed, without_return}
use Rattle.ftp_calls.specs.Listing.{pieces, is_not_empty, listing}

-- no byte is LF
abbrev pub HasNoLineFeed : List ℕ → Type 0
HasNoLineFeed bytes = All (λ byte. is_line_feed byte ≡ false) bytes

not_true : (b : Bool) → (b ≡ true → ⊥) → b ≡ false
not_true true never = absurd (never refl)
not_true false never = refl

-- LF at no place
pub no_line_feed : (bytes : List ℕ) → ((k : ℕ) → k < length bytes → is_line_feed (get_or bytes k 0) ≡ true → ⊥) → HasNoLineFeed bytes
no_line_feed bytes none k d low = ap is_line_feed (get_or_default bytes k d 0 low) ∙ not_true (is_line_feed (get_or bytes k 0)) (none k low)

-- the bytes before the first LF have none
before_line_feed : (bytes : List ℕ) (end : ℕ) → end ≤ length bytes → ((k : ℕ) → k < end → is_line_feed (get_or bytes k 0) ≡ true → ⊥) → HasNoLineFeed (take end bytes)
before_line_feed bytes end within none =
    let long : length (take end bytes) ≡ end = length-take-le end bytes within in
    no_line_feed (take end bytes) (λ k low passes.
    let less : k < end = omega (arith, low, long) in
    none k less (ap is_line_feed (sym (get_or-take end bytes k 0 less)) ∙ passes))

-- the lines of these pieces
abbrev pub lines_from : (List ℕ → List ℕ) → List (List ℕ) → List (List ℕ)
lines_from decode parts = map decode (filter is_not_empty (map without_return parts))

-- the lines of pieces and of those after them
pub lines_from-append : (decode : List ℕ → List ℕ) (parts more : List (List ℕ)) → lines_from decode (parts ++ more) ≡ lines_from decode parts ++ lines_from decode more
lines_from-append decode parts more =
    ap (λ (l : List (List ℕ)). map decode (filter is_not_empty l)) (map-append without_return parts more)
    ∙ ap (map decode) (filter-append is_not_empty (map without_return parts) (map without_return more))
    ∙ map-append decode (filter is_not_empty (map without_return parts)) (filter is_not_empty (map without_return more))

-- bytes without LF are one piece
pub listing_alone : (decode : List ℕ → List ℕ) (bytes : List ℕ) → HasNoLineFeed bytes → listing decode bytes ≡ lines_from decode (bytes ∷ [])
listing_alone decode bytes none = ap (lines_from decode) (slice_split_none is_line_feed bytes none)

-- the piece before the first LF comes first
pub listing_first : (decode : List ℕ → List ℕ) (bytes : List ℕ) (end : ℕ) → end < length bytes → HasNoLineFeed (take end bytes) → is_line_feed (get_or bytes end 0) ≡ true →
    listing decode bytes ≡ listing decode (take end bytes) ++ listing decode (drop (suc end) bytes)
listing_first decode bytes end within none is =
    ap (listing decode) (split_at bytes end 0 within)
    ∙ ap (lines_from decode) (slice_split_at is_line_feed (take end bytes) (get_or bytes end 0) (drop (suc end) bytes) none is)
    ∙ lines_from-append decode (take end bytes ∷ []) (pieces (drop (suc end) bytes))
    ∙ ap (λ l. l ++ listing decode (drop (suc end) bytes)) (sym (listing_alone decode (take end bytes) none))

-- the same where the bytes were cut before the LF, and after it
pub listing_next : (decode : List ℕ → List ℕ) (bytes front after : List ℕ) (end : ℕ) → end < length bytes → ((k : ℕ) → k < end → is_line_feed (get_or bytes k 0) ≡ true → ⊥) →
    is_line_feed (get_or bytes end 0) ≡ true → front ≡ take end bytes → after ≡ drop end bytes →
    listing decode front ++ listing decode (take (length after - 1) (drop 1 after)) ≡ listing decode bytes
listing_next decode bytes front after end within none is before behind =
    let same : end + 1 ≡ suc end = omega arith in
    let left : take (length after - 1) (drop 1 after) ≡ drop (suc end) bytes =
    take_all (length after - 1) (drop 1 after) (omega (arith, length-drop 1 after)) ∙ ap (drop 1) behind ∙ drop-drop 1 end bytes ∙ ap (λ n. drop n bytes) same in
    ap (λ l. listing decode front ++ listing decode l) left ∙ ap (λ l. listing decode l ++ listing decode (drop (suc end) bytes)) before
    ∙ sym (listing_first decode bytes end within (before_line_feed bytes end (omega (arith, within)) none) is)

-- a line that isn't empty is decoded
pub listing_line : (decode : List ℕ → List ℕ) (bytes line : List ℕ) → HasNoLineFeed bytes → line ≡ without_return bytes → is_not_empty line ≡ true → listing decode bytes ≡ decode line ∷ []
listing_line decode bytes line none is some =
    listing_alone decode bytes none
    ∙ ap (λ l. map decode (filter is_not_empty (l ∷ []))) (sym is)
    ∙ ap (λ b. map decode (cond b (line ∷ []) [])) some
