-- Lemmas on a copy from a reader to a writer, CR LF at each line's end.
use Rattle.std.proofs.Common.{append_assoc, append-nil, Result, Ok, Err, OnErr, ◌≡◌, ℕ, Bool, true, false, cond, not, ◌&&◌, ◌==◌, List, [], ◌∷◌, ◌++◌, ◌+◌, ◌-◌, ◌≤◌, ◌<◌, Option, Some, None, IfSome, refl, sym, ap, subst, ◌∙◌, length, arith}
use Rattle.std.specs.Io.KnownBytes.{Appends, Consumes}
use Rattle.std.proofs.KnownBytes.{Appends-trans, Appends-nil, Consumes-nil, Consumes-trans}
use Rattle.std.proofs.lemmas.List.{append_cancel_left, length-append}
use Rattle.ftp_base.specs.Ascii.{on_wire, crlf, converted, ends_in_return, AddsPiece, AppendsFront}
use Rattle.ftp_base.proofs.AsciiLemmas.{crlf-append}

-- bytes from the reader went to the writer as wire bytes, so many of them
pub record Copies (reader reader' writer writer' : Option (List ℕ)) (after : Bool) (count : ℕ) : Type 0 where
  pub given : List ℕ
  pub taken : Consumes reader reader' given
  pub written : Appends writer writer' (crlf given)
  pub last : after ≡ ends_in_return given
  pub counted : count ≡ length (crlf given)

-- nothing was copied yet
pub Copies-start : (reader writer : Option (List ℕ)) → Copies reader reader writer writer (ends_in_return []) 0
Copies-start reader writer = record { given = []; taken = Consumes-nil reader; written = Appends-nil writer; last = refl; counted = refl }

-- each byte has at least one wire byte
pub length-on_wire : (after : Bool) (b : ℕ) → 1 ≤ length (on_wire after b)
length-on_wire after b =
    elim ((b == 10) && not after) as (λ t. 1 ≤ length (cond {A = List ℕ} t (13 ∷ 10 ∷ []) (b ∷ []))) [ true ↦ omega arith | false ↦ omega arith ]

-- bytes have at least as many wire bytes
pub length-converted : (after : Bool) (bytes : List ℕ) → length bytes ≤ length (converted after bytes)
length-converted after [] = omega arith
length-converted after (b ∷ bs) =
    rw (length-append (on_wire after b) (converted (b == 13) bs)) (omega (arith, length-on_wire after b, length-converted (b == 13) bs))

-- what a piece adds is what stands on the wire for it
pub added-is : (before piece old new : List ℕ) (adds : AddsPiece before piece old new) → adds.added ≡ converted (ends_in_return before) piece
added-is before piece old new adds = append_cancel_left (crlf before) _ _ (sym adds.whole ∙ crlf-append before piece)

-- what a piece adds are at least as many bytes
pub added-length : (before piece old new : List ℕ) (adds : AddsPiece before piece old new) → length piece ≤ length adds.added
added-length before piece old new adds = rw (added-is before piece old new adds) (length-converted (ends_in_return before) piece)

-- what was added to nothing
pub added-all : (before piece old new : List ℕ) (adds : AddsPiece before piece old new) → old ≡ [] → new ≡ adds.added
added-all before piece old new adds empty = adds.grown ∙ ap (λ l. l ++ adds.added) empty

-- the next piece was copied
pub Copies-more : (r s t w v u : Option (List ℕ)) (after after' : Bool) (count : ℕ) (piece old new : List ℕ) (copied : Copies r s w v after count) → Consumes s t piece →
    AddsPiece copied.given piece old new → old ≡ [] → Appends v u new → after' ≡ ends_in_return (copied.given ++ piece) → Copies r t w u after' (count + length new)
Copies-more r s t w v u after after' count piece old new copied taken adds empty written last =
    let whole : crlf (copied.given ++ piece) ≡ crlf copied.given ++ new = adds.whole ∙ ap (λ l. crlf copied.given ++ l) (sym (added-all copied.given piece old new adds empty)) in
    record {
      given = copied.given ++ piece;
      taken = Consumes-trans r s t copied.given piece copied.taken taken;
      written = subst (Appends w u) (sym whole) (Appends-trans w v u (crlf copied.given) new copied.written written);
      last = last;
      counted = rw (whole, length-append (crlf copied.given) new) (ap (λ n. n + length new) copied.counted);
    }

-- what comes after bytes makes their wire bytes no shorter
pub length-crlf-append : (before bs : List ℕ) → length (crlf before) ≤ length (crlf (before ++ bs))
length-crlf-append before bs = rw (crlf-append before bs, length-append (crlf before) (converted (ends_in_return before) bs)) (omega arith)

-- where a piece makes the wire bytes too many, so are those of the whole source
pub Copies-too_large : (r s t w v : Option (List ℕ)) (after : Bool) (count : ℕ) (piece old new : List ℕ) (most : ℕ) (copied : Copies r s w v after count) → Consumes s t piece →
    AddsPiece copied.given piece old new → old ≡ [] → most - count < length new → IfSome r (λ source. most < length (crlf source))
Copies-too_large r s t w v after count piece old new most copied taken adds empty more =
    let all : Consumes r t (copied.given ++ piece) = Consumes-trans r s t copied.given piece copied.taken taken in
    let whole : crlf (copied.given ++ piece) ≡ crlf copied.given ++ new = adds.whole ∙ ap (λ l. crlf copied.given ++ l) (sym (added-all copied.given piece old new adds empty)) in
    let long : most < length (crlf (copied.given ++ piece)) = rw (whole, length-append (crlf copied.given) new) (omega (arith, more, copied.counted)) in
    front_too_large r t (copied.given ++ piece) most all long
  where
    front_too_large : (r t : Option (List ℕ)) (front : List ℕ) (most : ℕ) → Consumes r t front → most < length (crlf front) → IfSome r (λ source. most < length (crlf source))
    front_too_large None t front most taken long = tt
    front_too_large (Some xs) None front most taken long = absurd taken
    front_too_large (Some xs) (Some ys) front most taken long = rw taken (omega (arith, long, length-crlf-append front ys))

-- what was copied so far is a front of what stands on the wire for the source, with what went of a piece
pub Copies-front_piece : (r s t w v u : Option (List ℕ)) (after : Bool) (count : ℕ) (piece old new : List ℕ) (copied : Copies r s w v after count) → Consumes s t piece →
    AddsPiece copied.given piece old new → old ≡ [] → AppendsFront v u new → IfSome r (λ source. AppendsFront w u (crlf source))
Copies-front_piece r s t w v u after count piece old new copied taken adds empty went =
    let (front, rest, parts, written) = went in
    let whole : crlf (copied.given ++ piece) ≡ (crlf copied.given ++ front) ++ rest =
    adds.whole ∙ ap (λ l. crlf copied.given ++ l) (sym (added-all copied.given piece old new adds empty) ∙ parts) ∙ sym (append_assoc (crlf copied.given) front rest) in
    front_of_source r t (copied.given ++ piece) (crlf copied.given ++ front) rest w u (Consumes-trans r s t copied.given piece copied.taken taken) whole
    (Appends-trans w v u (crlf copied.given) front copied.written written)
  where
    front_of_source : (r t : Option (List ℕ)) (given front rest : List ℕ) (w u : Option (List ℕ)) → Consumes r t given → crlf given ≡ front ++ rest → Appends w u front →
        IfSome r (λ source. AppendsFront w u (crlf source))
    front_of_source None t given front rest w u taken parts written = tt
    front_of_source (Some xs) None given front rest w u taken parts written = absurd taken
    front_of_source (Some xs) (Some ys) given front rest w u taken parts written = (
      front,
      rest ++ converted (ends_in_return given) ys,
      rw taken (crlf-append given ys ∙ ap (λ l. l ++ converted (ends_in_return given) ys) parts ∙ append_assoc front rest (converted (ends_in_return given) ys)),
      written,
    )

-- what was copied so far is a front of what stands on the wire for the source
pub Copies-front : (r s w v : Option (List ℕ)) (after : Bool) (count : ℕ) → Copies r s w v after count → IfSome r (λ source. AppendsFront w v (crlf source))
Copies-front r s w v after count copied =
    Copies-front_piece r s s w v v after count [] [] [] copied (Consumes-nil s)
    (record { added = []; whole = ap crlf (append-nil copied.given) ∙ sym (append-nil (crlf copied.given)); grown = refl }) refl ([], [], refl, Appends-nil v)

-- what holds anyway holds of an error
pub OnErr-always : {T E : Type 0} (result : Result T E) (P : Type 0) → P → OnErr result P
OnErr-always (Ok value) P holds = tt
OnErr-always (Err error) P holds = holds
