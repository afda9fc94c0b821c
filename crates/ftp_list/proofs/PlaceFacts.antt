-- Places of a marker, from one character to the next.
use Rattle.std.proofs.Common.{◌≡◌, ℕ, ◌+◌, ◌<◌, true, false, cond, eqb, List, [], ◌∷◌, length, take, drop, get_or, refl, sym, ap, ◌∙◌, arith}
use Rattle.std.specs.Prelude.{◌&&◌, nat_eq}
use Rattle.std.specs.Cmp.Lexicographic.{pointwise}
use Rattle.std.proofs.lemmas.Bool.{eq-eqb, ne_eqb}
use Rattle.std.proofs.lemmas.List.{drop_more, drop_all}
use Rattle.ftp_list.specs.Places.{begins, place}

-- a place where the marker doesn't begin is passed over
pub place_passed : (marker text : List ℕ) (i : ℕ) → i < length text → begins marker (drop i text) ≡ false → place marker (drop i text) ≡ place marker (drop (i + 1) text) + 1
place_passed marker text i lt fails =
    let cut : drop i text ≡ get_or text i 0 ∷ drop (i + 1) text = drop_more text i 0 lt in
    let head : begins marker (get_or text i 0 ∷ drop (i + 1) text) ≡ false = rw cut at fails in
    ap (place marker) cut ∙ ap (λ b. cond b 0 (place marker (drop (i + 1) text) + 1)) head

-- where the marker begins the place is found
pub place_found : (marker text : List ℕ) (i : ℕ) → i < length text → begins marker (drop i text) ≡ true → place marker (drop i text) ≡ 0
place_found marker text i lt fits =
    let cut : drop i text ≡ get_or text i 0 ∷ drop (i + 1) text = drop_more text i 0 lt in
    let head : begins marker (get_or text i 0 ∷ drop (i + 1) text) ≡ true = rw cut at fits in
    ap (place marker) cut ∙ ap (λ b. cond b 0 (place marker (drop (i + 1) text) + 1)) head

-- at the end there is no marker
pub place_end : (marker text : List ℕ) → place marker (drop (length text) text) ≡ 0
place_end marker text = ap (place marker) (drop_all (length text) text (omega arith))

-- a marker of one character, where another character stands
pub one_passed : (only : ℕ) (text : List ℕ) (i : ℕ) → i < length text → (get_or text i 0 ≡ only → ⊥) → place (only ∷ []) (drop i text) ≡ place (only ∷ []) (drop (i + 1) text) + 1
one_passed only text i lt other =
    let cut : drop i text ≡ get_or text i 0 ∷ drop (i + 1) text = drop_more text i 0 lt in
    let differs : eqb only (get_or text i 0) ≡ false = ne_eqb only (get_or text i 0) (λ e. other (sym e)) in
    place_passed (only ∷ []) text i lt (ap (begins (only ∷ [])) cut ∙ ap (λ b. b && true) differs)

-- and where it stands
pub one_found : (only : ℕ) (text : List ℕ) (i : ℕ) → i < length text → get_or text i 0 ≡ only → place (only ∷ []) (drop i text) ≡ 0
one_found only text i lt same =
    let cut : drop i text ≡ get_or text i 0 ∷ drop (i + 1) text = drop_more text i 0 lt in
    let equal : eqb only (get_or text i 0) ≡ true = eq-eqb only (get_or text i 0) (sym same) in
    place_found (only ∷ []) text i lt (ap (begins (only ∷ [])) cut ∙ ap (λ b. b && true) equal)

-- where another character than its first stands the marker doesn't begin
pub other_first : (marker text : List ℕ) (i first : ℕ) → i < length text → 0 < length marker → first ≡ get_or marker 0 first → (get_or text i 0 ≡ first → ⊥) → begins marker (drop i text) ≡ false
other_first [] text i first lt some is other = absurd (omega arith)
other_first (m ∷ ms) text i first lt some is other =
    let cut : drop i text ≡ get_or text i 0 ∷ drop (i + 1) text = drop_more text i 0 lt in
    let differs : eqb m (get_or text i 0) ≡ false = ne_eqb m (get_or text i 0) (λ e. other (sym e ∙ sym is)) in
    ap (begins (m ∷ ms)) cut ∙ ap (λ b. b && pointwise nat_eq ms (take (length ms) (drop (i + 1) text))) differs

-- the empty marker stands at the front
pub empty_first : (marker text : List ℕ) → length marker < 1 → 0 ≡ place marker text
empty_first [] [] l = refl
empty_first [] (c ∷ cs) l = refl
empty_first (m ∷ ms) text l = absurd (omega arith)
