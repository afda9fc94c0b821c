-- Lines by their numbers.
use Rattle.std.proofs.Common.{◌≡◌, ◌<◌, ◌≤◌, ◌+◌, ◌-◌, ℕ, List, [], ◌∷◌, length, drop, refl, sym, ap, ◌∙◌, arith}
use Rattle.std.proofs.lemmas.List.{drop-drop, drop_all}

-- the lines after one of them
pub later_lines : (n : ℕ) (all : List (List ℕ)) (line : List ℕ) (lines : List (List ℕ)) → drop n all ≡ line ∷ lines → drop (n + 1) all ≡ lines
later_lines n all line lines e = sym (drop-drop 1 n all) ∙ ap (drop 1) e

-- none comes after the last
pub none_later : (n m : ℕ) (all : List (List ℕ)) (line : List ℕ) → n < m → drop n all ≡ line ∷ [] → drop m all ≡ []
none_later n m all line less e =
    let rest : n + (m - n) ≡ m = omega (arith, less) in
    let one : length (line ∷ []) ≡ 1 = refl in
    ap (λ i. drop i all) (sym rest) ∙ sym (drop-drop (m - n) n all) ∙ ap (drop (m - n)) e ∙ drop_all (m - n) (line ∷ []) (omega (arith, less, one))
