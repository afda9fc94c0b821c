-- Where parts begin.
use Rattle.std.proofs.Common.{◌≡◌, ℕ, zero, suc, ◌+◌, ◌-◌, ◌<◌, ◌≤◌, List, [], ◌∷◌, length, take, drop, get_or, refl, sym, ◌∙◌, ap, arith, inl, inr}
use Rattle.std.specs.Prelude.{◌⊎◌, min}
use Rattle.std.proofs.Math.ListN.{set}
use Rattle.std.proofs.lemmas.Bool.{cases_lt}
use Rattle.std.proofs.lemmas.List.{drop_more, drop-drop, drop_all, get_or-set_same, get_or-set_other, length-set}
use Rattle.ftp_list.specs.Split.{part}
use Rattle.ftp_list.specs.Rows.{AreStarts, AreStartsSoFar}

-- past the last part there is nothing
pub part_past : (k : ℕ) (lengths text : List ℕ) → length lengths ≤ k → part k lengths text ≡ []
part_past k [] text l = refl
part_past zero (n ∷ lengths) text l = absurd (omega arith)
part_past (suc k) (n ∷ lengths) text l = part_past k lengths (drop n text) (omega arith)

-- a part by its place
pub part_there : (starts lengths text : List ℕ) (k d : ℕ) → AreStarts starts lengths text → k < length lengths → k < 18 → part k lengths text ≡ take (get_or lengths k d) (drop (get_or starts k 0) text)
part_there starts lengths text k d are lt known =
    let plain : k + 0 ≡ k = omega arith in
    let cut : drop k lengths ≡ get_or lengths k d ∷ drop (k + 1) lengths = drop_more lengths k d lt in
    ap (λ j. part j lengths text) (sym plain) ∙ are.at k 0 lt known ∙ ap (λ (ls : List ℕ). part 0 ls (drop (get_or starts k 0) text)) cut

drop_cases : (text : List ℕ) (start n : ℕ) → start ≤ length text → (n < length text - start) ⊎ (length text - start ≤ n) → drop (start + n) text ≡ drop (start + min n (length text - start)) text
drop_cases text start n l (inl lt) = let same : min n (length text - start) ≡ n = omega arith in ap (λ k. drop (start + k) text) (sym same)
drop_cases text start n l (inr ge) = drop_all (start + n) text (omega arith) ∙ sym (drop_all (start + min n (length text - start)) text (omega arith))

here_more : (starts lengths text : List ℕ) (i start n : ℕ) → i < length lengths → n ≡ get_or lengths i n → AreStartsSoFar starts lengths text i start → (k : ℕ) → part ((i + 1) + k) lengths text ≡ part k (drop (i + 1) lengths) (drop (start + min n (length text - start)) text)
here_more starts lengths text i start n lt e so k =
    let place : (i + 1) + k ≡ i + suc k = omega arith in
    let cut : drop i lengths ≡ n ∷ drop (i + 1) lengths = drop_more lengths i n lt ∙ ap (λ m. m ∷ drop (i + 1) lengths) (sym e) in
    ap (λ j. part j lengths text) place
    ∙ so.here (suc k)
    ∙ ap (λ (ls : List ℕ). part (suc k) ls (drop start text)) cut
    ∙ ap (λ (t : List ℕ). part k (drop (i + 1) lengths) t) (drop-drop n start text ∙ drop_cases text start n so.within (cases_lt n (length text - start)))

before_more : (starts lengths text : List ℕ) (i start : ℕ) → i < 18 → AreStartsSoFar starts lengths text i start → (j k : ℕ) → (j < i) ⊎ (i ≤ j) → j < i + 1 → part (j + k) lengths text ≡ part k (drop j lengths) (drop (get_or (set starts i start) j 0) text)
before_more starts lengths text i start known so j k (inl lt) h =
    let other : j ≡ i → ⊥ = λ e. omega arith in
    so.before j k lt ∙ ap (λ m. part k (drop j lengths) (drop m text)) (sym (get_or-set_other starts i j start 0 other))
before_more starts lengths text i start known so j k (inr ge) h =
    let same : j ≡ i = omega arith in
    let count : length starts ≡ 18 = so.count in
    let read : get_or (set starts i start) j 0 ≡ start = ap (λ m. get_or (set starts i start) m 0) same ∙ get_or-set_same starts i start 0 (omega arith) in
    ap (λ m. part (m + k) lengths text) same
    ∙ so.here k
    ∙ ap (λ m. part k (drop m lengths) (drop start text)) (sym same)
    ∙ ap (λ m. part k (drop j lengths) (drop m text)) (sym read)

-- one part more
pub starts_more : (starts lengths text : List ℕ) (i start n : ℕ) → i < length lengths → i < 18 → n ≡ get_or lengths i n → AreStartsSoFar starts lengths text i start → AreStartsSoFar (set starts i start) lengths text (i + 1) (start + min n (length text - start))
starts_more starts lengths text i start n lt known e so =
    let w : start ≤ length text = so.within in
    record {
      count = length-set starts i start ∙ so.count;
      within = omega arith;
      before = λ j k h. before_more starts lengths text i start known so j k (cases_lt j i) h;
      here = here_more starts lengths text i start n lt e so;
    }
