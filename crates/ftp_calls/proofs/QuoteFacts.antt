-- What stands in quotes, and what the end of a line is.
use Rattle.std.proofs.Common.{◌≡◌, ◌≢◌, ℕ, suc, ◌+◌, ◌-◌, ◌<◌, Bool, true, false, cond, eqb, inl, inr, ◌⊎◌, List, [], ◌∷◌, ◌++◌, length, take, get_or, refl, sym, ap, ◌∙◌, arith}
use Rattle.std.specs.Prelude.{Some, None, not}
use Rattle.std.specs.List.{list_any, after_first, before_last, suffix_len}
use Rattle.std.proofs.lemmas.Bool.{cases_Bool, ne_eqb, eq-eqb, eqb-true}
use Rattle.std.proofs.lemmas.List.{take_more, take_all, get_or_past}
use Rattle.std.proofs.lemmas.List.Folds.{list_any_at}
use Rattle.std.proofs.lemmas.List.Sums.{suffix_len_is}
use Rattle.ftp_calls.specs.Answers.{is_quote, quoted, without_return}

-- a `cond` whose test is known
pub if_passed : {A : Type 0} (b : Bool) (x y : A) → b ≡ true → x ≡ cond b x y
if_passed b x y e = ap (λ t. cond t x y) (sym e)

pub if_failed : {A : Type 0} (b : Bool) (x y : A) → b ≡ false → y ≡ cond b x y
if_failed b x y e = ap (λ t. cond t x y) (sym e)

-- no byte of a text is a quote
no_quotes : (xs : List ℕ) → ((i : ℕ) → i < length xs → get_or xs i 0 ≢ 34) → list_any is_quote xs ≡ false
no_quotes [] none = refl
no_quotes (x ∷ xs) none =
    let head : eqb x 34 ≡ false = ne_eqb x 34 (none 0 (omega arith)) in
    let tail : list_any is_quote xs ≡ false = no_quotes xs (λ i lt. none (suc i) (omega (arith, lt))) in
    rw (head, tail) refl

-- after the first quote stands no other
pub not_quoted : (text opened : List ℕ) → opened ≡ after_first is_quote text → ((i : ℕ) → i < length opened → get_or opened i 0 ≢ 34) → None ≡ quoted text
not_quoted text opened is none =
    if_failed (list_any is_quote (after_first is_quote text)) (Some (before_last is_quote (after_first is_quote text))) None
    (ap (list_any is_quote) (sym is) ∙ no_quotes opened none)

-- what stands before the last quote
before_quote : (xs : List ℕ) (k : ℕ) → k < length xs → get_or xs k 0 ≡ 34 → ((i : ℕ) → k < i → i < length xs → get_or xs i 0 ≢ 34) → take k xs ≡ before_last is_quote xs
before_quote xs k lt is none =
    let last : suffix_len (λ x. not (is_quote x)) xs ≡ length xs - (k + 1) =
    suffix_len_is (λ x. not (is_quote x)) xs (k + 1) 0 (omega (arith, lt))
    (λ i low high. ap not (ne_eqb (get_or xs i 0) 34 (none i (omega (arith, low)) high)))
    (λ _. let at : k + 1 - 1 ≡ k = omega arith in rw at (ap not (eq-eqb (get_or xs k 0) 34 is))) in
    let place : k ≡ length xs - suffix_len (λ x. not (is_quote x)) xs - 1 = omega (arith, last, lt) in
    ap (λ n. take n xs) place

-- after the first quote stands another, and the last is at k
pub is_quoted : (text opened : List ℕ) (k : ℕ) → opened ≡ after_first is_quote text → k < length opened → get_or opened k 0 ≡ 34 →
    ((i : ℕ) → k < i → i < length opened → get_or opened i 0 ≢ 34) → Some (take k opened) ≡ quoted text
is_quoted text opened k is lt at none =
    ap Some (before_quote opened k lt at none ∙ ap (before_last is_quote) is)
    ∙ if_passed (list_any is_quote (after_first is_quote text)) (Some (before_last is_quote (after_first is_quote text))) None
    (ap (list_any is_quote) (sym is) ∙ list_any_at is_quote opened k 0 lt (eq-eqb (get_or opened k 0) 34 at))

-- a line that no CR ends
pub no_return : (line : List ℕ) → ((front : List ℕ) → line ≢ front ++ 13 ∷ []) → line ≡ without_return line
no_return line none =
    elim (cases_Bool (eqb (get_or line (length line - 1) 0) 13)) [
      | inr other ↦ if_failed (eqb (get_or line (length line - 1) 0) 13) (take (length line - 1) line) line other
      | inl same ↦ (let is : get_or line (length line - 1) 0 ≡ 13 = eqb-true (get_or line (length line - 1) 0) 13 same in
          elim (cases_empty line) [
            | inl empty ↦ absurd (let past : get_or line (length line - 1) 0 ≡ 0 = get_or_past line (length line - 1) 0 (omega (arith, empty)) in omega (arith, past, is))
            | inr some ↦ absurd (none (take (length line - 1) line)
                (sym (take_all (length line - 1 + 1) line (omega arith)) ∙ take_more line (length line - 1) 0 (omega (arith, some)) ∙ ap (λ b. take (length line - 1) line ++ b ∷ []) is))
          ])
    ]
  where
    cases_empty : (xs : List ℕ) → (length xs ≡ 0) ⊎ (0 < length xs)
    cases_empty [] = inl refl
    cases_empty (x ∷ xs) = inr (omega arith)
