-- The first of the places of a text at which a test passes.
use Rattle.std.proofs.Common.{◌≡◌, ℕ, zero, suc, ◌<◌, Bool, true, false, cond, inl, inr, List, [], ◌∷◌, ◌++◌, refl, sym, ap, ◌∙◌, arith}
use Rattle.std.specs.Prelude.{Some, None, find}
use Rattle.std.proofs.lemmas.Bool.{cases_Bool, cases_order}
use Rattle.ftp_calls.specs.Times.{places}

-- where none of the others passes, the last is tried
find_last : (test : ℕ → Bool) (xs : List ℕ) (x : ℕ) → find test xs ≡ None → find test (xs ++ x ∷ []) ≡ cond (test x) (Some x) None
find_last test [] x none = refl
find_last test (y ∷ ys) x none =
    elim (cases_Bool (test y)) [
      | inl passes ↦ (let both : Some y ≡ None = sym (ap (λ b. cond b (Some y) (find test ys)) passes) ∙ none in cc both)
      | inr other ↦ ap (λ b. cond b (Some y) (find test (ys ++ x ∷ []))) other
          ∙ find_last test ys x (sym (ap (λ b. cond b (Some y) (find test ys)) other) ∙ none)
    ]

-- what was found is found in more
find_kept : (test : ℕ → Bool) (xs : List ℕ) (x found : ℕ) → find test xs ≡ Some found → find test (xs ++ x ∷ []) ≡ Some found
find_kept test [] x found is = cc is
find_kept test (y ∷ ys) x found is =
    elim (cases_Bool (test y)) [
      | inl passes ↦ ap (λ b. cond b (Some y) (find test (ys ++ x ∷ []))) passes ∙ (sym (ap (λ b. cond b (Some y) (find test ys)) passes) ∙ is)
      | inr other ↦ ap (λ b. cond b (Some y) (find test (ys ++ x ∷ []))) other
          ∙ find_kept test ys x found (sym (ap (λ b. cond b (Some y) (find test ys)) other) ∙ is)
    ]

-- no place passes
pub no_place : (test : ℕ → Bool) (n : ℕ) → ((k : ℕ) → k < n → test k ≡ false) → find test (places n) ≡ None
no_place test zero none = refl
no_place test (suc n) none =
    find_last test (places n) n (no_place test n (λ k lt. none k (omega (arith, lt)))) ∙ ap (λ b. cond b (Some n) None) (none n (omega arith))

-- a place passes, and none before it
pub first_place : (test : ℕ → Bool) (n place : ℕ) → place < n → test place ≡ true → ((k : ℕ) → k < place → test k ≡ false) → find test (places n) ≡ Some place
first_place test zero place lt is none = absurd (omega (arith, lt))
first_place test (suc n) place lt is none =
    elim (cases_order place n) [
      | inl same ↦ find_last test (places n) n (no_place test n (λ k low. none k (omega (arith, low, same))))
          ∙ ap (λ b. cond b (Some n) None) (sym (ap test same) ∙ is) ∙ ap Some (sym same)
      | inr apart ↦ elim apart [
        | inl less ↦ find_kept test (places n) n place (first_place test n place less is none)
        | inr more ↦ absurd (omega (arith, lt, more))
      ]
    ]
