-- How long a part can be.
use Rattle.std.proofs.Common.{◌≡◌, ℕ, zero, suc, ◌+◌, ◌-◌, ◌<◌, ◌≤◌, Bool, true, false, cond, List, [], ◌∷◌, length, take, refl, sym, ◌∙◌, ap, arith, leb, get_or, inl, inr}
use Rattle.std.specs.Prelude.{◌&&◌, MatchOption, ⊤, Option, None, Some}
use Rattle.std.specs.List.{prefix_len, list_all}
use Rattle.std.proofs.lemmas.Bool.{false≢true, leb-true, le-leb, cases_lt}
use Rattle.std.proofs.lemmas.List.{length-take, length-take-le, take-take}
use Rattle.ftp_list.specs.declared.class.Class.{Class}
use Rattle.ftp_list.specs.declared.shape.Form.TheVariants.{Between}
use Rattle.ftp_list.specs.declared.shape.Shape.TheVariants.{OneOrMore, AnyNumber, Short}
use Rattle.ftp_list.specs.Shapes.{is_in, is_form, all_in}
use Rattle.ftp_list.specs.Rows.{Fits, IsGreatestOpen}

all_step : (b : Bool) (k n : ℕ) (rest : Bool) → (n ≤ k → rest ≡ true) → suc n ≤ cond b (1 + k) 0 → (b && rest) ≡ true
all_step true k n rest h l = h (omega arith)
all_step false k n rest h l = absurd (omega arith)

-- all of a front within the run belong to the class
pub all_within : (p : ℕ → Bool) (text : List ℕ) (n : ℕ) → n ≤ prefix_len p text → list_all p (take n text) ≡ true
all_within p text zero h = refl
all_within p [] (suc n) h = refl
all_within p (x ∷ xs) (suc n) h = all_step (p x) (prefix_len p xs) n (list_all p (take n xs)) (all_within p xs n) h

run_step : (b : Bool) (k n : ℕ) (rest : Bool) → (rest ≡ true → n ≤ k) → (b && rest) ≡ true → suc n ≤ cond b (1 + k) 0
run_step true k n rest h e = let l : n ≤ k = h e in omega arith
run_step false k n rest h e = absurd (false≢true e)

-- a front that has only the class is within the run
pub within_run : (p : ℕ → Bool) (text : List ℕ) (n : ℕ) → n ≤ length text → list_all p (take n text) ≡ true → n ≤ prefix_len p text
within_run p text zero l h = omega arith
within_run p [] (suc n) l h = l
within_run p (x ∷ xs) (suc n) l h = run_step (p x) (prefix_len p xs) n (list_all p (take n xs)) (within_run p xs n (omega arith)) h

both : (a b : Bool) → a ≡ true → b ≡ true → (a && b) ≡ true
both true true e f = refl
both true false e f = f
both false b e f = e

first_of_both : (a b : Bool) → (a && b) ≡ true → a ≡ true
first_of_both true b e = refl
first_of_both false b e = e

second_of_both : (a b : Bool) → (a && b) ≡ true → b ≡ true
second_of_both true b e = e
second_of_both false b e = absurd (false≢true e)

-- within the run any number fits
pub any_fits : (class : Class) (text : List ℕ) (n : ℕ) → n ≤ prefix_len (is_in class) text → n ≤ length text → Fits (AnyNumber class) text n
any_fits class text n h l = record { within = l; shaped = all_within (is_in class) text n h }

-- and from one on one or more
pub one_fits : (class : Class) (text : List ℕ) (n : ℕ) → 1 ≤ n → n ≤ prefix_len (is_in class) text → n ≤ length text → Fits (OneOrMore class) text n
one_fits class text n o h l =
    let counted : 1 ≤ length (take n text) = rw (length-take-le n text l) o in
    record { within = l; shaped = both (leb 1 (length (take n text))) (all_in class (take n text)) (le-leb 1 (length (take n text)) counted) (all_within (is_in class) text n h) }

-- what fits is within the run
pub any_bounded : (class : Class) (text : List ℕ) (n : ℕ) → Fits (AnyNumber class) text n → n ≤ prefix_len (is_in class) text
any_bounded class text n f = within_run (is_in class) text n f.within f.shaped

pub one_bounded : (class : Class) (text : List ℕ) (n : ℕ) → Fits (OneOrMore class) text n → n ≤ prefix_len (is_in class) text
one_bounded class text n f =
    within_run (is_in class) text n f.within (second_of_both (leb 1 (length (take n text))) (all_in class (take n text)) f.shaped)

-- and has at least one character
pub one_positive : (class : Class) (text : List ℕ) (n : ℕ) → Fits (OneOrMore class) text n → 1 ≤ n
one_positive class text n f =
    let counted : 1 ≤ length (take n text) = leb-true 1 (length (take n text)) (first_of_both (leb 1 (length (take n text))) (all_in class (take n text)) f.shaped) in
    rw (length-take-le n text f.within) at counted

-- the run is the longest part of any number
pub longest_any : (class : Class) (text : List ℕ) (n : ℕ) → n ≡ prefix_len (is_in class) text → n ≤ length text → Fits (AnyNumber class) text n × ((m : ℕ) → Fits (AnyNumber class) text m → m ≤ n)
longest_any class text n e l =
    (any_fits class text n (omega arith) l, λ m f. let h : m ≤ prefix_len (is_in class) text = any_bounded class text m f in omega arith)

-- and of one or more, where it isn't empty
pub longest_one : (class : Class) (text : List ℕ) (n : ℕ) → n ≡ prefix_len (is_in class) text → n ≤ length text → 1 ≤ n → Fits (OneOrMore class) text n × ((m : ℕ) → Fits (OneOrMore class) text m → m ≤ n)
longest_one class text n e l o =
    (one_fits class text n o (omega arith) l, λ m f. let h : m ≤ prefix_len (is_in class) text = one_bounded class text m f in omega arith)

-- as many of a class as lie between the least and the most
pub between_fits : (class : Class) (least most : ℕ) (text : List ℕ) (n : ℕ) → least ≤ n → n ≤ most → n ≤ length text → n ≤ prefix_len (is_in class) (take most text) → Fits (Short (Between class least most)) text n
unfolding is_form
between_fits class least most text n o m l h =
    let size : length (take n text) ≡ n = length-take-le n text l in
    let inside : list_all (is_in class) (take n text) ≡ true = rw (take-take n most text m) at (all_within (is_in class) (take most text) n h) in
    let sized : (leb least (length (take n text)) && leb (length (take n text)) most) ≡ true = both (leb least (length (take n text))) (leb (length (take n text)) most) (le-leb least (length (take n text)) (omega arith)) (le-leb (length (take n text)) most (omega arith)) in
    record { within = l; shaped = both (leb least (length (take n text)) && leb (length (take n text)) most) (all_in class (take n text)) sized inside }

pub between_bounded : (class : Class) (least most : ℕ) (text : List ℕ) (n : ℕ) → Fits (Short (Between class least most)) text n → (least ≤ n) × (n ≤ prefix_len (is_in class) (take most text))
unfolding is_form
between_bounded class least most text n f =
    let l : n ≤ length text = f.within in
    let size : length (take n text) ≡ n = length-take-le n text l in
    let sized : (leb least (length (take n text)) && leb (length (take n text)) most) ≡ true = first_of_both (leb least (length (take n text)) && leb (length (take n text)) most) (all_in class (take n text)) f.shaped in
    let o : least ≤ length (take n text) = leb-true least (length (take n text)) (first_of_both (leb least (length (take n text))) (leb (length (take n text)) most) sized) in
    let m : length (take n text) ≤ most = leb-true (length (take n text)) most (second_of_both (leb least (length (take n text))) (leb (length (take n text)) most) sized) in
    let inside : list_all (is_in class) (take n text) ≡ true = second_of_both (leb least (length (take n text)) && leb (length (take n text)) most) (all_in class (take n text)) f.shaped in
    let front : take n (take most text) ≡ take n text = take-take n most text (omega arith) in
    let there : list_all (is_in class) (take n (take most text)) ≡ true = ap (list_all (is_in class)) front ∙ inside in
    (omega arith, within_run (is_in class) (take most text) n (omega (arith, length-take most text)) there)

pub longest_between_is : (class : Class) (least most : ℕ) (text : List ℕ) (n : ℕ) → n ≡ prefix_len (is_in class) (take most text) → n ≤ length (take most text) → least ≤ n → Fits (Short (Between class least most)) text n × ((m : ℕ) → Fits (Short (Between class least most)) text m → m ≤ n)
longest_between_is class least most text n e l o = (
  between_fits class least most text n o (omega (arith, length-take most text)) (omega (arith, length-take most text)) (omega arith),
  λ m f. let h : m ≤ prefix_len (is_in class) (take most text) = (between_bounded class least most text m f).1 in omega arith,
)

pub longest_between_none : (class : Class) (least most : ℕ) (text : List ℕ) (n : ℕ) → n ≡ prefix_len (is_in class) (take most text) → n < least → (m : ℕ) → Fits (Short (Between class least most)) text m → ⊥
longest_between_none class least most text n e lt m f =
    let h = between_bounded class least most text m f in
    let a : least ≤ m = h.0 in
    let b : m ≤ prefix_len (is_in class) (take most text) = h.1 in
    omega arith

-- what a walk down a run finds, from least to most
pub record OpenRun (row : List Bool) (len least most : ℕ) (found : Option ℕ) : Type 0 where
  pub found_or_none : MatchOption found ((n : ℕ) → least ≤ n → n ≤ most → get_or row (len - n) false ≡ false) (λ n. (least ≤ n) × (n ≤ most) × (get_or row (len - n) false ≡ true))
  pub greatest : MatchOption found ⊤ (λ n. (m : ℕ) → n < m → m ≤ most → get_or row (len - m) false ≡ false)

above : (n m most : ℕ) (value : ℕ → Bool) → ((m : ℕ) → n < m → m ≤ most → value m ≡ false) → m ≤ most → value m ≡ true → m ≤ n
above n m most value closed l e =
    elim (cases_lt n m) [ inl lt ↦ absurd (false≢true (sym (closed m lt l) ∙ e)) | inr le ↦ le ]

-- the greatest open length of any number
pub open_any : (row : List Bool) (class : Class) (text : List ℕ) (most : ℕ) (found : Option ℕ) → most ≡ prefix_len (is_in class) text → most ≤ length text → OpenRun row (length text) 0 most found → IsGreatestOpen row (AnyNumber class) text found
open_any row class text most None e l run =
    λ n o. let h : n ≤ prefix_len (is_in class) text = any_bounded class text n o.fits in
    false≢true (sym (run.found_or_none n (omega arith) (omega arith)) ∙ o.opens)
open_any row class text most (Some n) e l run = (
  record { fits = any_fits class text n (let w : n ≤ most = run.found_or_none.1 in omega arith) (let w : n ≤ most = run.found_or_none.1 in omega arith); opens = run.found_or_none.2 },
  λ m o. let h : m ≤ prefix_len (is_in class) text = any_bounded class text m o.fits in
      above n m most (λ k. get_or row (length text - k) false) run.greatest (omega arith) o.opens,
)

-- the greatest open length of one or more
pub open_one : (row : List Bool) (class : Class) (text : List ℕ) (most : ℕ) (found : Option ℕ) → most ≡ prefix_len (is_in class) text → most ≤ length text → OpenRun row (length text) 1 most found → IsGreatestOpen row (OneOrMore class) text found
open_one row class text most None e l run =
    λ n o. let h : n ≤ prefix_len (is_in class) text = one_bounded class text n o.fits in
    false≢true (sym (run.found_or_none n (one_positive class text n o.fits) (omega arith)) ∙ o.opens)
open_one row class text most (Some n) e l run = (
  record { fits = one_fits class text n run.found_or_none.0 (let w : n ≤ most = run.found_or_none.1 in omega arith) (let w : n ≤ most = run.found_or_none.1 in omega arith); opens = run.found_or_none.2 },
  λ m o. let h : m ≤ prefix_len (is_in class) text = one_bounded class text m o.fits in
      above n m most (λ k. get_or row (length text - k) false) run.greatest (omega arith) o.opens,
)
