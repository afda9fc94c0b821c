-- Dates, as a test and as what the calendar has.
use Rattle.std.proofs.Common.{◌≡◌, ℕ, ◌+◌, ◌<◌, ◌≤◌, Bool, true, false, cond, List, length, drop, get_or, refl, sym, ◌∙◌, ap, arith, leb, eqb, w16, FitsSigned}
use Rattle.std.specs.Prelude.{◌&&◌, ◌||◌, Option, Some, None, ℤ, pos, negsuc, ◌+ℤ◌, ◌-ℤ◌, ◌<ℤ◌, int_lt, unsigned_abs}
use Rattle.std.specs.Option.{option_map}
use Rattle.std.proofs.lemmas.Bool.{leb-true, le-leb}
use Rattle.std.proofs.lemmas.Int.{ints}
use Rattle.std.proofs.lemmas.List.{drop_more}
use Rattle.jiff_core.specs.Calendar.{IsYear, IsDate, is_leap_year, days_in_month, days_from_civil}
use Rattle.jiff_core.specs.Date.{epoch_day}
use Rattle.jiff_core.specs.declared.civil.date.Date.{Date}
use Rattle.ftp_list.specs.Dates.{is_date, day_number, number_among, second_at, year_of, midnight_of}
use Rattle.ftp_list.specs.Texts.{is_word}

all_five : (a b c d e : Bool) → (a && b && c && d && e) ≡ true → (a ≡ true) × (b ≡ true) × (c ≡ true) × (d ≡ true) × (e ≡ true)
all_five true true true true true h = (refl, refl, refl, refl, refl)
all_five true true true true false h = cc
all_five true true true false e h = cc
all_five true true false d e h = cc
all_five true false c d e h = cc
all_five false b c d e h = cc

five_hold : (a b c d e : Bool) → a ≡ true → b ≡ true → c ≡ true → d ≡ true → e ≡ true → (a && b && c && d && e) ≡ true
five_hold a b c d e p q r s t = rw (p, q, r, s, t)

year_holds : (y : ℤ) → unsigned_abs y ≤ 9999 → IsYear y
year_holds (pos n) l = (omega (arith, ints), omega (arith, ints))
year_holds (negsuc n) l = (omega (arith, ints), omega (arith, ints))

year_within : (y : ℤ) → IsYear y → unsigned_abs y ≤ 9999
year_within (pos n) h = let a = h.1 in omega (arith, ints)
year_within (negsuc n) h = let a = h.0 in omega (arith, ints)

-- what passes the test the calendar has
pub date_holds : (y : ℤ) (m d : ℕ) → is_date y m d ≡ true → IsDate y (pos m) (pos d)
date_holds y m d h =
    let parts = all_five (leb (unsigned_abs y) 9999) (leb 1 m) (leb m 12) (leb 1 d) (leb d (days_in_month y m)) h in
    let a : unsigned_abs y ≤ 9999 = leb-true (unsigned_abs y) 9999 parts.0 in
    let b : 1 ≤ m = leb-true 1 m parts.1 in
    let c : m ≤ 12 = leb-true m 12 parts.2 in
    let e : 1 ≤ d = leb-true 1 d parts.3 in
    let f : d ≤ days_in_month y m = leb-true d (days_in_month y m) parts.4 in
    (year_holds y a, (omega (arith, ints), omega (arith, ints)), (omega (arith, ints), omega (arith, ints)))

-- a date of the library passes it
own_test : (date : Date) → is_date date.year date.month date.day ≡ true
own_test date =
    let a : unsigned_abs date.year ≤ 9999 = year_within date.year date.year_in in
    let b : 1 ≤ date.month = date.month_in.0 in
    let c : date.month ≤ 12 = date.month_in.1 in
    let e : 1 ≤ date.day = date.day_in.0 in
    let f : date.day ≤ days_in_month date.year date.month = date.day_in.1 in
    five_hold (leb (unsigned_abs date.year) 9999) (leb 1 date.month) (leb date.month 12) (leb 1 date.day) (leb date.day (days_in_month date.year date.month)) (le-leb (unsigned_abs date.year) 9999 a) (le-leb 1 date.month b) (le-leb date.month 12 c) (le-leb 1 date.day e) (le-leb date.day (days_in_month date.year date.month) f)

own_number : (date : Date) → Some (epoch_day date) ≡ day_number date.year date.month date.day
unfolding day_number
own_number date = sym (ap (λ b. cond b (Some (days_from_civil date.year date.month date.day)) None) (own_test date))

-- the number of a date with these parts
pub number_of_date : (date : Date) (y : ℤ) (m d : ℕ) → date.year ≡ y → date.month ≡ m → date.day ≡ d → Some (epoch_day date) ≡ day_number y m d
number_of_date date y m d ey em ed =
    own_number date ∙ ap (λ (z : ℤ). day_number z date.month date.day) ey ∙ ap (λ n. day_number y n date.day) em ∙ ap (λ n. day_number y m n) ed

none_if : (b : Bool) (v : ℤ) → (b ≡ true → ⊥) → None ≡ cond b (Some v) None
none_if true v h = absurd (h refl)
none_if false v h = refl

-- where the calendar has no such day
pub no_number : (y : ℤ) (m d : ℕ) → (IsDate y (pos m) (pos d) → ⊥) → None ≡ day_number y m d
unfolding day_number
no_number y m d h = none_if (is_date y m d) (days_from_civil y m d) (λ e. h (date_holds y m d e))

-- the name at a place, or the names behind it
pub number_among_more : (n : ℕ) (names : List (List ℕ)) (text : List ℕ) (i : ℕ) (d : List ℕ) → i < length names → number_among n (drop i names) text ≡ cond (is_word (get_or names i d) text) (Some n) (number_among (n + 1) (drop (i + 1) names) text)
number_among_more n names text i d l = ap (λ (ns : List (List ℕ)). number_among n ns text) (drop_more names i d l)

month_cases : (a b c : Bool) → cond a (cond b 29 28) (cond c 30 31) ≤ 31
month_cases true true c = omega arith
month_cases true false c = omega arith
month_cases false b true = omega arith
month_cases false b false = omega arith

-- no month is longer
pub month_short : (y : ℤ) (m : ℕ) → days_in_month y m ≤ 31
month_short y m = month_cases (eqb m 2) (is_leap_year y) (eqb m 4 || eqb m 6 || eqb m 9 || eqb m 11)

pub year_fits : (y : ℤ) → unsigned_abs y ≤ 9999 → FitsSigned w16 y
year_fits y l =
    let h : IsYear y = year_holds y l in
    let low = h.0 in
    let high = h.1 in
    omega (arith, ints)

pub year_far : (y : ℤ) → 9999 < unsigned_abs y → IsYear y → ⊥
year_far y l h = let near : unsigned_abs y ≤ 9999 = year_within y h in omega arith

-- a date of signed parts
pub date_of_parts : (y y' : ℤ) (m d : ℕ) (m' d' : ℤ) → y' ≡ y → m' ≡ pos m → d' ≡ pos d → IsDate y (pos m) (pos d) → IsDate y' m' d'
date_of_parts y y' m d m' d' ey em ed h = rw (ey, em, ed) h

-- the moment lies too far ahead, so it is of the year before
pub year_before : (y now n : ℤ) (m d clock : ℕ) → Some n ≡ day_number y m d → (now +ℤ pos 15_552_000) <ℤ second_at n clock → Some (y -ℤ pos 1) ≡ year_of y now m d clock
unfolding year_of
year_before y now n m d clock e lt =
    let test : int_lt (now +ℤ pos 15_552_000) (second_at n clock) ≡ true = grind (arith, ints) in
    let pick : Option ℤ → Option ℤ = λ o. option_map (λ (k : ℤ). cond (int_lt (now +ℤ pos 15_552_000) (second_at k clock)) (y -ℤ pos 1) y) o in
    sym (ap (λ b. Some (cond b (y -ℤ pos 1) y)) test) ∙ ap pick e

-- a year past 9999 has no midnight
pub no_midnight : (y m d : ℕ) → 9999 < y → None ≡ midnight_of (pos y) m d
unfolding midnight_of
no_midnight y m d l =
    ap (λ (o : Option ℤ). option_map (λ (k : ℤ). second_at k 0) o) (no_number (pos y) m d (λ h. year_far (pos y) l h.0))
