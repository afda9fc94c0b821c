-- Dates and times of day from their numbers.
use Rattle.std.proofs.Common.{◌≡◌, ℕ, ◌<◌, ◌≤◌, Bool, true, false, refl, sym, ap, ◌∙◌, arith, T, cond, eqb, inl, inr, ◌⊎◌, ◌≤ℤ◌}
use Rattle.std.proofs.Props.{props}
use Rattle.std.proofs.lemmas.Int.{ints}
use Rattle.jiff_core.specs.declared.civil.datetime.DateTime.{DateTime}
use Rattle.std.specs.Prelude.{ℤ, ◌||◌, Option, Some, None, pos, nat_le, nat_lt}
use Rattle.std.specs.Int.{IsInRange}
use lib.Dec.{le→leb, lt→ltb, leb→le, ltb→lt}
use mathlib.Core.HLevel.{is_prop→PathP}
use Rattle.jiff_core.specs.declared.civil.date.Date.{Date}
use Rattle.jiff_core.specs.declared.civil.time.Time.{Time}
use Rattle.jiff_core.specs.Calendar.{IsYear, IsDate, days_in_month, is_leap_year}
use Rattle.jiff_core.specs.Time.{IsTime}
use Rattle.ftp_calls.specs.Dates.{where_passed, date_from, date_of, time_from, time_of_day, date_time}

-- dates of the same numbers are the same
pub same_date : (a b : Date) → a.year ≡ b.year → a.month ≡ b.month → a.day ≡ b.day → a ≡ b
same_date a b p q r =
    λ i. record {
      year = p i;
      month = q i;
      day = r i;
      year_in = is_prop→PathP (λ j. IsYear (p j)) (λ j. hlevel props) a.year_in b.year_in i;
      month_in = is_prop→PathP (λ j. IsInRange 1 12 (q j)) (λ j. hlevel props) a.month_in b.month_in i;
      day_in = is_prop→PathP (λ j. IsInRange 1 (days_in_month (p j) (q j)) (r j)) (λ j. hlevel props) a.day_in b.day_in i;
    }

-- so are times of day
pub same_time : (a b : Time) → a.hour ≡ b.hour → a.minute ≡ b.minute → a.second ≡ b.second → a.subsec_nanosecond ≡ b.subsec_nanosecond → a ≡ b
same_time a b p q r s =
    λ i. record {
      hour = p i;
      minute = q i;
      second = r i;
      subsec_nanosecond = s i;
      hour_in = is_prop→PathP (λ j. p j < 24) (λ j. hlevel props) a.hour_in b.hour_in i;
      minute_in = is_prop→PathP (λ j. q j < 60) (λ j. hlevel props) a.minute_in b.minute_in i;
      second_in = is_prop→PathP (λ j. r j < 60) (λ j. hlevel props) a.second_in b.second_in i;
      subsec_in = is_prop→PathP (λ j. s j < 1_000_000_000) (λ j. hlevel props) a.subsec_in b.subsec_in i;
    }

five : (a b c d e : Bool) → (T a → T b → T c → T d → T e → Date) → Option Date
five a b c d e make =
    where_passed a (λ p. where_passed b (λ q. where_passed c (λ r. where_passed d (λ s. where_passed e (λ t. Some (make p q r s t))))))

five_some : (a b c d e : Bool) (make : T a → T b → T c → T d → T e → Date) (p : T a) (q : T b) (r : T c) (s : T d) (t : T e) → five a b c d e make ≡ Some (make p q r s t)
unfolding five
five_some true true true true true make p q r s t = refl
five_some true true true true false make p q r s t = absurd t
five_some true true true false e make p q r s t = absurd s
five_some true true false d e make p q r s t = absurd r
five_some true false c d e make p q r s t = absurd q
five_some false b c d e make p q r s t = absurd p

date_cases : (a b c d e : Bool) (make : T a → T b → T c → T d → T e → Date) →
    ((p : T a) × (q : T b) × (r : T c) × (s : T d) × (t : T e) × (five a b c d e make ≡ Some (make p q r s t))) ⊎ (five a b c d e make ≡ None)
unfolding five
date_cases true true true true true make = inl (tt, tt, tt, tt, tt, refl)
date_cases true true true true false make = inr refl
date_cases true true true false e make = inr refl
date_cases true true false d e make = inr refl
date_cases true false c d e make = inr refl
date_cases false b c d e make = inr refl

three : (a b c : Bool) → (T a → T b → T c → Time) → Option Time
three a b c make = where_passed a (λ p. where_passed b (λ q. where_passed c (λ r. Some (make p q r))))

three_some : (a b c : Bool) (make : T a → T b → T c → Time) (p : T a) (q : T b) (r : T c) → three a b c make ≡ Some (make p q r)
unfolding three
three_some true true true make p q r = refl
three_some true true false make p q r = absurd r
three_some true false c make p q r = absurd q
three_some false b c make p q r = absurd p

time_cases : (a b c : Bool) (make : T a → T b → T c → Time) → ((p : T a) × (q : T b) × (r : T c) × (three a b c make ≡ Some (make p q r))) ⊎ (three a b c make ≡ None)
unfolding three
time_cases true true true make = inl (tt, tt, tt, refl)
time_cases true true false make = inr refl
time_cases true false c make = inr refl
time_cases false b c make = inr refl

-- a date of the library is the date of its numbers
pub date_is : (date : Date) (y m d : ℕ) → date.year ≡ pos y → date.month ≡ m → date.day ≡ d → date_of y m d ≡ Some date
unfolding five
date_is date y m d ey em ed =
    let year : pos y ≤ℤ pos 9999 = rw ey at date.year_in.1 in
    let low : 1 ≤ m = rw em at date.month_in.0 in
    let high : m ≤ 12 = rw em at date.month_in.1 in
    let first : 1 ≤ d = rw ed at date.day_in.0 in
    let last : d ≤ days_in_month (pos y) m = rw (ey, em, ed) at date.day_in.1 in
    let p : T (nat_le y 9999) = year.le in
    let q : T (nat_le 1 m) = le→leb 1 m low in
    let r : T (nat_le m 12) = le→leb m 12 high in
    let s : T (nat_le 1 d) = le→leb 1 d first in
    let t : T (nat_le d (days_in_month (pos y) m)) = le→leb d (days_in_month (pos y) m) last in
    five_some (nat_le y 9999) (nat_le 1 m) (nat_le m 12) (nat_le 1 d) (nat_le d (days_in_month (pos y) m)) (date_from y m d) p q r s t
    ∙ ap Some (same_date (date_from y m d p q r s t) date (sym ey) (sym em) (sym ed))

-- so is a time of day at the whole second
pub time_is : (time : Time) (h m s : ℕ) → time.hour ≡ h → time.minute ≡ m → time.second ≡ s → time.subsec_nanosecond ≡ 0 → time_of_day h m s ≡ Some time
unfolding three
time_is time h m s eh em es en =
    let p : T (nat_lt h 24) = lt→ltb h 24 (rw eh at time.hour_in) in
    let q : T (nat_lt m 60) = lt→ltb m 60 (rw em at time.minute_in) in
    let r : T (nat_lt s 60) = lt→ltb s 60 (rw es at time.second_in) in
    three_some (nat_lt h 24) (nat_lt m 60) (nat_lt s 60) (time_from h m s) p q r
    ∙ ap Some (same_time (time_from h m s p q r) time (sym eh) (sym em) (sym es) (sym en))

-- what the calendar has, and what a clock shows
abbrev pub IsMoment : ℕ → ℕ → ℕ → ℕ → ℕ → ℕ → Type 0
IsMoment y mo d h m s =
    (y ≤ 9999) × (1 ≤ mo) × (mo ≤ 12) × (1 ≤ d) × (d ≤ days_in_month (pos y) mo) × (h < 24) × (m < 60) × (s < 60)

no_time : (date : Option Date) → None ≡ date_time date None
no_time None = refl
no_time (Some date) = refl

-- numbers without a date or a time of day
pub no_moment : (y mo d h m s : ℕ) → (IsMoment y mo d h m s → ⊥) → None ≡ date_time (date_of y mo d) (time_of_day h m s)
unfolding five three
no_moment y mo d h m s none =
    elim (date_cases (nat_le y 9999) (nat_le 1 mo) (nat_le mo 12) (nat_le 1 d) (nat_le d (days_in_month (pos y) mo)) (date_from y mo d)) [
      | inr absent ↦ ap (λ date. date_time date (time_of_day h m s)) (sym absent)
      | inl (p, q, r, t, u, _) ↦ elim (time_cases (nat_lt h 24) (nat_lt m 60) (nat_lt s 60) (time_from h m s)) [
        | inr absent ↦ no_time (date_of y mo d) ∙ ap (date_time (date_of y mo d)) (sym absent)
        | inl (a, b, c, _) ↦ absurd (none (leb→le y 9999 p, leb→le 1 mo q, leb→le mo 12 r, leb→le 1 d t, leb→le d (days_in_month (pos y) mo) u, ltb→lt h 24 a, ltb→lt m 60 b, ltb→lt s 60 c))
      ]
    ]

month_cases : (a b c : Bool) → cond a (cond b 29 28) (cond c 30 31) ≤ 31
month_cases true true c = omega arith
month_cases true false c = omega arith
month_cases false b true = omega arith
month_cases false b false = omega arith

-- no month is longer
pub month_short : (y : ℤ) (m : ℕ) → days_in_month y m ≤ 31
month_short y m = month_cases (eqb m 2) (is_leap_year y) (eqb m 4 || eqb m 6 || eqb m 9 || eqb m 11)

-- what the library makes of signed numbers, where they are those of a moment
pub is_moment : (y mo d h m s : ℕ) (y' mo' d' h' m' s' : ℤ) → y' ≡ pos y → mo' ≡ pos mo → d' ≡ pos d → h' ≡ pos h → m' ≡ pos m → s' ≡ pos s →
    IsMoment y mo d h m s → IsDate y' mo' d' × IsTime h' m' s' (pos 0)
is_moment y mo d h m s y' mo' d' h' m' s' ey emo ed eh em es is =
    let (a, b, c, e, f, g, k, l) = is in
    rw (ey, emo, ed, eh, em, es) (
      ((omega (arith, ints), omega (arith, ints)), (omega (arith, ints), omega (arith, ints)), (omega (arith, ints), omega (arith, ints))),
      ((omega (arith, ints), omega (arith, ints)), (omega (arith, ints), omega (arith, ints)), (omega (arith, ints), omega (arith, ints)), (omega (arith, ints), omega (arith, ints))),
    )

-- the moment of those numbers
pub moment_is : (moment : DateTime) (y mo d h m s : ℕ) → moment.date.year ≡ pos y → moment.date.month ≡ mo → moment.date.day ≡ d →
    moment.time.hour ≡ h → moment.time.minute ≡ m → moment.time.second ≡ s → moment.time.subsec_nanosecond ≡ 0 → Some moment ≡ date_time (date_of y mo d) (time_of_day h m s)
moment_is moment y mo d h m s ey emo ed eh em es en =
    sym (ap (λ date. date_time date (time_of_day h m s)) (date_is moment.date y mo d ey emo ed) ∙ ap (date_time (Some moment.date)) (time_is moment.time h m s eh em es en))
