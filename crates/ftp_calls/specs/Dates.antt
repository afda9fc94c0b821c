-- A date with a time of day, from its numbers, as the calendar and a clock have it. A date carries the proofs that its
-- numbers are in range, so each test hands its own on.
use Rattle.std.specs.Prelude.{ℕ, Bool, true, false, T, nat_le, nat_lt, Option, Some, None, pos}
use Rattle.std.specs.Option.{option_and_then, option_map}
use Rattle.std.proofs.Common.{lit<, lit≤}
use Rattle.jiff_core.specs.Calendar.{days_in_month}
use Rattle.jiff_core.specs.declared.civil.date.Date.{Date}
use Rattle.jiff_core.specs.declared.civil.datetime.DateTime.{DateTime}
use Rattle.jiff_core.specs.declared.civil.time.Time.{Time}

-- what is made where a test passes
abbrev pub where_passed : {A : Type 0} (test : Bool) → (T test → Option A) → Option A
where_passed true make = make tt
where_passed false make = None

-- the date of a year, a month and a day
abbrev pub date_from : (year month day : ℕ) → T (nat_le year 9999) → T (nat_le 1 month) → T (nat_le month 12) → T (nat_le 1 day) → T (nat_le day (days_in_month (pos year) month)) → Date
date_from year month day y m n d e = record {
  year = pos year;
  month = month;
  day = day;
  year_in = (record { le = tt }, record { le = y });
  month_in = (lit≤ m, lit≤ n);
  day_in = (lit≤ d, lit≤ e);
}

-- the same, for a year from 0 to 9999, and a month and a day that it has
abbrev pub date_of : ℕ → ℕ → ℕ → Option Date
date_of year month day =
    where_passed (nat_le year 9999) (λ y. where_passed (nat_le 1 month) (λ m. where_passed (nat_le month 12) (λ n.
    where_passed (nat_le 1 day) (λ d. where_passed (nat_le day (days_in_month (pos year) month)) (λ e.
    Some (date_from year month day y m n d e))))))

-- the time of day of an hour, a minute and a whole second
abbrev pub time_from : (hour minute second : ℕ) → T (nat_lt hour 24) → T (nat_lt minute 60) → T (nat_lt second 60) → Time
time_from hour minute second h m s = record {
  hour = hour;
  minute = minute;
  second = second;
  subsec_nanosecond = 0;
  hour_in = lit< h;
  minute_in = lit< m;
  second_in = lit< s;
  subsec_in = lit< tt;
}

-- the same, where a clock shows them: an hour from 0 to 23, a minute and a second from 0 to 59
abbrev pub time_of_day : ℕ → ℕ → ℕ → Option Time
time_of_day hour minute second =
    where_passed (nat_lt hour 24) (λ h. where_passed (nat_lt minute 60) (λ m. where_passed (nat_lt second 60) (λ s.
    Some (time_from hour minute second h m s))))

-- the date with the time of day, if there are both
abbrev pub date_time : Option Date → Option Time → Option DateTime
date_time date time = option_and_then (λ d. option_map (λ t. record { date = d; time = t }) time) date
