-- Civil dates and times of day, as seconds since the Unix epoch: day numbers times 86,400.
use Rattle.std.specs.Prelude.{◌≡◌, ℕ, ◌+◌, ◌*◌, ◌%◌, ◌^◌, Bool, ◌&&◌, nat_le, nat_lt, nat_eq, if◌then◌else◌, List, [], ◌∷◌, Option, Some, None, ℤ, pos, neg_ℤ, ◌+ℤ◌, ◌-ℤ◌, ◌*ℤ◌, int_lt, unsigned_abs, codes}
use Rattle.std.specs.Int.{int_div_euclid}
use Rattle.std.specs.Option.{option_map}
use Rattle.std.specs.Cmp.Lexicographic.{pointwise}
use Rattle.jiff_core.specs.Calendar.{IsBetween, days_in_month, days_from_civil}
use Rattle.jiff_core.specs.Date.{epoch_day}
use Rattle.jiff_core.specs.declared.civil.date.Date.{Date}
use Rattle.ftp_list.specs.OptionSteps.{◌>>=◌}
use Rattle.ftp_list.specs.Places.{holds, before, behind}
use Rattle.ftp_list.specs.Numbers.{decimal}
use Rattle.ftp_list.specs.Texts.{is_word}

-- the calendar has this day, in a year from -9999 to 9999
abbrev pub is_date : ℤ → ℕ → ℕ → Bool
is_date year month day =
    nat_le (unsigned_abs year) 9999 && nat_le 1 month && nat_le month 12 && nat_le 1 day
    && nat_le day (days_in_month year month)

-- the day's number, 0 for 1 January 1970
unfoldable pub day_number : ℤ → ℕ → ℕ → Option ℤ
day_number year month day = if is_date year month day then Some (days_from_civil year month day) else None

-- a second of a day, since the Unix epoch
abbrev pub second_at : ℤ → ℕ → ℤ
second_at day clock = day *ℤ pos 86_400 +ℤ pos clock

-- the seconds from midnight to an hour and minute that a clock shows
unfoldable pub clock_of : ℕ → ℕ → Option ℕ
clock_of hour minute = if nat_lt hour 24 && nat_lt minute 60 then Some (hour * 3600 + minute * 60) else None

-- the same on a clock of twelve hours: 12 AM is midnight, 12 PM noon
unfoldable pub half_clock_of : List ℕ → ℕ → ℕ → Option ℕ
half_clock_of half hour minute =
    if nat_le 1 hour && nat_le hour 12 && nat_lt minute 60
    then Some ((hour % 12 + (if pointwise nat_eq half (codes "PM") then 12 else 0)) * 3600 + minute * 60)
    else None

-- an instant's whole second, rounded down
abbrev pub whole_second : ℤ → ℤ
whole_second nanosecond = int_div_euclid nanosecond (pos 1_000_000_000)

-- the whole seconds of the instants that there are
abbrev pub IsSecond : ℤ → Type 0
IsSecond second = IsBetween (neg_ℤ (pos 377_705_023_201)) (pos 253_402_207_200) second

-- the short names of the months
abbrev pub month_names : List (List ℕ)
month_names =
    codes "jan" ∷ codes "feb" ∷ codes "mar" ∷ codes "apr" ∷ codes "may" ∷ codes "jun"
    ∷ codes "jul" ∷ codes "aug" ∷ codes "sep" ∷ codes "oct" ∷ codes "nov" ∷ codes "dec" ∷ []

-- the number of the first name that the text is, counted from n
abbrev pub number_among : ℕ → List (List ℕ) → List ℕ → Option ℕ
number_among n [] text = None
number_among n (name ∷ names) text = if is_word name text then Some n else number_among (n + 1) names text

-- the number of the month of that name
unfoldable pub month_of : List ℕ → Option ℕ
month_of text = number_among 1 month_names text

-- the year of the UTC date on which that second lies
abbrev pub IsUtcYear : ℤ → ℤ → Type 0
IsUtcYear second year =
    (today : Date) × (epoch_day today ≡ int_div_euclid second (pos 86_400)) × (today.year ≡ year)

-- The present year, or the one before if the moment would lie more than 180 days ahead. None
-- where the present year doesn't have the day.
unfoldable pub year_of : ℤ → ℤ → ℕ → ℕ → ℕ → Option ℤ
year_of this_year now month day clock =
    option_map
    (λ number. if int_lt (now +ℤ pos 15_552_000) (second_at number clock) then this_year -ℤ pos 1 else this_year)
    (day_number this_year month day)

-- midnight of a day
unfoldable pub midnight_of : ℤ → ℕ → ℕ → Option ℤ
midnight_of year month day = option_map (λ number. second_at number 0) (day_number year month day)

-- an hour and minute of a month and day, in the year of year_of
unfoldable pub recent_moment : ℤ → ℤ → ℕ → ℕ → List ℕ → Option ℤ
recent_moment this_year now month day time = do
  hour ← decimal (2 ^ 64) (before (codes ":") time)
  minute ← decimal (2 ^ 64) (behind (codes ":") time)
  clock ← clock_of hour minute
  year ← year_of this_year now month day clock
  number ← day_number year month day
  Some (second_at number clock)

-- a month and day, at a clock's time or in a year
abbrev pub dated : ℤ → ℤ → ℕ → ℕ → List ℕ → Option ℤ
dated this_year now month day time =
    if holds (codes ":") time then recent_moment this_year now month day time
    else (decimal (2 ^ 64) time >>= λ year. midnight_of (pos year) month day)

-- the moment that a month's name, a day, and a clock or a year give
unfoldable pub posix_moment : ℤ → ℤ → List ℕ → List ℕ → List ℕ → Option ℤ
posix_moment this_year now month_name day_text time = do
  month ← month_of month_name
  day ← decimal (2 ^ 64) day_text
  dated this_year now month day time

-- 00 to 69 are 2000 to 2069, 70 to 99 are 1970 to 1999
unfoldable pub full_year : ℕ → Option ℤ
full_year short =
    if nat_lt short 70 then Some (pos (2000 + short))
    else (if nat_lt short 100 then Some (pos (1900 + short)) else None)

-- the moment that month, day, year of two digits, hour, minute and AM or PM give
unfoldable pub dos_moment : List ℕ → List ℕ → List ℕ → List ℕ → List ℕ → List ℕ → Option ℤ
dos_moment month_text day_text year_text hour_text minute_text half = do
  month ← decimal (2 ^ 64) month_text
  day ← decimal (2 ^ 64) day_text
  short ← decimal (2 ^ 64) year_text
  year ← full_year short
  hour ← decimal (2 ^ 64) hour_text
  minute ← decimal (2 ^ 64) minute_text
  clock ← half_clock_of half hour minute
  number ← day_number year month day
  Some (second_at number clock)
