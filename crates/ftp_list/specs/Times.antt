-- The times of MLSD and MLST (RFC 3659, section 2.3).
use Rattle.std.specs.Prelude.{ℕ, ◌+◌, ◌-◌, ◌*◌, ◌^◌, ◌&&◌, ◌==◌, nat_le, if◌then◌else◌, List, length, take, drop, Option, Some, None, ℤ, pos, slice_index}
use Rattle.ftp_list.specs.declared.class.Class.TheVariants.{Digit}
use Rattle.ftp_list.specs.Shapes.{all_in, is_between}
use Rattle.ftp_list.specs.Numbers.{digits_after, decimal}
use Rattle.ftp_list.specs.Dates.{day_number, clock_of, second_at}
use Rattle.ftp_list.specs.OptionSteps.{◌>>=◌}

-- a moment since the Unix epoch
pub record Instant : Type 0 where
  pub second : ℤ
  pub nanosecond : ℕ

-- the second of a minute may be 60, which is one second after 59
unfoldable pub with_second : ℤ → ℕ → ℕ → Option ℤ
with_second day clock second = if nat_le second 60 then Some (second_at day (clock + second)) else None

-- year, month, day, hour, minute and second in fourteen digits
unfoldable pub civil_second : List ℕ → Option ℤ
civil_second digits = do
  year ← decimal (2 ^ 64) (take 4 digits)
  month ← decimal (2 ^ 64) (take 2 (drop 4 digits))
  day ← decimal (2 ^ 64) (take 2 (drop 6 digits))
  hour ← decimal (2 ^ 64) (take 2 (drop 8 digits))
  minute ← decimal (2 ^ 64) (take 2 (drop 10 digits))
  second ← decimal (2 ^ 64) (drop 12 digits)
  day_is ← day_number (pos year) month day
  clock ← clock_of hour minute
  with_second day_is clock second

-- the nanoseconds of a fraction: nine digits count, zeros fill
abbrev pub fraction_of : List ℕ → ℕ
fraction_of digits = digits_after 0 (take 9 digits) * 10 ^ (9 - length digits)

-- nothing, or a point and one digit or more
unfoldable pub nanoseconds_of : List ℕ → Option ℕ
nanoseconds_of text =
    if length text == 0 then Some 0
    else (if (slice_index text 0 == 46) && nat_le 2 (length text) && all_in Digit (drop 1 text)
    then Some (fraction_of (drop 1 text)) else None)

-- the second and the fraction behind it
unfoldable pub timed : List ℕ → Option Instant
timed text = do
  second ← civil_second (take 14 text)
  nanosecond ← nanoseconds_of (drop 14 text)
  Some (record { second = second; nanosecond = nanosecond })

-- fourteen digits, and a fraction or none
abbrev pub time_of : List ℕ → Option Instant
time_of text = if is_between Digit 14 14 (take 14 text) then timed text else None
