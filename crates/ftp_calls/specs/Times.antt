-- The time in a reply to MDTM, and the text of one that is sent: RFC 3659, sections 2.3 and 3.
use Rattle.std.specs.Prelude.{ℕ, zero, suc, ◌+◌, ◌-◌, ◌/◌, ◌%◌, ℤ, pos, negsuc, Bool, ◌&&◌, ◌==◌, not, nat_lt, if◌then◌else◌, List, [], ◌∷◌, ◌++◌, length, take, drop, slice_index, find, Option, None}
use Rattle.std.specs.List.{list_all}
use Rattle.std.specs.Option.{option_map, option_and_then}
use Rattle.std.specs.Char.{is_ascii_digit}
use Rattle.std.specs.Str.{is_utf8}
use Rattle.std.specs.Fmt.{decimal, signed_decimal}
use Rattle.ftp_base.specs.Scan.{is_word_byte, digits_value}
use Rattle.jiff_core.specs.declared.civil.datetime.DateTime.{DateTime}
use Rattle.ftp_calls.specs.Dates.{date_of, time_of_day, date_time}

-- fourteen bytes from a place on, or as many as there are
abbrev pub fourteen : List ℕ → ℕ → List ℕ
fourteen text place = take 14 (drop place text)

-- whether the byte before a place is one of a word
abbrev pub follows_word : List ℕ → ℕ → Bool
follows_word text place = nat_lt 0 place && is_word_byte (slice_index text (place - 1))

-- whether fourteen digits stand at a place, with no byte of a word on either side
abbrev pub has_timestamp : List ℕ → ℕ → Bool
has_timestamp text place =
    (length (fourteen text place) == 14) && list_all is_ascii_digit (fourteen text place)
    && not (follows_word text place) && not (is_word_byte (slice_index text (place + 14)))

-- the places below a number
abbrev pub places : ℕ → List ℕ
places zero = []
places (suc n) = places n ++ n ∷ []

-- the digits at the first place where they stand so
abbrev pub timestamp : List ℕ → Option (List ℕ)
timestamp text = option_map (fourteen text) (find (has_timestamp text) (places (length text)))

-- the number that so many digits from a place on write
abbrev pub part : ℕ → ℕ → List ℕ → ℕ
part from count digits = digits_value 0 (take count (drop from digits))

-- the year in four digits, then month, day, hour, minute and second in two each, if there is such a date and time
abbrev pub time_in : List ℕ → Option DateTime
time_in digits =
    date_time (date_of (part 0 4 digits) (part 4 2 digits) (part 6 2 digits))
    (time_of_day (part 8 2 digits) (part 10 2 digits) (part 12 2 digits))

-- the time in a reply, which is UTF-8
abbrev pub time_of : List ℕ → Option DateTime
time_of body = if is_utf8 body then option_and_then time_in (timestamp body) else None

-- a number below 100 in two digits
abbrev pub two_digits : ℕ → List ℕ
two_digits n = decimal (n / 10) ++ decimal (n % 10)

-- a year in four digits; one before 0 has no such text, and stands there with its sign
abbrev pub year_text : ℤ → List ℕ
year_text (pos n) = two_digits (n / 100) ++ two_digits (n % 100)
year_text (negsuc n) = signed_decimal (negsuc n)

-- a date and time as a command writes it, without a fraction of a second
abbrev pub date_digits : DateTime → List ℕ
date_digits moment = year_text moment.date.year ++ two_digits moment.date.month ++ two_digits moment.date.day

abbrev pub time_digits : DateTime → List ℕ
time_digits moment = two_digits moment.time.hour ++ two_digits moment.time.minute ++ two_digits moment.time.second

abbrev pub time_value : DateTime → List ℕ
time_value moment = date_digits moment ++ time_digits moment
