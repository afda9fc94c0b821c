-- What is found in the text of a reply: RFC 959, section 4.1.2 (PASV), RFC 2428, section 3 (EPSV),
-- RFC 3659, sections 3 (MDTM) and 4 (SIZE).
use Rattle.std.specs.Prelude.{◌≡◌, ℕ, ◌+◌, ◌-◌, ◌*◌, ◌<◌, ◌≤◌, Bool, true, false, Option, Some, None, if◌then◌else◌, IsTrue, ◌||◌, ◌==◌, nat_eq, nat_le, List, [], ◌∷◌, ◌++◌, codes, length, take, drop, slice_index, encode_utf8}
use Rattle.std.specs.List.{starts_with, list_all}
use Rattle.std.specs.Char.{IsAsciiDigit, is_ascii_digit, is_ascii_alphanumeric, is_whitespace}
use Rattle.std.specs.Str.{trim_end}
use Rattle.ftp_base.specs.declared.command.scan.Span.{Span}

-- bytes stand in a text at a place
abbrev pub StandsAt : List ℕ → List ℕ → ℕ → Type 0
StandsAt bytes text place = IsTrue (starts_with nat_eq (drop place text) bytes)

-- each byte of a text from a place on and before another is a digit
abbrev pub AreDigits : List ℕ → ℕ → ℕ → Type 0
AreDigits text from to =
    (place : ℕ) → from ≤ place → place < to → IsAsciiDigit (slice_index text place)

-- a run of one or more digits begins at a place and fills the span
pub record IsNumber (text : List ℕ) (from : ℕ) (span : Span) : Type 0 where
  pub begins : span.start ≡ from
  pub some : span.start < span.end
  pub digits : AreDigits text span.start span.end

-- numbers stand one after another from a place on, each with its closing byte behind it
abbrev pub AreFields : List ℕ → ℕ → List ℕ → List Span → Type 0
AreFields text from [] [] = Unit {0}
AreFields text from (close ∷ closes) (span ∷ spans) =
    IsNumber text from span × (slice_index text span.end ≡ close)
    × AreFields text (span.end + 1) closes spans
AreFields text from [] (span ∷ spans) = ⊥
AreFields text from (close ∷ closes) [] = ⊥

-- "(d,d,d,d,d,d)" stands at a place, its six runs of digits in these spans
pub record IsPassive (text : List ℕ) (place : ℕ) (spans : List Span) : Type 0 where
  pub opens : StandsAt (codes "(") text place
  pub fields : AreFields text (place + 1) (codes ",,,,,)") spans

-- "(|||d|)" stands at a place, its run of digits in this span
pub record IsExtended (text : List ℕ) (place : ℕ) (span : Span) : Type 0 where
  pub opens : StandsAt (codes "(|||") text place
  pub number : IsNumber text (place + 4) span
  pub closes : StandsAt (codes "|)") text span.end

-- a byte of a word: a letter, a digit, `_`, or a byte of a character past ASCII
abbrev pub is_word_byte : ℕ → Bool
is_word_byte byte = is_ascii_alphanumeric byte || (byte == 95) || nat_le 128 byte

-- the span from a place on and before another
abbrev pub between : ℕ → ℕ → Span
between from to = record { start = from; end = to }

-- fourteen digits stand at a place, with no byte of a word on either side: the year in four, then
-- month, day, hour, minute and second in two each
pub record IsTimestamp (text : List ℕ) (place : ℕ) (spans : List Span) : Type 0 where
  pub digits : AreDigits text place (place + 14)
  pub before : (last : ℕ) → last + 1 ≡ place → is_word_byte (slice_index text last) ≡ false
  pub after : is_word_byte (slice_index text (place + 14)) ≡ false
  pub parts : spans ≡ between place (place + 4)
      ∷ between (place + 4) (place + 6) ∷ between (place + 6) (place + 8)
      ∷ between (place + 8) (place + 10) ∷ between (place + 10) (place + 12)
      ∷ between (place + 12) (place + 14) ∷ []

-- the shape stands nowhere
abbrev pub StandsNowhere : {S : Type 0} → (ℕ → S → Type 0) → Type 0
StandsNowhere {S} shape = (place : ℕ) (found : S) → shape place found → ⊥

-- the shape stands at a place, and at none before
pub record StandsFirst {S : Type 0} (shape : ℕ → S → Type 0) (found : S) : Type 0 where
  pub place : ℕ
  pub stands : shape place found
  pub first : (earlier : ℕ) (other : S) → earlier < place → shape earlier other → ⊥

-- the shape stands at no place before this one
abbrev pub StandsNotBefore : {S : Type 0} → (ℕ → S → Type 0) → ℕ → Type 0
StandsNotBefore {S} shape end = (place : ℕ) (found : S) → place < end → shape place found → ⊥

-- no numbers with these closing bytes stand from a place on
abbrev pub LacksFields : List ℕ → ℕ → List ℕ → Type 0
LacksFields text from closes = (spans : List Span) → AreFields text from closes spans → ⊥

-- a byte that may close a number: no digit, no "("
abbrev pub IsMark : ℕ → Type 0
IsMark close = (40 < close) × (close < 48)

-- bytes end in a white space character
pub record EndsInSpace (bytes : List ℕ) : Type 0 where
  pub front : List ℕ
  pub space : ℕ
  pub whole : bytes ≡ front ++ encode_utf8 space
  pub is_white : is_whitespace space ≡ true

-- a text, white space cut at its end, ends in a run of digits that stands right behind white space:
-- the span of the run
pub record IsTrailingSize (text : List ℕ) (span : Span) : Type 0 where
  pub ends : span.end ≡ length (trim_end text)
  pub some : span.start < span.end
  pub digits : AreDigits (trim_end text) span.start span.end
  pub space : EndsInSpace (take span.start (trim_end text))

-- the number that digits write behind a number
abbrev pub digits_value : ℕ → List ℕ → ℕ
digits_value before [] = before
digits_value before (digit ∷ digits) = digits_value (before * 10 + (digit - 48)) digits

-- the number that digits write, where there are some, they are all digits, and it isn't above the most
abbrev pub number_up_to : ℕ → List ℕ → Option ℕ
number_up_to most [] = None
number_up_to most (digit ∷ digits) =
    if list_all is_ascii_digit (digit ∷ digits)
    then (if nat_le (digits_value 0 (digit ∷ digits)) most then Some (digits_value 0 (digit ∷ digits)) else None)
    else None
