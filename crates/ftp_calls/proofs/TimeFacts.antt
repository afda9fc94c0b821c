-- Where fourteen digits stand, and the numbers that they write.
use Rattle.std.proofs.Common.{◌≡◌, ℕ, zero, suc, ◌+◌, ◌-◌, ◌<◌, ◌≤◌, Bool, true, false, cond, eqb, leb, ltb, inl, inr, List, [], ◌∷◌, length, take, drop, get_or, refl, sym, ap, subst, ◌∙◌, arith}
use Rattle.std.specs.Prelude.{Option, Some, None, find, not, ◌&&◌, unwrap_or}
use Rattle.std.specs.List.{list_all}
use Rattle.std.specs.Option.{option_map, option_and_then}
use Rattle.std.specs.Char.{IsAsciiDigit, is_ascii_digit}
use Rattle.std.proofs.lemmas.Bool.{cases_Bool, cases_lt, and_right, and_cases, not-true, eq-eqb, eqb-true, le-leb, ltb-false}
use Rattle.std.proofs.lemmas.List.{length-take-le, length-drop, get_or-take, get_or-drop, get_or_past, drop-drop, drop-take, take-take}
use Rattle.ftp_base.specs.declared.command.scan.Span.{Span}
use Rattle.ftp_base.specs.Scan.{AreDigits, IsTimestamp, StandsFirst, StandsNowhere, between, is_word_byte, digits_value, number_up_to}
use Rattle.ftp_calls.specs.Dates.{date_of, time_of_day, date_time}
use Rattle.ftp_calls.specs.Times.{fourteen, follows_word, has_timestamp, places, timestamp, part, time_in}
use Rattle.ftp_calls.proofs.NumberFacts.{all_digits}
use Rattle.ftp_calls.proofs.PlaceFacts.{no_place, first_place}
use Rattle.ftp_calls.proofs.QuoteFacts.{if_passed}
use Rattle.ftp_calls.proofs.SizeFacts.{digit_at}

all_four : (a b c d : Bool) → (a && b && c && d) ≡ true → (a ≡ true) × (b ≡ true) × (c ≡ true) × (d ≡ true)
all_four true true true true h = (refl, refl, refl, refl)
all_four true true true false h = cc h
all_four true true false d h = cc h
all_four true false c d h = cc h
all_four false b c d h = cc h

four_hold : (a b c d : Bool) → a ≡ true → b ≡ true → c ≡ true → d ≡ true → (a && b && c && d) ≡ true
four_hold a b c d p q r s = rw (p, q, r, s) refl

-- the six spans of a timestamp at a place
abbrev pub spans_at : ℕ → List Span
spans_at place =
    between place (place + 4) ∷ between (place + 4) (place + 6) ∷ between (place + 6) (place + 8)
    ∷ between (place + 8) (place + 10) ∷ between (place + 10) (place + 12) ∷ between (place + 12) (place + 14) ∷ []

-- a timestamp ends within its text
pub stamp_within : (text : List ℕ) (place : ℕ) → AreDigits text place (place + 14) → place + 14 ≤ length text
stamp_within text place digits =
    elim (cases_lt (place + 13) (length text)) [
      | inl lt ↦ omega (arith, lt)
      | inr past ↦ (let zero_at : get_or text (place + 13) 0 ≡ 0 = get_or_past text (place + 13) 0 past in
          let digit = digits (place + 13) (omega arith) (omega arith) in absurd (omega (arith, zero_at, digit.0)))
    ]

fourteen_long : (text : List ℕ) (place : ℕ) → place + 14 ≤ length text → length (fourteen text place) ≡ 14
fourteen_long text place within = length-take-le 14 (drop place text) (omega (arith, length-drop place text, within))

fourteen_at : (text : List ℕ) (place i : ℕ) → i < 14 → get_or (fourteen text place) i 0 ≡ get_or text (place + i) 0
fourteen_at text place i lt = get_or-take 14 (drop place text) i 0 lt ∙ get_or-drop place text i 0

-- the digits of a timestamp
pub stamp_digits : (text : List ℕ) (place : ℕ) → AreDigits text place (place + 14) → list_all is_ascii_digit (fourteen text place) ≡ true
stamp_digits text place digits =
    let long = fourteen_long text place (stamp_within text place digits) in
    all_digits (fourteen text place)
    (λ i lt. let low : i < 14 = omega (arith, lt, long) in
    subst IsAsciiDigit (sym (fourteen_at text place i low)) (digits (place + i) (omega arith) (omega (arith, low))))

no_word : (text : List ℕ) (place : ℕ) → ((last : ℕ) → last + 1 ≡ place → is_word_byte (get_or text last 0) ≡ false) → follows_word text place ≡ false
no_word text zero before = refl
no_word text (suc place) before =
    and_right (ltb 0 (suc place)) (is_word_byte (get_or text (suc place - 1) 0)) (before (suc place - 1) (omega arith))

-- the test passes where a timestamp stands
stamp_passes : (text : List ℕ) (place : ℕ) (spans : List Span) → IsTimestamp text place spans → has_timestamp text place ≡ true
stamp_passes text place spans stamp =
    four_hold (eqb (length (fourteen text place)) 14) (list_all is_ascii_digit (fourteen text place)) (not (follows_word text place)) (not (is_word_byte (get_or text (place + 14) 0)))
    (eq-eqb (length (fourteen text place)) 14 (fourteen_long text place (stamp_within text place stamp.digits))) (stamp_digits text place stamp.digits)
    (ap not (no_word text place stamp.before)) (ap not stamp.after)

-- and a timestamp stands where the test passes
passes_stamp : (text : List ℕ) (place : ℕ) → has_timestamp text place ≡ true → IsTimestamp text place (spans_at place)
passes_stamp text place passes =
    let (long, digits, before, after) = all_four (eqb (length (fourteen text place)) 14) (list_all is_ascii_digit (fourteen text place)) (not (follows_word text place)) (not (is_word_byte (get_or text (place + 14) 0))) passes in
    let length_is : length (fourteen text place) ≡ 14 = eqb-true (length (fourteen text place)) 14 long in
    record {
      digits = λ k low high.
          let n = k - place in
          let at : place + n ≡ k = omega (arith, low) in
          let here : n < 14 = omega (arith, low, high) in
          subst IsAsciiDigit (fourteen_at text place n here ∙ ap (λ m. get_or text m 0) at) (digit_at (fourteen text place) n (omega (arith, here, length_is)) digits);
      before = λ last next. elim (and_cases (ltb 0 place) (is_word_byte (get_or text (place - 1) 0)) (not-true (follows_word text place) before)) [
        | inl first ↦ (let none : place ≤ 0 = ltb-false 0 place first in absurd (omega (arith, none, next)))
        | inr word ↦ (let at : place - 1 ≡ last = omega (arith, next) in sym (ap (λ m. is_word_byte (get_or text m 0)) at) ∙ word)
      ];
      after = not-true (is_word_byte (get_or text (place + 14) 0)) after;
      parts = refl;
    }

-- no timestamp stands in a text
pub no_timestamp : (text : List ℕ) → StandsNowhere (IsTimestamp text) → None ≡ option_and_then time_in (timestamp text)
no_timestamp text nowhere =
    let none : find (has_timestamp text) (places (length text)) ≡ None =
    no_place (has_timestamp text) (length text)
    (λ k lt. elim (cases_Bool (has_timestamp text k)) [ inr other ↦ other | inl passes ↦ absurd (nowhere k (spans_at k) (passes_stamp text k passes)) ]) in
    sym (ap (λ place. option_and_then time_in (option_map (fourteen text) place)) none)

-- the digits of the first timestamp
pub first_timestamp : (text : List ℕ) (spans : List Span) (first : StandsFirst (IsTimestamp text) spans) → time_in (fourteen text first.place) ≡ option_and_then time_in (timestamp text)
first_timestamp text spans first =
    let within = stamp_within text first.place first.stands.digits in
    let found : find (has_timestamp text) (places (length text)) ≡ Some first.place =
    first_place (has_timestamp text) (length text) first.place (omega (arith, within)) (stamp_passes text first.place spans first.stands)
    (λ k lt. elim (cases_Bool (has_timestamp text k)) [ inr other ↦ other | inl passes ↦ absurd (first.first k (spans_at k) lt (passes_stamp text k passes)) ]) in
    sym (ap (λ place. option_and_then time_in (option_map (fourteen text) place)) found)

-- four digits write no number above 9999
short_value : (xs : List ℕ) → length xs ≤ 4 → list_all is_ascii_digit xs ≡ true → digits_value 0 xs ≤ 9999
short_value [] short all = omega arith
short_value (a ∷ []) short all =
    let p = digit_at (a ∷ []) 0 (omega arith) all in omega (arith, p.1)
short_value (a ∷ b ∷ []) short all =
    let p = digit_at (a ∷ b ∷ []) 0 (omega arith) all in
    let q = digit_at (a ∷ b ∷ []) 1 (omega arith) all in omega (arith, p.1, q.1)
short_value (a ∷ b ∷ c ∷ []) short all =
    let p = digit_at (a ∷ b ∷ c ∷ []) 0 (omega arith) all in
    let q = digit_at (a ∷ b ∷ c ∷ []) 1 (omega arith) all in
    let r = digit_at (a ∷ b ∷ c ∷ []) 2 (omega arith) all in omega (arith, p.1, q.1, r.1)
short_value (a ∷ b ∷ c ∷ d ∷ []) short all =
    let p = digit_at (a ∷ b ∷ c ∷ d ∷ []) 0 (omega arith) all in
    let q = digit_at (a ∷ b ∷ c ∷ d ∷ []) 1 (omega arith) all in
    let r = digit_at (a ∷ b ∷ c ∷ d ∷ []) 2 (omega arith) all in
    let s = digit_at (a ∷ b ∷ c ∷ d ∷ []) 3 (omega arith) all in omega (arith, p.1, q.1, r.1, s.1)
short_value (a ∷ b ∷ c ∷ d ∷ e ∷ xs) short all = absurd (omega (arith, short))

-- so the number is there
number_is : (xs : List ℕ) → 0 < length xs → length xs ≤ 4 → list_all is_ascii_digit xs ≡ true → unwrap_or (number_up_to 9999 xs) 0 ≡ digits_value 0 xs
number_is [] some short all = absurd (omega (arith, some))
number_is (x ∷ xs) some short all =
    let value = digits_value 0 (x ∷ xs) in
    let fits : leb value 9999 ≡ true = le-leb value 9999 (short_value (x ∷ xs) short all) in
    sym (ap (λ (o : Option ℕ). unwrap_or o 0)
    (if_passed (leb value 9999) (Some value) None fits
    ∙ if_passed (list_all is_ascii_digit (x ∷ xs)) (cond (leb value 9999) (Some value) None) None all))

-- a part of the digits, read off the text
pub part_is : (text : List ℕ) (place from count rest : ℕ) → from + rest ≡ 14 → 0 < count → count ≤ 4 → count ≤ rest → AreDigits text place (place + 14) →
    unwrap_or (number_up_to 9999 (take count (drop (place + from) text))) 0 ≡ part from count (fourteen text place)
part_is text place from count rest whole some short fits digits =
    let within = stamp_within text place digits in
    let long : length (take count (drop (place + from) text)) ≡ count = length-take-le count (drop (place + from) text) (omega (arith, length-drop (place + from) text, within, whole, fits)) in
    let all : list_all is_ascii_digit (take count (drop (place + from) text)) ≡ true =
    all_digits (take count (drop (place + from) text))
    (λ i lt. let low : i < count = omega (arith, lt, long) in
    subst IsAsciiDigit (sym (get_or-take count (drop (place + from) text) i 0 low ∙ get_or-drop (place + from) text i 0))
    (digits (place + from + i) (omega arith) (omega (arith, low, fits, whole)))) in
    let same : take count (drop (place + from) text) ≡ take count (drop from (fourteen text place)) =
    ap (take count) (sym (drop-drop from place text))
    ∙ sym (take-take count rest (drop from (drop place text)) fits)
    ∙ ap (take count) (sym (drop-take from rest (drop place text)) ∙ ap (λ n. drop from (take n (drop place text))) whole) in
    number_is (take count (drop (place + from) text)) (omega (arith, long, some)) (omega (arith, long, short)) all ∙ ap (digits_value 0) same

-- what is read of a span that stands within the fourteen digits
part_read : (text : List ℕ) (place from count rest start end value : ℕ) → start ≡ place + from → end ≡ start + count → from + rest ≡ 14 → 0 < count → count ≤ 4 → count ≤ rest →
    AreDigits text place (place + 14) → (start ≤ end → end ≤ length text → value ≡ unwrap_or (number_up_to 9999 (take (end - start) (drop start text))) 0) →
    value ≡ part from count (fourteen text place)
part_read text place from count rest start end value at long whole some short fits digits reads =
    let within = stamp_within text place digits in
    let size : end - start ≡ count = omega (arith, long) in
    reads (omega (arith, long)) (omega (arith, long, at, whole, fits, within))
    ∙ ap (λ n. unwrap_or (number_up_to 9999 (take n (drop start text))) 0) size
    ∙ ap (λ n. unwrap_or (number_up_to 9999 (take count (drop n text))) 0) at
    ∙ part_is text place from count rest whole some short fits digits

-- a value is the number of the span at an index
abbrev pub Reads : List ℕ → List Span → ℕ → ℕ → Type 0
Reads text spans i value =
    (get_or spans i (between 0 0)).start ≤ (get_or spans i (between 0 0)).end → (get_or spans i (between 0 0)).end ≤ length text →
    value ≡ unwrap_or (number_up_to 9999 (take ((get_or spans i (between 0 0)).end - (get_or spans i (between 0 0)).start) (drop (get_or spans i (between 0 0)).start text))) 0

-- the time of the numbers of the six spans
pub time_read : (text : List ℕ) (spans : List Span) (y mo d h m s : ℕ) → StandsFirst (IsTimestamp text) spans →
    Reads text spans 0 y → Reads text spans 1 mo → Reads text spans 2 d → Reads text spans 3 h → Reads text spans 4 m → Reads text spans 5 s →
    date_time (date_of y mo d) (time_of_day h m s) ≡ option_and_then time_in (timestamp text)
time_read text spans y mo d h m s first ry rmo rd rh rm rs =
    let place = first.place in
    let digits = first.stands.digits in
    let parts = first.stands.parts in
    let ds = fourteen text place in
    let ey : y ≡ part 0 4 ds =
    part_read text place 0 4 14 place (place + 4) y (omega arith) refl refl (omega arith) (omega arith) (omega arith) digits (subst (λ ss. Reads text ss 0 y) parts ry) in
    let emo : mo ≡ part 4 2 ds =
    part_read text place 4 2 10 (place + 4) (place + 6) mo refl (omega arith) refl (omega arith) (omega arith) (omega arith) digits (subst (λ ss. Reads text ss 1 mo) parts rmo) in
    let ed : d ≡ part 6 2 ds =
    part_read text place 6 2 8 (place + 6) (place + 8) d refl (omega arith) refl (omega arith) (omega arith) (omega arith) digits (subst (λ ss. Reads text ss 2 d) parts rd) in
    let eh : h ≡ part 8 2 ds =
    part_read text place 8 2 6 (place + 8) (place + 10) h refl (omega arith) refl (omega arith) (omega arith) (omega arith) digits (subst (λ ss. Reads text ss 3 h) parts rh) in
    let em : m ≡ part 10 2 ds =
    part_read text place 10 2 4 (place + 10) (place + 12) m refl (omega arith) refl (omega arith) (omega arith) (omega arith) digits (subst (λ ss. Reads text ss 4 m) parts rm) in
    let es : s ≡ part 12 2 ds =
    part_read text place 12 2 2 (place + 12) (place + 14) s refl (omega arith) refl (omega arith) (omega arith) (omega arith) digits (subst (λ ss. Reads text ss 5 s) parts rs) in
    ap (λ n. date_time (date_of n mo d) (time_of_day h m s)) ey
    ∙ ap (λ n. date_time (date_of (part 0 4 ds) n d) (time_of_day h m s)) emo
    ∙ ap (λ n. date_time (date_of (part 0 4 ds) (part 4 2 ds) n) (time_of_day h m s)) ed
    ∙ ap (λ n. date_time (date_of (part 0 4 ds) (part 4 2 ds) (part 6 2 ds)) (time_of_day n m s)) eh
    ∙ ap (λ n. date_time (date_of (part 0 4 ds) (part 4 2 ds) (part 6 2 ds)) (time_of_day (part 8 2 ds) n s)) em
    ∙ ap (λ n. date_time (date_of (part 0 4 ds) (part 4 2 ds) (part 6 2 ds)) (time_of_day (part 8 2 ds) (part 10 2 ds) n)) es
    ∙ first_timestamp text spans first
