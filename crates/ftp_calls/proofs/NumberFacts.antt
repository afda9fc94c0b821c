-- Numbers of a text: the digits that stand in a span, and what they write.
use Rattle.std.proofs.Common.{◌≡◌, ℕ, suc, ◌+◌, ◌-◌, ◌<◌, ◌≤◌, true, false, cond, leb, ltb, inl, inr, List, [], ◌∷◌, ◌++◌, length, take, drop, get_or, refl, sym, ap, subst, ◌∙◌, arith}
use Rattle.std.specs.Prelude.{Option, Some, None}
use Rattle.std.specs.List.{list_all}
use Rattle.std.specs.Char.{IsAsciiDigit, is_ascii_digit}
use Rattle.std.proofs.lemmas.Bool.{cases_Bool, cases_lt, and_parts, lt-ltb, ltb-true}
use Rattle.std.proofs.lemmas.Bool.Decides.{nat_tests}
use Rattle.std.proofs.lemmas.List.{length-take-le, length-drop, take-append-drop, drop_at, get_or-take, get_or-drop, get_or_past, get_or_append_left, drop-drop}
use Rattle.ftp_base.specs.declared.command.scan.Span.{Span}
use Rattle.ftp_base.specs.Scan.{IsNumber, between, digits_value, number_up_to}
use Rattle.ftp_calls.specs.Addresses.{is_number}
use Rattle.ftp_calls.proofs.QuoteFacts.{if_passed, if_failed}
use Rattle.ftp_calls.proofs.SizeFacts.{digit_at}

-- the digits of a span, and the number that they write
abbrev pub spelled : List ℕ → Span → List ℕ
spelled text span = take (span.end - span.start) (drop span.start text)

abbrev pub value_at : List ℕ → Span → ℕ
value_at text span = digits_value 0 (spelled text span)

-- a number ends within its text
pub number_within : (text : List ℕ) (from : ℕ) (span : Span) → IsNumber text from span → span.end ≤ length text
number_within text from span number =
    elim (cases_lt (span.end - 1) (length text)) [
      | inl lt ↦ omega (arith, lt)
      | inr past ↦ (let some = number.some in
          let zero_at : get_or text (span.end - 1) 0 ≡ 0 = get_or_past text (span.end - 1) 0 past in
          let digit = number.digits (span.end - 1) (omega (arith, some)) (omega (arith, some)) in absurd (omega (arith, zero_at, digit.0)))
    ]

is_digit : (c : ℕ) → IsAsciiDigit c → is_ascii_digit c ≡ true
is_digit c digit = grind (arith, nat_tests, digit)

pub passes_digit : (c : ℕ) → is_ascii_digit c ≡ true → IsAsciiDigit c
passes_digit c passes = digit_at (c ∷ []) 0 (omega arith) (rw passes refl)

-- bytes that are digits each are digits
pub all_digits : (xs : List ℕ) → ((i : ℕ) → i < length xs → IsAsciiDigit (get_or xs i 0)) → list_all is_ascii_digit xs ≡ true
all_digits [] each = refl
all_digits (x ∷ xs) each =
    let head : is_ascii_digit x ≡ true = is_digit x (each 0 (omega arith)) in
    let tail : list_all is_ascii_digit xs ≡ true = all_digits xs (λ i lt. each (suc i) (omega (arith, lt))) in
    rw (head, tail) refl

-- the digits of a number
spelled_long : (text : List ℕ) (from : ℕ) (span : Span) → IsNumber text from span → length (spelled text span) ≡ span.end - span.start
spelled_long text from span number =
    let within = number_within text from span number in
    length-take-le (span.end - span.start) (drop span.start text) (omega (arith, length-drop span.start text, within))

pub spelled_digits : (text : List ℕ) (from : ℕ) (span : Span) → IsNumber text from span → list_all is_ascii_digit (spelled text span) ≡ true
spelled_digits text from span number =
    let long = spelled_long text from span number in
    all_digits (spelled text span)
    (λ i lt. let low : i < span.end - span.start = omega (arith, lt, long) in
    subst IsAsciiDigit (sym (get_or-take (span.end - span.start) (drop span.start text) i 0 low ∙ get_or-drop span.start text i 0))
    (number.digits (span.start + i) (omega arith) (omega (arith, low))))

pub spelled_number : (text : List ℕ) (from : ℕ) (span : Span) → IsNumber text from span → is_number (spelled text span) ≡ true
spelled_number text from span number =
    let some = number.some in
    let long = spelled_long text from span number in
    let is_some : ltb 0 (length (spelled text span)) ≡ true = lt-ltb 0 (length (spelled text span)) (omega (arith, some, long)) in
    let all = spelled_digits text from span number in
    rw (is_some, all) refl

-- a text from a number on
pub number_split : (text : List ℕ) (from : ℕ) (span : Span) → IsNumber text from span → drop from text ≡ spelled text span ++ drop span.end text
number_split text from span number =
    let begins = number.begins in
    let some = number.some in
    let at : span.start + (span.end - span.start) ≡ span.end = omega (arith, some) in
    ap (λ n. drop n text) (sym begins)
    ∙ sym (take-append-drop (span.end - span.start) (drop span.start text))
    ∙ ap (λ l. spelled text span ++ l) (drop-drop (span.end - span.start) span.start text ∙ ap (λ n. drop n text) at)

-- digits that a text goes on with are a number in it
pub number_here : (text : List ℕ) (from : ℕ) (front back : List ℕ) → drop from text ≡ front ++ back → is_number front ≡ true → IsNumber text from (between from (from + length front))
number_here text from front back is number =
    let (some, all) = and_parts (ltb 0 (length front)) (list_all is_ascii_digit front) number in
    let long : 0 < length front = ltb-true 0 (length front) some in
    record {
      begins = refl;
      some = omega (arith, long);
      digits = λ place low high.
          let n = place - from in
          let at : from + n ≡ place = omega (arith, low) in
          let here : n < length front = omega (arith, low, high) in
          let same : get_or front n 0 ≡ get_or text place 0 =
          sym (get_or_append_left front back 0 n here) ∙ ap (λ l. get_or l n 0) (sym is) ∙ get_or-drop from text n 0 ∙ ap (λ m. get_or text m 0) at in
          subst IsAsciiDigit same (digit_at front n here all);
    }

pub rest_here : (text : List ℕ) (from : ℕ) (front back : List ℕ) → drop from text ≡ front ++ back → drop (from + length front) text ≡ back
rest_here text from front back is =
    sym (drop-drop (length front) from text) ∙ ap (drop (length front)) is ∙ drop_at front back (length front) refl

-- what a bounded number is, of digits
number_if : (most : ℕ) (xs : List ℕ) → 0 < length xs → list_all is_ascii_digit xs ≡ true → number_up_to most xs ≡ cond (leb (digits_value 0 xs) most) (Some (digits_value 0 xs)) None
number_if most [] some all = absurd (omega (arith, some))
number_if most (x ∷ xs) some all =
    sym (if_passed (list_all is_ascii_digit (x ∷ xs)) (cond (leb (digits_value 0 (x ∷ xs)) most) (Some (digits_value 0 (x ∷ xs))) None) None all)

span_number : (text : List ℕ) (from most : ℕ) (span : Span) → IsNumber text from span → number_up_to most (spelled text span) ≡ cond (leb (value_at text span) most) (Some (value_at text span)) None
span_number text from most span number =
    let some = number.some in
    let long = spelled_long text from span number in
    number_if most (spelled text span) (omega (arith, long, some)) (spelled_digits text from span number)

-- a value is the number of a span, if it isn't above the most
abbrev pub Reads : ℕ → List ℕ → Span → Option ℕ → Type 0
Reads most text span value = span.start ≤ span.end → span.end ≤ length text → value ≡ number_up_to most (spelled text span)

is_read : (text : List ℕ) (from most : ℕ) (span : Span) (value : Option ℕ) → IsNumber text from span → Reads most text span value → value ≡ cond (leb (value_at text span) most) (Some (value_at text span)) None
is_read text from most span value number reads =
    let some = number.some in
    reads (omega (arith, some)) (number_within text from span number) ∙ span_number text from most span number

-- a number that was read, and one that wasn't
pub read_value : (text : List ℕ) (from most : ℕ) (span : Span) (x : ℕ) → IsNumber text from span → Reads most text span (Some x) → (leb (value_at text span) most ≡ true) × (x ≡ value_at text span)
read_value text from most span x number reads =
    let value = value_at text span in
    let is = is_read text from most span (Some x) number reads in
    elim (cases_Bool (leb value most)) [
      | inl fits ↦ (let same : Some x ≡ Some value = is ∙ sym (if_passed (leb value most) (Some value) None fits) in (fits, cc same))
      | inr above ↦ (let both : Some x ≡ None = is ∙ sym (if_failed (leb value most) (Some value) None above) in cc both)
    ]

pub read_none : (text : List ℕ) (from most : ℕ) (span : Span) → IsNumber text from span → Reads most text span None → leb (value_at text span) most ≡ false
read_none text from most span number reads =
    let value = value_at text span in
    let is = is_read text from most span None number reads in
    elim (cases_Bool (leb value most)) [
      | inl fits ↦ (let both : None ≡ Some value = is ∙ sym (if_passed (leb value most) (Some value) None fits) in cc both)
      | inr above ↦ above
    ]
