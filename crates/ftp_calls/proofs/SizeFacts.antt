-- The number after the last white space.
use Rattle.std.proofs.Common.{◌≡◌, ℕ, zero, suc, ◌+◌, ◌-◌, ◌^◌, ◌<◌, true, false, cond, leb, inl, inr, ◌⊎◌, List, [], ◌∷◌, ◌++◌, length, take, drop, get_or, refl, sym, ap, subst, ◌∙◌, arith, append_assoc}
use Rattle.std.specs.Prelude.{Some, None, not}
use Rattle.std.specs.List.{list_any, list_all, after_last, suffix_len}
use Rattle.std.specs.Char.{IsAsciiDigit, is_ascii_digit, is_whitespace, encode_utf8, IsScalar}
use Rattle.std.specs.Str.{IsUtf8, IsAscii, IsCharBoundary, chars, trim_end, encode_utf8_all}
use Rattle.std.proofs.Math.Utf8.{low_scalar}
use Rattle.std.proofs.lemmas.Bool.{cases_Bool, cases_lt, and_parts}
use Rattle.std.proofs.lemmas.Bool.Decides.{nat_tests}
use Rattle.std.proofs.lemmas.List.{length-append, length-take-le, length-drop, take-append-drop, take_at, drop_at, drop-drop, get_or-drop, get_or_at, get_or-append-add, get_or_past, take_rest}
use Rattle.std.proofs.lemmas.List.Folds.{list_any_at}
use Rattle.std.proofs.lemmas.List.Sums.{suffix_len_is}
use Rattle.std.proofs.lemmas.Str.{chars-append, chars-IsAscii, chars_past_char, encodes-append, encodes-IsAscii, encodes-chars, IsUtf8-append, IsUtf8-encode, IsUtf8-take, IsUtf8-from_ascii, IsCharBoundary-at_seam}
use Rattle.ftp_base.specs.declared.command.scan.Span.{Span}
use Rattle.ftp_base.specs.Scan.{AreDigits, EndsInSpace, IsTrailingSize, number_up_to, digits_value}
use Rattle.ftp_calls.specs.Answers.{last_number}
use Rattle.ftp_calls.proofs.QuoteFacts.{if_passed, if_failed}

abbrev pub most : ℕ
most = 2 ^ 64 - 1

-- white space is a character
white_scalar : (c : ℕ) → is_whitespace c ≡ true → IsScalar c
white_scalar c white = low_scalar c (grind (arith, nat_tests, white))

digit_dark : (c : ℕ) → IsAsciiDigit c → is_whitespace c ≡ false
digit_dark c digit = grind (arith, nat_tests, digit)

dark_at : (xs : List ℕ) (i : ℕ) → i < length xs → list_any is_whitespace xs ≡ false → is_whitespace (get_or xs i 0) ≡ false
dark_at xs i lt none = elim (cases_Bool (is_whitespace (get_or xs i 0))) [
  | inr dark ↦ dark
  | inl white ↦ (let both : true ≡ false = sym (list_any_at is_whitespace xs i 0 lt white) ∙ none in cc both)
]

-- what follows white space after which there is none
after_white : (front : List ℕ) (white : ℕ) (back : List ℕ) → is_whitespace white ≡ true → list_any is_whitespace back ≡ false → after_last is_whitespace (front ++ white ∷ back) ≡ back
after_white front white back is none =
    let whole = front ++ white ∷ back in
    let long : length whole ≡ length front + (length back + 1) = length-append front (white ∷ back) ∙ omega arith in
    let last : suffix_len (λ c. not (is_whitespace c)) whole ≡ length whole - (length front + 1) =
    suffix_len_is (λ c. not (is_whitespace c)) whole (length front + 1) 0 (omega (arith, long))
    (λ k low high.
    let n = k - length front - 1 in
    let at : k ≡ length front + suc n = omega (arith, low) in
    let is_at : get_or whole k 0 ≡ get_or back n 0 = ap (λ m. get_or whole m 0) at ∙ get_or-append-add front (white ∷ back) (suc n) 0 in
    ap not (ap is_whitespace is_at ∙ dark_at back n (omega (arith, low, high, long)) none))
    (λ _. let at : length front + 1 - 1 ≡ length front = omega arith in
    ap not (ap (λ m. is_whitespace (get_or whole m 0)) at ∙ ap is_whitespace (get_or_at front white back 0 (length front) refl) ∙ is)) in
    let place : length whole - suffix_len (λ c. not (is_whitespace c)) whole ≡ length front + 1 = omega (arith, last, long) in
    ap (λ n. drop n whole) place ∙ sym (drop-drop 1 (length front) whole) ∙ ap (drop 1) (drop_at front (white ∷ back) (length front) refl)

-- the number after it
pub number_after : (front : List ℕ) (white : ℕ) (back : List ℕ) → is_whitespace white ≡ true → list_any is_whitespace back ≡ false → last_number (front ++ white ∷ back) ≡ number_up_to most back
number_after front white back is none =
    let any : list_any is_whitespace (front ++ white ∷ back) ≡ true =
    list_any_at is_whitespace (front ++ white ∷ back) (length front) 0 (omega (arith, length-append front (white ∷ back)))
    (ap is_whitespace (get_or_at front white back 0 (length front) refl) ∙ is) in
    sym (if_passed (list_any is_whitespace (front ++ white ∷ back)) (number_up_to most (after_last is_whitespace (front ++ white ∷ back))) None any)
    ∙ ap (number_up_to most) (after_white front white back is none)

pub digit_at : (xs : List ℕ) (i : ℕ) → i < length xs → list_all is_ascii_digit xs ≡ true → IsAsciiDigit (get_or xs i 0)
digit_at [] i lt all = absurd (omega (arith, lt))
digit_at (x ∷ xs) zero lt all = let head = (and_parts (is_ascii_digit x) (list_all is_ascii_digit xs) all).0 in grind (arith, nat_tests, head)
digit_at (x ∷ xs) (suc i) lt all = digit_at xs i (omega (arith, lt)) (and_parts (is_ascii_digit x) (list_all is_ascii_digit xs) all).1

-- digits are no white space
digits_dark : (xs : List ℕ) → ((i : ℕ) → i < length xs → IsAsciiDigit (get_or xs i 0)) → list_any is_whitespace xs ≡ false
digits_dark [] digits = refl
digits_dark (x ∷ xs) digits =
    let head : is_whitespace x ≡ false = digit_dark x (digits 0 (omega arith)) in
    let tail : list_any is_whitespace xs ≡ false = digits_dark xs (λ i lt. digits (suc i) (omega (arith, lt))) in
    rw (head, tail) refl

-- and ASCII
digits_ascii : (xs : List ℕ) → ((i : ℕ) → i < length xs → IsAsciiDigit (get_or xs i 0)) → IsAscii xs
digits_ascii xs digits i =
    elim (cases_lt i (length xs)) [
      | inl lt ↦ (let digit = digits i lt in omega (arith, digit.1))
      | inr past ↦ (let zero_at : get_or xs i 0 ≡ 0 = get_or_past xs i 0 past in omega (arith, zero_at))
    ]

-- digits stand after white space at the end of a text
pub size_found : (t : List ℕ) (start : ℕ) → IsUtf8 t → start < length t → AreDigits t start (length t) → EndsInSpace (take start t) →
    last_number (chars t) ≡ number_up_to most (drop start t)
size_found t start utf lt are space =
    let digits = drop start t in
    let front = space.front in
    let white = space.space in
    let each : (i : ℕ) → i < length digits → IsAsciiDigit (get_or digits i 0) =
    λ i below. let within : i < length t - start = omega (arith, below, length-drop start t) in
    subst IsAsciiDigit (sym (get_or-drop start t i 0)) (are (start + i) (omega arith) (omega (arith, within))) in
    let ascii : IsAscii digits = digits_ascii digits each in
    let whole : t ≡ take start t ++ digits = sym (take-append-drop start t) in
    let digits_utf : IsUtf8 digits = IsUtf8-from_ascii digits ascii in
    let long : length (take start t) ≡ start = length-take-le start t (omega (arith, lt)) in
    let bound : IsCharBoundary t start = subst (λ (n : ℕ). IsCharBoundary t n) long (IsCharBoundary-at_seam t (take start t) digits whole digits_utf) in
    let before_utf : IsUtf8 (take start t) = IsUtf8-take t start utf bound in
    let white_utf : IsUtf8 (encode_utf8 white) = IsUtf8-encode white (white_scalar white space.is_white) in
    let front_bound : IsCharBoundary (take start t) (length front) = IsCharBoundary-at_seam (take start t) front (encode_utf8 white) space.whole white_utf in
    let front_utf : IsUtf8 front =
    subst IsUtf8 (ap (take (length front)) space.whole ∙ take_at front (encode_utf8 white) (length front) refl) (IsUtf8-take (take start t) (length front) before_utf front_bound) in
    let back_utf : IsUtf8 (encode_utf8 white ++ digits) = IsUtf8-append (encode_utf8 white) digits white_utf digits_utf in
    let text : t ≡ front ++ (encode_utf8 white ++ digits) = whole ∙ ap (λ l. l ++ digits) space.whole ∙ append_assoc front (encode_utf8 white) digits in
    let spelled : chars t ≡ chars front ++ white ∷ digits =
    ap chars text ∙ chars-append front (encode_utf8 white ++ digits) front_utf
    ∙ ap (λ l. chars front ++ l) (chars_past_char (encode_utf8 white ++ digits) digits white back_utf refl ∙ ap (λ l. white ∷ l) (chars-IsAscii digits ascii)) in
    ap last_number spelled ∙ number_after (chars front) white digits space.is_white (digits_dark digits each)

-- characters hold no white space, or end in some and what follows it
parted : (xs : List ℕ) → (list_any is_whitespace xs ≡ false)
    ⊎ ((front : List ℕ) × (white : ℕ) × (back : List ℕ) × (is_whitespace white ≡ true) × (list_any is_whitespace back ≡ false) × (xs ≡ front ++ white ∷ back))
parted [] = inl refl
parted (x ∷ xs) =
    elim (parted xs) [
      | inr (front, white, back, is, dark, whole) ↦ inr (x ∷ front, white, back, is, dark, ap (λ l. x ∷ l) whole)
      | inl dark ↦ elim (cases_Bool (is_whitespace x)) [ inl is ↦ inr ([], x, xs, is, dark, refl) | inr other ↦ inl (rw (other, dark) refl) ]
    ]

no_number : (xs : List ℕ) → (0 < length xs → list_all is_ascii_digit xs ≡ true → ⊥) → None ≡ number_up_to most xs
no_number [] none = refl
no_number (x ∷ xs) none =
    elim (cases_Bool (list_all is_ascii_digit (x ∷ xs))) [
      | inl all ↦ absurd (none (omega arith) all)
      | inr other ↦ if_failed (list_all is_ascii_digit (x ∷ xs))
          (cond (leb (digits_value 0 (x ∷ xs)) most) (Some (digits_value 0 (x ∷ xs))) None) None other
    ]

-- digits after white space at the end of a text are a size
trailing : (text front : List ℕ) (white : ℕ) (back : List ℕ) → trim_end text ≡ (front ++ encode_utf8 white) ++ back → is_whitespace white ≡ true →
    0 < length back → list_all is_ascii_digit back ≡ true → (span : Span) × IsTrailingSize text span
trailing text front white back whole is some all =
    let t = trim_end text in
    let before = front ++ encode_utf8 white in
    let long : length t ≡ length before + length back = ap length whole ∙ length-append before back in (
      record { start = length before; end = length t },
      record {
        ends = refl;
        some = omega (arith, long, some);
        digits = λ place low high.
            let n = place - length before in
            let at : place ≡ length before + n = omega (arith, low) in
            let is_at : get_or t place 0 ≡ get_or back n 0 = ap (λ l. get_or l place 0) whole ∙ ap (λ m. get_or (before ++ back) m 0) at ∙ get_or-append-add before back n 0 in
            subst IsAsciiDigit (sym is_at) (digit_at back n (omega (arith, low, high, long)) all);
        space = record { front = front; space = white; whole = ap (take (length before)) whole ∙ take_at before back (length before) refl; is_white = is };
      },
    )

-- where no size is, no number follows the last white space
pub size_absent : (text : List ℕ) → IsUtf8 (trim_end text) → ((span : Span) → IsTrailingSize text span → ⊥) → None ≡ last_number (chars (trim_end text))
size_absent text utf none =
    let t = trim_end text in
    elim (parted (chars t)) [
      | inl dark ↦ if_failed (list_any is_whitespace (chars t)) (number_up_to most (after_last is_whitespace (chars t))) None dark
      | inr (front, white, back, is, dark, whole) ↦
          no_number back (λ some all.
          let ascii : IsAscii back = digits_ascii back (λ i lt. digit_at back i lt all) in
          let text_is : t ≡ (encode_utf8_all front ++ encode_utf8 white) ++ back =
          sym (encodes-chars t utf) ∙ ap encode_utf8_all whole ∙ encodes-append front (white ∷ back)
          ∙ ap (λ l. encode_utf8_all front ++ (encode_utf8 white ++ l)) (encodes-IsAscii back ascii) ∙ sym (append_assoc (encode_utf8_all front) (encode_utf8 white) back) in
          let (span, stands) = trailing text (encode_utf8_all front) white back text_is is some all in
          none span stands)
          ∙ sym (ap last_number whole ∙ number_after front white back is dark)
    ]

-- the number of a size is the number that follows the last white space
pub size_is : (text trimmed : List ℕ) (span : Span) → trimmed ≡ trim_end text → IsUtf8 trimmed → IsTrailingSize text span →
    number_up_to most (take (span.end - span.start) (drop span.start trimmed)) ≡ last_number (chars (trim_end text))
size_is text trimmed span is utf size =
    ap (λ t. number_up_to most (take (span.end - span.start) (drop span.start t))) is
    ∙ ap (λ n. number_up_to most (take (n - span.start) (drop span.start (trim_end text)))) size.ends
    ∙ ap (number_up_to most) (take_rest (trim_end text) span.start)
    ∙ sym (size_found (trim_end text) span.start (subst IsUtf8 is utf) (omega (arith, size.some, size.ends))
    (λ place low high. size.digits place low (omega (arith, high, size.ends))) size.space)
