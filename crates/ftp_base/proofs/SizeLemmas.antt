-- Lemmas on the digits at the end of a text.
use Rattle.std.proofs.Common.{◌≡◌, ℕ, ◌+◌, ◌-◌, ◌%◌, ◌/◌, ◌<◌, ◌≤◌, inl, inr, true, nat_lt, List, [], ◌∷◌, ◌++◌, length, take, slice_index, append_assoc, sym, ap, subst, ◌∙◌, arith}
use Rattle.std.proofs.Math.Utf8.{low_scalar}
use Rattle.std.proofs.Math.Seq.{get_or-append_seam}
use Rattle.std.proofs.lemmas.Bool.{cases_order, cases_Bool}
use Rattle.std.proofs.lemmas.Bool.Decides.{nat_tests}
use Rattle.std.proofs.lemmas.List.{length-append, length-take-le, get_or-take}
use Rattle.std.proofs.lemmas.Str.{encode_ascii}
use Rattle.std.specs.Char.{IsAsciiDigit, is_whitespace, encode_utf8, IsScalar}
use Rattle.std.specs.Str.{trim_end}
use Rattle.ftp_base.specs.declared.command.scan.Span.{Span}
use Rattle.ftp_base.specs.Scan.{AreDigits, EndsInSpace, IsTrailingSize}

-- no white space is a digit
pub white_no_digit : (c : ℕ) → is_whitespace c ≡ true → IsAsciiDigit c → ⊥
white_no_digit c white digit = grind (arith, nat_tests, white, digit)

-- white space is a character
pub white_scalar : (c : ℕ) → is_whitespace c ≡ true → IsScalar c
white_scalar c white = low_scalar c (grind (arith, nat_tests, white))

-- a character past ASCII ends in a byte past ASCII
pub encode_last : (c : ℕ) → 128 ≤ c → (xs : List ℕ) × (last : ℕ) × (128 ≤ last) × (encode_utf8 c ≡ xs ++ last ∷ [])
unfolding encode_utf8
encode_last c past =
    elim (cases_Bool (nat_lt c 128)) [
      | inl low ↦ absurd (grind (arith, nat_tests, low, past))
      | inr high ↦ elim (cases_Bool (nat_lt c 2048)) [
        | inl two ↦ ((192 + c / 64) ∷ [], 128 + c % 64, omega arith, rw (high, two))
        | inr more ↦ elim (cases_Bool (nat_lt c 65536)) [
          | inl three ↦ ((224 + c / 4096) ∷ (128 + c / 64 % 64) ∷ [], 128 + c % 64, omega arith, rw (high, more, three))
          | inr four ↦ ((240 + c / 262144) ∷ (128 + c / 4096 % 64) ∷ (128 + c / 64 % 64) ∷ [], 128 + c % 64, omega arith, rw (high, more, four))
        ]
      ]
    ]

-- a byte that is no digit ends bytes that end in it
at_end : (bytes xs : List ℕ) (b last : ℕ) → last + 1 ≡ length bytes → IsAsciiDigit (slice_index bytes last) → bytes ≡ xs ++ b ∷ [] → (IsAsciiDigit b → ⊥) → ⊥
at_end bytes xs b last at digit whole none =
    let here : last ≡ length xs = omega (arith, at, ap length whole, length-append xs (b ∷ [])) in
    let is : slice_index bytes last ≡ b = rw (whole, here) (get_or-append_seam xs b [] 0) in
    none (subst IsAsciiDigit is digit)

-- the last byte of white space is no digit
pub white_end : (bytes : List ℕ) (space : EndsInSpace bytes) (last : ℕ) → last + 1 ≡ length bytes → IsAsciiDigit (slice_index bytes last) → ⊥
white_end bytes space last at digit =
    elim (cases_Bool (nat_lt space.space 128)) [
      | inl ascii ↦ (let small : space.space < 128 = grind (arith, nat_tests, ascii) in
          at_end bytes space.front space.space last at digit (space.whole ∙ ap (λ l. space.front ++ l) (encode_ascii space.space small)) (white_no_digit space.space space.is_white))
      | inr wide ↦ (let large : 128 ≤ space.space = grind (arith, nat_tests, wide) in
          let (xs, end, past, is) = encode_last space.space large in
          at_end bytes (space.front ++ xs) end last at digit (space.whole ∙ ap (λ l. space.front ++ l) is ∙ sym (append_assoc space.front xs (end ∷ []))) (λ d. omega (arith, past, d.1)))
    ]

-- the digits of a size begin where the longest run of digits at the end does
pub size_start : (text : List ℕ) (span : Span) (start : ℕ) → IsTrailingSize text span → start ≤ length (trim_end text) → AreDigits (trim_end text) start (length (trim_end text)) →
    ((last : ℕ) → last + 1 ≡ start → IsAsciiDigit (slice_index (trim_end text) last) → ⊥) → span.start ≡ start
size_start text span start trailing bound digits stops =
    elim (cases_order span.start start) [
      | inl same ↦ same
      | inr apart ↦ elim apart [
        | inl less ↦ absurd (stops (start - 1) (omega (arith, less)) (trailing.digits (start - 1) (omega (arith, less)) (omega (arith, less, trailing.ends, bound))))
        | inr more ↦ absurd (white_end (take span.start (trim_end text)) trailing.space (span.start - 1)
            (let long : length (take span.start (trim_end text)) ≡ span.start = length-take-le span.start (trim_end text) (omega (arith, trailing.some, trailing.ends)) in omega (arith, more, long))
            (let kept : slice_index (take span.start (trim_end text)) (span.start - 1) ≡ slice_index (trim_end text) (span.start - 1) = get_or-take span.start (trim_end text) (span.start - 1) 0 (omega (arith, more)) in
            rw kept (digits (span.start - 1) (omega (arith, more)) (omega (arith, more, trailing.some, trailing.ends)))))
      ]
    ]
