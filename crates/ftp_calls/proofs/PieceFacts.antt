-- What stands between brackets, cut at a delimiter.
use Rattle.std.proofs.Common.{◌≡◌, ℕ, zero, suc, ◌+◌, ◌<◌, Bool, true, false, cond, eqb, inl, inr, List, [], ◌∷◌, ◌++◌, length, drop, get_or, refl, sym, ap, subst, ◌∙◌, arith}
use Rattle.std.specs.Prelude.{nat_eq, ◌&&◌, ◌||◌, not}
use Rattle.std.specs.List.{All, list_all, list_any, before_first, starts_with, slice_split, onto_first}
use Rattle.std.specs.Char.{IsAsciiDigit, is_ascii_digit}
use Rattle.std.proofs.lemmas.Bool.{cases_Bool, cases_lt, and_parts, ne_eqb, eq-eqb, eqb-true}
use Rattle.std.proofs.lemmas.List.{get_or_past, drop-drop, drop_more}
use Rattle.std.proofs.lemmas.List.Sums.{take_while-cons, AllPass-from_list_all}
use Rattle.ftp_base.specs.Scan.{StandsAt}
use Rattle.ftp_calls.specs.Addresses.{is_closing, has_brackets}
use Rattle.ftp_calls.proofs.QuoteFacts.{if_passed, if_failed}
use Rattle.ftp_calls.proofs.NumberFacts.{passes_digit}

-- bytes that stand in a text
pub begins_with : (xs bytes : List ℕ) → starts_with nat_eq xs bytes ≡ true → xs ≡ bytes ++ drop (length bytes) xs
begins_with xs [] stands = refl
begins_with [] (byte ∷ bytes) stands = cc stands
begins_with (x ∷ xs) (byte ∷ bytes) stands =
    let (first, more) = and_parts (nat_eq byte x) (starts_with nat_eq xs bytes) stands in
    let same : byte ≡ x = eqb-true byte x first in
    ap (λ b. b ∷ xs) (sym same) ∙ ap (λ l. byte ∷ l) (begins_with xs bytes more)

pub at_drop : (text : List ℕ) (place byte : ℕ) (rest : List ℕ) → drop place text ≡ byte ∷ rest → (place < length text) × (get_or text place 0 ≡ byte)
at_drop [] zero byte rest is = cc is
at_drop [] (suc place) byte rest is = cc is
at_drop (x ∷ xs) zero byte rest is = (omega arith, cc is)
at_drop (x ∷ xs) (suc place) byte rest is = let (within, same) = at_drop xs place byte rest is in (omega (arith, within), same)

pub after_drop : (text : List ℕ) (place byte : ℕ) (rest : List ℕ) → drop place text ≡ byte ∷ rest → drop (place + 1) text ≡ rest
after_drop text place byte rest is = sym (drop-drop 1 place text) ∙ ap (drop 1) is

-- what stands before the first closing bracket
abbrev pub inside : List ℕ → List ℕ
inside xs = before_first is_closing xs

pub inside_more : (x : ℕ) (xs : List ℕ) → is_closing x ≡ false → inside (x ∷ xs) ≡ x ∷ inside xs
inside_more x xs other = take_while-cons (λ y. not (is_closing y)) x xs ∙ ap (λ b. cond (not b) (x ∷ inside xs) []) other

pub inside_ends : (x : ℕ) (xs : List ℕ) → is_closing x ≡ true → inside (x ∷ xs) ≡ []
inside_ends x xs is = take_while-cons (λ y. not (is_closing y)) x xs ∙ ap (λ b. cond (not b) (x ∷ inside xs) []) is

pub no_byte : (x byte : ℕ) → byte < 48 → IsAsciiDigit x → eqb x byte ≡ false
no_byte x byte low digit = ne_eqb x byte (λ same. omega (arith, low, same, digit.0))

pub inside_digits : (front rest : List ℕ) → list_all is_ascii_digit front ≡ true → inside (front ++ rest) ≡ front ++ inside rest
inside_digits [] rest all = refl
inside_digits (x ∷ xs) rest all =
    let (head, tail) = and_parts (is_ascii_digit x) (list_all is_ascii_digit xs) all in
    inside_more x (xs ++ rest) (no_byte x 41 (omega arith) (passes_digit x head)) ∙ ap (λ l. x ∷ l) (inside_digits xs rest tail)

abbrev pub cut : ℕ → ℕ → Bool
cut delimiter byte = eqb byte delimiter

pub uncut : (delimiter : ℕ) (front : List ℕ) → ((x : ℕ) → IsAsciiDigit x → cut delimiter x ≡ false) → list_all is_ascii_digit front ≡ true → All (λ x. cut delimiter x ≡ false) front
uncut delimiter front none all k d lt = none (get_or front k d) (passes_digit (get_or front k d) (AllPass-from_list_all is_ascii_digit front all k d lt))

pub any_later : (front : List ℕ) (y : ℕ) (ys : List ℕ) → list_any is_closing ys ≡ true → list_any is_closing (front ++ y ∷ ys) ≡ true
any_later [] y ys any = elim (cases_Bool (is_closing y)) [ inl is ↦ rw is refl | inr other ↦ rw (other, any) refl ]
any_later (x ∷ xs) y ys any =
    let later = any_later xs y ys any in
    elim (cases_Bool (is_closing x)) [ inl is ↦ rw is refl | inr other ↦ rw (other, later) refl ]

-- what a list begins with: its first piece, and the delimiter or the bracket after it
abbrev pub Begins : ℕ → List ℕ → List ℕ → List (List ℕ) → Type 0
Begins c xs piece [] = (rest : List ℕ) × (xs ≡ piece ++ 41 ∷ rest)
Begins c xs piece (next ∷ more) =
    (rest : List ℕ) × (xs ≡ piece ++ c ∷ rest) × (list_any is_closing rest ≡ true) × (slice_split (cut c) (inside rest) ≡ next ∷ more)

pub split_some : (c : ℕ) (xs : List ℕ) → (piece : List ℕ) × (more : List (List ℕ)) × (slice_split (cut c) xs ≡ piece ∷ more)
split_some c [] = ([], [], refl)
split_some c (x ∷ xs) =
    let (piece, more, is) = split_some c xs in
    elim (cases_Bool (cut c x)) [
      | inl here ↦ ([], slice_split (cut c) xs, ap (λ b. cond b ([] ∷ slice_split (cut c) xs) (onto_first x (slice_split (cut c) xs))) here)
      | inr other ↦ (x ∷ piece, more, ap (λ b. cond b ([] ∷ slice_split (cut c) xs) (onto_first x (slice_split (cut c) xs))) other ∙ ap (onto_first x) is)
    ]

longer : (c x : ℕ) (xs piece : List ℕ) (more : List (List ℕ)) → Begins c xs piece more → Begins c (x ∷ xs) (x ∷ piece) more
longer c x xs piece [] begins = let (rest, is) = begins in (rest, ap (λ l. x ∷ l) is)
longer c x xs piece (next ∷ more) begins = let (rest, is, any, split) = begins in (rest, ap (λ l. x ∷ l) is, any, split)

cut_here : (c x : ℕ) (xs : List ℕ) (more : List (List ℕ)) → x ≡ c → list_any is_closing xs ≡ true → slice_split (cut c) (inside xs) ≡ more → Begins c (x ∷ xs) [] more
cut_here c x xs [] same any split = let (piece, others, is) = split_some c (inside xs) in let both : piece ∷ others ≡ [] = sym is ∙ split in cc both
cut_here c x xs (next ∷ more) same any split = (xs, ap (λ b. b ∷ xs) same, any, split)

one_later : (a b : Bool) → a ≡ false → (a || b) ≡ true → b ≡ true
one_later true b fails any = cc fails
one_later false b fails any = any

pub split_begins : (c : ℕ) (xs piece : List ℕ) (more : List (List ℕ)) → list_any is_closing xs ≡ true → slice_split (cut c) (inside xs) ≡ piece ∷ more → Begins c xs piece more
split_begins c [] piece more any split = cc any
split_begins c (x ∷ xs) piece more any split =
    elim (cases_Bool (is_closing x)) [
      | inl is ↦ (let both : [] ∷ [] ≡ piece ∷ more = ap (slice_split (cut c)) (sym (inside_ends x xs is)) ∙ split in
          let first : [] ≡ piece = cc both in
          let others : [] ≡ more = cc both in
          let start : Begins c (x ∷ xs) [] [] = (xs, ap (λ b. b ∷ xs) (eqb-true x 41 is)) in
          subst (λ (ps : List (List ℕ)). Begins c (x ∷ xs) piece ps) others (subst (λ (p : List ℕ). Begins c (x ∷ xs) p []) first start))
      | inr open_still ↦ (let later : list_any is_closing xs ≡ true = one_later (is_closing x) (list_any is_closing xs) open_still any in
          let whole : slice_split (cut c) (x ∷ inside xs) ≡ piece ∷ more = ap (slice_split (cut c)) (sym (inside_more x xs open_still)) ∙ split in
          let there = slice_split (cut c) (inside xs) in
          elim (cases_Bool (cut c x)) [
            | inl here ↦ (let both : [] ∷ there ≡ piece ∷ more = if_passed (cut c x) ([] ∷ there) (onto_first x there) here ∙ whole in
                let first : [] ≡ piece = cc both in
                let others : there ≡ more = cc both in
                subst (λ (p : List ℕ). Begins c (x ∷ xs) p more) first (cut_here c x xs more (eqb-true x c here) later others))
            | inr other ↦ (let (p, ps, is) = split_some c (inside xs) in
                let both : (x ∷ p) ∷ ps ≡ piece ∷ more = ap (onto_first x) (sym is) ∙ if_failed (cut c x) ([] ∷ there) (onto_first x there) other ∙ whole in
                let first : x ∷ p ≡ piece = cc both in
                let others : ps ≡ more = cc both in
                subst (λ (qs : List (List ℕ)). Begins c (x ∷ xs) piece qs) others
                (subst (λ (q : List ℕ). Begins c (x ∷ xs) q ps) first (longer c x xs p ps (split_begins c xs p ps later is))))
          ])
    ]

pub both_hold : (a b : Bool) → a ≡ true → b ≡ true → (a && b) ≡ true
both_hold a b p q = rw (p, q) refl

pub brackets : (text : List ℕ) (place : ℕ) (more : List ℕ) → StandsAt (40 ∷ more) text place → list_any is_closing (drop (place + 1) text) ≡ true → has_brackets text place ≡ true
brackets text place more opens any =
    let (_, is) = at_drop text place 40 (more ++ drop (length (40 ∷ more)) (drop place text)) (begins_with (drop place text) (40 ∷ more) opens) in
    both_hold (eqb (get_or text place 0) 40) (list_any is_closing (drop (place + 1) text)) (eq-eqb (get_or text place 0) 40 is) any

pub stands_within : (text : List ℕ) (place : ℕ) (more : List ℕ) → StandsAt (40 ∷ more) text place → place < length text
stands_within text place more opens =
    (at_drop text place 40 (more ++ drop (length (40 ∷ more)) (drop place text)) (begins_with (drop place text) (40 ∷ more) opens)).0

pub open_bracket : (text : List ℕ) (place : ℕ) → eqb (get_or text place 0) 40 ≡ true → drop place text ≡ 40 ∷ drop (place + 1) text
open_bracket text place opens =
    let is : get_or text place 0 ≡ 40 = eqb-true (get_or text place 0) 40 opens in
    let within : place < length text = elim (cases_lt place (length text)) [
      | inl lt ↦ lt
      | inr past ↦ (let zero_at : get_or text place 0 ≡ 0 = get_or_past text place 0 past in absurd (omega (arith, zero_at, is)))
    ] in
    drop_more text place 0 within ∙ ap (λ b. b ∷ drop (place + 1) text) is
