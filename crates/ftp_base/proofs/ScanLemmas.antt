-- Lemmas on numbers in a text.
use Rattle.std.proofs.Common.{◌≡◌, ℕ, zero, suc, ◌+◌, ◌<◌, ◌≤◌, inl, inr, IsTrue, nat_eq, List, [], ◌∷◌, length, slice_index, sym, subst, arith}
use Rattle.std.proofs.lemmas.Bool.{cases_order, eqb-true, and_parts}
use Rattle.std.proofs.lemmas.List.{get_or_past}
use Rattle.std.specs.List.{starts_with}
use Rattle.std.specs.Char.{IsAsciiDigit}
use Rattle.ftp_base.specs.declared.command.scan.Span.{Span}
use Rattle.ftp_base.specs.Scan.{AreDigits, IsNumber, AreFields, IsPassive, IsTimestamp, StandsAt, LacksFields, IsMark, StandsNotBefore, StandsNowhere}

-- a mark is no digit
pub mark_no_digit : (c : ℕ) → IsMark c → IsAsciiDigit c → ⊥
mark_no_digit c mark digit = omega (arith, mark.1, digit)

-- two runs of digits from one place end together, if behind each stands no digit
pub same_end : (text : List ℕ) (from a b : ℕ) → from ≤ a → from ≤ b → AreDigits text from a → AreDigits text from b →
    (IsAsciiDigit (slice_index text a) → ⊥) → (IsAsciiDigit (slice_index text b) → ⊥) → a ≡ b
same_end text from a b low low' first second stop stop' =
    elim (cases_order a b) [ inl same ↦ same | inr apart ↦ elim apart [ inl less ↦ absurd (stop (second a low less)) | inr more ↦ absurd (stop' (first b low' more)) ] ]

-- a number that a closing byte follows ends where the longest run of digits does
pub number_end : (text : List ℕ) (from run close : ℕ) (span : Span) → from ≤ run → AreDigits text from run → (IsAsciiDigit (slice_index text run) → ⊥) →
    IsNumber text from span → slice_index text span.end ≡ close → (IsAsciiDigit close → ⊥) → span.end ≡ run
number_end text from run close span low digits stops number closed mark =
    same_end text from span.end run (omega (arith, number.begins, number.some)) low
    (λ place. rw (← number.begins) (number.digits place)) digits (λ digit. mark (rw closed at digit)) stops

-- where a field stands, fields behind it are all that may be missing
pub LacksFields-behind : (text : List ℕ) (from close : ℕ) (span : Span) (closes : List ℕ) → IsMark close → IsNumber text from span → slice_index text span.end ≡ close →
    LacksFields text (span.end + 1) closes → LacksFields text from (close ∷ closes)
LacksFields-behind text from close span closes mark number closed lacks [] fields = fields
LacksFields-behind text from close span closes mark number closed lacks (other ∷ others) fields =
    let end : other.end ≡ span.end = number_end text from span.end close other (omega (arith, number.begins, number.some))
    (λ place. rw (← number.begins) (number.digits place)) (λ digit. mark_no_digit close mark (rw closed at digit)) fields.0 fields.1 (mark_no_digit close mark) in
    lacks others (subst (λ (e : ℕ). AreFields text (e + 1) closes others) end fields.2)

-- what stands before a place, and at it, stands before the next
pub StandsNotBefore-next : {S : Type 0} (shape : ℕ → S → Type 0) (place : ℕ) → StandsNotBefore shape place → ((found : S) → shape place found → ⊥) → StandsNotBefore shape (place + 1)
StandsNotBefore-next shape place before here p found less stands =
    elim (cases_order p place) [ inl same ↦ here found (subst (λ (n : ℕ). shape n found) same stands) | inr apart ↦ elim apart [ inl lower ↦ before p found lower stands | inr higher ↦ omega (arith, less, higher) ] ]

-- no bytes stand in no text
no_text : (byte : ℕ) (bytes : List ℕ) → IsTrue (starts_with nat_eq [] (byte ∷ bytes)) → ⊥
no_text byte bytes stands = cc stands

-- the first of bytes that stand in a text
pub StandsAt-first : (byte : ℕ) (bytes text : List ℕ) (place : ℕ) → StandsAt (byte ∷ bytes) text place → (place < length text) × (slice_index text place ≡ byte)
StandsAt-first byte bytes [] zero stands = absurd (no_text byte bytes stands)
StandsAt-first byte bytes [] (suc place) stands = absurd (no_text byte bytes stands)
StandsAt-first byte bytes (x ∷ xs) zero stands =
    (omega arith, sym (eqb-true byte x (and_parts (nat_eq byte x) (starts_with nat_eq xs bytes) stands).0))
StandsAt-first byte bytes (x ∷ xs) (suc place) stands = let (within, is) = StandsAt-first byte bytes xs place stands in (omega (arith, within), is)

-- the shape of PASV stands only before the end of a text
pub IsPassive-within : (text : List ℕ) (place : ℕ) (spans : List Span) → IsPassive text place spans → place < length text
IsPassive-within text place spans passive = (StandsAt-first 40 [] text place passive.opens).0

-- so does that of MDTM
pub IsTimestamp-within : (text : List ℕ) (place : ℕ) (spans : List Span) → IsTimestamp text place spans → place < length text
IsTimestamp-within text place spans stamp =
    elim (cases_order (length text) place) [
      | inl same ↦ absurd (past place (omega (arith, same)) (stamp.digits place (omega arith) (omega arith)))
      | inr apart ↦ elim apart [ inl less ↦ absurd (past place (omega (arith, less)) (stamp.digits place (omega arith) (omega arith))) | inr more ↦ more ]
    ]
  where
    -- behind a text stands no digit
    past : (n : ℕ) → length text ≤ n → IsAsciiDigit (slice_index text n) → ⊥
    past n behind digit = let zero : slice_index text n ≡ 0 = get_or_past text n 0 behind in omega (arith, zero, digit.0)

-- what stands at no place before the end of a text, and at none behind it, stands nowhere
pub StandsNowhere-from : {S : Type 0} (shape : ℕ → S → Type 0) (len end : ℕ) → StandsNotBefore shape end → len ≤ end → ((place : ℕ) (found : S) → shape place found → place < len) → StandsNowhere shape
StandsNowhere-from shape len end before past within place found stands = before place found (let h : place < len = within place found stands in omega (arith, h, past)) stands
