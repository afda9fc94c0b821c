-- Lemmas on the text of replies.
use Rattle.std.proofs.Common.{◌≡◌, ℕ, zero, suc, ◌+◌, ◌-◌, ◌<◌, ◌==◌, Bool, List, [], ◌∷◌, length, take, drop, slice_index, Some, None, true, false, refl, ap, sym, ◌∙◌, arith}
use Rattle.std.specs.List.{IsLastAndRest, list_any}
use Rattle.std.proofs.Math.Seq.{take-append_seam}
use Rattle.std.proofs.lemmas.List.Folds.{list_any_at}
use Rattle.memchr.specs.Find.{IsLastByte, is_byte}
use Rattle.std.specs.Str.{IsUtf8, is_utf8, trim_end}
use Rattle.std.proofs.lemmas.Str.{is_utf8-from_IsUtf8, IsUtf8-from_is_utf8}
use Rattle.ftp_base.specs.Reply.{after_feeds, begins_with_one, ending_line, strict_text}

-- bytes that are UTF-8 have a text
pub strict_text_utf8 : (bytes : List ℕ) → IsUtf8 bytes → strict_text bytes ≡ Some (trim_end bytes)
strict_text_utf8 bytes utf8 = rw (is_utf8-from_IsUtf8 bytes utf8)

-- others have none
pub strict_text_not_utf8 : (bytes : List ℕ) → ¬ (IsUtf8 bytes) → strict_text bytes ≡ None
strict_text_not_utf8 bytes not_utf8 =
    elim (is_utf8 bytes) as (λ b. is_utf8 bytes ≡ b → strict_text bytes ≡ None) [
      | true ↦ λ is. absurd (not_utf8 (IsUtf8-from_is_utf8 bytes is))
      | false ↦ λ is. rw is
    ]
    refl

-- The line that ended a reply

abbrev feed : ℕ → Bool
feed b = b == 10

abbrev has_feed : List ℕ → Bool
has_feed bytes = list_any feed bytes

-- no byte from here on is an LF
no_feed : (bytes : List ℕ) → ((k : ℕ) → k < length bytes → feed (slice_index bytes k) ≡ true → ⊥) → has_feed bytes ≡ false
no_feed [] none = refl
no_feed (b ∷ bytes) none =
    elim (feed b) as (λ t. feed b ≡ t → has_feed (b ∷ bytes) ≡ false) [
      | true ↦ λ is. absurd (none 0 (omega arith) is)
      | false ↦ λ is. rw is (no_feed bytes (λ k within passes. none (suc k) (omega (arith, within)) passes))
    ]
    refl

feeds_none : (bytes : List ℕ) → has_feed bytes ≡ false → after_feeds bytes ≡ bytes
unfolding after_feeds
feeds_none [] none = refl
feeds_none (b ∷ bytes) none = rw none refl

feeds_more : (b : ℕ) (bytes : List ℕ) → has_feed (b ∷ bytes) ≡ true → after_feeds (b ∷ bytes) ≡ after_feeds bytes
unfolding after_feeds
feeds_more b bytes some = rw some refl

feeds_last : (bytes : List ℕ) (place : ℕ) → place < length bytes → feed (slice_index bytes place) ≡ true → ((k : ℕ) → place < k → k < length bytes → feed (slice_index bytes k) ≡ true → ⊥) → after_feeds bytes ≡ drop (suc place) bytes
feeds_last [] place within is later = absurd (omega (arith, within))
feeds_last (b ∷ bytes) zero within is later =
    feeds_more b bytes (list_any_at feed (b ∷ bytes) 0 0 within is) ∙ feeds_none bytes (no_feed bytes (λ k below passes. later (suc k) (omega arith) (omega (arith, below)) passes))
feeds_last (b ∷ bytes) (suc place) within is later =
    feeds_more b bytes (list_any_at feed (b ∷ bytes) (suc place) 0 within is) ∙ feeds_last bytes place (omega (arith, within)) is (λ k above below passes. later (suc k) (omega (arith, above)) (omega (arith, below)) passes)

-- what follows the last LF, where memchr finds none or one
pub after_feeds_none : (bytes : List ℕ) → IsLastByte (is_byte 10) bytes None → bytes ≡ after_feeds bytes
after_feeds_none bytes none = sym (feeds_none bytes (no_feed bytes (λ k within passes. none k (omega arith) within passes)))

pub after_feeds_some : (bytes : List ℕ) (place : ℕ) → IsLastByte (is_byte 10) bytes (Some place) → drop (place + 1) bytes ≡ after_feeds bytes
after_feeds_some bytes place found =
    let same : place + 1 ≡ suc place = omega arith in
    ap (λ n. drop n bytes) same ∙ sym (feeds_last bytes place found.0.high found.1 (λ k above below passes. found.0.after k (omega (arith, above)) below passes))

-- bytes without the last one
pub front_is : (bytes front : List ℕ) (last : ℕ) → IsLastAndRest bytes last front → take (length bytes - 1) bytes ≡ front
front_is bytes front last is =
    let count : length bytes - 1 ≡ length front = omega (arith, is.1) in
    ap (λ n. take n bytes) count ∙ ap (λ l. take (length front) l) is.0 ∙ take-append_seam front (last ∷ [])

-- no bytes end in no line
pub empty_ends : (bytes : List ℕ) → length bytes ≡ 0 → begins_with_one (ending_line bytes) ≡ false
unfolding after_feeds
empty_ends [] none = refl
empty_ends (b ∷ bytes) none = absurd (omega (arith, none))
