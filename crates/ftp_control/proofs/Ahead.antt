-- Lemmas on what is read ahead: bytes are consumed from the front, and looked at up to an LF.
use Rattle.std.proofs.Common.{◌≡◌, ℕ, zero, suc, ◌+◌, ◌-◌, ◌≤◌, ◌<◌, Bool, true, false, List, [], ◌∷◌, ◌++◌, length, take, drop, slice_index, refl, ap, sym, ◌∙◌, arith, append_assoc, length-append}
use Rattle.std.proofs.lemmas.List.{drop-drop, drop-take}
use Rattle.ftp_control.specs.Grammar.{is_line_feed, has_line_feed, reply_limit}
use Rattle.ftp_control.specs.Inside.Ahead.{IsPiece}

-- a part of a buffer without its first bytes
pub consumed : (items : List ℕ) (start end count : ℕ) → count ≤ end - start → take (end - (start + count)) (drop (start + count) items) ≡ drop count (take (end - start) (drop start items))
consumed items start end count within =
    let left : end - start ≡ count + (end - (start + count)) = omega (arith, within) in
    sym (ap (λ n. drop count (take n (drop start items))) left ∙ drop-take count (end - (start + count)) (drop start items) ∙ ap (take (end - (start + count))) (drop-drop count start items))

other : (b : Bool) → (b ≡ true → ⊥) → b ≡ false
other true never = absurd (never refl)
other false never = refl

-- no LF stands before the first
pub none_before : (bytes : List ℕ) (count : ℕ) → count ≤ length bytes → ((k : ℕ) → k < count → is_line_feed (slice_index bytes k) ≡ true → ⊥) → has_line_feed (take count bytes) ≡ false
none_before bytes zero within none = refl
none_before [] (suc count) within none = refl
none_before (b ∷ bytes) (suc count) within none =
    rw (other (is_line_feed b) (none 0 (omega arith)), none_before bytes count (omega (arith, within)) (λ k low. none (suc k) (omega (arith, low)))) refl

split_last : (bytes : List ℕ) (count : ℕ) → count < length bytes → take (suc count) bytes ≡ take count bytes ++ slice_index bytes count ∷ []
split_last [] count within = absurd (omega (arith, within))
split_last (b ∷ bytes) zero within = refl
split_last (b ∷ bytes) (suc count) within = ap (λ bs. b ∷ bs) (split_last bytes count (omega (arith, within)))

-- bytes up to the first LF, or up to any before it, are a piece
pub piece : (bytes : List ℕ) (count : ℕ) → count < length bytes → ((k : ℕ) → k < count → is_line_feed (slice_index bytes k) ≡ true → ⊥) → IsPiece (take (suc count) bytes)
piece bytes count within none = record {
  front = take count bytes;
  last = slice_index bytes count;
  is = split_last bytes count within;
  before = none_before bytes count (omega (arith, within)) none;
}

last_at : (front : List ℕ) (last : ℕ) → slice_index (front ++ last ∷ []) (length front) ≡ last
last_at [] last = refl
last_at (b ∷ front) last = last_at front last

module _ (kept piece : List ℕ) (p : IsPiece piece) where
  piece_length : length piece ≡ length p.front + 1
  piece_length = ap length p.is ∙ length-append p.front (p.last ∷ [])

  -- its last byte
  pub piece_last : slice_index piece (length piece - 1) ≡ p.last
  piece_last =
      let count : length piece - 1 ≡ length p.front = omega (arith, piece_length) in
      ap (slice_index piece) count ∙ ap (λ bytes. slice_index bytes (length p.front)) p.is ∙ last_at p.front p.last

  -- after what is kept
  pub piece_ends : kept ++ piece ≡ (kept ++ p.front) ++ p.last ∷ []
  piece_ends = ap (λ bytes. kept ++ bytes) p.is ∙ sym (append_assoc kept p.front (p.last ∷ []))

  pub piece_count : length (kept ++ piece) ≡ length (kept ++ p.front) + 1
  piece_count = ap length piece_ends ∙ length-append (kept ++ p.front) (p.last ∷ [])

  -- all but its last byte are within the limit
  pub front_fits : length kept + length piece ≤ reply_limit + 1 → length kept + length p.front ≤ reply_limit
  front_fits fits = omega (arith, fits, piece_length)
