-- Lemmas on lines: how the lines of bytes go on with more bytes.
use Rattle.std.proofs.Common.{◌≡◌, ℕ, ◌≤◌, ◌<◌, Bool, true, false, cond, List, [], ◌∷◌, ◌++◌, length, refl, ap, ◌∙◌, append_assoc, arith, length-append, append-nil}
use Rattle.std.proofs.Math.Bool.{or-true}
use Rattle.std.proofs.lemmas.List.Folds.{list_any-append}
use Rattle.ftp_control.specs.Grammar.{is_line_feed, has_line_feed, onto_first_line, whole_lines, rest, last_line, lines, joined}

-- bytes with an LF have a first line
pub record HasFirst (bytes : List ℕ) : Type 0 where
  pub first : List ℕ
  pub others : List (List ℕ)
  pub is : whole_lines bytes ≡ first ∷ others

pub has_first : (bytes : List ℕ) → has_line_feed bytes ≡ true → HasFirst bytes
has_first [] has = cc
has_first (b ∷ bytes) has =
    elim (is_line_feed b) as (λ t. is_line_feed b ≡ t → HasFirst (b ∷ bytes)) [
      | true ↦ λ is. record { first = b ∷ []; others = whole_lines bytes; is = rw is }
      | false ↦ λ is.
          let later = has_first bytes (rw is at has) in
          record { first = b ∷ later.first; others = later.others; is = rw (is, later.is) }
    ]
    refl

-- bytes without one have none, and are all rest
pub whole_lines-none : (bytes : List ℕ) → has_line_feed bytes ≡ false → whole_lines bytes ≡ []
whole_lines-none [] none = refl
whole_lines-none (b ∷ bytes) none =
    elim (is_line_feed b) as (λ t. is_line_feed b ≡ t → whole_lines (b ∷ bytes) ≡ []) [
      | true ↦ λ is. let clash : true ≡ false = rw is at none in cc
      | false ↦ λ is. rw (is, whole_lines-none bytes (rw is at none))
    ]
    refl

pub rest-none : (bytes : List ℕ) → has_line_feed bytes ≡ false → rest bytes ≡ bytes
rest-none [] none = refl
rest-none (b ∷ bytes) none = rw none

-- a rest has no LF
pub has_line_feed-rest : (bytes : List ℕ) → has_line_feed (rest bytes) ≡ false
has_line_feed-rest [] = refl
has_line_feed-rest (b ∷ bytes) =
    elim (has_line_feed (b ∷ bytes)) as (λ t. has_line_feed (b ∷ bytes) ≡ t → has_line_feed (cond t (rest bytes) (b ∷ bytes)) ≡ false) [
      | true ↦ λ is. has_line_feed-rest bytes
      | false ↦ λ is. is
    ]
    refl

-- the lines of bytes that go on: the lines so far, and those of the rest with what follows
pub whole_lines-append : (bytes more : List ℕ) → whole_lines (bytes ++ more) ≡ whole_lines bytes ++ whole_lines (rest bytes ++ more)
whole_lines-append [] more = refl
whole_lines-append (b ∷ bytes) more =
    elim (is_line_feed b) as (λ t. is_line_feed b ≡ t → whole_lines ((b ∷ bytes) ++ more) ≡ whole_lines (b ∷ bytes) ++ whole_lines (rest (b ∷ bytes) ++ more)) [
      | true ↦ λ is. rw is (ap (λ ls. (b ∷ []) ∷ ls) (whole_lines-append bytes more))
      | false ↦ λ is.
          elim (has_line_feed bytes) as (λ u. has_line_feed bytes ≡ u → whole_lines ((b ∷ bytes) ++ more) ≡ whole_lines (b ∷ bytes) ++ whole_lines (rest (b ∷ bytes) ++ more)) [
            | true ↦ λ has.
                let later = has_first bytes has in
                let so_far : whole_lines (bytes ++ more) ≡ (later.first ∷ later.others) ++ whole_lines (rest bytes ++ more) = whole_lines-append bytes more ∙ rw later.is in
                rw (is, has, later.is, so_far)
            | false ↦ λ none. rw (is, none, whole_lines-none bytes none, is)
          ]
          refl
    ]
    refl

pub rest-append : (bytes more : List ℕ) → rest (bytes ++ more) ≡ rest (rest bytes ++ more)
rest-append [] more = refl
rest-append (b ∷ bytes) more =
    elim (has_line_feed (b ∷ bytes)) as (λ t. has_line_feed (b ∷ bytes) ≡ t → rest ((b ∷ bytes) ++ more) ≡ rest (rest (b ∷ bytes) ++ more)) [
      | true ↦ λ has.
          let still : has_line_feed ((b ∷ bytes) ++ more) ≡ true = rw (list_any-append is_line_feed (b ∷ bytes) more, has) in
          rw (still, has) (rest-append bytes more)
      | false ↦ λ none. rw none
    ]
    refl

pub lines-append : (bytes more : List ℕ) (ended : Bool) → lines (bytes ++ more) ended ≡ whole_lines bytes ++ lines (rest bytes ++ more) ended
lines-append bytes more ended = rw (whole_lines-append bytes more, rest-append bytes more, append_assoc)

-- the lines and the rest are the bytes
pub joined-whole_lines : (bytes : List ℕ) → joined (whole_lines bytes) ++ rest bytes ≡ bytes
joined-whole_lines [] = refl
joined-whole_lines (b ∷ bytes) =
    elim (is_line_feed b) as (λ t. is_line_feed b ≡ t → joined (whole_lines (b ∷ bytes)) ++ rest (b ∷ bytes) ≡ b ∷ bytes) [
      | true ↦ λ is. rw is (ap (λ bs. b ∷ bs) (joined-whole_lines bytes))
      | false ↦ λ is.
          elim (has_line_feed bytes) as (λ u. has_line_feed bytes ≡ u → joined (whole_lines (b ∷ bytes)) ++ rest (b ∷ bytes) ≡ b ∷ bytes) [
            | true ↦ λ has.
                let later = has_first bytes has in
                let so_far : joined (later.first ∷ later.others) ++ rest bytes ≡ bytes = rw later.is at (joined-whole_lines bytes) in
                rw (is, has, later.is) (ap (λ bs. b ∷ bs) so_far)
            | false ↦ λ none. rw (is, none, whole_lines-none bytes none)
          ]
          refl
    ]
    refl

-- an LF closes the line that the rest began
pub whole_lines-closed : (bytes more : List ℕ) → has_line_feed bytes ≡ false → whole_lines (bytes ++ 10 ∷ more) ≡ (bytes ++ 10 ∷ []) ∷ whole_lines more
whole_lines-closed [] more none = refl
whole_lines-closed (b ∷ bytes) more none =
    elim (is_line_feed b) as (λ t. is_line_feed b ≡ t → whole_lines ((b ∷ bytes) ++ 10 ∷ more) ≡ ((b ∷ bytes) ++ 10 ∷ []) ∷ whole_lines more) [
      | true ↦ λ is. let clash : true ≡ false = rw is at none in cc
      | false ↦ λ is. rw (is, whole_lines-closed bytes more (rw is at none))
    ]
    refl

pub rest-closed : (bytes : List ℕ) → rest (bytes ++ 10 ∷ []) ≡ []
rest-closed [] = refl
rest-closed (b ∷ bytes) =
    let has : has_line_feed ((b ∷ bytes) ++ 10 ∷ []) ≡ true = rw (list_any-append is_line_feed (b ∷ bytes) (10 ∷ []), or-true) in
    rw has (rest-closed bytes)

-- one LF more: the rest is a whole line
pub whole_lines-line_feed : (bytes more : List ℕ) → whole_lines (bytes ++ 10 ∷ more) ≡ whole_lines bytes ++ (rest bytes ++ 10 ∷ []) ∷ whole_lines more
whole_lines-line_feed bytes more = rw (whole_lines-append bytes (10 ∷ more), whole_lines-closed (rest bytes) more (has_line_feed-rest bytes))

-- one other byte more: the rest is longer
pub whole_lines-other : (bytes : List ℕ) (b : ℕ) → is_line_feed b ≡ false → whole_lines (bytes ++ b ∷ []) ≡ whole_lines bytes
whole_lines-other bytes b other =
    let none : has_line_feed (rest bytes ++ b ∷ []) ≡ false = rw (list_any-append is_line_feed (rest bytes) (b ∷ []), has_line_feed-rest bytes, other) in
    rw (whole_lines-append bytes (b ∷ []), whole_lines-none (rest bytes ++ b ∷ []) none, append-nil)

pub rest-other : (bytes : List ℕ) (b : ℕ) → is_line_feed b ≡ false → rest (bytes ++ b ∷ []) ≡ rest bytes ++ b ∷ []
rest-other bytes b other =
    let none : has_line_feed (rest bytes ++ b ∷ []) ≡ false = rw (list_any-append is_line_feed (rest bytes) (b ∷ []), has_line_feed-rest bytes, other) in
    rest-append bytes (b ∷ []) ∙ rest-none (rest bytes ++ b ∷ []) none

-- a first line is as long as what had come of it
first_whole_length : (bytes more first : List ℕ) (others : List (List ℕ)) → has_line_feed bytes ≡ false → whole_lines (bytes ++ more) ≡ first ∷ others → length bytes ≤ length first
first_whole_length [] more first others none is = omega arith
first_whole_length (b ∷ bytes) more first others none is =
    elim (is_line_feed b) as (λ t. is_line_feed b ≡ t → length (b ∷ bytes) ≤ length first) [
      | true ↦ λ feed. let clash : true ≡ false = rw feed at none in cc
      | false ↦ λ other.
          let no_more : has_line_feed bytes ≡ false = rw other at none in
          let onto : onto_first_line b (whole_lines (bytes ++ more)) ≡ first ∷ others = rw other at is in
          elim (whole_lines (bytes ++ more)) as (λ ls. whole_lines (bytes ++ more) ≡ ls → onto_first_line b ls ≡ first ∷ others → length (b ∷ bytes) ≤ length first) [
            | [] ↦ λ e f. let clash : ◌≡◌ {A = List (List ℕ)} [] (first ∷ others) = f in cc
            | l ∷ ls ↦ λ e f.
                let shorter : length bytes ≤ length l = first_whole_length bytes more l ls no_more e in
                let same : first ≡ b ∷ l = cc f in
                rw same (omega (arith, shorter))
          ]
          refl onto
    ]
    refl

pub first_line_length : (bytes more : List ℕ) (ended : Bool) (first : List ℕ) (others : List (List ℕ)) → has_line_feed bytes ≡ false → lines (bytes ++ more) ended ≡ first ∷ others → length bytes ≤ length first
first_line_length bytes more ended first others none is =
    elim (has_line_feed (bytes ++ more)) as (λ t. has_line_feed (bytes ++ more) ≡ t → length bytes ≤ length first) [
      | true ↦ λ has.
          let found = has_first (bytes ++ more) has in
          let same : first ≡ found.first = let e : (found.first ∷ found.others) ++ last_line ended (rest (bytes ++ more)) ≡ first ∷ others = rw found.is at is in cc e in
          rw same (first_whole_length bytes more found.first found.others none found.is)
      | false ↦ λ no.
          let only : last_line ended (bytes ++ more) ≡ first ∷ others = rw (whole_lines-none (bytes ++ more) no, rest-none (bytes ++ more) no) at is in
          last_length bytes more ended first others only
    ]
    refl
  where
    last_length : (bytes more : List ℕ) (ended : Bool) (first : List ℕ) (others : List (List ℕ)) → last_line ended (bytes ++ more) ≡ first ∷ others → length bytes ≤ length first
    last_length [] more ended first others is = omega arith
    last_length (b ∷ bytes) more true first others is =
        let same : first ≡ b ∷ (bytes ++ more) = cc is in rw (same, length-append bytes more) (omega (arith, length-append bytes more))
    last_length (b ∷ bytes) more false first others is = let clash : ◌≡◌ {A = List (List ℕ)} [] (first ∷ others) = is in cc

-- a line has at least its LF
pub first_nonempty : (bytes first : List ℕ) (others : List (List ℕ)) → whole_lines bytes ≡ first ∷ others → 0 < length first
first_nonempty [] first others is = let clash : ◌≡◌ {A = List (List ℕ)} [] (first ∷ others) = is in cc
first_nonempty (b ∷ bytes) first others is =
    elim (is_line_feed b) as (λ t. cond t ((b ∷ []) ∷ whole_lines bytes) (onto_first_line b (whole_lines bytes)) ≡ first ∷ others → 0 < length first) [
      | true ↦ λ e. let same : first ≡ b ∷ [] = cc e in rw same (omega arith)
      | false ↦ λ e.
          elim (whole_lines bytes) as (λ ls. onto_first_line b ls ≡ first ∷ others → 0 < length first) [
            | [] ↦ λ f. let clash : ◌≡◌ {A = List (List ℕ)} [] (first ∷ others) = f in cc
            | l ∷ ls ↦ λ f. let same : first ≡ b ∷ l = cc f in rw same (omega arith)
          ]
          e
    ]
    is
