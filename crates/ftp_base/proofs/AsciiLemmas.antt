-- Lemmas on CR LF: place by place, and byte after byte with a flag.
use Rattle.std.proofs.Common.{◌≡◌, ◌<◌, ◌≤◌, ℕ, zero, suc, take, drop, ◌-◌, Bool, true, false, not, List, [], ◌∷◌, ◌++◌, ◌+◌, ◌&&◌, ◌==◌, refl, sym, ap, subst, ◌∙◌, length, arith, append_assoc}
use Rattle.std.specs.Prelude.{slice_index}
use Rattle.std.specs.List.{flat_map, enumerate_from}
use Rattle.std.proofs.Math.Seq.{get_or-append_seam, take-nil}
use Rattle.std.proofs.lemmas.Grind.{common_steps}
use Rattle.std.proofs.lemmas.List.{get_or_append_left, append-nil, take_rest}
use Rattle.std.proofs.lemmas.Bool.{eqb-true}
use Rattle.ftp_base.specs.Ascii.{on_wire, follows_return, crlf, ends_in_return, converted, last_return}

-- the byte before the first of bs is the last of before
pub follows_return-append : (before bs : List ℕ) → follows_return (before ++ bs) (length before) ≡ ends_in_return before
follows_return-append [] bs = refl
follows_return-append (x ∷ xs) bs =
    ap (λ b. b == 13) (get_or_append_left (x ∷ xs) bs 0 (length xs) (omega arith))

-- bytes end in CR if their last is CR
pub ends_in_return-last : (before : List ℕ) (b : ℕ) → ends_in_return (before ++ b ∷ []) ≡ (b == 13)
ends_in_return-last before b =
    let long : length (before ++ b ∷ []) ≡ suc (length before) = grind (arith, common_steps) in
    rw long (ap (λ x. x == 13) (get_or-append_seam before b [] 0))

-- from a place on, the bytes place by place are the bytes one after another
pub places-converted : (all before bs : List ℕ) (n : ℕ) → all ≡ before ++ bs → n ≡ length before →
    flat_map (λ place. on_wire (follows_return all place.0) place.1) (enumerate_from n bs) ≡ converted (ends_in_return before) bs
places-converted all before [] n whole at = refl
places-converted all before (b ∷ bs) n whole at =
    let here : follows_return all n ≡ ends_in_return before = rw (whole, at) (follows_return-append before (b ∷ bs)) in
    let rest : flat_map (λ place. on_wire (follows_return all place.0) place.1) (enumerate_from (n + 1) bs) ≡ converted (ends_in_return (before ++ b ∷ [])) bs
    = places-converted all (before ++ b ∷ []) bs (n + 1) (whole ∙ sym (append_assoc before (b ∷ []) bs)) (grind (arith, common_steps)) in
    rw (here, rest, ends_in_return-last before b)

-- bytes go on the wire one after another
pub crlf-converted : (bytes : List ℕ) → crlf bytes ≡ converted false bytes
crlf-converted bytes = places-converted bytes [] bytes 0 refl refl

pub converted-append : (after : Bool) (xs ys : List ℕ) → converted after (xs ++ ys) ≡ converted after xs ++ converted (last_return after xs) ys
converted-append after [] ys = refl
converted-append after (x ∷ xs) ys =
    rw (converted-append (x == 13) xs ys) (sym (append_assoc (on_wire after x) (converted (x == 13) xs) (converted (last_return (x == 13) xs) ys)))

pub ends_in_return-append : (before bs : List ℕ) → ends_in_return (before ++ bs) ≡ last_return (ends_in_return before) bs
ends_in_return-append before [] = ap ends_in_return (append-nil before)
ends_in_return-append before (b ∷ bs) =
    ap ends_in_return (sym (append_assoc before (b ∷ []) bs)) ∙ ends_in_return-append (before ++ b ∷ []) bs ∙ ap (λ after. last_return after bs) (ends_in_return-last before b)

-- what comes after bytes goes on the wire behind them
pub crlf-append : (before bs : List ℕ) → crlf (before ++ bs) ≡ crlf before ++ converted (ends_in_return before) bs
crlf-append before bs =
    rw (crlf-converted (before ++ bs), crlf-converted before, converted-append false before bs)
    (ap (λ after. converted false before ++ converted after bs) (sym (ends_in_return-append [] before)))

-- where a byte goes on the wire as it is, and what follows stays as it is, so do both
converted-kept : (after : Bool) (b : ℕ) (bs : List ℕ) → (b == 10) && not after ≡ false → converted (b == 13) (converted (b == 13) bs) ≡ converted (b == 13) bs →
    converted after (converted after (b ∷ bs)) ≡ converted after (b ∷ bs)
converted-kept after b bs same rest = rw same (rw same (ap (λ later. b ∷ later) rest))

-- what is on the wire stays as it is
pub converted-twice : (after : Bool) (bytes : List ℕ) → converted after (converted after bytes) ≡ converted after bytes
converted-twice after [] = refl
converted-twice true (b ∷ bs) = converted-kept true b bs (grind arith) (converted-twice (b == 13) bs)
converted-twice false (b ∷ bs) =
    elim (b == 10) as (λ is. b == 10 ≡ is → converted false (converted false (b ∷ bs)) ≡ converted false (b ∷ bs)) [
      | true ↦ λ is. subst (λ (n : ℕ). converted false (converted false (n ∷ bs)) ≡ converted false (n ∷ bs)) (sym (eqb-true b 10 is)) (ap (λ rest. 13 ∷ 10 ∷ rest) (converted-twice false bs))
      | false ↦ λ is. converted-kept false b bs (rw is) (converted-twice (b == 13) bs)
    ]
    refl

-- the wire bytes of wire bytes are the same
pub crlf-twice : (bytes : List ℕ) → crlf (crlf bytes) ≡ crlf bytes
crlf-twice bytes = rw (crlf-converted (crlf bytes), crlf-converted bytes) (converted-twice false bytes)

-- bytes without LF stand on the wire as they are
pub front_plain : (bytes : List ℕ) (n : ℕ) → ((k : ℕ) → 0 ≤ k → k < n → (slice_index bytes k == 10) ≡ true → ⊥) → (after : Bool) → converted after (take n bytes) ≡ take n bytes
front_plain [] n none after = ap (converted after) (take-nil n) ∙ sym (take-nil n)
front_plain (b ∷ bytes) zero none after = refl
front_plain (b ∷ bytes) (suc n) none after =
    let plain : (b == 10) ≡ false = not_true (b == 10) (none 0 (omega arith) (omega arith)) in
    let later : converted (b == 13) (take n bytes) ≡ take n bytes = front_plain bytes n (λ k low high is. none (suc k) (omega arith) (omega (arith, high)) is) (b == 13) in
    rw plain (ap (λ l. b ∷ l) later)
  where
    not_true : (t : Bool) → (t ≡ true → ⊥) → t ≡ false
    not_true true never = absurd (never refl)
    not_true false never = refl

-- the last byte of bytes one after another
pub last_return-append : (after : Bool) (xs ys : List ℕ) → last_return after (xs ++ ys) ≡ last_return (last_return after xs) ys
last_return-append after [] ys = refl
last_return-append after (x ∷ xs) ys = last_return-append (x == 13) xs ys

pub last_return-at : (after : Bool) (bytes : List ℕ) (n : ℕ) → length bytes ≡ suc n → last_return after bytes ≡ (slice_index bytes n == 13)
last_return-at after [] n long = absurd (omega (arith, long))
last_return-at after (b ∷ []) zero long = refl
last_return-at after (b ∷ []) (suc n) long = absurd (omega (arith, long))
last_return-at after (b ∷ c ∷ bytes) zero long = absurd (omega (arith, long))
last_return-at after (b ∷ c ∷ bytes) (suc n) long = last_return-at (b == 13) (c ∷ bytes) n (omega (arith, long))

-- a line without LF, and its end
pub line_converted : (after : Bool) (line : List ℕ) → converted after line ≡ line → converted after (line ++ 10 ∷ []) ≡ line ++ on_wire (last_return after line) 10
line_converted after line plain =
    converted-append after line (10 ∷ []) ∙ ap (λ l. l ++ (on_wire (last_return after line) 10 ++ [])) plain ∙ ap (λ l. line ++ l) (append-nil (on_wire (last_return after line) 10))

-- a line, its LF, and what follows
line_split : (bytes : List ℕ) (n : ℕ) → n < length bytes → (slice_index bytes n == 10) ≡ true → (take n bytes ++ 10 ∷ []) ++ drop 1 (drop n bytes) ≡ bytes
line_split [] n less is = absurd (omega (arith, less))
line_split (b ∷ bytes) zero less is = ap (λ x. x ∷ bytes) (sym (eqb-true b 10 is))
line_split (b ∷ bytes) (suc n) less is = ap (λ l. b ∷ l) (line_split bytes n (omega (arith, less)) is)

line_last : (after : Bool) (line : List ℕ) → last_return after (line ++ 10 ∷ []) ≡ false
line_last after line = last_return-append after line (10 ∷ [])

module _ (after : Bool) (bytes behind : List ℕ) (n : ℕ) (less : n < length bytes) (is : (slice_index bytes n == 10) ≡ true) (behind_is : behind ≡ drop n bytes) where
  -- all bytes, by the line and what is left behind it
  whole : (take n bytes ++ 10 ∷ []) ++ take (length behind - 1) (drop 1 behind) ≡ bytes
  whole = ap (λ l. (take n bytes ++ 10 ∷ []) ++ l) (take_rest behind 1 ∙ ap (drop 1) behind_is) ∙ line_split bytes n less is

  -- what is left of the bytes behind a line
  pub line_written : (out : List ℕ) → (out ++ converted after (take n bytes ++ 10 ∷ [])) ++ converted false (take (length behind - 1) (drop 1 behind)) ≡ out ++ converted after bytes
  line_written out =
      let line = take n bytes ++ 10 ∷ [] in
      let others = take (length behind - 1) (drop 1 behind) in
      append_assoc out (converted after line) (converted false others)
      ∙ ap (λ t. out ++ (converted after line ++ converted t others)) (sym (line_last after (take n bytes)))
      ∙ ap (λ l. out ++ l) (sym (converted-append after line others))
      ∙ ap (λ l. out ++ converted after l) whole

  pub line_left : last_return false (take (length behind - 1) (drop 1 behind)) ≡ last_return after bytes
  line_left =
      let line = take n bytes ++ 10 ∷ [] in
      let others = take (length behind - 1) (drop 1 behind) in
      ap (λ t. last_return t others) (sym (line_last after (take n bytes)))
      ∙ sym (last_return-append after line others)
      ∙ ap (last_return after) whole

-- a front stays where more is added
pub front_kept : (old out more : List ℕ) → take (length old) out ≡ old → take (length old) (out ++ more) ≡ old
front_kept [] out more is = refl
front_kept (x ∷ old) [] more is = let clash : [] ≡ x ∷ old = is in cc
front_kept (x ∷ old) (y ∷ out) more is =
    ap (λ t. y ∷ t) (front_kept old out more (ap (drop 1) is)) ∙ ap (λ h. h ∷ old) (ap (λ l. slice_index l 0) is)
