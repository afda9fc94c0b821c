-- Decimal numbers, digit by digit.
use Rattle.std.proofs.Common.{◌≡◌, ℕ, zero, suc, ◌+◌, ◌-◌, ◌*◌, ◌^◌, ◌<◌, ◌≤◌, Bool, true, false, cond, ltb, leb, List, [], ◌∷◌, length, take, drop, get_or, refl, ap, arith}
use Rattle.std.specs.Prelude.{◌&&◌, MatchOption, Option, Some, None}
use Rattle.std.proofs.lemmas.Bool.{le-leb}
use Rattle.std.proofs.lemmas.Bool.Decides.{nat_tests}
use Rattle.std.proofs.lemmas.List.{drop_more}
use Rattle.ftp_list.specs.declared.class.Class.TheVariants.{Digit}
use Rattle.std.specs.List.{list_all}
use Rattle.std.proofs.Math.Nat.{mul-le-mul_right, mul-le-mul_left}
use Rattle.std.proofs.Common.{pow-suc, sym, ◌∙◌}
use Rattle.std.proofs.lemmas.Bool.{leb-true}
use Rattle.std.proofs.lemmas.List.{length-take}
use Rattle.std.proofs.lemmas.Nat.{pow-add}
use Rattle.ftp_list.specs.Shapes.{all_in, is_in}
use Rattle.ftp_list.specs.Numbers.{digits_after, decimal, number}
use Rattle.ftp_list.specs.Places.{begins}

-- further digits make no number smaller
pub digits_after_grows : (n : ℕ) (ds : List ℕ) → n ≤ digits_after n ds
digits_after_grows n [] = omega arith
digits_after_grows n (c ∷ cs) =
    let more : n * 10 + (c - 48) ≤ digits_after (n * 10 + (c - 48)) cs = digits_after_grows (n * 10 + (c - 48)) cs in
    omega arith

-- one digit more
pub digits_after_more : (n : ℕ) (ds : List ℕ) (i : ℕ) (d : ℕ) → i < length ds → digits_after n (drop i ds) ≡ digits_after (n * 10 + (get_or ds i d - 48)) (drop (i + 1) ds)
digits_after_more n ds i d lt = ap (digits_after n) (drop_more ds i d lt)

pub decimal_empty : (limit : ℕ) (ds : List ℕ) → length ds ≡ 0 → None ≡ decimal limit ds
unfolding decimal
decimal_empty limit [] e = refl
decimal_empty limit (c ∷ cs) e = absurd (omega arith)

other : (a b c : Bool) (v : ℕ) → b ≡ false → None ≡ cond (a && b && c) (Some v) None
other true true c v e = cc
other true false c v e = refl
other false b c v e = refl

pub decimal_other : (limit : ℕ) (ds : List ℕ) → all_in Digit ds ≡ false → None ≡ decimal limit ds
unfolding decimal
decimal_other limit ds e = other (leb 1 (length ds)) (all_in Digit ds) (ltb (digits_after 0 ds) limit) (digits_after 0 ds) e

chosen : (a b c : Bool) (v n : ℕ) → a ≡ true → b ≡ true → c ≡ true → n ≡ v → Some n ≡ cond (a && b && c) (Some v) None
chosen true true true v n e f g h = ap Some h
chosen true true false v n e f g h = cc
chosen true false c v n e f g h = cc
chosen false b c v n e f g h = cc

above_none : (a b c : Bool) (v : ℕ) → c ≡ false → None ≡ cond (a && b && c) (Some v) None
above_none true true true v e = cc
above_none true true false v e = refl
above_none true false c v e = refl
above_none false b c v e = refl

pub decimal_value : (limit : ℕ) (ds : List ℕ) (found : Option ℕ) → 0 < length ds → all_in Digit ds ≡ true → MatchOption found (limit ≤ digits_after 0 ds) (λ n. (n ≡ digits_after 0 ds) × (n < limit)) → found ≡ decimal limit ds
unfolding decimal
decimal_value limit ds (Some n) l e h =
    let below : ltb (digits_after 0 ds) limit ≡ true = grind (arith, nat_tests, h.0, h.1) in
    chosen (leb 1 (length ds)) (all_in Digit ds) (ltb (digits_after 0 ds) limit) (digits_after 0 ds) n (le-leb 1 (length ds) (omega arith)) e below h.0
decimal_value limit ds None l e h =
    let above : ltb (digits_after 0 ds) limit ≡ false = grind (arith, nat_tests, h) in
    above_none (leb 1 (length ds)) (all_in Digit ds) (ltb (digits_after 0 ds) limit) (digits_after 0 ds) above

the_value : (c : Bool) (v n : ℕ) → Some n ≡ cond c (Some v) None → n ≡ v
the_value true v n e = cc
the_value false v n e = cc

lower : (a b : Bool) (v n small big : ℕ) → Some n ≡ cond (a && b && ltb v big) (Some v) None → n < small → Some n ≡ cond (a && b && ltb v small) (Some v) None
lower true true v n small big e l =
    let same : n ≡ v = the_value (ltb v big) v n e in
    let below : ltb v small ≡ true = grind (arith, nat_tests, same) in
    chosen true true (ltb v small) v n refl refl below same
lower true false v n small big e l = cc
lower false b v n small big e l = cc

too_large : (a b : Bool) (v n small big : ℕ) → Some n ≡ cond (a && b && ltb v big) (Some v) None → small ≤ n → None ≡ cond (a && b && ltb v small) (Some v) None
too_large true true v n small big e l =
    let same : n ≡ v = the_value (ltb v big) v n e in
    let above : ltb v small ≡ false = grind (arith, nat_tests, same) in
    above_none true true (ltb v small) v above
too_large true false v n small big e l = cc
too_large false b v n small big e l = cc

past : (c : Bool) (v big : ℕ) → c ≡ ltb v big → None ≡ cond c (Some v) None → big ≤ v
past true v big t e = cc
past false v big t e = grind (arith, nat_tests)

none_lower : (a b : Bool) (v small big : ℕ) → None ≡ cond (a && b && ltb v big) (Some v) None → small ≤ big → None ≡ cond (a && b && ltb v small) (Some v) None
none_lower true true v small big e l =
    let far : big ≤ v = past (ltb v big) v big refl e in
    let above : ltb v small ≡ false = grind (arith, nat_tests) in
    above_none true true (ltb v small) v above
none_lower true false v small big e l = refl
none_lower false b v small big e l = refl

-- a number under a lower limit
pub number_lower : (text : List ℕ) (n small big : ℕ) → Some n ≡ number big text → n < small → Some n ≡ number small text
unfolding decimal number
number_lower text n small big e l =
    let ds = cond (begins (43 ∷ []) text) (drop 1 text) text in
    lower (leb 1 (length ds)) (all_in Digit ds) (digits_after 0 ds) n small big e l

pub number_too_large : (text : List ℕ) (n small big : ℕ) → Some n ≡ number big text → small ≤ n → None ≡ number small text
unfolding decimal number
number_too_large text n small big e l =
    let ds = cond (begins (43 ∷ []) text) (drop 1 text) text in
    too_large (leb 1 (length ds)) (all_in Digit ds) (digits_after 0 ds) n small big e l

pub number_none_lower : (text : List ℕ) (small big : ℕ) → None ≡ number big text → small ≤ big → None ≡ number small text
unfolding decimal number
number_none_lower text small big e l =
    let ds = cond (begins (43 ∷ []) text) (drop 1 text) text in
    none_lower (leb 1 (length ds)) (all_in Digit ds) (digits_after 0 ds) small big e l

two_hold : (a b : Bool) → (a && b) ≡ true → (a ≡ true) × (b ≡ true)
two_hold true true e = (refl, refl)
two_hold true false e = cc
two_hold false b e = cc

-- a digit stands for at most nine
pub digit_small : (c : ℕ) → is_in Digit c ≡ true → c - 48 ≤ 9
unfolding is_in
digit_small c e =
    let parts = two_hold (leb 48 c) (leb c 57) e in
    let most : c ≤ 57 = leb-true c 57 parts.1 in
    omega arith

-- digits behind those of n stay below the next power of ten
pub digits_bound : (n : ℕ) (ds : List ℕ) → all_in Digit ds ≡ true → digits_after n ds < (n + 1) * 10 ^ length ds
digits_bound n [] e = omega arith
digits_bound n (c ∷ cs) e =
    let parts = two_hold (is_in Digit c) (all_in Digit cs) e in
    let small : c - 48 ≤ 9 = digit_small c parts.0 in
    let below : digits_after (n * 10 + (c - 48)) cs < (n * 10 + (c - 48) + 1) * 10 ^ length cs = digits_bound (n * 10 + (c - 48)) cs parts.1 in
    let grows : (n * 10 + (c - 48) + 1) * 10 ^ length cs ≤ (n * 10 + 10) * 10 ^ length cs = mul-le-mul_right (10 ^ length cs) (omega arith) in
    let power : 10 ^ suc (length cs) ≡ 10 ^ length cs * 10 = pow-suc 10 (length cs) in
    rw power (omega arith)

all_taken : (p : ℕ → Bool) (ds : List ℕ) (n : ℕ) → list_all p ds ≡ true → list_all p (take n ds) ≡ true
all_taken p ds zero e = refl
all_taken p [] (suc n) e = refl
all_taken p (c ∷ cs) (suc n) e =
    let parts = two_hold (p c) (list_all p cs) e in
    rw parts.0 (all_taken p cs n parts.1)

-- the first digits of many
pub front_bound : (ds : List ℕ) (n : ℕ) → all_in Digit ds ≡ true → digits_after 0 (take n ds) < 10 ^ length (take n ds)
front_bound ds n e =
    let below : digits_after 0 (take n ds) < (0 + 1) * 10 ^ length (take n ds) = digits_bound 0 (take n ds) (all_taken (is_in Digit) ds n e) in
    omega arith

pow_positive : (k : ℕ) → 0 < 10 ^ k
pow_positive zero = omega arith
pow_positive (suc k) =
    let less : 0 < 10 ^ k = pow_positive k in
    let power : 10 ^ suc k ≡ 10 ^ k * 10 = pow-suc 10 k in
    omega arith

-- a number of so many digits, with zeros up to nine
pub scaled_bound : (v n : ℕ) → n ≤ 9 → v < 10 ^ n → v * 10 ^ (9 - n) < 1_000_000_000
scaled_bound v n l h =
    let split : 10 ^ (n + (9 - n)) ≡ 10 ^ n * 10 ^ (9 - n) = pow-add 10 n (9 - n) in
    let nine : n + (9 - n) ≡ 9 = omega arith in
    let whole : 10 ^ n * 10 ^ (9 - n) ≡ 10 ^ 9 = sym split ∙ ap (λ k. 10 ^ k) nine in
    let grows : (v + 1) * 10 ^ (9 - n) ≤ 10 ^ n * 10 ^ (9 - n) = mul-le-mul_right (10 ^ (9 - n)) (omega arith) in
    let some_more : 0 < 10 ^ (9 - n) = pow_positive (9 - n) in
    omega arith

-- nine digits stay below 10^9
pub nine_bound : (ds : List ℕ) → all_in Digit ds ≡ true → digits_after 0 (take 9 ds) < 1_000_000_000
nine_bound ds e =
    let v = digits_after 0 (take 9 ds) in
    let n = length (take 9 ds) in
    let count : n ≤ 9 = omega (arith, length-take 9 ds) in
    let scaled : v * 10 ^ (9 - n) < 1_000_000_000 = scaled_bound v n count (front_bound ds 9 e) in
    let some_more : 0 < 10 ^ (9 - n) = pow_positive (9 - n) in
    let more : v * 1 ≤ v * 10 ^ (9 - n) = mul-le-mul_left v (omega arith) in
    omega arith
