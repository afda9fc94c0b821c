-- Lemmas on byte 255 doubled and made one.
use Rattle.std.proofs.Common.{◌≡◌, ℕ, ◌+◌, ◌<◌, List, [], ◌∷◌, ◌++◌, Bool, true, false, cond, ◌&&◌, nat_eq, refl, ap, ◌∙◌, length, drop, get_or, add-one, drop-cons, append_assoc, eq-eqb}
use Rattle.ftp_base.specs.Telnet.{escaped, unescaped}

-- what is left to unescape, where the byte before was a 255 that a second one pairs with
abbrev pub unescaped_after : Bool → List ℕ → List ℕ
unescaped_after false bytes = unescaped bytes
unescaped_after true [] = []
unescaped_after true (b ∷ bytes) = cond (nat_eq b 255) (unescaped bytes) (unescaped (b ∷ bytes))

-- a 255 waits for its second; another byte stands for itself
pub unescaped-cons : (b : ℕ) (bytes : List ℕ) → unescaped (b ∷ bytes) ≡ b ∷ unescaped_after (nat_eq b 255) bytes
unescaped-cons b [] = elim (nat_eq b 255) as (λ t. unescaped (b ∷ []) ≡ b ∷ unescaped_after t []) [ true ↦ refl | false ↦ refl ]
unescaped-cons b (a ∷ bytes) =
    elim (nat_eq b 255) as (λ t. cond (t && nat_eq a 255) (b ∷ unescaped bytes) (b ∷ unescaped (a ∷ bytes)) ≡ b ∷ unescaped_after t (a ∷ bytes)) [
      | true ↦
          elim (nat_eq a 255) as (λ u. cond u (b ∷ unescaped bytes) (b ∷ unescaped (a ∷ bytes)) ≡ b ∷ cond u (unescaped bytes) (unescaped (a ∷ bytes)))
          [ true ↦ refl | false ↦ refl ]
      | false ↦ refl
    ]

pub unescaped_escaped : (bytes : List ℕ) → unescaped (escaped bytes) ≡ bytes
unescaped_escaped [] = refl
unescaped_escaped (b ∷ bytes) =
    elim (nat_eq b 255) as (λ t. nat_eq b 255 ≡ t → unescaped (cond t (b ∷ b ∷ []) (b ∷ []) ++ escaped bytes) ≡ b ∷ bytes) [
      | true ↦ λ is.
          let paired : unescaped_after true (b ∷ escaped bytes) ≡ bytes = rw is (unescaped_escaped bytes) in
          unescaped-cons b (b ∷ escaped bytes) ∙ rw is (ap (λ r. b ∷ r) paired)
      | false ↦ λ is. unescaped-cons b (escaped bytes) ∙ rw is (ap (λ r. b ∷ r) (unescaped_escaped bytes))
    ]
    refl

-- one byte more, taken with the one before or written
pub unescaped_after_step : (opens : Bool) (b : ℕ) (bytes : List ℕ) → unescaped_after opens (b ∷ bytes) ≡ cond (opens && nat_eq b 255) (unescaped_after false bytes) (b ∷ unescaped_after (nat_eq b 255) bytes)
unescaped_after_step false b bytes = unescaped-cons b bytes
unescaped_after_step true b bytes =
    elim (nat_eq b 255) as (λ t. cond t (unescaped bytes) (unescaped (b ∷ bytes)) ≡ cond t (unescaped bytes) (b ∷ unescaped_after (nat_eq b 255) bytes))
    [ true ↦ refl | false ↦ unescaped-cons b bytes ]

-- a second 255 is taken with the first
pub paired_turn : (whole plain bytes : List ℕ) (opens : Bool) (i x : ℕ) → i < length bytes → get_or bytes i 0 ≡ x → plain ++ unescaped_after opens (drop i bytes) ≡ whole → opens ≡ true → x ≡ 255 → plain ++ unescaped_after false (drop (i + 1) bytes) ≡ whole
paired_turn whole plain bytes opens i x below is so_far pending paired =
    let test : nat_eq x 255 ≡ true = eq-eqb x 255 paired in
    let split : drop i bytes ≡ x ∷ drop (i + 1) bytes = rw (add-one) (drop-cons bytes i 0 below ∙ rw is) in
    let turn : plain ++ cond (opens && nat_eq x 255) (unescaped_after false (drop (i + 1) bytes)) (x ∷ unescaped_after (nat_eq x 255) (drop (i + 1) bytes)) ≡ whole = rw (← unescaped_after_step opens x (drop (i + 1) bytes), ← split) so_far in
    rw (pending, test) at turn

-- another byte is written, and may open a pair
pub alone_turn : (whole plain bytes : List ℕ) (opens : Bool) (i x : ℕ) → i < length bytes → get_or bytes i 0 ≡ x → plain ++ unescaped_after opens (drop i bytes) ≡ whole → (opens && nat_eq x 255) ≡ false → (plain ++ x ∷ []) ++ unescaped_after (nat_eq x 255) (drop (i + 1) bytes) ≡ whole
alone_turn whole plain bytes opens i x below is so_far alone =
    let split : drop i bytes ≡ x ∷ drop (i + 1) bytes = rw (add-one) (drop-cons bytes i 0 below ∙ rw is) in
    let turn : plain ++ cond (opens && nat_eq x 255) (unescaped_after false (drop (i + 1) bytes)) (x ∷ unescaped_after (nat_eq x 255) (drop (i + 1) bytes)) ≡ whole = rw (← unescaped_after_step opens x (drop (i + 1) bytes), ← split) so_far in
    rw append_assoc (rw alone at turn)
