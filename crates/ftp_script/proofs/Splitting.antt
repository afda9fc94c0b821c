-- Lemmas on parts between separators.
use Rattle.std.proofs.Common.{◌≡◌, ℕ, Bool, true, false, zero, suc, slice_index, ◌<◌, ◌≤◌, ◌==◌, cond, List, [], ◌∷◌, length, take, drop, refl, ap, ◌∙◌, arith, None}
use Rattle.std.specs.List.{onto_first, slice_split}
use Rattle.ftp_script.specs.Calls.{pair_of, words_of}

not_true : (t : Bool) → (t ≡ true → ⊥) → t ≡ false
not_true true never = absurd (never refl)
not_true false never = refl

-- the first part ends at the first separator
pub split-at : (c : ℕ) (bytes : List ℕ) (n : ℕ) → n < length bytes → ((k : ℕ) → 0 ≤ k → k < n → (slice_index bytes k == c) ≡ true → ⊥) → (slice_index bytes n == c) ≡ true →
    slice_split (λ b. b == c) bytes ≡ take n bytes ∷ slice_split (λ b. b == c) (drop (suc n) bytes)
split-at c [] n less before at = absurd (omega (arith, less))
split-at c (b ∷ bytes) zero less before at = rw at refl
split-at c (b ∷ bytes) (suc n) less before at =
    let plain : (b == c) ≡ false = not_true (b == c) (before 0 (omega arith) (omega arith)) in
    let later = split-at c bytes n (omega (arith, less)) (λ k low high is. before (suc k) (omega arith) (omega (arith, high)) is) at in
    rw plain (ap (onto_first b) later)

-- without a separator there is one part
pub split-none : (c : ℕ) (bytes : List ℕ) → ((k : ℕ) → 0 ≤ k → k < length bytes → (slice_index bytes k == c) ≡ true → ⊥) → slice_split (λ b. b == c) bytes ≡ bytes ∷ []
split-none c [] none = refl
split-none c (b ∷ bytes) none =
    let plain : (b == c) ≡ false = not_true (b == c) (none 0 (omega arith) (omega arith)) in
    let later = split-none c bytes (λ k low high is. none (suc k) (omega arith) (omega (arith, high)) is) in
    rw plain (ap (onto_first b) later)

-- there is a first part
pub split-some : (c : ℕ) (bytes : List ℕ) → (part : List ℕ) × (parts : List (List ℕ)) × (slice_split (λ b. b == c) bytes ≡ part ∷ parts)
split-some c [] = ([], [], refl)
split-some c (b ∷ bytes) =
    let (part, parts, is) = split-some c bytes in
    elim (b == c) as (λ t. (first : List ℕ) × (others : List (List ℕ)) × (cond t ([] ∷ slice_split (λ b. b == c) bytes) (onto_first b (slice_split (λ b. b == c) bytes)) ≡ first ∷ others)) [
      | true ↦ ([], slice_split (λ b. b == c) bytes, refl)
      | false ↦ (b ∷ part, parts, ap (onto_first b) is)
    ]

-- one word
pub words-one : (words : List ℕ) (parts : List (List ℕ)) → parts ≡ words ∷ [] → words_of parts ≡ None
words-one words parts is = ap words_of is

-- two words
pub words-two : (user password : List ℕ) (parts others : List (List ℕ)) → parts ≡ user ∷ others → others ≡ password ∷ [] → words_of parts ≡ pair_of user password
words-two user password parts others is rest = ap words_of (is ∙ ap (λ l. user ∷ l) rest)

-- three words and more
pub words-three : (user password : List ℕ) (parts others : List (List ℕ)) (c : ℕ) (bytes : List ℕ) → parts ≡ user ∷ others → others ≡ password ∷ slice_split (λ b. b == c) bytes → words_of parts ≡ None
words-three user password parts others c bytes is rest =
    let (part, more, some) = split-some c bytes in
    ap words_of (is ∙ ap (λ l. user ∷ l) (rest ∙ ap (λ l. password ∷ l) some))
