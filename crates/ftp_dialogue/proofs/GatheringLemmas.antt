-- What a read adds to the bytes of before.
use Rattle.std.proofs.Common.{◌≡◌, ◌<◌, ◌≤◌, ◌+◌, ◌-◌, ◌++◌, ℕ, zero, suc, refl, List, length, take, drop, cond, eqb, ap, ◌∙◌, arith}
use Rattle.std.proofs.Math.Seq.{take-add}
use Rattle.std.proofs.lemmas.Bool.{ne_eqb}
use Rattle.std.proofs.lemmas.List.{length-drop, length-take-le}
use Rattle.ftp_transport.specs.Told.{Told, after_end, after_read}
use Rattle.ftp_dialogue.specs.Dialogue.{chunk}

positive : (n l : ℕ) → (n ≡ 0 → ⊥) → l ≡ n → 0 < l
positive zero l some is = absurd (some refl)
positive (suc n) l some is = omega (arith, is)

pub grew_so : (tells : Type 0) (items all : List ℕ) (filled n : ℕ) (t u : Told) → take filled items ≡ all → (n ≡ 0 → ⊥) → n ≤ chunk → n ≤ length items - filled → (tells → u ≡ cond (eqb n 0) (after_end t) (after_read (take n (drop filled items)) t)) → (x : List ℕ) × (take (filled + n) items ≡ all ++ x) × (0 < length x) × (length x ≤ chunk) × (tells → u ≡ after_read x t)
grew_so tells items all filled n t u front some most fits tie =
    let rest : List ℕ = drop filled items in
    let x : List ℕ = take n rest in
    let within : n ≤ length rest = omega (arith, fits, length-drop filled items) in
    let count : length x ≡ n = length-take-le n rest within in
    (x, take-add filled n items ∙ ap (λ l. l ++ x) front, positive n (length x) some count, omega (arith, most, count), λ h. tie h ∙ ap (λ b. cond b (after_end t) (after_read x t)) (ne_eqb n 0 some))
