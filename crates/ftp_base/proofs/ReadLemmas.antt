-- Lemmas on a read that appends what the reader gives.
use Rattle.std.proofs.Common.{append_assoc, append-nil, ◌≡◌, ℕ, List, [], ◌++◌, ◌+◌, Option, sym, ap, ◌∙◌, take, drop}
use Rattle.std.specs.Io.KnownBytes.{Consumes}
use Rattle.std.proofs.KnownBytes.{Consumes-nil, Consumes-trans}
use Rattle.std.proofs.Math.Seq.{take-add}

-- old grew by what the reader gave
pub record Reads (reader reader' : Option (List ℕ)) (old new : List ℕ) : Type 0 where
  pub given : List ℕ
  pub taken : Consumes reader reader' given
  pub grown : new ≡ old ++ given

-- nothing was read yet
pub Reads-start : (reader : Option (List ℕ)) (old new : List ℕ) → new ≡ old → Reads reader reader old new
Reads-start reader old new same = record { given = []; taken = Consumes-nil reader; grown = same ∙ sym (append-nil old) }

-- the next bytes were read in after the filled ones
pub Reads-more : (r s t : Option (List ℕ)) (old xs ys : List ℕ) (filled n : ℕ) → Reads r s old (take filled xs) → take filled ys ≡ take filled xs → Consumes s t (take n (drop filled ys)) →
    Reads r t old (take (filled + n) ys)
Reads-more r s t old xs ys filled n before front more =
    let piece = take n (drop filled ys) in
    record {
      given = before.given ++ piece;
      taken = Consumes-trans r s t before.given piece before.taken more;
      grown = take-add filled n ys ∙ ap (λ l. l ++ piece) (front ∙ before.grown) ∙ append_assoc old before.given piece;
    }
