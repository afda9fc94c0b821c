-- A text has one greatest split, and a line says one thing.
use Rattle.std.proofs.Common.{◌≡◌, ℕ, List, [], ◌∷◌, refl, sym, ◌∙◌, ap, arith, inl, inr}
use Rattle.std.specs.Prelude.{ℤ, Result}
use Rattle.jiff_core.proofs.DateLemmas.{epoch_day_injective}
use Rattle.ftp_list.specs.declared.error.ParseError.{ParseError}
use Rattle.ftp_list.specs.declared.shape.Shape.{Shape}
use Rattle.ftp_list.specs.Entry.{Entry}
use Rattle.ftp_list.specs.Dates.{IsUtcYear, whole_second}
use Rattle.ftp_list.specs.Split.{IsAtMost, IsGreatestSplit}
use Rattle.ftp_list.specs.Listing.{IsPosix, IsDos, posix_entry, dos_entry}

at_most_both : (a b : List ℕ) → IsAtMost a b → IsAtMost b a → a ≡ b
at_most_both [] [] h k = refl
at_most_both [] (n ∷ ns) h k = absurd k
at_most_both (m ∷ ms) [] h k = absurd h
at_most_both (m ∷ ms) (n ∷ ns) (inl lt) (inl gt) = absurd (omega arith)
at_most_both (m ∷ ms) (n ∷ ns) (inl lt) (inr q) = let e : n ≡ m = q.0 in absurd (omega arith)
at_most_both (m ∷ ms) (n ∷ ns) (inr p) (inl gt) = let e : m ≡ n = p.0 in absurd (omega arith)
at_most_both (m ∷ ms) (n ∷ ns) (inr p) (inr q) = ap (λ (k : ℕ). k ∷ ms) p.0 ∙ ap (λ (t : List ℕ). n ∷ t) (at_most_both ms ns p.1 q.1)

-- a text has one greatest split
pub one_greatest : (shapes : List Shape) (text a b : List ℕ) → IsGreatestSplit shapes a text → IsGreatestSplit shapes b text → a ≡ b
one_greatest shapes text a b g h = at_most_both a b (h.greatest a g.split) (g.greatest b h.split)

-- a second lies in one year
one_year : (second y z : ℤ) → IsUtcYear second y → IsUtcYear second z → y ≡ z
one_year second y z u v = sym u.2 ∙ (epoch_day_injective u.0 v.0 (u.1 ∙ sym v.1)).0 ∙ v.2

-- a line says one thing in the POSIX form
pub one_posix : (text : List ℕ) (nanosecond : ℤ) (a b : Result Entry ParseError) → IsPosix text nanosecond a → IsPosix text nanosecond b → a ≡ b
one_posix text nanosecond a b (inl p) (inl q) = p.1 ∙ sym q.1
one_posix text nanosecond a b (inl p) (inr q) = absurd (p.0.none q.0 q.1.split)
one_posix text nanosecond a b (inr p) (inl q) = absurd (q.0.none p.0 p.1.split)
one_posix text nanosecond a b (inr p) (inr q) =
    p.4
    ∙ ap (λ (ls : List ℕ). posix_entry p.2 (whole_second nanosecond) ls text) (one_greatest _ text p.0 q.0 p.1 q.1)
    ∙ ap (λ (y : ℤ). posix_entry y (whole_second nanosecond) q.0 text) (one_year (whole_second nanosecond) p.2 q.2 p.3 q.3)
    ∙ sym q.4

-- and in the DOS form
pub one_dos : (text : List ℕ) (a b : Result Entry ParseError) → IsDos text a → IsDos text b → a ≡ b
one_dos text a b (inl p) (inl q) = p.1 ∙ sym q.1
one_dos text a b (inl p) (inr q) = absurd (p.0.none q.0 q.1.split)
one_dos text a b (inr p) (inl q) = absurd (q.0.none p.0 p.1.split)
one_dos text a b (inr p) (inr q) =
    p.2 ∙ ap (λ (ls : List ℕ). dos_entry ls text) (one_greatest _ text p.0 q.0 p.1 q.1) ∙ sym q.2
