-- Lemmas on the derived `==` of an enum: where it decides the sameness of each variant's fields, it decides that of the
-- enum.
use Rattle.std.proofs.Common.{◌≡◌, Bool, true, false, List, [], ◌∷◌, ◌&&◌, refl, ap, ◌∙◌, inl, inr}
use Rattle.std.specs.Bool.{Decides}
use denote.Struct.Field.{Field}
use denote.Struct.Values.{Values}
use denote.Enum.Declared.{Choice}
use denote.Enum.Compared.{Each, by}

-- `==` of the fields decides their sameness, at each variant
abbrev pub EachDecides : (variants : List (List Field)) → Each Bool variants → Type 0
EachDecides [] each = Unit {0}
EachDecides (fields ∷ variants) each = ((a b : Values fields) → Decides (each.0 a b) (a ≡ b)) × EachDecides variants each.1

-- then it does so of the enum
pub by-Decides : (variants : List (List Field)) (each : Each Bool variants) → EachDecides variants each → (a b : Choice variants) →
    Decides (by false false variants each a b) (a ≡ b)
by-Decides [] each all a b = absurd a
by-Decides (fields ∷ variants) each all (inl a) (inl b) = (λ t. ap inl ((all.0 a b).0 t), λ e. (all.0 a b).1 (cc))
by-Decides (fields ∷ variants) each all (inl a) (inr b) = (λ t. (cc), λ e. (cc))
by-Decides (fields ∷ variants) each all (inr a) (inl b) = (λ t. (cc), λ e. (cc))
by-Decides (fields ∷ variants) each all (inr a) (inr b) =
    (λ t. ap inr ((by-Decides variants each.1 all.1 a b).0 t), λ e. (by-Decides variants each.1 all.1 a b).1 (cc))

-- a variant without fields
pub no_fields : (a b : Unit {0}) → Decides true (a ≡ b)
no_fields a b = (λ _. refl, λ _. refl)

-- a variant with one field
pub one_field : {A : Type 0} (E : A → A → Bool) → ((a b : A) → Decides (E a b) (a ≡ b)) → (a b : A × Unit {0}) → Decides (E a.0 b.0) (a ≡ b)
one_field E same a b = (λ t. ap (λ x. (x, tt)) ((same a.0 b.0).0 t), λ e. (same a.0 b.0).1 (ap (λ x. x.0) e))

-- two tests that hold together hold each
both : (one other : Bool) → one && other ≡ true → (one ≡ true) × (other ≡ true)
both true other t = (refl, t)
both false other t = absurd (cc)

-- a variant with two fields
pub two_fields : {A B : Type 0} (E : A → A → Bool) (F : B → B → Bool) → ((a b : A) → Decides (E a b) (a ≡ b)) → ((a b : B) → Decides (F a b) (a ≡ b)) →
    (a b : A × (B × Unit {0})) → Decides (E a.0 b.0 && F a.1.0 b.1.0) (a ≡ b)
two_fields E F same_first same_second a b = (
  λ t.
      let parts : (E a.0 b.0 ≡ true) × (F a.1.0 b.1.0 ≡ true) = both (E a.0 b.0) (F a.1.0 b.1.0) t in
      ap (λ x. (x, (a.1.0, tt))) ((same_first a.0 b.0).0 parts.0) ∙ ap (λ y. (b.0, (y, tt))) ((same_second a.1.0 b.1.0).0 parts.1),
  λ e.
      let first : E a.0 b.0 ≡ true = (same_first a.0 b.0).1 (ap (λ x. x.0) e) in
      let second : F a.1.0 b.1.0 ≡ true = (same_second a.1.0 b.1.0).1 (ap (λ x. x.1.0) e) in
      rw (first, second) refl,
)
