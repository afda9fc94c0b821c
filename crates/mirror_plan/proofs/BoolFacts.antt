-- Tests joined, and a test of some entry.
use Rattle.std.proofs.Common.{◌≡◌, Bool, true, false, not, ◌&&◌, ◌||◌, List, [], ◌∷◌, Option, Some, None, is_some, refl, sym, ap, ◌∙◌, subst, inl, inr}
use Rattle.std.specs.List.{list_any}
use Rattle.std.proofs.lemmas.Bool.{false≢true}
use Rattle.std.proofs.lemmas.Option.{same_Some, none-some}
use Rattle.mirror_plan.specs.declared.node.Node.{Node}
use Rattle.mirror_plan.specs.Paths.{Path}
use Rattle.mirror_plan.specs.Listing.{node_at}
use Rattle.mirror_plan.proofs.PathFacts.{path_cases}
use Rattle.mirror_plan.proofs.EntryFacts.{node_at-tail, node_at-head}

pub both : (a b : Bool) → (a && b) ≡ true → (a ≡ true) × (b ≡ true)
both true b h = (refl, h)
both false b h = absurd (false≢true h)

pub and-true : (a b : Bool) → a ≡ true → b ≡ true → (a && b) ≡ true
and-true a b p q = ap (λ c. c && b) p ∙ q

pub or-right : (a b : Bool) → b ≡ true → (a || b) ≡ true
or-right true b h = refl
or-right false b h = h

pub or-left : (a b : Bool) → a ≡ true → (a || b) ≡ true
or-left a b h = ap (λ c. c || b) h

pub false_from : (b : Bool) → (b ≡ true → ⊥) → b ≡ false
false_from true never = absurd (never refl)
false_from false never = refl

pub false_from_not : (b : Bool) → not b ≡ true → b ≡ false
false_from_not true h = absurd (false≢true h)
false_from_not false h = refl

pub none_from : (o : Option Node) → not (is_some o) ≡ true → o ≡ None
none_from None h = refl
none_from (Some node) h = absurd (false≢true h)

pub any_more : {X : Type 0} (test other : X → Bool) (xs : List X) → ((x : X) → test x ≡ true → other x ≡ true) → list_any test xs ≡ true → list_any other xs ≡ true
any_more test other [] more any = any
any_more test other (x ∷ xs) more any =
    elim (test x) as (λ b. test x ≡ b → (b || list_any test xs) ≡ true → (other x || list_any other xs) ≡ true) [
      | true ↦ λ e h. or-left (other x) (list_any other xs) (more x e)
      | false ↦ λ e h. or-right (other x) (list_any other xs) (any_more test other xs more h)
    ] refl any

-- a test that what a look-up finds passes
pub any_at : (test : Path × Node → Bool) (es : List (Path × Node)) (q : Path) (node : Node) → node_at es q ≡ Some node → test (q, node) ≡ true → list_any test es ≡ true
any_at test [] q node at passes = absurd (none-some node at)
any_at test (e ∷ es) q node at passes =
    elim (path_cases q e.0) [
      | inl is ↦
          let same : e.1 ≡ node = same_Some e.1 node (sym (subst (λ (p : Path). node_at (e ∷ es) p ≡ Some e.1) (sym is) (node_at-head e.0 e.1 es)) ∙ at) in
          let entry : ◌≡◌ {A = Path × Node} e (q, node) = λ i. (sym is i, same i) in
          or-left (test e) (list_any test es) (ap test entry ∙ passes)
      | inr apart ↦ or-right (test e) (list_any test es) (any_at test es q node (sym (node_at-tail e.0 q e.1 es apart) ∙ at) passes)
    ]
