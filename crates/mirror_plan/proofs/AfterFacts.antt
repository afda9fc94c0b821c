-- What is kept below a path stands directly after it.
use Rattle.std.proofs.Common.{◌≡◌, ℕ, zero, suc, ◌+◌, length, drop, ◌≤◌, ◌<◌, bytes_eq, Bool, true, false, ◌&&◌, ◌||◌, List, [], ◌∷◌, ◌++◌, slice_get, Some, refl, sym, ap, ◌∙◌, subst, inl, inr, ◌⊎◌, arith}
use Rattle.std.specs.Cmp.Lexicographic.{slice_cmp}
use Rattle.std.specs.Ordering.{nat_cmp, is_eq, is_gt, ordering_then, ordering_reverse}
use Rattle.std.specs.FinMap.{slice_cmp-IsAntisymmetric, nat_cmp-IsAntisymmetric}
use Rattle.std.proofs.lemmas.Cmp.{lists_total, nat_cmp_total}
use Rattle.std.proofs.lemmas.Slice.Eq.{bytes_eq-Decides}
use Rattle.std.specs.declared.cmp.Ordering.TheVariants.{Less, Equal, Greater}
use Rattle.std.proofs.lemmas.Bool.{false≢true}
use Rattle.std.proofs.lemmas.Option.{same_Some, none-some}
use Rattle.mirror_plan.specs.declared.node.Node.{Node}
use Rattle.mirror_plan.specs.Paths.{Path, path_cmp, is_below}
use Rattle.mirror_plan.specs.Listing.{IsBefore, IsAscending, IsPlace, IsGap, IsStart}
use Rattle.mirror_plan.specs.Plan.{is_kept, kept_below}
use Rattle.mirror_plan.proofs.PathFacts.{path_cmp_total, path_cmp-below, is_below-split}
use Rattle.mirror_plan.proofs.EntryFacts.{before_at, less_from_greater}
use Rattle.mirror_plan.proofs.BoolFacts.{false_from}
use Rattle.mirror_plan.proofs.RemoveFacts.{not_before_itself}

-- between a path and what is below it stands only what is below it
between : (p a : Path) (name : List ℕ) (names : Path) → path_cmp p a ≡ Less → path_cmp a (p ++ name ∷ names) ≡ Less → is_below a p ≡ true
between [] [] name names less more = absurd (false≢true (sym (ap is_eq less)))
between [] (x ∷ xs) name names less more = refl
between (f ∷ fs) [] name names less more = absurd (false≢true (sym (ap is_gt less)))
between (f ∷ fs) (x ∷ xs) name names less more =
    elim (slice_cmp nat_cmp f x) as (λ o. slice_cmp nat_cmp f x ≡ o → ordering_then o (path_cmp fs xs) ≡ Less → ordering_then (ordering_reverse o) (path_cmp xs (fs ++ name ∷ names)) ≡ Less → is_below (x ∷ xs) (f ∷ fs) ≡ true) [
      | Less ↦ λ e l m. absurd (false≢true (sym (ap is_gt m)))
      | Equal ↦ λ e l m.
          let same : f ≡ x = slice_cmp-IsAntisymmetric nat_cmp-IsAntisymmetric f x e in
          let names_equal : bytes_eq f x ≡ true = (bytes_eq-Decides f x).1 same in
          ap (λ b. b && is_below xs fs) names_equal ∙ between fs xs name names l m
      | Greater ↦ λ e l m. absurd (false≢true (sym (ap is_gt l)))
    ] refl less (subst (λ o. ordering_then o (path_cmp xs (fs ++ name ∷ names)) ≡ Less) ((lists_total nat_cmp_total).antisymm x f) more)

-- after something that isn't below a path nothing is
beyond : (p a b : Path) → path_cmp p a ≡ Less → is_below a p ≡ false → path_cmp a b ≡ Less → is_below b p ≡ false
beyond p a b less apart more = false_from (is_below b p) (λ below.
    let parts = is_below-split b p below in
    false≢true (sym apart ∙ between p a parts.0 parts.1 less (subst (λ (q : Path). path_cmp a q ≡ Less) parts.2 more)))

both_false : (a b : Bool) → b ≡ false → (a && b) ≡ false
both_false true b is = is
both_false false b is = refl

pub none_beyond : (p a : Path) (es : List (Path × Node)) → path_cmp p a ≡ Less → is_below a p ≡ false → IsBefore a es → kept_below es p ≡ false
none_beyond p a [] less apart all = refl
none_beyond p a (e ∷ es) less apart all =
    ap (λ b. b || kept_below es p) (both_false (is_kept e.1) (is_below e.0 p) (beyond p a e.0 less apart all.0)) ∙ none_beyond p a es less apart all.1

-- where the first entry isn't below the path, none of these is kept below it
pub none_kept : (p : Path) (e : Path × Node) (es : List (Path × Node)) → IsBefore p (e ∷ es) → IsAscending (e ∷ es) → is_below e.0 p ≡ false → kept_below (e ∷ es) p ≡ false
none_kept p e es before ascending apart =
    ap (λ b. b || kept_below es p) (both_false (is_kept e.1) (is_below e.0 p) apart) ∙ none_beyond p e.0 es before.0 apart ascending.0

-- what comes before a path isn't below it, nor is the path itself
before_not_below : (p d : Path) → path_cmp d p ≡ Less → is_below d p ≡ false
before_not_below p d less = false_from (is_below d p) (λ below.
    let parts = is_below-split d p below in
    let more : path_cmp p d ≡ Less = subst (λ (q : Path). path_cmp p q ≡ Less) (sym parts.2) (path_cmp-below p parts.0 parts.1) in
    not_before_itself p (path_cmp_total.trans p d p more less))

itself_not_below : (p : Path) → is_below p p ≡ false
itself_not_below p = false_from (is_below p p) (λ below.
    let parts = is_below-split p p below in
    not_before_itself p (subst (λ (q : Path). path_cmp p q ≡ Less) (sym parts.2) (path_cmp-below p parts.0 parts.1)))

-- an entry comes before those at later places
less_later : (es : List (Path × Node)) (k m : ℕ) (d e : Path × Node) → IsAscending es → k < m → slice_get es k ≡ Some d → slice_get es m ≡ Some e → path_cmp d.0 e.0 ≡ Less
less_later [] k m d e s less has at = absurd (none-some e at)
less_later (x ∷ xs) k zero d e s less has at = absurd (omega arith)
less_later (x ∷ xs) zero (suc m) d e s less has at = subst (λ (y : Path × Node). path_cmp y.0 e.0 ≡ Less) (same_Some x d has) (before_at x.0 xs m e s.0 at)
less_later (x ∷ xs) (suc k) (suc m) d e s less has at = less_later xs k m d e s.1 (omega arith) has at

-- after the place of a path stands what may be below it
pub start_at : (es : List (Path × Node)) (p : Path) (place : ℕ) → IsAscending es → place < length es → IsPlace es p place → IsStart es p (place + 1)
start_at es p place s inside is = record {
  in_range = omega arith;
  earlier = λ k d less has. elim (order k place (omega arith)) [
    | inl before ↦ before_not_below p d.0 (less_later es k place d (p, is.node) s before has is.has)
    | inr same ↦ subst (λ (y : Path × Node). is_below y.0 p ≡ false) (same_Some (p, is.node) d (sym is.has ∙ subst (λ i. slice_get es i ≡ Some d) same has)) (itself_not_below p)
  ];
  later = λ k d le has. less_later es place k (p, is.node) d s (omega arith) is.has has;
}
  where
    order : (k m : ℕ) → k ≤ m → (k < m) ⊎ (k ≡ m)
    order zero zero le = inr refl
    order zero (suc m) le = inl (omega arith)
    order (suc k) zero le = absurd (omega arith)
    order (suc k) (suc m) le = elim (order k m (omega arith)) [ inl l ↦ inl (omega arith) | inr e ↦ inr (ap suc e) ]

pub start_in_gap : (es : List (Path × Node)) (p : Path) (place : ℕ) → IsGap es p place → IsStart es p place
start_in_gap es p place gap = record {
  in_range = gap.in_range;
  earlier = λ k d less has. before_not_below p d.0 (less_from_greater d.0 p (gap.after k d less has));
  later = gap.before;
}

-- what is kept below the path is kept after the start
pub kept_from_start : (es : List (Path × Node)) (p : Path) (k : ℕ) → ((j : ℕ) (e : Path × Node) → j < k → slice_get es j ≡ Some e → is_below e.0 p ≡ false) → kept_below (drop k es) p ≡ kept_below es p
kept_from_start [] p zero h = refl
kept_from_start [] p (suc k) h = refl
kept_from_start (x ∷ xs) p zero h = refl
kept_from_start (x ∷ xs) p (suc k) h =
    kept_from_start xs p k (λ j e less has. h (suc j) e (omega arith) has) ∙ sym (ap (λ b. b || kept_below xs p) (both_false (is_kept x.1) (is_below x.0 p) (h 0 x (omega arith) refl)))

pub before_from_start : (es : List (Path × Node)) (p : Path) (k : ℕ) → ((j : ℕ) (e : Path × Node) → k ≤ j → slice_get es j ≡ Some e → path_cmp p e.0 ≡ Less) → IsBefore p (drop k es)
before_from_start [] p zero h = tt
before_from_start [] p (suc k) h = tt
before_from_start (x ∷ xs) p zero h = (h 0 x (omega arith) refl, before_from_start xs p zero (λ j e le has. h (suc j) e (omega arith) has))
before_from_start (x ∷ xs) p (suc k) h = before_from_start xs p k (λ j e le has. h (suc j) e (omega arith) has)

pub ascending_from : (es : List (Path × Node)) (k : ℕ) → IsAscending es → IsAscending (drop k es)
ascending_from [] zero s = s
ascending_from [] (suc k) s = s
ascending_from (x ∷ xs) zero s = s
ascending_from (x ∷ xs) (suc k) s = ascending_from xs k s.1
