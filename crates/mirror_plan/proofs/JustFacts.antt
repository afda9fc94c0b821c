-- Each action of a plan is justified.
use Rattle.std.proofs.Common.{◌≡◌, Bool, true, false, not, cond, ◌&&◌, List, [], ◌∷◌, ◌++◌, Some, refl, ap}
use Rattle.std.specs.List.{AllByRecursion}
use Rattle.mirror_plan.specs.declared.node.Node.{Node}
use Rattle.mirror_plan.specs.declared.node.Node.TheVariants.{Folder, File, Other}
use Rattle.mirror_plan.specs.declared.node.Policy.{Policy}
use Rattle.mirror_plan.specs.Paths.{Path}
use Rattle.mirror_plan.specs.Listing.{Listing, IsTree, IsAscending, standing, is_folder}
use Rattle.mirror_plan.specs.Plan.{is_gone, is_kept, holds_kept, is_made, is_removed, making, removing, makings, removals, actions_of}
use Rattle.mirror_plan.specs.Carried.{IsJustified}
use Rattle.mirror_plan.proofs.EntryFacts.{node_at-head}
use Rattle.mirror_plan.proofs.BoolFacts.{both}
use Rattle.mirror_plan.proofs.MakeFacts.{IsOfFrom, all_of_from, of_from_tail}

all_joined : {X : Type 0} (P : X → Type 0) (xs ys : List X) → AllByRecursion P xs → AllByRecursion P ys → AllByRecursion P (xs ++ ys)
all_joined P [] ys first second = second
all_joined P (x ∷ xs) ys first second = (first.0, all_joined P xs ys first.1 second)

module _ (from to : Listing) (policy : Policy) where
  making_is : (p : Path) (node : Node) (b : Bool) → standing from p ≡ Some node → AllByRecursion (IsJustified policy from) (cond b (making p node) [])
  making_is p node false there = tt
  making_is p (Folder w) true there = (ap is_folder there, tt)
  making_is p (File size modified) true there = (there, tt)
  making_is p Other true there = tt

  removing_is : (p : Path) (node : Node) → is_removed from to policy p node ≡ true → AllByRecursion (IsJustified policy from) (removing p node)
  removing_is p node removed = by node
    where
      inner : (policy.delete && is_gone from p) ≡ true
      inner = (both (policy.delete && is_gone from p) (not (is_kept node)) (both (policy.delete && is_gone from p && not (is_kept node)) (not (is_folder (Some node) && holds_kept to p)) removed).0).0

      by : (n : Node) → AllByRecursion (IsJustified policy from) (removing p n)
      by (Folder w) = (both policy.delete (is_gone from p) inner, tt)
      by (File size modified) = (both policy.delete (is_gone from p) inner, tt)
      by Other = tt

  makings_are : (es : List (Path × Node)) → IsAscending es → IsOfFrom from to policy es → AllByRecursion (IsJustified policy from) (makings to policy es)
  makings_are [] asc of = tt
  makings_are (e ∷ es) asc of =
      all_joined (IsJustified policy from) (cond (is_made to policy e.0 e.1) (making e.0 e.1) []) (makings to policy es)
      (making_is e.0 e.1 (is_made to policy e.0 e.1) (of e.0 e.1 (node_at-head e.0 e.1 es)))
      (makings_are es asc.1 (of_from_tail from to policy e es asc of))

  removals_are : (es : List (Path × Node)) → AllByRecursion (IsJustified policy from) (removals from to policy es)
  removals_are [] = tt
  removals_are (e ∷ es) =
      all_joined (IsJustified policy from) (removals from to policy es) (cond (is_removed from to policy e.0 e.1) (removing e.0 e.1) []) (removals_are es)
      (elim (is_removed from to policy e.0 e.1) as (λ b. is_removed from to policy e.0 e.1 ≡ b → AllByRecursion (IsJustified policy from) (cond b (removing e.0 e.1) [])) [
        | true ↦ λ removed. removing_is e.0 e.1 removed
        | false ↦ λ stays. tt
      ] refl)

  pub plan_justified : IsTree from → AllByRecursion (IsJustified policy from) (actions_of from to policy)
  unfolding actions_of
  plan_justified is =
      all_joined (IsJustified policy from) (removals from to policy to.entries) (makings to policy from.entries) (removals_are to.entries) (makings_are from.entries is.ascending.1 (all_of_from from to policy is))
