-- A second plan has nothing to do.
use Rattle.std.proofs.Common.{◌≡◌, Bool, true, false, not, cond, ◌&&◌, ◌||◌, List, [], ◌∷◌, ◌++◌, Option, Some, None, is_some, refl, sym, ap, ◌∙◌, subst, inl, inr, append-nil}
use Rattle.std.specs.List.{list_any}
use Rattle.std.proofs.lemmas.Bool.{false≢true}
use Rattle.std.proofs.lemmas.Option.{none-some}
use Rattle.mirror_plan.specs.declared.node.Node.{Node}
use Rattle.mirror_plan.specs.declared.node.Node.TheVariants.{Folder, File, Other}
use Rattle.mirror_plan.specs.declared.node.Policy.{Policy}
use Rattle.mirror_plan.specs.Paths.{Path, is_below}
use Rattle.mirror_plan.specs.Listing.{Listing, IsTree, IsAscending, standing, is_folder}
use Rattle.mirror_plan.specs.Plan.{nearest, is_gone, is_free, is_stale, is_kept, holds_kept, is_made, is_removed, making, removing, makings, removals, actions_of}
use Rattle.mirror_plan.specs.Carried.{all_carried_out, IsSettled}
use Rattle.mirror_plan.proofs.PathFacts.{is_below-split}
use Rattle.mirror_plan.proofs.EntryFacts.{node_at-head}
use Rattle.mirror_plan.proofs.WayFacts.{folder_above, nearest-stands, nearest-barred}
use Rattle.mirror_plan.proofs.BoolFacts.{both, and-true, or-left, or-right, false_from, false_from_not, none_from, any_at}
use Rattle.mirror_plan.proofs.RemoveFacts.{gone_below, removed_in, HasRest, rest_head, rest_tail, rest_all}
use Rattle.mirror_plan.proofs.MakeFacts.{made, remaining, remaining-there, final, final_node, IsOfFrom, all_of_from, of_from_tail}
use Rattle.mirror_plan.proofs.LikeFacts.{entry_or_root, fresh_itself, removed_in-there, plan_leaves}

any_and : (a b : Bool) → b ≡ false → (a && b) ≡ false
any_and true b h = h
any_and false b h = refl

-- an entry that passes a test
pub any_find : (tree : Listing) (policy : Policy) (test : Path × Node → Bool) (es : List (Path × Node)) → IsAscending es → HasRest tree tree policy es → list_any test es ≡ true → (e : Path × Node) × (standing tree e.0 ≡ Some e.1) × (test e ≡ true)
any_find tree policy test [] asc has any = absurd (false≢true any)
any_find tree policy test (e ∷ es) asc has any =
    elim (test e) as (λ b. test e ≡ b → (b || list_any test es) ≡ true → (x : Path × Node) × (standing tree x.0 ≡ Some x.1) × (test x ≡ true)) [
      | true ↦ λ passes h. (e, rest_head tree tree policy e es has, passes)
      | false ↦ λ fails h. any_find tree policy test es asc.1 (rest_tail tree tree policy e es asc has) h
    ] refl any

module _ (from to : Listing) (policy : Policy) (from_is : IsTree from) (to_is : IsTree to) (again : Listing) (again_is : IsTree again) (same : (q : Path) → standing again q ≡ final from to policy q) where
  none_of_gone : (q : Path) → is_gone from q ≡ true → standing from q ≡ None
  none_of_gone q gone = none_from (standing from q) (both (not (is_some (standing from q))) _ gone).0

  -- where the first tree has nothing, the same stands as before or nothing
  again_absent : (q : Path) → standing from q ≡ None → standing again q ≡ remaining from to policy q
  again_absent q absent = same q ∙ ap (final_node from to policy q) absent

  remains : (q : Path) (node : Node) → standing from q ≡ None → standing to q ≡ Some node → is_removed from to policy q node ≡ false → standing again q ≡ Some node
  remains q node absent there stays =
      again_absent q absent ∙ (λ i. cond ((removed_in-there from to policy from_is to_is q node absent there ∙ stays) i) None (there i))

  -- what is left below a folder is still there
  holds_again : (q : Path) → is_gone from q ≡ true → holds_kept to q ≡ true → holds_kept again q ≡ true
  holds_again q gone holds =
      let found = any_find to policy (λ entry. is_kept entry.1 && is_below entry.0 q) to.entries to_is.ascending.1 (rest_all to to policy to_is) holds in
      let parts = both (is_kept found.0.1) (is_below found.0.0 q) found.2 in
      let split = is_below-split found.0.0 q parts.1 in
      let far : is_gone from found.0.0 ≡ true = subst (λ (p : Path). is_gone from p ≡ true) (sym split.2) (gone_below from from_is q split.0 split.1 gone) in
      let absent = none_of_gone found.0.0 far in
      let stays : is_removed from to policy found.0.0 found.0.1 ≡ false = false_from (is_removed from to policy found.0.0 found.0.1) (λ removed.
      false≢true (sym (false_from_not (is_kept found.0.1) (both (policy.delete && is_gone from found.0.0) (not (is_kept found.0.1)) (both _ (not (is_folder (Some found.0.1) && holds_kept to found.0.0)) removed).0).1) ∙ parts.0)) in
      let still = remains found.0.0 found.0.1 absent found.1 stays in
      elim (entry_or_root again found.0.0 found.0.1 still) [
        | inl root ↦ absurd (false≢true (ap (λ (p : Path). is_below p q) (sym root) ∙ parts.1))
        | inr at ↦ any_at (λ entry. is_kept entry.1 && is_below entry.0 q) again.entries found.0.0 found.0.1 at found.2
      ]

  -- what remains where the first tree has nothing was there
  was_there : (q : Path) (node : Node) (o : Option Node) → standing to q ≡ o → standing from q ≡ None → standing again q ≡ Some node → o ≡ Some node
  was_there q node None is absent still = absurd (none-some node (sym (by (removed_in from to policy to.entries q)) ∙ (sym (again_absent q absent) ∙ still)))
    where
      by : (b : Bool) → cond b None (standing to q) ≡ None
      by true = refl
      by false = is
  was_there q node (Some x) is absent still = by (removed_in from to policy to.entries q) (sym (again_absent q absent) ∙ still)
    where
      by : (b : Bool) → cond b None (standing to q) ≡ Some node → Some x ≡ Some node
      by true h = absurd (none-some node h)
      by false h = sym is ∙ h

  -- nothing is left to remove
  stays_again : (q : Path) (node : Node) → standing again q ≡ Some node → is_removed from again policy q node ≡ false
  stays_again q node still = false_from (is_removed from again policy q node) (λ removed.
      let outer = both (policy.delete && is_gone from q && not (is_kept node)) (not (is_folder (Some node) && holds_kept again q)) removed in
      let inner = both (policy.delete && is_gone from q) (not (is_kept node)) outer.0 in
      let gone = (both policy.delete (is_gone from q) inner.0).1 in
      let absent = none_of_gone q gone in
      let there = was_there q node (standing to q) refl absent still in
      let empty : not (is_folder (Some node) && holds_kept to q) ≡ true = by (is_folder (Some node)) (holds_kept to q) (holds_kept again q) (holds_again q gone) outer.1 in
      let goes : is_removed from to policy q node ≡ true = and-true _ _ outer.0 empty in
      none-some node (sym (again_absent q absent ∙ ap (λ b. cond b None (standing to q)) (removed_in-there from to policy from_is to_is q node absent there ∙ goes)) ∙ still))
    where
      by : (f a b : Bool) → (a ≡ true → b ≡ true) → not (f && b) ≡ true → not (f && a) ≡ true
      by false a b more h = refl
      by true false b more h = refl
      by true true b more h = absurd (false≢true (sym (ap not (more refl)) ∙ h))

  removals_none : (es : List (Path × Node)) → IsAscending es → HasRest again again policy es → removals from again policy es ≡ []
  removals_none [] asc has = refl
  removals_none (e ∷ es) asc has =
      λ i. removals_none es asc.1 (rest_tail again again policy e es asc has) i ++ cond (stays_again e.0 e.1 (rest_head again again policy e es has) i) (removing e.0 e.1) []

  -- what something bars is still barred
  barred_again : (q : Path) (node : Node) → standing from q ≡ Some node → standing to q ≡ None → is_free to q ≡ false → is_free again q ≡ false
  barred_again q node there absent stuck =
      let ends = nearest-stands to q in
      let bars : is_folder (nearest to q) ≡ false = sym (ap (λ o. not (is_some o) && is_folder (nearest to q)) absent) ∙ stuck in
      by ends.0 ends.1 ends.2 (nearest to q) ends.3 ends.4 bars
    where
      folder_stays : (a : Path) (v : Option Node) (x : Node) → standing from a ≡ v → is_folder v ≡ true → standing to a ≡ Some x → standing again a ≡ Some x
      folder_stays a None x here folder was = absurd (false≢true folder)
      folder_stays a (Some (File size modified)) x here folder was = absurd (false≢true folder)
      folder_stays a (Some Other) x here folder was = absurd (false≢true folder)
      folder_stays a (Some (Folder w)) x here folder was =
          let taken : is_free to a ≡ false = ap (λ o. not (is_some o) && is_folder (nearest to a)) was in
          same a ∙ (ap (final_node from to policy a) here ∙ (ap (λ b. cond b (Some (Folder true)) (remaining from to policy a)) taken ∙ (remaining-there from to policy a (Folder w) here ∙ was)))

      by : (a b : Path) → q ≡ a ++ b → (o : Option Node) → standing to a ≡ o → is_some o ≡ true → is_folder o ≡ false → is_free again q ≡ false
      by a b is None was some bars = absurd (false≢true some)
      by a [] is (Some x) was some bars = absurd (none-some x (sym absent ∙ (ap (standing to) (is ∙ append-nil a) ∙ was)))
      by a (n ∷ ns) is (Some x) was some bars =
          let now = folder_stays a (standing from a) x refl (folder_above (standing from) from_is.connected a n ns (ap is_some (ap (standing from) (sym is) ∙ there))) was in
          let way : nearest again q ≡ Some x = ap (nearest again) is ∙ nearest-barred again a n ns x again_is now bars in
          any_and (not (is_some (standing again q))) (is_folder (nearest again q)) (ap is_folder way ∙ bars)

  taken_again : (q : Path) (x : Node) → standing again q ≡ Some x → is_free again q ≡ false
  taken_again q x there = ap (λ o. not (is_some o) && is_folder (nearest again q)) there

  made_then : (q : Path) (node x : Node) → standing from q ≡ Some node → made node ≡ Some x → is_made to policy q node ≡ true → standing again q ≡ Some x
  made_then q node x there is goes = same q ∙ (ap (final_node from to policy q) there ∙ (ap (λ b. cond b (made node) (remaining from to policy q)) goes ∙ is))

  kept_then : (q : Path) (node : Node) → standing from q ≡ Some node → is_made to policy q node ≡ false → standing again q ≡ standing to q
  kept_then q node there lacks = same q ∙ (ap (final_node from to policy q) there ∙ (ap (λ b. cond b (made node) (remaining from to policy q)) lacks ∙ remaining-there from to policy q node there))

  free_again : (q : Path) (node : Node) (o : Option Node) → standing from q ≡ Some node → standing to q ≡ o → is_made to policy q node ≡ false → is_free to q ≡ false → is_free again q ≡ false
  free_again q node None there is lacks stuck = barred_again q node there is stuck
  free_again q node (Some x) there is lacks stuck = taken_again q x (kept_then q node there lacks ∙ is)

  -- nothing is left to make
  settled_again : (q : Path) (node : Node) → standing from q ≡ Some node → is_made again policy q node ≡ false
  settled_again q (Folder w) there =
      elim (is_free to q) as (λ b. is_free to q ≡ b → is_free again q ≡ false) [
        | true ↦ λ goes. taken_again q (Folder true) (made_then q (Folder w) (Folder true) there refl goes)
        | false ↦ λ lacks. free_again q (Folder w) (standing to q) there refl lacks lacks
      ] refl
  settled_again q (File size modified) there =
      elim (is_made to policy q (File size modified)) as (λ b. is_made to policy q (File size modified) ≡ b → (is_free again q || is_stale policy size modified (standing again q)) ≡ false) [
        | true ↦ λ goes.
            let now = made_then q (File size modified) (File size modified) there refl goes in
            λ i. taken_again q (File size modified) now i || (ap (is_stale policy size modified) now ∙ fresh_itself policy size modified) i
        | false ↦ λ lacks.
            let stuck : is_free to q ≡ false = false_from (is_free to q) (λ free. false≢true (sym lacks ∙ or-left (is_free to q) _ free)) in
            let fresh : is_stale policy size modified (standing to q) ≡ false = false_from (is_stale policy size modified (standing to q)) (λ stale. false≢true (sym lacks ∙ or-right (is_free to q) _ stale)) in
            λ i. free_again q (File size modified) (standing to q) there refl lacks stuck i || (ap (is_stale policy size modified) (kept_then q (File size modified) there lacks) ∙ fresh) i
      ] refl
  settled_again q Other there = refl

  makings_none : (es : List (Path × Node)) → IsAscending es → IsOfFrom from to policy es → makings again policy es ≡ []
  makings_none [] asc of = refl
  makings_none (e ∷ es) asc of =
      λ i. cond (settled_again e.0 e.1 (of e.0 e.1 (node_at-head e.0 e.1 es)) i) (making e.0 e.1) [] ++ makings_none es asc.1 (of_from_tail from to policy e es asc of) i

  again_none : actions_of from again policy ≡ []
  unfolding actions_of
  again_none = λ i. removals_none again.entries again_is.ascending.1 (rest_all again again policy again_is) i ++ makings_none from.entries from_is.ascending.1 (all_of_from from to policy from_is) i

-- a tree that has what the plan leaves needs no plan
pub plan_settled : (from to : Listing) (policy : Policy) → IsTree from → IsTree to → IsSettled policy from (all_carried_out (actions_of from to policy) (standing to))
plan_settled from to policy from_is to_is again again_is same =
    again_none from to policy from_is to_is again again_is (λ q. same q ∙ plan_leaves from to policy from_is to_is q)
