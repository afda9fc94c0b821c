-- A plan leaves the second tree like the first.
use Rattle.std.proofs.Common.{◌≡◌, ℕ, ℤ, ◌==◌, Bool, true, false, not, cond, ◌&&◌, ◌||◌, if◌then◌else◌, IsTrue, List, [], ◌∷◌, ◌++◌, Option, Some, None, is_some, refl, sym, ap, ◌∙◌, subst, inl, inr, ◌⊎◌, arith, append-nil}
use Rattle.std.specs.List.{list_any}
use Rattle.std.proofs.lemmas.Bool.{false≢true}
use Rattle.std.proofs.lemmas.Bool.Decides.{nat_tests}
use Rattle.std.proofs.lemmas.Option.{none-some, same_Some}
use Rattle.std.proofs.lemmas.Int.{ints}
use Rattle.mirror_plan.specs.declared.node.Node.{Node}
use Rattle.mirror_plan.specs.declared.node.Node.TheVariants.{Folder, File, Other}
use Rattle.mirror_plan.specs.declared.node.Policy.{Policy}
use Rattle.mirror_plan.specs.declared.action.Reason.{Reason}
use Rattle.mirror_plan.specs.declared.action.Reason.TheVariants.{KindDiffers, NotAFileOrFolder}
use Rattle.mirror_plan.specs.Paths.{Path}
use Rattle.mirror_plan.specs.Listing.{Listing, IsTree, standing, node_at, is_same, is_folder}
use Rattle.mirror_plan.specs.Plan.{nearest, is_free, is_stale, is_later, is_made, is_removed, removals, makings, actions_of, unlike, not_removed, reason_left, left_for, left_among, unmade, unremoved, undone_of}
use Rattle.mirror_plan.specs.Carried.{all_carried_out, CanAllBeCarriedOut, is_alike, is_undone, IsLeft, IsAlike}
use Rattle.mirror_plan.proofs.PathFacts.{path_cases}
use Rattle.mirror_plan.proofs.EntryFacts.{is_same-refl, node_at-head, node_at-tail, standing_is, standing_root}
use Rattle.mirror_plan.proofs.WayFacts.{folder_above, nearest-stands}
use Rattle.mirror_plan.proofs.BoolFacts.{or-left, or-right, false_from}
use Rattle.mirror_plan.proofs.RemoveFacts.{can_append, after_append, removed_node, removed_in, rest_all, removals_leave}
use Rattle.mirror_plan.proofs.MakeFacts.{made, remaining, remaining-there, final_node, final, all_of_from, makings_make}

-- what is left undone among some paths is among more
pub any_left : {X : Type 0} (test : X → Bool) (xs ys : List X) → list_any test xs ≡ true → list_any test (xs ++ ys) ≡ true
any_left test [] ys any = absurd (false≢true any)
any_left test (x ∷ xs) ys any =
    elim (test x) as (λ b. (b || list_any test xs) ≡ true → (b || list_any test (xs ++ ys)) ≡ true) [
      | true ↦ λ h. refl
      | false ↦ λ h. any_left test xs ys h
    ] any

pub any_right : {X : Type 0} (test : X → Bool) (xs ys : List X) → list_any test ys ≡ true → list_any test (xs ++ ys) ≡ true
any_right test [] ys any = any
any_right test (x ∷ xs) ys any = or-right (test x) (list_any test (xs ++ ys)) (any_right test xs ys any)

-- an entry that is left for a reason is among those that are left
pub left_has : (why : Path → Node → Option Reason) (es : List (Path × Node)) (q : Path) (node : Node) (reason : Reason) → node_at es q ≡ Some node → why q node ≡ Some reason → is_undone (left_among why es) q ≡ true
left_has why [] q node reason at because = absurd (none-some node at)
left_has why (e ∷ es) q node reason at because =
    elim (path_cases q e.0) [
      | inl is ↦
          let same : e.1 ≡ node = same_Some e.1 node (sym (subst (λ (p : Path). node_at (e ∷ es) p ≡ Some e.1) (sym is) (node_at-head e.0 e.1 es)) ∙ at) in
          let here : why e.0 e.1 ≡ Some reason = (λ i. why (sym is i) (same i)) ∙ because in
          any_left (λ left. is_same left.path q) (left_for e.0 (why e.0 e.1)) (left_among why es)
          (ap (λ o. is_undone (left_for e.0 o) q) here ∙ or-left (is_same e.0 q) false (ap (is_same e.0) is ∙ is_same-refl e.0))
      | inr apart ↦ any_right (λ left. is_same left.path q) (left_for e.0 (why e.0 e.1)) (left_among why es) (left_has why es q node reason (sym (node_at-tail e.0 q e.1 es apart) ∙ at) because)
    ]

-- what stands is an entry, or the root
pub entry_or_root : (tree : Listing) (q : Path) (node : Node) → standing tree q ≡ Some node → (q ≡ []) ⊎ (node_at tree.entries q ≡ Some node)
entry_or_root tree q node there = elim (path_cases q []) [
  | inl root ↦ inl root
  | inr apart ↦ inr (sym (node_at-tail [] q (Folder tree.is_whole) tree.entries apart) ∙ (sym (standing_is tree q) ∙ there))
]

not_later_than_itself : (time : Option ℤ) → is_later time time ≡ false
not_later_than_itself None = refl
not_later_than_itself (Some time) = grind (arith, ints)

-- a file isn't stale beside itself
pub fresh_itself : (policy : Policy) (size : ℕ) (modified : Option ℤ) → is_stale policy size modified (Some (File size modified)) ≡ false
fresh_itself policy size modified =
    let same : (size == size) ≡ true = grind (arith, nat_tests) in
    rw (same, not_later_than_itself modified) (either policy.newer)
  where
    either : (b : Bool) → (false || (b && false)) ≡ false
    either true = refl
    either false = refl

module _ (from to : Listing) (policy : Policy) (from_is : IsTree from) (to_is : IsTree to) where
  -- a path that the second tree doesn't make like the first is left
  left_from : (q : Path) (node : Node) (reason : Reason) → standing from q ≡ Some node → unlike node (standing to q) ≡ Some reason → is_undone (undone_of from to policy) q ≡ true
  unfolding undone_of
  left_from q node reason there because = elim (entry_or_root from q node there) [
    | inl root ↦ absurd (root_alike node (ap (standing from) (sym root) ∙ there) (ap (λ (p : Path). unlike node (standing to p)) (sym root) ∙ because))
    | inr at ↦ any_left (λ left. is_same left.path q) (unmade to from.entries) (unremoved from to policy to.entries) (left_has (λ path x. unlike x (standing to path)) from.entries q node reason at because)
  ]
    where
      root_alike : (node : Node) → standing from [] ≡ Some node → unlike node (standing to []) ≡ Some reason → ⊥
      root_alike node there because =
          let is : Folder from.is_whole ≡ node = same_Some (Folder from.is_whole) node (sym (standing_root from [] refl) ∙ there) in
          none-some reason ((λ i. unlike (is i) (sym (standing_root to [] refl) i)) ∙ because)

  -- so is one that the second tree would have to lose
  left_to : (q : Path) (node : Node) → standing from q ≡ None → standing to q ≡ Some node → policy.delete ≡ true → is_removed from to policy q node ≡ false → is_undone (undone_of from to policy) q ≡ true
  unfolding undone_of
  left_to q node absent there delete stays = elim (entry_or_root to q node there) [
    | inl root ↦ absurd (none-some (Folder from.is_whole) (sym absent ∙ (ap (standing from) root ∙ standing_root from [] refl)))
    | inr at ↦ any_right (λ left. is_same left.path q) (unmade to from.entries) (unremoved from to policy to.entries)
        (left_has (not_removed from to policy) to.entries q node (reason_left (nearest from q) node) at
        (λ i. if delete i && not (is_some (absent i)) && not (stays i) then Some (reason_left (nearest from q) node) else None))
  ]

  -- where the way to a path ends in something that is no folder, that is left
  blocked : (q : Path) (node : Node) → standing from q ≡ Some node → standing to q ≡ None → is_free to q ≡ false → IsLeft (undone_of from to policy) q
  blocked q node there absent stuck =
      let ends = nearest-stands to q in
      let barred : is_folder (nearest to q) ≡ false = sym (ap (λ o. not (is_some o) && is_folder (nearest to q)) absent) ∙ stuck in
      (ends.0, ends.1, ends.2, above ends.0 ends.1 ends.2 (standing to ends.0) refl (ap is_some ends.3 ∙ ends.4) (ap is_folder ends.3 ∙ barred))
    where
      at_folder : (a : Path) (v : Option Node) (x : Node) → standing from a ≡ v → is_folder v ≡ true → standing to a ≡ Some x → is_folder (Some x) ≡ false → is_undone (undone_of from to policy) a ≡ true
      at_folder a None x here folder ends bars = absurd (false≢true folder)
      at_folder a (Some (File size modified)) x here folder ends bars = absurd (false≢true folder)
      at_folder a (Some Other) x here folder ends bars = absurd (false≢true folder)
      at_folder a (Some (Folder w)) (Folder v) here folder ends bars = absurd (false≢true (sym bars))
      at_folder a (Some (Folder w)) (File size modified) here folder ends bars = left_from a (Folder w) KindDiffers here (ap (unlike (Folder w)) ends)
      at_folder a (Some (Folder w)) Other here folder ends bars = left_from a (Folder w) NotAFileOrFolder here (ap (unlike (Folder w)) ends)

      above : (a b : Path) → q ≡ a ++ b → (o : Option Node) → standing to a ≡ o → is_some (standing to a) ≡ true → is_folder (standing to a) ≡ false → IsTrue (is_undone (undone_of from to policy) a)
      above a b is None here some bars = absurd (false≢true (sym (ap is_some here) ∙ some))
      above a [] is (Some x) here some bars = absurd (none-some x (sym absent ∙ (ap (standing to) (is ∙ append-nil a) ∙ here)))
      above a (n ∷ ns) is (Some x) here some bars =
          at_folder a (standing from a) x refl (folder_above (standing from) from_is.connected a n ns (ap is_some (ap (standing from) (sym is) ∙ there))) here (sym (ap is_folder here) ∙ bars)

  abbrev End : Path → Option Node
  End = final from to policy

  -- the two sides as they are known
  good : (q : Path) (a b : Option Node) → standing from q ≡ a → End q ≡ b → is_alike policy a b ≡ true → IsTrue (is_alike policy (standing from q) (End q)) ⊎ IsLeft (undone_of from to policy) q
  good q a b is ends alike = inl ((λ i. is_alike policy (is i) (ends i)) ∙ alike)

  itself : (q : Path) → is_undone (undone_of from to policy) q ≡ true → IsLeft (undone_of from to policy) q
  itself q left = (q, [], sym (append-nil q), left)

  remaining-none : (q : Path) → standing to q ≡ None → remaining from to policy q ≡ None
  remaining-none q none = by (removed_in from to policy to.entries q)
    where
      by : (b : Bool) → cond b None (standing to q) ≡ None
      by true = refl
      by false = none

  pub removed_in-there : (q : Path) (node : Node) → standing from q ≡ None → standing to q ≡ Some node → removed_in from to policy to.entries q ≡ is_removed from to policy q node
  removed_in-there q node absent there = elim (entry_or_root to q node there) [
    | inl root ↦ absurd (none-some (Folder from.is_whole) (sym absent ∙ (ap (standing from) root ∙ standing_root from [] refl)))
    | inr at ↦ ap (removed_node from to policy q) at
  ]

  -- a path that the first tree doesn't have
  alike_none : (q : Path) (t : Option Node) → standing from q ≡ None → standing to q ≡ t → IsTrue (is_alike policy (standing from q) (End q)) ⊎ IsLeft (undone_of from to policy) q
  alike_none q None absent there = good q None None absent (ap (final_node from to policy q) absent ∙ remaining-none q there) refl
  alike_none q (Some node) absent there =
      let is : End q ≡ cond (is_removed from to policy q node) None (Some node) =
      ap (final_node from to policy q) absent ∙ (λ i. cond (removed_in-there q node absent there i) None (there i)) in
      elim (is_removed from to policy q node) as (λ b. is_removed from to policy q node ≡ b → IsTrue (is_alike policy (standing from q) (End q)) ⊎ IsLeft (undone_of from to policy) q) [
        | true ↦ λ goes. good q None None absent (is ∙ ap (λ b. cond b None (Some node)) goes) refl
        | false ↦ λ stays. elim policy.delete as (λ d. policy.delete ≡ d → IsTrue (is_alike policy (standing from q) (End q)) ⊎ IsLeft (undone_of from to policy) q) [
          | true ↦ λ delete. inr (itself q (left_to q node absent there delete stays))
          | false ↦ λ delete. good q None (Some node) absent (is ∙ ap (λ b. cond b None (Some node)) stays) (ap not delete)
        ] refl
      ] refl

  -- what was made is alike
  alike_made : (q : Path) (node : Node) (x : Node) → standing from q ≡ Some node → made node ≡ Some x → is_made to policy q node ≡ true → is_alike policy (Some node) (Some x) ≡ true → IsTrue (is_alike policy (standing from q) (End q)) ⊎ IsLeft (undone_of from to policy) q
  alike_made q node x there is goes alike =
      good q (Some node) (Some x) there (ap (final_node from to policy q) there ∙ (ap (λ b. cond b (made node) (remaining from to policy q)) goes ∙ is)) alike

  -- what wasn't made is as it was
  alike_kept : (q : Path) (node : Node) (t : Option Node) → standing from q ≡ Some node → standing to q ≡ t → is_made to policy q node ≡ false → is_alike policy (Some node) t ≡ true → IsTrue (is_alike policy (standing from q) (End q)) ⊎ IsLeft (undone_of from to policy) q
  alike_kept q node t there is lacks alike =
      good q (Some node) t there (ap (final_node from to policy q) there ∙ (ap (λ b. cond b (made node) (remaining from to policy q)) lacks ∙ (remaining-there from to policy q node there ∙ is))) alike

  fresh : (size : ℕ) (modified : Option ℤ) → is_alike policy (Some (File size modified)) (Some (File size modified)) ≡ true
  fresh size modified = ap not (fresh_itself policy size modified)

  -- a path where the first tree has a node
  alike_some : (q : Path) (node : Node) (t : Option Node) → standing from q ≡ Some node → standing to q ≡ t → IsTrue (is_alike policy (standing from q) (End q)) ⊎ IsLeft (undone_of from to policy) q
  alike_some q (Folder w) None there is =
      elim (is_free to q) as (λ b. is_free to q ≡ b → IsTrue (is_alike policy (standing from q) (End q)) ⊎ IsLeft (undone_of from to policy) q) [
        | true ↦ λ goes. alike_made q (Folder w) (Folder true) there refl goes refl
        | false ↦ λ lacks. inr (blocked q (Folder w) there is lacks)
      ] refl
  alike_some q (Folder w) (Some (Folder v)) there is =
      elim (is_free to q) as (λ b. is_free to q ≡ b → IsTrue (is_alike policy (standing from q) (End q)) ⊎ IsLeft (undone_of from to policy) q) [
        | true ↦ λ goes. alike_made q (Folder w) (Folder true) there refl goes refl
        | false ↦ λ lacks. alike_kept q (Folder w) (Some (Folder v)) there is lacks refl
      ] refl
  alike_some q (Folder w) (Some (File size modified)) there is = inr (itself q (left_from q (Folder w) KindDiffers there (ap (unlike (Folder w)) is)))
  alike_some q (Folder w) (Some Other) there is = inr (itself q (left_from q (Folder w) NotAFileOrFolder there (ap (unlike (Folder w)) is)))
  alike_some q (File size modified) None there is =
      elim (is_made to policy q (File size modified)) as (λ b. is_made to policy q (File size modified) ≡ b → IsTrue (is_alike policy (standing from q) (End q)) ⊎ IsLeft (undone_of from to policy) q) [
        | true ↦ λ goes. alike_made q (File size modified) (File size modified) there refl goes (fresh size modified)
        | false ↦ λ lacks. inr (blocked q (File size modified) there is (false_from (is_free to q) (λ free. false≢true (sym lacks ∙ or-left (is_free to q) _ free))))
      ] refl
  alike_some q (File size modified) (Some (Folder w)) there is = inr (itself q (left_from q (File size modified) KindDiffers there (ap (unlike (File size modified)) is)))
  alike_some q (File size modified) (Some (File old_size old_modified)) there is =
      elim (is_made to policy q (File size modified)) as (λ b. is_made to policy q (File size modified) ≡ b → IsTrue (is_alike policy (standing from q) (End q)) ⊎ IsLeft (undone_of from to policy) q) [
        | true ↦ λ goes. alike_made q (File size modified) (File size modified) there refl goes (fresh size modified)
        | false ↦ λ lacks.
            let current : is_stale policy size modified (Some (File old_size old_modified)) ≡ false =
            false_from (is_stale policy size modified (Some (File old_size old_modified))) (λ stale. false≢true (sym lacks ∙ or-right (is_free to q) _ (ap (is_stale policy size modified) is ∙ stale))) in
            alike_kept q (File size modified) (Some (File old_size old_modified)) there is lacks (ap not current)
      ] refl
  alike_some q (File size modified) (Some Other) there is = inr (itself q (left_from q (File size modified) NotAFileOrFolder there (ap (unlike (File size modified)) is)))
  alike_some q Other t there is = inr (itself q (left_from q Other NotAFileOrFolder there refl))

  alike_at : (q : Path) (a : Option Node) → standing from q ≡ a → IsTrue (is_alike policy (standing from q) (End q)) ⊎ IsLeft (undone_of from to policy) q
  alike_at q None there = alike_none q (standing to q) there refl
  alike_at q (Some node) there = alike_some q node (standing to q) there refl

  -- when all is removed, all is left to make
  partly : (q : Path) → all_carried_out (removals from to policy to.entries) (standing to) q ≡ (if is_some (node_at from.entries q) then remaining from to policy q else End q)
  partly q =
      (removals_leave from to policy from_is to.entries to_is.ascending.1 (rest_all from to policy to_is)).1 q ∙ (by (node_at from.entries q) refl)
    where
      by : (o : Option Node) → node_at from.entries q ≡ o → remaining from to policy q ≡ (if is_some o then remaining from to policy q else End q)
      by (Some node) at = refl
      by None at = elim (path_cases q []) [
        | inl root ↦
            let taken : is_free to q ≡ false = ap (λ o. not (is_some o) && is_folder (nearest to q)) (ap (standing to) root ∙ standing_root to [] refl) in
            sym (ap (final_node from to policy q) (ap (standing from) root ∙ standing_root from [] refl) ∙ ap (λ b. cond b (Some (Folder true)) (remaining from to policy q)) taken)
        | inr apart ↦ sym (ap (final_node from to policy q) (standing_is from q ∙ (node_at-tail [] q (Folder from.is_whole) from.entries apart ∙ at)))
      ]

  makings_leave : CanAllBeCarriedOut (makings to policy from.entries) (all_carried_out (removals from to policy to.entries) (standing to)) × ((q : Path) → all_carried_out (makings to policy from.entries) (all_carried_out (removals from to policy to.entries) (standing to)) q ≡ End q)
  makings_leave = makings_make from to policy from_is to_is from.entries (all_carried_out (removals from to policy to.entries) (standing to)) from_is.ascending.0 from_is.ascending.1 (all_of_from from to policy from_is) partly

  -- all actions can be carried out in their order
  pub plan_can : CanAllBeCarriedOut (actions_of from to policy) (standing to)
  unfolding actions_of
  plan_can = can_append (removals from to policy to.entries) (makings to policy from.entries) (standing to) (removals_leave from to policy from_is to.entries to_is.ascending.1 (rest_all from to policy to_is)).0 makings_leave.0

  pub plan_leaves : (q : Path) → all_carried_out (actions_of from to policy) (standing to) q ≡ End q
  unfolding actions_of
  plan_leaves q = ap (λ (m : Path → Option Node). m q) (after_append (removals from to policy to.entries) (makings to policy from.entries) (standing to)) ∙ makings_leave.1 q

  -- and leave a tree like the first
  pub plan_alike : IsAlike policy (undone_of from to policy) (standing from) (all_carried_out (actions_of from to policy) (standing to))
  plan_alike q = subst (λ o. IsTrue (is_alike policy (standing from q) o) ⊎ IsLeft (undone_of from to policy) q) (sym (plan_leaves q)) (alike_at q (standing from q) refl)
