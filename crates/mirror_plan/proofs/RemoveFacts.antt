-- What removals leave.
use Rattle.std.proofs.Common.{◌≡◌, ℕ, ◌==◌, Bool, true, false, not, cond, ◌&&◌, if◌then◌else◌, IsTrue, List, [], ◌∷◌, ◌++◌, length, Option, Some, None, is_some, refl, sym, ap, ◌∙◌, subst, inl, inr, ◌⊎◌, arith}
use Rattle.std.specs.Ordering.{is_eq}
use Rattle.std.specs.declared.cmp.Ordering.TheVariants.{Less}
use Rattle.std.proofs.lemmas.Bool.{false≢true}
use Rattle.std.proofs.lemmas.Grind.{common_steps}
use Rattle.mirror_plan.specs.declared.node.Node.{Node}
use Rattle.mirror_plan.specs.declared.node.Node.TheVariants.{Folder, File, Other}
use Rattle.mirror_plan.specs.declared.node.Policy.{Policy}
use Rattle.mirror_plan.specs.declared.action.Action.{Action}
use Rattle.mirror_plan.specs.Paths.{Path, path_cmp, is_below}
use Rattle.mirror_plan.specs.Listing.{Listing, IsTree, IsBefore, IsAscending, standing, node_at, is_same, is_folder, updated}
use Rattle.mirror_plan.specs.Plan.{nearest, is_gone, is_kept, holds_kept, is_removed, removing, removals, shows_absence}
use Rattle.mirror_plan.specs.Carried.{carried_out, all_carried_out, CanAllBeCarriedOut, is_file}
use Rattle.mirror_plan.proofs.PathFacts.{path_cases, path_cmp_total, path_cmp-below, is_below-more, is_below-through}
use Rattle.mirror_plan.proofs.EntryFacts.{is_same-refl, greater_from_less, node_at-head, node_at-tail, node_at-before, standing_is, standing_below, updated-here, updated-apart}
use Rattle.mirror_plan.proofs.WayFacts.{folder_above, nearest-below}
use Rattle.mirror_plan.proofs.BoolFacts.{both, and-true, false_from, false_from_not, none_from, any_more, any_at}

-- actions one after another
pub can_append : (xs ys : List Action) (tree : Path → Option Node) → CanAllBeCarriedOut xs tree → CanAllBeCarriedOut ys (all_carried_out xs tree) → CanAllBeCarriedOut (xs ++ ys) tree
can_append [] ys tree first second = second
can_append (x ∷ xs) ys tree first second = (first.0, can_append xs ys (carried_out x tree) first.1 second)

pub after_append : (xs ys : List Action) (tree : Path → Option Node) → all_carried_out (xs ++ ys) tree ≡ all_carried_out ys (all_carried_out xs tree)
after_append [] ys tree = refl
after_append (x ∷ xs) ys tree = after_append xs ys (carried_out x tree)

pub not_before_itself : (p : Path) → path_cmp p p ≡ Less → ⊥
not_before_itself p less = false≢true (sym (ap is_eq less) ∙ is_same-refl p)

-- what is below something that is gone is gone
pub gone_below : (from : Listing) → IsTree from → (p : Path) (name : List ℕ) (names : Path) → is_gone from p ≡ true → is_gone from (p ++ name ∷ names) ≡ true
gone_below from is p name names gone =
    let parts = both (not (is_some (standing from p))) (shows_absence (nearest from p)) gone in
    let none : standing from p ≡ None = none_from (standing from p) parts.0 in
    let absent : not (is_some (standing from (p ++ name ∷ names))) ≡ true =
    elim (is_some (standing from (p ++ name ∷ names))) as (λ b. is_some (standing from (p ++ name ∷ names)) ≡ b → not b ≡ true) [
      | true ↦ λ e. absurd (false≢true (sym (ap is_folder none) ∙ folder_above (standing from) is.connected p name names e))
      | false ↦ λ e. refl
    ] refl in
    and-true _ _ absent (ap shows_absence (nearest-below from p (name ∷ names) is none) ∙ parts.1)

module _ (from to : Listing) (policy : Policy) where
  abbrev pub removed_node : Path → Option Node → Bool
  removed_node q None = false
  removed_node q (Some node) = is_removed from to policy q node

  abbrev pub removed_in : List (Path × Node) → Path → Bool
  removed_in es q = removed_node q (node_at es q)

  -- what stands is in these entries, or comes before them
  abbrev pub HasRest : List (Path × Node) → Type 0
  HasRest es = (q : Path) → (node_at es q ≡ standing to q) ⊎ IsBefore q es

  pub rest_tail : (e : Path × Node) (es : List (Path × Node)) → IsAscending (e ∷ es) → HasRest (e ∷ es) → HasRest es
  rest_tail e es asc has q = elim (has q) [
    | inl same ↦ elim (path_cases q e.0) [
      | inl is ↦ inr (subst (λ (r : Path). IsBefore r es) (sym is) asc.0)
      | inr apart ↦ inl (sym (node_at-tail e.0 q e.1 es apart) ∙ same)
    ]
    | inr before ↦ inr before.1
  ]

  pub rest_head : (e : Path × Node) (es : List (Path × Node)) → HasRest (e ∷ es) → standing to e.0 ≡ Some e.1
  rest_head e es has = elim (has e.0) [
    | inl same ↦ sym same ∙ node_at-head e.0 e.1 es
    | inr before ↦ absurd (not_before_itself e.0 before.0)
  ]

  pub rest_all : IsTree to → HasRest to.entries
  rest_all is q = elim (path_cases q []) [
    | inl root ↦ inr (subst (λ (r : Path). IsBefore r to.entries) (sym root) is.ascending.0)
    | inr apart ↦ inl (sym (standing_is to q ∙ node_at-tail [] q (Folder to.is_whole) to.entries apart))
  ]

  -- an entry below a path
  entry_below : (p : Path) (name : List ℕ) (names : Path) (x : Node) → standing to (p ++ name ∷ names) ≡ Some x → node_at to.entries (p ++ name ∷ names) ≡ Some x
  entry_below p name names x there = sym (standing_below to (p ++ name ∷ names) (some p)) ∙ there
    where
      some : (p : Path) → (length (p ++ name ∷ names) == 0) ≡ false
      some [] = grind (arith, common_steps)
      some (n ∷ ns) = grind (arith, common_steps)

  -- what is below a folder that is removed is removed
  pub below_removed : IsTree from → (p : Path) (name : List ℕ) (names : Path) (w : Bool) (x : Node) → is_removed from to policy p (Folder w) ≡ true → standing to (p ++ name ∷ names) ≡ Some x → is_removed from to policy (p ++ name ∷ names) x ≡ true
  below_removed is p name names w x removed there =
      let q : Path = p ++ name ∷ names in
      let outer = both (policy.delete && is_gone from p && not (is_kept (Folder w))) (not (holds_kept to p)) removed in
      let inner = both (policy.delete && is_gone from p) (not (is_kept (Folder w))) outer.0 in
      let wanted = both policy.delete (is_gone from p) inner.0 in
      let holds_none : holds_kept to p ≡ false = false_from_not (holds_kept to p) outer.1 in
      let kept_none : is_kept x ≡ false = false_from (is_kept x) (λ kept. false≢true (sym holds_none ∙ any_at (λ entry. is_kept entry.1 && is_below entry.0 p) to.entries q x (entry_below p name names x there) (and-true (is_kept x) (is_below q p) kept (is_below-more p name names)))) in
      let through : holds_kept to q ≡ false = false_from (holds_kept to q) (λ holds. false≢true (sym holds_none ∙ any_more (λ entry. is_kept entry.1 && is_below entry.0 q) (λ entry. is_kept entry.1 && is_below entry.0 p) to.entries (λ entry passes.
      let two = both (is_kept entry.1) (is_below entry.0 q) passes in
      and-true (is_kept entry.1) (is_below entry.0 p) two.0 (is_below-through entry.0 p name names two.1)) holds)) in
      and-true _ _ (and-true _ _ (and-true _ _ wanted.0 (gone_below from is p name names wanted.1)) (ap not kept_none)) (rw through (nothing (is_folder (Some x))))
    where
      nothing : (b : Bool) → not (b && false) ≡ true
      nothing true = refl
      nothing false = refl

  below_removed_node : IsTree from → (p : Path) (name : List ℕ) (names : Path) (node x : Node) → IsTrue (is_folder (Some node)) → is_removed from to policy p node ≡ true → standing to (p ++ name ∷ names) ≡ Some x → is_removed from to policy (p ++ name ∷ names) x ≡ true
  below_removed_node is p name names (Folder w) x folder removed there = below_removed is p name names w x removed there
  below_removed_node is p name names (File size modified) x folder removed there = absurd (false≢true folder)
  below_removed_node is p name names Other x folder removed there = absurd (false≢true folder)

  -- the action that removes a node
  one_removed : (p : Path) (node : Node) (tree : Path → Option Node) → tree p ≡ Some node → is_kept node ≡ false → (IsTrue (is_folder (Some node)) → (name : List ℕ) (names : Path) → tree (p ++ name ∷ names) ≡ None) → CanAllBeCarriedOut (removing p node) tree × ((q : Path) → all_carried_out (removing p node) tree q ≡ updated tree p None q)
  one_removed p (Folder w) tree at kept below = (((ap is_folder at, below refl), tt), λ q. refl)
  one_removed p (File size modified) tree at kept below = ((ap is_file at, tt), λ q. refl)
  one_removed p Other tree at kept below = absurd (false≢true (sym kept))

  removed_not_kept : (p : Path) (node : Node) → is_removed from to policy p node ≡ true → is_kept node ≡ false
  removed_not_kept p node removed =
      false_from_not (is_kept node) (both _ (not (is_kept node)) (both (policy.delete && is_gone from p && not (is_kept node)) _ removed).0).1

  -- what is below the first entry is in the others
  rest_below : (e : Path × Node) (es : List (Path × Node)) → HasRest (e ∷ es) → (name : List ℕ) (names : Path) (x : Node) → standing to (e.0 ++ name ∷ names) ≡ Some x → node_at es (e.0 ++ name ∷ names) ≡ Some x
  rest_below e es has name names x there =
      let q : Path = e.0 ++ name ∷ names in
      let apart : is_same q e.0 ≡ false = ap is_eq (greater_from_less q e.0 (path_cmp-below e.0 name names)) in
      elim (has q) [
        | inl same ↦ sym (node_at-tail e.0 q e.1 es apart) ∙ (same ∙ there)
        | inr before ↦ absurd (not_before_itself e.0 (path_cmp_total.trans e.0 q e.0 (path_cmp-below e.0 name names) before.0))
      ]

  cond_none : (b : Bool) (o : Option Node) → o ≡ None → cond b None o ≡ None
  cond_none true o none = refl
  cond_none false o none = none

  -- where the first entry isn't removed, and where it is
  removed_in-skip : (e : Path × Node) (es : List (Path × Node)) (q : Path) → IsBefore e.0 es → is_removed from to policy e.0 e.1 ≡ false → removed_in (e ∷ es) q ≡ removed_in es q
  removed_in-skip e es q before kept = elim (path_cases q e.0) [
    | inl is ↦ subst (λ (r : Path). removed_in (e ∷ es) r ≡ removed_in es r) (sym is) (ap (removed_node e.0) (node_at-head e.0 e.1 es) ∙ (kept ∙ sym (ap (removed_node e.0) (node_at-before e.0 es before))))
    | inr apart ↦ ap (removed_node q) (node_at-tail e.0 q e.1 es apart)
  ]

  -- the removals of some last entries can be carried out, and leave what isn't removed
  pub removals_leave : IsTree from → (es : List (Path × Node)) → IsAscending es → HasRest es → CanAllBeCarriedOut (removals from to policy es) (standing to) × ((q : Path) → all_carried_out (removals from to policy es) (standing to) q ≡ (if removed_in es q then None else standing to q))
  removals_leave is [] asc has = (tt, λ q. refl)
  removals_leave is (e ∷ es) asc has =
      let before = removals_leave is es asc.1 (rest_tail e es asc has) in
      let tree : Path → Option Node = all_carried_out (removals from to policy es) (standing to) in
      elim (is_removed from to policy e.0 e.1) as (λ b. is_removed from to policy e.0 e.1 ≡ b → CanAllBeCarriedOut (removals from to policy es ++ cond b (removing e.0 e.1) []) (standing to) × ((q : Path) → all_carried_out (removals from to policy es ++ cond b (removing e.0 e.1) []) (standing to) q ≡ (if removed_in (e ∷ es) q then None else standing to q))) [
        | false ↦ λ kept. (
          can_append (removals from to policy es) [] (standing to) before.0 tt,
          λ q. ap (λ (m : Path → Option Node). m q) (after_append (removals from to policy es) [] (standing to)) ∙ (before.1 q ∙ ap (λ b. cond b None (standing to q)) (sym (removed_in-skip e es q asc.0 kept))),
        )
        | true ↦ λ removed.
            let one = one_removed e.0 e.1 tree (here e es is asc has before.1) (removed_not_kept e.0 e.1 removed) (below e es is asc has removed before.1) in (
              can_append (removals from to policy es) (removing e.0 e.1) (standing to) before.0 one.0,
              λ q. ap (λ (m : Path → Option Node). m q) (after_append (removals from to policy es) (removing e.0 e.1) (standing to)) ∙ (one.1 q ∙ left e es tree q removed before.1),
            )
      ] refl
    where
      here : (e : Path × Node) (es : List (Path × Node)) → IsTree from → IsAscending (e ∷ es) → HasRest (e ∷ es) → ((q : Path) → all_carried_out (removals from to policy es) (standing to) q ≡ (if removed_in es q then None else standing to q)) → all_carried_out (removals from to policy es) (standing to) e.0 ≡ Some e.1
      here e es is asc has after = after e.0 ∙ (ap (λ o. cond (removed_node e.0 o) None (standing to e.0)) (node_at-before e.0 es asc.0) ∙ rest_head e es has)

      below : (e : Path × Node) (es : List (Path × Node)) → IsTree from → IsAscending (e ∷ es) → HasRest (e ∷ es) → is_removed from to policy e.0 e.1 ≡ true → ((q : Path) → all_carried_out (removals from to policy es) (standing to) q ≡ (if removed_in es q then None else standing to q)) → IsTrue (is_folder (Some e.1)) → (name : List ℕ) (names : Path) → all_carried_out (removals from to policy es) (standing to) (e.0 ++ name ∷ names) ≡ None
      below e es is asc has removed after folder name names =
          let q : Path = e.0 ++ name ∷ names in
          elim (standing to q) as (λ o. standing to q ≡ o → all_carried_out (removals from to policy es) (standing to) q ≡ None) [
            | None ↦ λ none. after q ∙ cond_none (removed_in es q) (standing to q) none
            | Some x ↦ λ there. after q ∙ ap (λ b. cond b None (standing to q)) (ap (removed_node q) (rest_below e es has name names x there) ∙ below_removed_node is e.0 name names e.1 x folder removed there)
          ] refl

      left : (e : Path × Node) (es : List (Path × Node)) (tree : Path → Option Node) (q : Path) → is_removed from to policy e.0 e.1 ≡ true → ((q : Path) → tree q ≡ (if removed_in es q then None else standing to q)) → updated tree e.0 None q ≡ (if removed_in (e ∷ es) q then None else standing to q)
      left e es tree q removed after = elim (path_cases q e.0) [
        | inl is ↦ subst (λ (r : Path). updated tree e.0 None r ≡ (if removed_in (e ∷ es) r then None else standing to r)) (sym is) (updated-here tree e.0 None ∙ sym (ap (λ b. cond b None (standing to e.0)) (ap (removed_node e.0) (node_at-head e.0 e.1 es) ∙ removed)))
        | inr apart ↦ updated-apart tree e.0 None q apart ∙ (after q ∙ ap (λ o. cond (removed_node q o) None (standing to q)) (sym (node_at-tail e.0 q e.1 es apart)))
      ]
