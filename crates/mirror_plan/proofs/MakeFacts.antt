-- What makings and copies leave.
use Rattle.std.proofs.Common.{◌≡◌, ℕ, ◌-◌, Bool, true, false, not, cond, ◌&&◌, ◌||◌, if◌then◌else◌, IsTrue, List, [], ◌∷◌, ◌++◌, length, get_or, Option, Some, None, is_some, refl, sym, ap, ◌∙◌, subst, inl, inr, arith}
use Rattle.std.specs.Ordering.{is_eq}
use Rattle.std.specs.declared.cmp.Ordering.TheVariants.{Less}
use Rattle.std.proofs.lemmas.Bool.{false≢true}
use Rattle.std.proofs.lemmas.Option.{none-some}
use Rattle.mirror_plan.specs.declared.node.Node.{Node}
use Rattle.mirror_plan.specs.declared.node.Node.TheVariants.{Folder, File, Other}
use Rattle.mirror_plan.specs.declared.node.Policy.{Policy}
use Rattle.mirror_plan.specs.Paths.{Path, path_cmp, parent_of}
use Rattle.mirror_plan.specs.Listing.{Listing, IsTree, IsBefore, IsAscending, standing, node_at, is_folder, updated}
use Rattle.mirror_plan.specs.Plan.{nearest, is_gone, is_free, is_stale, is_made, is_removed, is_kept, making, makings}
use Rattle.mirror_plan.specs.Carried.{all_carried_out, CanAllBeCarriedOut, takes_file}
use Rattle.mirror_plan.proofs.PathFacts.{path_cases, path_cmp-below, parent_of_last}
use Rattle.mirror_plan.proofs.EntryFacts.{before_more, node_at-head, node_at-tail, node_at-before, standing_is, updated-here, updated-apart}
use Rattle.mirror_plan.proofs.WayFacts.{nearest-there, nearest-absent}
use Rattle.mirror_plan.proofs.BoolFacts.{both, and-true, false_from, none_from}
use Rattle.mirror_plan.proofs.RemoveFacts.{can_append, after_append, removed_node, removed_in}

-- what is made of a node
abbrev pub made : Node → Option Node
made (Folder is_whole) = Some (Folder true)
made (File size modified) = Some (File size modified)
made Other = None

module _ (from to : Listing) (policy : Policy) where
  -- what the removals leave
  abbrev pub remaining : Path → Option Node
  remaining q = if removed_in from to policy to.entries q then None else standing to q

  abbrev pub final_node : Path → Option Node → Option Node
  final_node q None = remaining q
  final_node q (Some node) = if is_made to policy q node then made node else remaining q

  -- what the plan leaves
  abbrev pub final : Path → Option Node
  final q = final_node q (standing from q)

  -- what the first tree has isn't removed
  pub there_stays : (q : Path) (node x : Node) → standing from q ≡ Some x → is_removed from to policy q node ≡ false
  there_stays q node x there = false_from (is_removed from to policy q node) (λ removed.
      let kept = both (policy.delete && is_gone from q && not (is_kept node)) _ removed in
      let gone = both (policy.delete && is_gone from q) (not (is_kept node)) kept.0 in
      let absent = both (not (is_some (standing from q))) _ (both policy.delete (is_gone from q) gone.0).1 in
      none-some x (sym (none_from (standing from q) absent.0) ∙ there))

  pub remaining-there : (q : Path) (x : Node) → standing from q ≡ Some x → remaining q ≡ standing to q
  remaining-there q x there = ap (λ b. cond b None (standing to q)) (stays (node_at to.entries q))
    where
      stays : (o : Option Node) → removed_node from to policy q o ≡ false
      stays None = refl
      stays (Some node) = there_stays q node x there

  folder_is : (o : Option Node) → is_folder o ≡ true → (w : Bool) × (o ≡ Some (Folder w))
  folder_is None folder = absurd (false≢true folder)
  folder_is (Some (Folder w)) folder = (w, refl)
  folder_is (Some (File size modified)) folder = absurd (false≢true folder)
  folder_is (Some Other) folder = absurd (false≢true folder)

  -- what is made where nothing stands is free
  pub made_free : (p : Path) (node : Node) → standing to p ≡ None → is_made to policy p node ≡ true → is_free to p ≡ true
  made_free p (Folder w) none goes = goes
  made_free p (File size modified) none goes = or_false (is_free to p) _ (ap (is_stale policy size modified) none) goes
    where
      or_false : (a b : Bool) → b ≡ false → (a || b) ≡ true → a ≡ true
      or_false true b lacks goes = refl
      or_false false b lacks goes = absurd (false≢true (sym lacks ∙ goes))
  made_free p Other none goes = absurd (false≢true goes)

  pub free_none : (p : Path) → is_free to p ≡ true → standing to p ≡ None
  free_none p free = none_from (standing to p) (both (not (is_some (standing to p))) _ free).0

  -- the folder of what is made is a folder in the end
  pub parent_folder : IsTree from → IsTree to → (g : Path) (name : List ℕ) (node : Node) → standing from (g ++ name ∷ []) ≡ Some node → is_made to policy (g ++ name ∷ []) node ≡ true → IsTrue (is_folder (final g))
  parent_folder from_is to_is g name node there goes =
      let p : Path = g ++ name ∷ [] in
      let above = folder_is (standing from g) (from_is.connected g name (ap is_some there)) in
      let stays : remaining g ≡ standing to g = remaining-there g (Folder above.0) above.1 in
      let is : final g ≡ cond (is_free to g) (Some (Folder true)) (standing to g) =
      ap (final_node g) above.1 ∙ ap (λ o. cond (is_free to g) (Some (Folder true)) o) stays in
      ap is_folder is ∙ (elim (is_folder (standing to g)) as (λ b. is_folder (standing to g) ≡ b → is_folder (cond (is_free to g) (Some (Folder true)) (standing to g)) ≡ true) [
        | true ↦ λ folder. either (is_free to g) (standing to g) folder
        | false ↦ λ lacks.
            let none : standing to p ≡ None = absent (standing to p) (λ some. false≢true (sym lacks ∙ to_is.connected g name some)) in
            let free = made_free p node none goes in
            let way : is_folder (nearest to g) ≡ true = sym (ap is_folder (nearest-absent to g name none)) ∙ (both (not (is_some (standing to p))) (is_folder (nearest to p)) free).1 in
            let here : standing to g ≡ None = absent (standing to g) (λ some. gone g (standing to g) refl lacks way some) in
            ap (λ b. is_folder (cond b (Some (Folder true)) (standing to g))) (and-true (not (is_some (standing to g))) (is_folder (nearest to g)) (ap (λ o. not (is_some o)) here) way)
      ] refl)
    where
      either : (b : Bool) (o : Option Node) → is_folder o ≡ true → is_folder (cond b (Some (Folder true)) o) ≡ true
      either true o folder = refl
      either false o folder = folder

      absent : (o : Option Node) → (is_some o ≡ true → ⊥) → o ≡ None
      absent None never = refl
      absent (Some node) never = absurd (never refl)

      gone : (g : Path) (o : Option Node) → standing to g ≡ o → is_folder (standing to g) ≡ false → is_folder (nearest to g) ≡ true → is_some o ≡ true → ⊥
      gone g None is lacks way some = false≢true some
      gone g (Some x) is lacks way some = false≢true (sym lacks ∙ (ap is_folder (is ∙ sym (nearest-there to g x to_is is)) ∙ way))

  -- the action that makes a node
  one_made : (p : Path) (node : Node) (tree : Path → Option Node) → is_made to policy p node ≡ true → tree p ≡ remaining p → IsTrue (is_folder (tree (parent_of p))) → CanAllBeCarriedOut (making p node) tree × ((q : Path) → all_carried_out (making p node) tree q ≡ updated tree p (made node) q)
  one_made p (Folder w) tree goes at folder =
      (((at ∙ none (removed_in from to policy to.entries p) (standing to p) (free_none p goes), folder), tt), λ q. refl)
    where
      none : (b : Bool) (o : Option Node) → o ≡ None → cond b None o ≡ None
      none true o is = refl
      none false o is = is
  one_made p (File size modified) tree goes at folder =
      (((ap takes_file at ∙ takes (removed_in from to policy to.entries p) (standing to p) (over (is_free to p) (standing to p) (free_none p) goes), folder), tt), λ q. refl)
    where
      over : (b : Bool) (o : Option Node) → (b ≡ true → o ≡ None) → (b || is_stale policy size modified o) ≡ true → takes_file o ≡ true
      over b None free any = refl
      over true (Some (Folder w)) free any = absurd (none-some (Folder w) (sym (free refl)))
      over false (Some (Folder w)) free any = absurd (false≢true any)
      over b (Some (File old_size old_modified)) free any = refl
      over true (Some Other) free any = absurd (none-some Other (sym (free refl)))
      over false (Some Other) free any = absurd (false≢true any)

      takes : (b : Bool) (o : Option Node) → takes_file o ≡ true → takes_file (cond b None o) ≡ true
      takes true o can = refl
      takes false o can = can
  one_made p Other tree goes at folder = absurd (false≢true goes)

  -- the entries are of the first tree
  abbrev pub IsOfFrom : List (Path × Node) → Type 0
  IsOfFrom es = (q : Path) (node : Node) → node_at es q ≡ Some node → standing from q ≡ Some node

  pub all_of_from : IsTree from → IsOfFrom from.entries
  all_of_from is q node at = elim (path_cases q []) [
    | inl root ↦ absurd (none-some node (sym (node_at-before [] from.entries is.ascending.0) ∙ (ap (node_at from.entries) (sym root) ∙ at)))
    | inr apart ↦ standing_is from q ∙ (node_at-tail [] q (Folder from.is_whole) from.entries apart ∙ at)
  ]

  pub of_from_tail : (e : Path × Node) (es : List (Path × Node)) → IsAscending (e ∷ es) → IsOfFrom (e ∷ es) → IsOfFrom es
  of_from_tail e es asc of q node at = elim (path_cases q e.0) [
    | inl is ↦ absurd (none-some node (sym (node_at-before e.0 es asc.0) ∙ (ap (node_at es) (sym is) ∙ at)))
    | inr apart ↦ of q node (node_at-tail e.0 q e.1 es apart ∙ at)
  ]

  -- a path that isn't the root is its folder and a name
  pub split_last : (p : Path) → path_cmp [] p ≡ Less → (name : List ℕ) × (p ≡ parent_of p ++ name ∷ [])
  split_last [] less = absurd (false≢true (sym (ap is_eq less)))
  split_last (n ∷ ns) less = (get_or (n ∷ ns) (length (n ∷ ns) - 1) [], parent_of_last (n ∷ ns) [] (omega arith))

  -- while some last entries are left to make
  abbrev pub IsPartlyMade : List (Path × Node) → (Path → Option Node) → Type 0
  IsPartlyMade es tree = (q : Path) → tree q ≡ (if is_some (node_at es q) then remaining q else final q)

  module _ (from_is : IsTree from) (to_is : IsTree to) where
    made_parent : (p : Path) (name : List ℕ) (node : Node) → p ≡ parent_of p ++ name ∷ [] → standing from p ≡ Some node → is_made to policy p node ≡ true → IsTrue (is_folder (final (parent_of p)))
    made_parent p name node is there goes =
        parent_folder from_is to_is (parent_of p) name node (ap (standing from) (sym is) ∙ there) (ap (λ (q : Path). is_made to policy q node) (sym is) ∙ goes)

    step : (e : Path × Node) (es : List (Path × Node)) (tree : Path → Option Node) → IsAscending (e ∷ es) → standing from e.0 ≡ Some e.1 → is_made to policy e.0 e.1 ≡ true → IsPartlyMade (e ∷ es) tree → IsPartlyMade es (updated tree e.0 (made e.1))
    step e es tree asc there goes has q = elim (path_cases q e.0) [
      | inl is ↦ subst (λ (r : Path). updated tree e.0 (made e.1) r ≡ (if is_some (node_at es r) then remaining r else final r)) (sym is)
          (updated-here tree e.0 (made e.1)
          ∙ (sym (ap (λ b. cond b (made e.1) (remaining e.0)) goes)
          ∙ (sym (ap (final_node e.0) there) ∙ sym (ap (λ o. if is_some o then remaining e.0 else final e.0) (node_at-before e.0 es asc.0)))))
      | inr apart ↦ updated-apart tree e.0 (made e.1) q apart ∙ (has q ∙ ap (λ o. if is_some o then remaining q else final q) (node_at-tail e.0 q e.1 es apart))
    ]

    skip : (e : Path × Node) (es : List (Path × Node)) (tree : Path → Option Node) → IsAscending (e ∷ es) → standing from e.0 ≡ Some e.1 → is_made to policy e.0 e.1 ≡ false → IsPartlyMade (e ∷ es) tree → IsPartlyMade es tree
    skip e es tree asc there lacks has q = elim (path_cases q e.0) [
      | inl is ↦ subst (λ (r : Path). tree r ≡ (if is_some (node_at es r) then remaining r else final r)) (sym is)
          (has e.0
          ∙ (ap (λ o. if is_some o then remaining e.0 else final e.0) (node_at-head e.0 e.1 es)
          ∙ (sym (ap (λ b. cond b (made e.1) (remaining e.0)) lacks)
          ∙ (sym (ap (final_node e.0) there) ∙ sym (ap (λ o. if is_some o then remaining e.0 else final e.0) (node_at-before e.0 es asc.0))))))
      | inr apart ↦ has q ∙ ap (λ o. if is_some o then remaining q else final q) (node_at-tail e.0 q e.1 es apart)
    ]

    -- what is made of some last entries can be carried out, and leaves what the plan leaves
    pub makings_make : (es : List (Path × Node)) (tree : Path → Option Node) → IsBefore [] es → IsAscending es → IsOfFrom es → IsPartlyMade es tree → CanAllBeCarriedOut (makings to policy es) tree × ((q : Path) → all_carried_out (makings to policy es) tree q ≡ final q)
    makings_make [] tree root asc of has = (tt, has)
    makings_make (e ∷ es) tree root asc of has =
        let there : standing from e.0 ≡ Some e.1 = of e.0 e.1 (node_at-head e.0 e.1 es) in
        elim (is_made to policy e.0 e.1) as (λ b. is_made to policy e.0 e.1 ≡ b → CanAllBeCarriedOut ((if b then making e.0 e.1 else []) ++ makings to policy es) tree × ((q : Path) → all_carried_out ((if b then making e.0 e.1 else []) ++ makings to policy es) tree q ≡ final q)) [
          | false ↦ λ lacks. makings_make es tree root.1 asc.1 (of_from_tail e es asc of) (skip e es tree asc there lacks has)
          | true ↦ λ goes.
              let last = split_last e.0 root.0 in
              let less : path_cmp (parent_of e.0) e.0 ≡ Less = subst (λ (p : Path). path_cmp (parent_of e.0) p ≡ Less) (sym last.1) (path_cmp-below (parent_of e.0) last.0 []) in
              let parent : tree (parent_of e.0) ≡ final (parent_of e.0) =
              has (parent_of e.0) ∙ ap (λ o. if is_some o then remaining (parent_of e.0) else final (parent_of e.0)) (node_at-before (parent_of e.0) (e ∷ es) (less, before_more (parent_of e.0) e.0 es less asc.0)) in
              let folder : IsTrue (is_folder (tree (parent_of e.0))) = ap is_folder parent ∙ made_parent e.0 last.0 e.1 last.1 there goes in
              let at : tree e.0 ≡ remaining e.0 = has e.0 ∙ ap (λ o. if is_some o then remaining e.0 else final e.0) (node_at-head e.0 e.1 es) in
              let one = one_made e.0 e.1 tree goes at folder in
              let next : Path → Option Node = all_carried_out (making e.0 e.1) tree in
              let rest = makings_make es next root.1 asc.1 (of_from_tail e es asc of) (λ q. one.1 q ∙ step e es tree asc there goes has q) in (
                can_append (making e.0 e.1) (makings to policy es) tree one.0 rest.0,
                λ q. ap (λ (m : Path → Option Node). m q) (after_append (making e.0 e.1) (makings to policy es) tree) ∙ rest.1 q,
              )
        ] refl
