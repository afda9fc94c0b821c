-- Entries in the order of their paths: what a look-up finds, and what an insertion changes.
use Rattle.std.proofs.Common.{◌≡◌, ℕ, zero, suc, ◌<◌, ◌≤◌, ◌==◌, true≢false, Bool, true, false, cond, if◌then◌else◌, IsTrue, List, [], ◌∷◌, ◌++◌, length, Option, Some, None, IsSome, is_some, slice_get, refl, sym, ap, ◌∙◌, subst, inl, inr, arith}
use Rattle.std.proofs.lemmas.Bool.{false≢true}
use Rattle.std.specs.BTreeMap.{insert_entry}
use Rattle.std.specs.Ordering.{is_eq, match_ordering, ordering_reverse}
use Rattle.std.specs.List.{insert}
use Rattle.std.specs.declared.cmp.Ordering.TheVariants.{Less, Equal, Greater}
use Rattle.std.proofs.lemmas.Cmp.{tied_itself}
use Rattle.std.proofs.lemmas.Option.{same_Some, none-some}
use Rattle.mirror_plan.specs.declared.node.Node.{Node}
use Rattle.mirror_plan.specs.declared.node.Node.TheVariants.{Folder}
use Rattle.mirror_plan.specs.Paths.{Path, path_cmp, parent_of}
use Rattle.mirror_plan.specs.Listing.{Listing, standing, node_at, is_same, IsBefore, IsAscending, IsTree, IsConnected, IsGap, with_root, is_folder, updated}
use Rattle.mirror_plan.proofs.PathFacts.{path_cmp_total, path_cmp-same, path_cases, path_cmp-below, parent_of-push}

-- the opposite order
pub greater_from_less : (p q : Path) → path_cmp q p ≡ Less → path_cmp p q ≡ Greater
greater_from_less p q less = path_cmp_total.antisymm p q ∙ ap ordering_reverse less

pub less_from_greater : (p q : Path) → path_cmp q p ≡ Greater → path_cmp p q ≡ Less
less_from_greater p q greater = path_cmp_total.antisymm p q ∙ ap ordering_reverse greater

pub is_same-refl : (p : Path) → is_same p p ≡ true
is_same-refl p = ap is_eq (tied_itself path_cmp_total p)

-- what comes before a path comes before what that comes before
pub before_more : (q p : Path) (es : List (Path × Node)) → path_cmp q p ≡ Less → IsBefore p es → IsBefore q es
before_more q p [] less all = tt
before_more q p (e ∷ es) less all = (path_cmp_total.trans q p e.0 less all.0, before_more q p es less all.1)

pub before_at : (p : Path) (es : List (Path × Node)) (i : ℕ) (e : Path × Node) → IsBefore p es → slice_get es i ≡ Some e → path_cmp p e.0 ≡ Less
before_at p [] i e all has = absurd (none-some e has)
before_at p (x ∷ xs) zero e all has = subst (λ (y : Path × Node). path_cmp p y.0 ≡ Less) (same_Some x e has) all.0
before_at p (x ∷ xs) (suc i) e all has = before_at p xs i e all.1 has

before_inserted : (p : Path) (es : List (Path × Node)) (k : Path) (v : Node) → IsBefore p es → path_cmp p k ≡ Less → IsBefore p (insert_entry path_cmp es k v)
before_inserted p [] k v all one = (one, tt)
before_inserted p (e ∷ es) k v all one =
    elim (path_cmp k e.0) as (λ o. IsBefore p (match_ordering o ((k, v) ∷ e ∷ es) ((e.0, v) ∷ es) (e ∷ insert_entry path_cmp es k v))) [
      | Less ↦ (one, all)
      | Equal ↦ all
      | Greater ↦ (all.0, before_inserted p es k v all.1 one)
    ]

-- an insertion keeps the order
pub ascending_inserted : (es : List (Path × Node)) (k : Path) (v : Node) → IsAscending es → IsAscending (insert_entry path_cmp es k v)
ascending_inserted [] k v s = (tt, tt)
ascending_inserted (e ∷ es) k v s =
    elim (path_cmp k e.0) as (λ o. path_cmp k e.0 ≡ o → IsAscending (match_ordering o ((k, v) ∷ e ∷ es) ((e.0, v) ∷ es) (e ∷ insert_entry path_cmp es k v))) [
      | Less ↦ λ less. ((less, before_more k e.0 es less s.0), s)
      | Equal ↦ λ same. s
      | Greater ↦ λ more. (before_inserted e.0 es k v s.0 (less_from_greater e.0 k more), ascending_inserted es k v s.1)
    ] refl

-- a look-up at the first entry, at another, and before the first
pub node_at-head : (p : Path) (n : Node) (es : List (Path × Node)) → node_at ((p, n) ∷ es) p ≡ Some n
node_at-head p n es = ap (λ b. cond b (Some n) (node_at es p)) (is_same-refl p)

pub node_at-tail : (p q : Path) (n : Node) (es : List (Path × Node)) → is_same q p ≡ false → node_at ((p, n) ∷ es) q ≡ node_at es q
node_at-tail p q n es apart = ap (λ b. cond b (Some n) (node_at es q)) apart

pub node_at-before : (q : Path) (es : List (Path × Node)) → IsBefore q es → node_at es q ≡ None
node_at-before q [] all = refl
node_at-before q (e ∷ es) all = ap (λ b. cond b (Some e.1) (node_at es q)) (ap is_eq all.0) ∙ node_at-before q es all.1

-- what an insertion changes
pub node_at-inserted : (es : List (Path × Node)) (k : Path) (v : Node) (q : Path) → node_at (insert_entry path_cmp es k v) q ≡ (if is_same q k then Some v else node_at es q)
node_at-inserted [] k v q = refl
node_at-inserted (e ∷ es) k v q =
    elim (path_cmp k e.0) as (λ o. path_cmp k e.0 ≡ o → node_at (match_ordering o ((k, v) ∷ e ∷ es) ((e.0, v) ∷ es) (e ∷ insert_entry path_cmp es k v)) q ≡ (if is_same q k then Some v else node_at (e ∷ es) q)) [
      | Less ↦ λ less. refl
      | Equal ↦ λ same.
          let is : k ≡ e.0 = path_cmp-same k e.0 same in
          rw is (elim (is_same q e.0) as (λ b. cond b (Some v) (node_at es q) ≡ cond b (Some v) (cond b (Some e.1) (node_at es q))) [ true ↦ refl | false ↦ refl ])
      | Greater ↦ λ more. elim (path_cases q e.0) [
        | inl is ↦
            let here : is_same q e.0 ≡ true = subst (λ (p : Path). is_same p e.0 ≡ true) (sym is) (is_same-refl e.0) in
            let apart : is_same q k ≡ false = subst (λ (p : Path). is_same p k ≡ false) (sym is) (ap is_eq (less_from_greater e.0 k more)) in
            rw (here, apart) refl
        | inr apart ↦ rw apart (node_at-inserted es k v q)
      ]
    ] refl

-- entries before one that comes before a path, and after one that comes after it
pub greater_before : (es : List (Path × Node)) (q : Path) (m k : ℕ) (e d : Path × Node) → IsAscending es → slice_get es m ≡ Some e → path_cmp q e.0 ≡ Greater → k ≤ m → slice_get es k ≡ Some d → path_cmp q d.0 ≡ Greater
greater_before [] q m k e d s at more le has = absurd (none-some e at)
greater_before (x ∷ xs) q zero zero e d s at more le has = subst (λ (y : Path × Node). path_cmp q y.0 ≡ Greater) (sym (same_Some x e at) ∙ same_Some x d has) more
greater_before (x ∷ xs) q zero (suc k) e d s at more le has = absurd (omega arith)
greater_before (x ∷ xs) q (suc m) zero e d s at more le has =
    subst (λ (y : Path × Node). path_cmp q y.0 ≡ Greater) (same_Some x d has) (greater_from_less q x.0 (path_cmp_total.trans x.0 e.0 q (before_at x.0 xs m e s.0 at) (less_from_greater e.0 q more)))
greater_before (x ∷ xs) q (suc m) (suc k) e d s at more le has = greater_before xs q m k e d s.1 at more (omega arith) has

pub less_after : (es : List (Path × Node)) (q : Path) (m k : ℕ) (e d : Path × Node) → IsAscending es → slice_get es m ≡ Some e → path_cmp q e.0 ≡ Less → m ≤ k → slice_get es k ≡ Some d → path_cmp q d.0 ≡ Less
less_after [] q m k e d s at less le has = absurd (none-some e at)
less_after (x ∷ xs) q zero zero e d s at less le has = subst (λ (y : Path × Node). path_cmp q y.0 ≡ Less) (sym (same_Some x e at) ∙ same_Some x d has) less
less_after (x ∷ xs) q zero (suc k) e d s at less le has =
    path_cmp_total.trans q x.0 d.0 (subst (λ (y : Path × Node). path_cmp q y.0 ≡ Less) (sym (same_Some x e at)) less) (before_at x.0 xs k d s.0 has)
less_after (x ∷ xs) q (suc m) zero e d s at less le has = absurd (omega arith)
less_after (x ∷ xs) q (suc m) (suc k) e d s at less le has = less_after xs q m k e d s.1 at less (omega arith) has

-- a look-up finds the entry at each place
pub node_at-place : (es : List (Path × Node)) (i : ℕ) (p : Path) (n : Node) → IsAscending es → slice_get es i ≡ Some (p, n) → node_at es p ≡ Some n
node_at-place [] i p n s has = absurd (none-some (p, n) has)
node_at-place (x ∷ xs) zero p n s has = subst (λ (y : Path × Node). node_at (y ∷ xs) p ≡ Some n) (sym (same_Some x (p, n) has)) (node_at-head p n xs)
node_at-place (x ∷ xs) (suc i) p n s has =
    node_at-tail x.0 p x.1 xs (ap is_eq (greater_from_less p x.0 (before_at x.0 xs i (p, n) s.0 has))) ∙ node_at-place xs i p n s.1 has

-- and nothing in a gap
pub node_at-gap : (es : List (Path × Node)) (q : Path) (i : ℕ) → ((k : ℕ) (e : Path × Node) → k < i → slice_get es k ≡ Some e → path_cmp q e.0 ≡ Greater) → ((k : ℕ) (e : Path × Node) → i ≤ k → slice_get es k ≡ Some e → path_cmp q e.0 ≡ Less) → node_at es q ≡ None
node_at-gap [] q i after before = refl
node_at-gap (x ∷ xs) q zero after before =
    ap (λ b. cond b (Some x.1) (node_at xs q)) (ap is_eq (before 0 x (omega arith) refl)) ∙ node_at-gap xs q 0 (λ k e less. absurd (omega arith)) (λ k e le. before (suc k) e (omega arith))
node_at-gap (x ∷ xs) q (suc i) after before =
    ap (λ b. cond b (Some x.1) (node_at xs q)) (ap is_eq (after 0 x (omega arith) refl)) ∙ node_at-gap xs q i (λ k e less. after (suc k) e (omega arith)) (λ k e le. before (suc k) e (omega arith))

-- an insertion in a gap is at its place in the order
pub insert-gap : (es : List (Path × Node)) (q : Path) (n : Node) (i : ℕ) → i ≤ length es → ((k : ℕ) (e : Path × Node) → k < i → slice_get es k ≡ Some e → path_cmp q e.0 ≡ Greater) → ((k : ℕ) (e : Path × Node) → i ≤ k → slice_get es k ≡ Some e → path_cmp q e.0 ≡ Less) → insert es i (q, n) ≡ insert_entry path_cmp es q n
insert-gap [] q n zero le after before = refl
insert-gap [] q n (suc i) le after before = absurd (omega arith)
insert-gap (x ∷ xs) q n zero le after before = rw (before 0 x (omega arith) refl) refl
insert-gap (x ∷ xs) q n (suc i) le after before =
    rw (after 0 x (omega arith) refl) (ap (λ rest. x ∷ rest) (insert-gap xs q n i (omega arith) (λ k e less. after (suc k) e (omega arith)) (λ k e le. before (suc k) e (omega arith))))

-- what stands is what a look-up finds among the entries, the root among them
pub standing_is : (tree : Listing) (path : Path) → standing tree path ≡ node_at (with_root tree) path
unfolding standing
standing_is tree path = refl

-- below the root, the entries say what stands
pub standing_below : (tree : Listing) (path : Path) → (length path == 0) ≡ false → standing tree path ≡ node_at tree.entries path
unfolding standing
standing_below tree [] some = absurd (true≢false some)
standing_below tree (n ∷ ns) some = refl

-- the root alone is a tree
pub empty_IsTree : (is_whole : Bool) → IsTree (record { is_whole = is_whole; entries = [] })
unfolding standing
empty_IsTree is_whole = record { ascending = (tt, tt); connected = λ folder name some. nothing folder name some }
  where
    nothing : (folder : Path) (name : List ℕ) → IsSome (standing (record { is_whole = is_whole; entries = [] }) (folder ++ name ∷ [])) → IsTrue (is_folder (standing (record { is_whole = is_whole; entries = [] }) folder))
    nothing [] name some = refl
    nothing (n ∷ ns) name some = absurd (false≢true some)

-- what stands at a path that has changed, and elsewhere
pub updated-here : (tree : Path → Option Node) (p : Path) (node : Option Node) → updated tree p node p ≡ node
updated-here tree p node = ap (λ b. cond b node (tree p)) (is_same-refl p)

pub updated-apart : (tree : Path → Option Node) (p : Path) (node : Option Node) (q : Path) → is_same q p ≡ false → updated tree p node q ≡ tree q
updated-apart tree p node q apart = ap (λ b. cond b node (tree q)) apart

-- a folder is not what stands in it
pub parent_apart : (folder : Path) (name : List ℕ) (names : Path) → is_same folder (folder ++ name ∷ names) ≡ false
parent_apart folder name names = ap is_eq (path_cmp-below folder name names)

-- what is put into a folder, where nothing is, stands in a folder
pub connected-updated : (tree : Path → Option Node) (p : Path) (node : Node) → IsConnected tree → IsTrue (is_folder (tree (parent_of p))) → tree p ≡ None → IsConnected (updated tree p (Some node))
connected-updated tree p node connected at absent folder name some =
    elim (path_cases (folder ++ name ∷ []) p) [
      | inl is ↦
          let apart : is_same folder p ≡ false = subst (λ (q : Path). is_same folder q ≡ false) is (parent_apart folder name []) in
          let parent : parent_of p ≡ folder = sym (ap parent_of is) ∙ parent_of-push folder name in
          ap is_folder (updated-apart tree p (Some node) folder apart) ∙ subst (λ (q : Path). IsTrue (is_folder (tree q))) parent at
      | inr apart ↦
          let there : IsTrue (is_folder (tree folder)) = connected folder name (sym (ap is_some (updated-apart tree p (Some node) (folder ++ name ∷ []) apart)) ∙ some) in
          elim (path_cases folder p) [
            | inl is ↦ absurd (false≢true (sym (ap (λ (q : Path). is_folder (tree q)) is ∙ ap is_folder absent) ∙ there))
            | inr apart2 ↦ ap is_folder (updated-apart tree p (Some node) folder apart2) ∙ there
          ]
    ]

-- two trees that have the same everywhere
pub connected-same : (tree other : Path → Option Node) → ((q : Path) → other q ≡ tree q) → IsConnected tree → IsConnected other
connected-same tree other same connected folder name some =
    ap is_folder (same folder) ∙ connected folder name (sym (ap is_some (same (folder ++ name ∷ []))) ∙ some)

module _ (tree : Listing) (p : Path) (node : Node) (i : ℕ) (gap : IsGap tree.entries p i) (some : 0 < length p) where
  after_insert : Listing
  after_insert = record { is_whole = tree.is_whole; entries = insert tree.entries i (p, node) }

  is_entry : insert tree.entries i (p, node) ≡ insert_entry path_cmp tree.entries p node
  is_entry = insert-gap tree.entries p node i gap.in_range gap.after gap.before

  by_entry : (p q : Path) → 0 < length p → node_at (([], Folder tree.is_whole) ∷ insert_entry path_cmp tree.entries p node) q ≡ updated (node_at (with_root tree)) p (Some node) q
  by_entry [] q some = absurd (omega arith)
  by_entry (n ∷ ns) [] some = refl
  by_entry (n ∷ ns) (m ∷ ms) some = node_at-inserted tree.entries (n ∷ ns) node (m ∷ ms)

  -- an insertion changes what stands at the path alone
  pub standing_inserted : (q : Path) → standing (record { is_whole = tree.is_whole; entries = insert tree.entries i (p, node) }) q ≡ updated (standing tree) p (Some node) q
  unfolding standing
  standing_inserted q = ap (λ (es : List (Path × Node)). node_at (([], Folder tree.is_whole) ∷ es) q) is_entry ∙ by_entry p q some

  root_before : (p : Path) → 0 < length p → path_cmp [] p ≡ Less
  root_before [] some = absurd (omega arith)
  root_before (n ∷ ns) some = refl

  -- and leaves a tree
  pub IsTree-inserted : IsTree tree → IsTrue (is_folder (standing tree (parent_of p))) → IsTree (record { is_whole = tree.is_whole; entries = insert tree.entries i (p, node) })
  IsTree-inserted is at = record {
    ascending = subst (λ (es : List (Path × Node)). IsAscending (([], Folder tree.is_whole) ∷ es)) (sym is_entry)
        (before_inserted [] tree.entries p node is.ascending.0 (root_before p some), ascending_inserted tree.entries p node is.ascending.1);
    connected = connected-same (updated (standing tree) p (Some node)) _ standing_inserted
        (connected-updated (standing tree) p node is.connected at (standing_below tree p (grind arith) ∙ gap.absent));
  }

-- at the root stands a folder
pub standing_root : (tree : Listing) (path : Path) → length path ≡ 0 → standing tree path ≡ Some (Folder tree.is_whole)
unfolding standing
standing_root tree [] none = refl
standing_root tree (n ∷ ns) none = absurd (omega arith)

-- below the root, what stands is what a look-up in the entries gives
pub standing_from : (tree : Listing) (es : List (Path × Node)) (path : Path) (r : Option Node) → tree.entries ≡ es → node_at es path ≡ r → 0 < length path → standing tree path ≡ r
standing_from tree es path r is found some = standing_below tree path (grind arith) ∙ (ap (λ (es : List (Path × Node)). node_at es path) is ∙ found)
