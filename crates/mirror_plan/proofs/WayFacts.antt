-- The way down a tree to a path.
use Rattle.std.proofs.Common.{◌≡◌, ℕ, ◌+◌, ◌<◌, ◌≤◌, true, false, IsTrue, cond, if◌then◌else◌, List, [], ◌∷◌, ◌++◌, length, take, drop, get_or, Option, Some, None, is_some, refl, sym, ap, ◌∙◌, append_assoc, append-nil, add-one, drop-cons}
use Rattle.std.proofs.lemmas.Bool.{false≢true}
use Rattle.std.proofs.lemmas.List.{take_more}
use Rattle.mirror_plan.specs.declared.node.Node.{Node}
use Rattle.mirror_plan.specs.Paths.{Path}
use Rattle.mirror_plan.specs.Listing.{Listing, IsTree, IsConnected, standing, is_folder}
use Rattle.mirror_plan.specs.Plan.{way_end, nearest}
use Rattle.mirror_plan.proofs.PathFacts.{past}
use Rattle.mirror_plan.proofs.EntryFacts.{standing_root}

-- one more name of the way
pub way_end-more : (tree : Path → Option Node) (names : Path) (i : ℕ) → i < length names → way_end tree (take i names) (drop i names) ≡ (if is_some (tree (take (i + 1) names)) then way_end tree (take (i + 1) names) (drop (i + 1) names) else tree (take i names))
way_end-more tree names i within =
    let one : take i names ++ get_or names i [] ∷ [] ≡ take (i + 1) names = sym (take_more names i [] within) in
    rw (drop-cons names i [], one, add-one) refl

-- where no name is left, the way has ended
pub way_end-all : (tree : Path → Option Node) (names : Path) (i : ℕ) → length names ≤ i → way_end tree (take i names) (drop i names) ≡ tree (take i names)
way_end-all tree names i le = rw (past names i le) refl

-- a folder is something
pub some_folder : (o : Option Node) → IsTrue (is_folder o) → is_some o ≡ true
some_folder None folder = absurd (false≢true folder)
some_folder (Some node) folder = refl

-- one name and then others are names
pub name_then : (folder : Path) (name : List ℕ) (names : Path) → (folder ++ name ∷ []) ++ names ≡ folder ++ name ∷ names
name_then folder name names = append_assoc folder (name ∷ []) names

module _ (tree : Path → Option Node) (connected : IsConnected tree) where
  -- what is above something is a folder
  pub folder_above : (folder : Path) (name : List ℕ) (names : Path) → is_some (tree (folder ++ name ∷ names)) ≡ true → IsTrue (is_folder (tree folder))
  folder_above folder name [] some = connected folder name some
  folder_above folder name (m ∷ ms) some =
      connected folder name (some_folder (tree (folder ++ name ∷ [])) (folder_above (folder ++ name ∷ []) m ms (ap (λ (p : Path). is_some (tree p)) (name_then folder name (m ∷ ms)) ∙ some)))

  some_above : (folder : Path) (name : List ℕ) (names : Path) → is_some (tree (folder ++ name ∷ names)) ≡ true → is_some (tree (folder ++ name ∷ [])) ≡ true
  some_above folder name [] some = some
  some_above folder name (m ∷ ms) some =
      some_folder (tree (folder ++ name ∷ [])) (folder_above (folder ++ name ∷ []) m ms (ap (λ (p : Path). is_some (tree p)) (name_then folder name (m ∷ ms)) ∙ some))

  -- the way goes through what stands
  pub way_end-through : (folder a rest : Path) → is_some (tree (folder ++ a)) ≡ true → way_end tree folder (a ++ rest) ≡ way_end tree (folder ++ a) rest
  way_end-through folder [] rest some = ap (λ (p : Path). way_end tree p rest) (sym (append-nil folder))
  way_end-through folder (n ∷ ns) rest some =
      ap (λ b. cond b (way_end tree (folder ++ n ∷ []) (ns ++ rest)) (tree folder)) (some_above folder n ns some)
      ∙ (way_end-through (folder ++ n ∷ []) ns rest (ap (λ (p : Path). is_some (tree p)) (name_then folder n ns) ∙ some)
      ∙ ap (λ (p : Path). way_end tree p rest) (name_then folder n ns))

  -- below what isn't there, the way ends where it does there
  pub way_end-below : (folder p rest : Path) → is_some (tree (folder ++ p)) ≡ false → way_end tree folder (p ++ rest) ≡ way_end tree folder p
  way_end-below folder [] [] none = refl
  way_end-below folder [] (m ∷ ms) none =
      elim (is_some (tree (folder ++ m ∷ []))) as (λ b. is_some (tree (folder ++ m ∷ [])) ≡ b → cond b (way_end tree (folder ++ m ∷ []) ms) (tree folder) ≡ tree folder) [
        | true ↦ λ e. absurd (false≢true (sym none ∙ (ap (λ (p : Path). is_some (tree p)) (append-nil folder) ∙ some_folder (tree folder) (connected folder m e))))
        | false ↦ λ e. refl
      ] refl
  way_end-below folder (n ∷ ns) rest none =
      elim (is_some (tree (folder ++ n ∷ []))) as (λ b. cond b (way_end tree (folder ++ n ∷ []) (ns ++ rest)) (tree folder) ≡ cond b (way_end tree (folder ++ n ∷ []) ns) (tree folder)) [
        | true ↦ way_end-below (folder ++ n ∷ []) ns rest (ap (λ (p : Path). is_some (tree p)) (name_then folder n ns) ∙ none)
        | false ↦ refl
      ]

-- the way to what isn't there ends where the way to its folder does
pub way_end-absent : (tree : Path → Option Node) (folder g : Path) (name : List ℕ) → is_some (tree (folder ++ (g ++ name ∷ []))) ≡ false → way_end tree folder (g ++ name ∷ []) ≡ way_end tree folder g
way_end-absent tree folder [] name none = ap (λ b. cond b (tree (folder ++ name ∷ [])) (tree folder)) none
way_end-absent tree folder (n ∷ ns) name none =
    elim (is_some (tree (folder ++ n ∷ []))) as (λ b. cond b (way_end tree (folder ++ n ∷ []) (ns ++ name ∷ [])) (tree folder) ≡ cond b (way_end tree (folder ++ n ∷ []) ns) (tree folder)) [
      | true ↦ way_end-absent tree (folder ++ n ∷ []) ns name (ap (λ (p : Path). is_some (tree p)) (name_then folder n (ns ++ name ∷ [])) ∙ none)
      | false ↦ refl
    ]

-- where a way ends, something stands: at the path or above it
pub way_end-stands : (tree : Path → Option Node) (folder names : Path) → is_some (tree folder) ≡ true → (a : Path) × (b : Path) × (names ≡ a ++ b) × (tree (folder ++ a) ≡ way_end tree folder names) × (is_some (way_end tree folder names) ≡ true)
way_end-stands tree folder [] some = ([], [], refl, ap tree (append-nil folder), some)
way_end-stands tree folder (n ∷ ns) some =
    elim (is_some (tree (folder ++ n ∷ []))) as (λ t. is_some (tree (folder ++ n ∷ [])) ≡ t → (a : Path) × (b : Path) × (n ∷ ns ≡ a ++ b) × (tree (folder ++ a) ≡ cond t (way_end tree (folder ++ n ∷ []) ns) (tree folder)) × (is_some (cond t (way_end tree (folder ++ n ∷ []) ns) (tree folder)) ≡ true)) [
      | true ↦ λ e.
          let deeper = way_end-stands tree (folder ++ n ∷ []) ns e in
          (n ∷ deeper.0, deeper.1, ap (λ (p : Path). n ∷ p) deeper.2, ap tree (sym (name_then folder n deeper.0)) ∙ deeper.3, deeper.4)
      | false ↦ λ e. ([], n ∷ ns, refl, ap tree (append-nil folder), some)
    ] refl

-- what stands at a path is nearest to it
pub nearest-there : (tree : Listing) (p : Path) (node : Node) → IsTree tree → standing tree p ≡ Some node → nearest tree p ≡ Some node
unfolding nearest
nearest-there tree p node is there =
    ap (λ (q : Path). way_end (standing tree) [] q) (sym (append-nil p)) ∙ (way_end-through (standing tree) is.connected [] p [] (ap is_some there) ∙ there)

pub nearest-absent : (tree : Listing) (g : Path) (name : List ℕ) → standing tree (g ++ name ∷ []) ≡ None → nearest tree (g ++ name ∷ []) ≡ nearest tree g
unfolding nearest
nearest-absent tree g name none = way_end-absent (standing tree) [] g name (ap is_some none)

pub nearest-below : (tree : Listing) (p rest : Path) → IsTree tree → standing tree p ≡ None → nearest tree (p ++ rest) ≡ nearest tree p
unfolding nearest
nearest-below tree p rest is none = way_end-below (standing tree) is.connected [] p rest (ap is_some none)

pub nearest-stands : (tree : Listing) (p : Path) → (a : Path) × (b : Path) × (p ≡ a ++ b) × (standing tree a ≡ nearest tree p) × (is_some (nearest tree p) ≡ true)
unfolding nearest
nearest-stands tree p = way_end-stands (standing tree) [] p (ap is_some (standing_root tree [] refl))

-- below something that is no folder, that is nearest
pub nearest-barred : (tree : Listing) (a : Path) (name : List ℕ) (names : Path) (node : Node) → IsTree tree → standing tree a ≡ Some node → is_folder (Some node) ≡ false → nearest tree (a ++ name ∷ names) ≡ Some node
unfolding nearest
nearest-barred tree a name names node is there bars =
    way_end-through (standing tree) is.connected [] a (name ∷ names) (ap is_some there)
    ∙ (elim (is_some (standing tree (a ++ name ∷ []))) as (λ b. is_some (standing tree (a ++ name ∷ [])) ≡ b → cond b (way_end (standing tree) (a ++ name ∷ []) names) (standing tree a) ≡ standing tree a) [
      | true ↦ λ some. absurd (false≢true (sym bars ∙ (sym (ap is_folder there) ∙ is.connected a name some)))
      | false ↦ λ none. refl
    ] refl ∙ there)
