-- Laws of paths: the last name, the folder, the order.
use Rattle.std.proofs.Common.{◌≡◌, ℕ, zero, suc, drop, ◌≤◌, ◌-◌, ◌<◌, Bool, true, false, ◌&&◌, IsTrue, nat_lt, bytes_eq, List, [], ◌∷◌, ◌++◌, length, take, get_or, refl, sym, ap, ◌∙◌, inl, inr, ◌⊎◌, arith}
use Rattle.std.proofs.lemmas.Bool.{false≢true}
use Rattle.std.specs.List.{list_all, starts_with}
use Rattle.std.proofs.lemmas.Bool.Decides.{nat_tests}
use Rattle.std.proofs.lemmas.Slice.Eq.{bytes_eq-Decides}
use Rattle.std.specs.Ordering.{is_eq}
use Rattle.std.specs.Cmp.{IsTotalOrder}
use Rattle.std.specs.FinMap.{slice_cmp-IsAntisymmetric, nat_cmp-IsAntisymmetric}
use Rattle.std.specs.declared.cmp.Ordering.TheVariants.{Less, Equal, Greater}
use Rattle.std.proofs.lemmas.Cmp.{lists_total, nat_cmp_total, tied_itself}
use Rattle.std.proofs.lemmas.Grind.{common_steps}
use Rattle.ftp_list.specs.Names.{is_plain_name}
use Rattle.mirror_plan.specs.Paths.{Path, is_inside, is_below, parent_of, path_cmp}

-- plain names of which there is a last are a path inside
pub is_inside-last : (folder : Path) (name : List ℕ) → IsTrue (list_all is_plain_name (folder ++ name ∷ [])) → IsTrue (is_inside (folder ++ name ∷ []))
is_inside-last [] name plain = grind (arith, common_steps)
is_inside-last (n ∷ ns) name plain = grind (arith, common_steps)

-- the folder of what was put into a folder
pub parent_of-push : (folder : Path) (name : List ℕ) → parent_of (folder ++ name ∷ []) ≡ folder
parent_of-push [] name = refl
parent_of-push (n ∷ []) name = refl
parent_of-push (n ∷ m ∷ ns) name = ap (λ rest. n ∷ rest) (parent_of-push (m ∷ ns) name)

-- a path is its folder and its last name
pub parent_of_last : (path : Path) (d : List ℕ) → 0 < length path → path ≡ parent_of path ++ get_or path (length path - 1) d ∷ []
parent_of_last [] d some = absurd (omega arith)
parent_of_last (n ∷ []) d some = refl
parent_of_last (n ∷ m ∷ ns) d some = grind (arith, common_steps, parent_of_last (m ∷ ns) d)

pub path_cmp_total : IsTotalOrder path_cmp
path_cmp_total = lists_total (lists_total nat_cmp_total)

-- paths that compare as equal are the same
pub path_cmp-same : (p q : Path) → path_cmp p q ≡ Equal → p ≡ q
path_cmp-same = slice_cmp-IsAntisymmetric (slice_cmp-IsAntisymmetric nat_cmp-IsAntisymmetric)

-- a folder comes before what is below it
pub path_cmp-below : (folder : Path) (name : List ℕ) (names : Path) → path_cmp folder (folder ++ name ∷ names) ≡ Less
path_cmp-below [] name names = refl
path_cmp-below (n ∷ ns) name names = rw (tied_itself (lists_total nat_cmp_total) n) (path_cmp-below ns name names)

-- two paths are the same or the order tells them apart
pub path_cases : (p q : Path) → (p ≡ q) ⊎ (is_eq (path_cmp p q) ≡ false)
path_cases p q = elim (path_cmp p q) as (λ o. path_cmp p q ≡ o → (p ≡ q) ⊎ (is_eq (path_cmp p q) ≡ false)) [
  | Less ↦ λ e. inr (ap is_eq e)
  | Equal ↦ λ e. inl (path_cmp-same p q e)
  | Greater ↦ λ e. inr (ap is_eq e)
] refl

-- the folder's names are all but the last
pub parent_of-take : (path : Path) → parent_of path ≡ take (length path - 1) path
parent_of-take [] = refl
parent_of-take (n ∷ []) = refl
parent_of-take (n ∷ m ∷ ns) =
    let more : length (n ∷ m ∷ ns) - 1 ≡ suc (length (m ∷ ns) - 1) = omega arith in
    ap (λ rest. n ∷ rest) (parent_of-take (m ∷ ns)) ∙ ap (λ k. take k (n ∷ m ∷ ns)) (sym more)

-- a path inside has a name
pub some_inside : (path : Path) → IsTrue (is_inside path) → 0 < length path
some_inside [] inside = absurd (false≢true inside)
some_inside (n ∷ ns) inside = omega arith

-- by the lengths and the front
pub is_below-is : (path folder : Path) → (nat_lt (length folder) (length path) && starts_with bytes_eq path folder) ≡ is_below path folder
is_below-is [] [] = refl
is_below-is [] (f ∷ fs) = grind (arith, nat_tests)
is_below-is (n ∷ ns) [] = grind (arith, nat_tests)
is_below-is (n ∷ ns) (f ∷ fs) =
    elim (bytes_eq f n) as (λ b. (nat_lt (length (f ∷ fs)) (length (n ∷ ns)) && (b && starts_with bytes_eq ns fs)) ≡ (b && is_below ns fs)) [
      | true ↦ grind (arith, nat_tests, is_below-is ns fs)
      | false ↦ grind (arith, nat_tests)
    ]

bytes_eq-refl : (n : List ℕ) → bytes_eq n n ≡ true
bytes_eq-refl n = (bytes_eq-Decides n n).1 refl

-- what goes on from a folder is below it
pub is_below-more : (folder : Path) (name : List ℕ) (names : Path) → is_below (folder ++ name ∷ names) folder ≡ true
is_below-more [] name names = refl
is_below-more (f ∷ fs) name names = rw (bytes_eq-refl f) (is_below-more fs name names)

-- what is below something below a folder is below the folder
pub is_below-through : (path folder : Path) (name : List ℕ) (names : Path) → is_below path (folder ++ name ∷ names) ≡ true → is_below path folder ≡ true
is_below-through [] folder name names below = absurd (false≢true below)
is_below-through (n ∷ ns) [] name names below = refl
is_below-through (n ∷ ns) (f ∷ fs) name names below =
    elim (bytes_eq f n) as (λ b. (b && is_below ns (fs ++ name ∷ names)) ≡ true → (b && is_below ns fs) ≡ true) [
      | true ↦ λ e. is_below-through ns fs name names e
      | false ↦ λ e. e
    ] below

-- what is below a folder goes on from it
pub is_below-split : (path folder : Path) → is_below path folder ≡ true → (name : List ℕ) × (names : Path) × (path ≡ folder ++ name ∷ names)
is_below-split [] folder below = absurd (false≢true below)
is_below-split (n ∷ ns) [] below = (n, ns, refl)
is_below-split (n ∷ ns) (f ∷ fs) below =
    let parts = two (bytes_eq f n) (is_below ns fs) below in
    let rest = is_below-split ns fs parts.1 in
    let same : f ≡ n = (bytes_eq-Decides f n).0 parts.0 in
    (rest.0, rest.1, λ i. sym same i ∷ rest.2 i)
  where
    two : (a b : Bool) → (a && b) ≡ true → (a ≡ true) × (b ≡ true)
    two true b h = (refl, h)
    two false b h = absurd (false≢true h)

-- a test that holds exactly where two texts are equal
pub test_agrees : (r : Bool) (xs ys : List ℕ) → (IsTrue r → xs ≡ ys) → (xs ≡ ys → IsTrue r) → r ≡ bytes_eq xs ys
test_agrees true xs ys to from = sym ((bytes_eq-Decides xs ys).1 (to refl))
test_agrees false xs ys to from =
    elim (bytes_eq xs ys) as (λ b. bytes_eq xs ys ≡ b → false ≡ b) [
      | true ↦ λ e. from ((bytes_eq-Decides xs ys).0 e)
      | false ↦ λ e. refl
    ] refl

-- no name is left past the end
pub past : (names : Path) (i : ℕ) → length names ≤ i → drop i names ≡ []
past [] zero le = refl
past [] (suc i) le = refl
past (n ∷ ns) zero le = absurd (omega arith)
past (n ∷ ns) (suc i) le = past ns i (omega arith)
