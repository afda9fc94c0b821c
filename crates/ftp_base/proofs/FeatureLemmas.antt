-- Lemmas on the features of a server.
use Rattle.std.proofs.Common.{◌++◌, ◌≡◌, ℕ, true, false, cond, List, [], ◌∷◌, Option, Some, None, MatchOption, refl, sym, ap, ◌∙◌, map, bytes_eq, string_bytes, Bor, codes, nat_eq, fold, suc, length, take, arith, ◌+◌, ◌<◌, ◌&&◌, ◌||◌, not, if◌then◌else◌}
use Rattle.std.specs.List.{starts_with, list_all, list_any, position_or_len, prefix_len}
use Rattle.std.specs.Option.{option_eq, option_map, option_copied}
use Rattle.std.specs.Map.{lookup}
use Rattle.std.specs.Ordering.{nat_cmp, match_ordering}
use Rattle.std.specs.declared.cmp.Ordering.TheVariants.{Less, Equal, Greater}
use Rattle.std.specs.Cmp.Lexicographic.{slice_cmp, pointwise}
use Rattle.std.specs.BTreeMap.{insert_entry, is_at}
use Rattle.std.specs.String.{string_cmp, string_eq}
use Rattle.std.specs.declared.string.String.{String}
use Rattle.std.specs.declared.alloc.Global.{Global}
use Rattle.std.proofs.lemmas.Map.Text.{is_eq-slice_cmp}
use Rattle.std.proofs.lemmas.Slice.Eq.{bytes_eq-Decides}
use Rattle.std.proofs.lemmas.Cmp.{nat_list_cmp_total, tied_itself}
use Rattle.std.proofs.lemmas.List.Sums.{fold-append}
use Rattle.std.specs.FinMap.{slice_cmp-IsAntisymmetric, nat_cmp-IsAntisymmetric}
use Rattle.ftp_base.specs.Features.{Entries, Feature, is_same_map, map_of, shown, with_feature, value_at, feature_of, is_last, is_space, listed}

-- what a map shows after an insertion
pub shown-insert_entry : (entries : List (String Global × Option (String Global))) (name : String Global) (value : Option (String Global)) →
    shown (insert_entry string_cmp entries name value) ≡ with_feature (shown entries) (string_bytes name, option_map string_bytes value)
shown-insert_entry [] name value = refl
shown-insert_entry (e ∷ es) name value =
    elim (string_cmp name e.0) as (λ o. shown (match_ordering o ((name, value) ∷ e ∷ es) ((e.0, value) ∷ es) (e ∷ insert_entry string_cmp es name value))
    ≡ match_ordering o ((string_bytes name, option_map string_bytes value) ∷ shown (e ∷ es)) ((string_bytes e.0, option_map string_bytes value) ∷ shown es)
    ((string_bytes e.0, option_map string_bytes e.1) ∷ with_feature (shown es) (string_bytes name, option_map string_bytes value))) [
      | Less ↦ refl
      | Equal ↦ refl
      | Greater ↦ ap (λ rest. (string_bytes e.0, option_map string_bytes e.1) ∷ rest) (shown-insert_entry es name value)
    ]

-- what a map shows at a name
pub value_at-shown : (entries : List (String Global × Option (String Global))) (name : List ℕ) →
    value_at (shown entries) name ≡ option_map (λ value. option_map string_bytes value) (lookup (is_at (λ k. slice_cmp nat_cmp name (string_bytes k))) entries)
value_at-shown [] name = refl
value_at-shown (e ∷ es) name =
    rw (is_eq-slice_cmp name (string_bytes e.0))
    (elim (bytes_eq name (string_bytes e.0)) as (λ b. cond b (Some (option_map string_bytes e.1)) (value_at (shown es) name)
    ≡ option_map (λ value. option_map string_bytes value) (cond b (Some e.1) (lookup (is_at (λ k. slice_cmp nat_cmp name (string_bytes k))) es))) [
      | true ↦ refl
      | false ↦ value_at-shown es name
    ])

-- what is lent of a value is the value
pub lent_value : (found : Option (Bor (Option (String Global)))) (value : Option (Option (List ℕ))) (there : Option (Option (String Global))) → option_copied found ≡ there →
    value ≡ option_map (λ v. option_map string_bytes v) there → MatchOption found (value ≡ None) (λ v. value ≡ Some (option_map string_bytes v.now))
lent_value None value there copied is = is ∙ ap (option_map (λ v. option_map string_bytes v)) (sym copied)
lent_value (Some x) value there copied is = is ∙ ap (option_map (λ v. option_map string_bytes v)) (sym copied)

-- the features of the lines of a list after those of the lines before
abbrev pub listed_from : Entries → List (List ℕ) → Option Entries
listed_from known [] = Some known
listed_from known (line ∷ lines) =
    if is_last line then Some known
    else (if starts_with nat_eq line (codes " ") then listed_from (with_feature known (feature_of line)) lines else None)

-- a line that doesn't end the list is in it
pub listed-cons : (line : List ℕ) (lines : List (List ℕ)) → is_last line ≡ false → listed (line ∷ lines) ≡ line ∷ listed lines
listed-cons line lines more =
    let n = prefix_len (λ l. not (is_last l)) lines in
    let next : 1 + n ≡ suc n = omega arith in
    rw more (ap (λ k. take k (line ∷ lines)) next)

-- the same over the lines that the list has
pub listed_from-is : (known : Entries) (lines : List (List ℕ)) → listed_from known lines
    ≡ (if list_all (λ line. starts_with nat_eq line (codes " ")) (listed lines) then Some (fold with_feature known (map feature_of (listed lines))) else None)
listed_from-is known [] = refl
listed_from-is known (line ∷ lines) =
    elim (is_last line) as (λ b. is_last line ≡ b → listed_from known (line ∷ lines)
    ≡ (if list_all (λ l. starts_with nat_eq l (codes " ")) (listed (line ∷ lines)) then Some (fold with_feature known (map feature_of (listed (line ∷ lines)))) else None)) [
      | true ↦ λ last. rw last refl
      | false ↦ λ more. rw (listed-cons line lines more, more)
          (elim (starts_with nat_eq line (codes " ")) as (λ b. (if b then listed_from (with_feature known (feature_of line)) lines else None)
          ≡ (if b && list_all (λ l. starts_with nat_eq l (codes " ")) (listed lines) then Some (fold with_feature (with_feature known (feature_of line)) (map feature_of (listed lines))) else None)) [
            | true ↦ listed_from-is (with_feature known (feature_of line)) lines
            | false ↦ refl
          ])
    ]
    refl

-- a text whose first space stands before its end has one
pub has_space : (bytes : List ℕ) → position_or_len is_space bytes < length bytes → list_any is_space bytes ≡ true
has_space [] before = absurd (omega (arith, before))
has_space (b ∷ bs) before =
    elim (is_space b) as (λ t. cond (not t) (1 + position_or_len is_space bs) 0 < suc (length bs) → t || list_any is_space bs ≡ true) [
      | true ↦ λ _. refl
      | false ↦ λ h. has_space bs (omega (arith, h))
    ]
    before

-- one whose first space stands at its end has none
pub no_space : (bytes : List ℕ) → position_or_len is_space bytes ≡ length bytes → list_any is_space bytes ≡ false
no_space [] end = refl
no_space (b ∷ bs) end =
    elim (is_space b) as (λ t. cond (not t) (1 + position_or_len is_space bs) 0 ≡ suc (length bs) → t || list_any is_space bs ≡ false) [
      | true ↦ λ h. absurd (omega (arith, h))
      | false ↦ λ h. no_space bs (omega (arith, h))
    ]
    end

-- texts that tie are equal
tied : (xs ys : List ℕ) → slice_cmp nat_cmp xs ys ≡ Equal → xs ≡ ys
tied = slice_cmp-IsAntisymmetric nat_cmp-IsAntisymmetric

-- a text is found at one of two that differ
found_once : (name one other : List ℕ) → bytes_eq name one ≡ true → bytes_eq name other ≡ true → one ≡ other
found_once name one other first second = sym ((bytes_eq-Decides name one).0 first) ∙ (bytes_eq-Decides name other).0 second

-- the value at a name, once a feature has been put in
pub value_at-with_feature : (entries : Entries) (feature : Feature) (name : List ℕ) →
    value_at (with_feature entries feature) name ≡ (if bytes_eq name feature.0 then Some feature.1 else value_at entries name)
value_at-with_feature [] feature name = refl
value_at-with_feature (e ∷ es) feature name =
    elim (slice_cmp nat_cmp feature.0 e.0) as (λ o. slice_cmp nat_cmp feature.0 e.0 ≡ o → value_at (match_ordering o (feature ∷ e ∷ es) ((e.0, feature.1) ∷ es) (e ∷ with_feature es feature)) name
    ≡ (if bytes_eq name feature.0 then Some feature.1 else value_at (e ∷ es) name)) [
      | Less ↦ λ _. refl
      | Equal ↦ λ same. rw (tied feature.0 e.0 same)
          (elim (bytes_eq name e.0) as (λ b. cond b (Some feature.1) (value_at es name) ≡ (if b then Some feature.1 else cond b (Some e.1) (value_at es name)))
          [ true ↦ refl | false ↦ refl ])
      | Greater ↦ λ more. rw (value_at-with_feature es feature name)
          (elim (bytes_eq name feature.0) as (λ b. bytes_eq name feature.0 ≡ b → cond (bytes_eq name e.0) (Some e.1) (if b then Some feature.1 else value_at es name)
          ≡ (if b then Some feature.1 else cond (bytes_eq name e.0) (Some e.1) (value_at es name))) [
            | true ↦ λ here. elim (bytes_eq name e.0) as (λ t. bytes_eq name e.0 ≡ t → cond t (Some e.1) (Some feature.1) ≡ Some feature.1)
                [ true ↦ λ there. absurd (differ feature.0 e.0 (found_once name feature.0 e.0 here there) more) | false ↦ λ _. refl ] refl
            | false ↦ λ _. refl
          ]
          refl)
    ]
    refl
  where
    differ : (xs ys : List ℕ) → xs ≡ ys → slice_cmp nat_cmp xs ys ≡ Greater → ⊥
    differ xs ys same more = let both : Equal ≡ Greater = sym (tied_itself nat_list_cmp_total ys) ∙ ap (λ (l : List ℕ). slice_cmp nat_cmp l ys) (sym same) ∙ more in cc both

-- the last feature of a name counts
pub value_at-map_of : (features : List Feature) (feature : Feature) (name : List ℕ) →
    value_at (map_of (features ++ feature ∷ [])) name ≡ (if bytes_eq name feature.0 then Some feature.1 else value_at (map_of features) name)
value_at-map_of features feature name = rw (fold-append with_feature [] features (feature ∷ [])) (value_at-with_feature (map_of features) feature name)

-- `==` of two values, seen as bytes
values_same : (a b : Option (String Global)) → option_eq (pointwise nat_eq) (option_map string_bytes a) (option_map string_bytes b) ≡ option_eq string_eq a b
values_same None None = refl
values_same None (Some b) = refl
values_same (Some a) None = refl
values_same (Some a) (Some b) = refl

-- `==` of two maps, seen as bytes
pub shown-same : (xs ys : List (String Global × Option (String Global))) →
    is_same_map (shown xs) (shown ys) ≡ pointwise (λ a b. string_eq a.0 b.0 && option_eq string_eq a.1 b.1) xs ys
shown-same [] [] = refl
shown-same [] (y ∷ ys) = refl
shown-same (x ∷ xs) [] = refl
shown-same (x ∷ xs) (y ∷ ys) = rw (values_same x.1 y.1, shown-same xs ys) refl
