-- Where parts can end, shape by shape.
use Rattle.std.proofs.Common.{◌≡◌, ℕ, zero, suc, ◌+◌, ◌-◌, ◌<◌, ◌≤◌, Bool, true, false, cond, List, [], ◌∷◌, length, drop, get_or, refl, sym, ◌∙◌, ap, arith, subst}
use Rattle.std.specs.List.{prefix_len}
use Rattle.std.proofs.lemmas.Bool.{false≢true}
use Rattle.std.proofs.lemmas.List.{drop_more, drop-drop, drop_all, length-drop}
use Rattle.ftp_list.specs.declared.class.Class.{Class}
use Rattle.ftp_list.specs.declared.shape.Shape.{Shape}
use Rattle.ftp_list.specs.declared.shape.Shape.TheVariants.{OneOrMore, AnyNumber}
use Rattle.ftp_list.specs.Shapes.{is_in}
use Rattle.ftp_list.specs.Split.{IsSplit, HasNoSplit}
use Rattle.ftp_list.specs.Rows.{Fits, CanSplit, IsReach}
use Rattle.ftp_list.proofs.ReachFacts.{one_bounded, any_bounded, one_positive}
use Rattle.ftp_list.proofs.RowFacts.{First, first_part, not_nil}

run_step : (b : Bool) (k n m : ℕ) → n ≤ k + m → cond b (1 + n) 0 ≤ suc k + m
run_step true k n m l = omega arith
run_step false k n m l = omega arith

-- a run that begins earlier ends no farther than the one that begins within it
run_drop : (p : ℕ → Bool) (text : List ℕ) (k : ℕ) → prefix_len p text ≤ k + prefix_len p (drop k text)
run_drop p text zero = omega arith
run_drop p [] (suc k) = omega arith
run_drop p (x ∷ xs) (suc k) = run_step (p x) k (prefix_len p xs) (prefix_len p (drop k xs)) (run_drop p xs k)

far_run : (class : Class) (text : List ℕ) (last p n : ℕ) → p ≤ last → n ≤ prefix_len (is_in class) (drop p text) → p + n ≤ last + prefix_len (is_in class) (drop last text)
far_run class text last p n l h =
    let place : p + (last - p) ≡ last = omega arith in
    let same : drop (last - p) (drop p text) ≡ drop last text = drop-drop (last - p) p text ∙ ap (λ k. drop k text) place in
    let bound : prefix_len (is_in class) (drop p text) ≤ (last - p) + prefix_len (is_in class) (drop last text) = subst (λ (t : List ℕ). prefix_len (is_in class) (drop p text) ≤ (last - p) + prefix_len (is_in class) t) same (run_drop (is_in class) (drop p text) (last - p)) in
    omega arith

-- no part of one or more ends farther than the run at the last place
pub far_one : (class : Class) (text : List ℕ) (last end : ℕ) → end ≡ prefix_len (is_in class) (drop last text) → (p n : ℕ) → p ≤ last → Fits (OneOrMore class) (drop p text) n → p + n ≤ last + end
far_one class text last end e p n l f = rw e (far_run class text last p n l (one_bounded class (drop p text) n f))

-- nor one of any number
pub far_any : (class : Class) (text : List ℕ) (last end : ℕ) → end ≡ prefix_len (is_in class) (drop last text) → (p n : ℕ) → p ≤ last → Fits (AnyNumber class) (drop p text) n → p + n ≤ last + end
far_any class text last end e p n l f = rw e (far_run class text last p n l (any_bounded class (drop p text) n f))

-- no part of one or more stands at the end of the text
pub none_at_end : (class : Class) (text : List ℕ) → length text ≡ 0 → (n : ℕ) → Fits (OneOrMore class) text n → ⊥
none_at_end class text e n f =
    let least : 1 ≤ n = one_positive class text n f in
    let within : n ≤ length text = f.within in
    omega arith

stops : (b : Bool) (n : ℕ) → b ≡ false → cond b (1 + n) 0 ≡ 0
stops true n e = absurd (false≢true (sym e))
stops false n e = refl

-- nor where the first character is outside the class
pub none_outside : (class : Class) (text : List ℕ) (c : ℕ) → 0 < length text → c ≡ get_or text 0 c → is_in class c ≡ false → (n : ℕ) → Fits (OneOrMore class) text n → ⊥
none_outside class [] c l is e n f = absurd (omega arith)
none_outside class (x ∷ xs) c l is e n f =
    let run : prefix_len (is_in class) (x ∷ xs) ≡ 0 = stops (is_in class x) (prefix_len (is_in class) xs) (ap (is_in class) (sym is) ∙ e) in
    let least : 1 ≤ n = one_positive class (x ∷ xs) n f in
    let bound : n ≤ prefix_len (is_in class) (x ∷ xs) = one_bounded class (x ∷ xs) n f in
    omega arith

part_there : (shapes : List Shape) (text : List ℕ) (i p : ℕ) (shape : Shape) → i < length shapes → shape ≡ get_or shapes i shape → (s : CanSplit (drop i shapes) (drop p text)) → First shape (drop (i + 1) shapes) s.lengths (drop p text)
part_there shapes text i p shape lt e s =
    let from : drop i shapes ≡ shape ∷ drop (i + 1) shapes = drop_more shapes i shape lt ∙ ap (λ (x : Shape). x ∷ drop (i + 1) shapes) (sym e) in
    first_part shape (drop (i + 1) shapes) s.lengths (drop p text) (subst (λ (ss : List Shape). IsSplit ss s.lengths (drop p text)) from s.split)

-- one part more
pub reach_more : (shapes : List Shape) (text : List ℕ) (i first last next end : ℕ) (shape : Shape) → i < length shapes → shape ≡ get_or shapes i shape → IsReach shapes text i first last → ((p n : ℕ) → first ≤ p → p ≤ last → Fits shape (drop p text) n → next ≤ p) → ((p n : ℕ) → p ≤ last → Fits shape (drop p text) n → p + n ≤ end) → end ≤ length text → IsReach shapes text (i + 1) next end
reach_more shapes text i first last next end shape lt e reach low high w =
    record {
      within = w;
      at = λ s.
          let r = reach.at s in
          let f = part_there shapes text i r.place shape lt e r.behind in
          let least : next ≤ r.place = low r.place f.n r.low r.high f.fits in
          record {
            place = r.place + f.n;
            low = omega arith;
            high = high r.place f.n r.high f.fits;
            behind = record { lengths = f.ns; split = subst (λ (t : List ℕ). IsSplit (drop (i + 1) shapes) f.ns t) (drop-drop f.n r.place text) f.tail };
          };
    }

-- nor where all parts end before the text does
pub reach_short : (shapes : List Shape) (text : List ℕ) (i first last : ℕ) → length shapes ≤ i → last < length text → IsReach shapes text i first last → HasNoSplit shapes text
reach_short shapes text i first last le lt reach =
    record {
      none = λ lengths split.
          let r = reach.at (record { lengths = lengths; split = split }) in
          let none_left : drop i shapes ≡ [] = drop_all i shapes le in
          let high : r.place ≤ last = r.high in
          let size : length (drop r.place text) ≡ length text - r.place = length-drop r.place text in
          not_nil (drop r.place text) r.behind.lengths (omega arith) (subst (λ (ss : List Shape). IsSplit ss r.behind.lengths (drop r.place text)) none_left r.behind.split);
    }
