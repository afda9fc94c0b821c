-- Where a text can be split, from one end of it to the next longer one.
use Rattle.std.proofs.Common.{◌≡◌, ℕ, zero, suc, ◌+◌, ◌-◌, ◌<◌, ◌≤◌, Bool, true, false, cond, List, [], ◌∷◌, ◌++◌, length, drop, get_or, refl, sym, ◌∙◌, ap, arith, subst, inl, inr, eqb}
use Rattle.std.specs.Prelude.{◌&&◌, ◌||◌, Option, Some, None, is_some, ◌⊎◌}
use Rattle.std.specs.List.{prefix_len}
use Rattle.std.proofs.lemmas.Bool.{false≢true, cases_lt}
use Rattle.std.proofs.lemmas.Bool.Decides.{nat_tests}
use Rattle.std.proofs.lemmas.List.{length-drop, drop-drop, drop_all, get_or_append_left, get_or_push, length_push}
use Rattle.ftp_list.specs.declared.class.Class.{Class}
use Rattle.ftp_list.specs.declared.shape.Shape.{Shape}
use Rattle.ftp_list.specs.declared.shape.Shape.TheVariants.{OneOrMore, AnyNumber}
use Rattle.ftp_list.specs.Shapes.{is_in}
use Rattle.ftp_list.specs.Split.{IsSplit, HasNoSplit}
use Rattle.ftp_list.specs.Rows.{Fits, IsOpen, IsGreatestOpen, CanSplit, Tells, TellsAll, IsRowSoFar}
use Rattle.ftp_list.proofs.ReachFacts.{one_fits, any_fits, one_bounded, any_bounded, one_positive}

-- a split, as its first part and the rest of it
pub record First (shape : Shape) (shapes : List Shape) (lengths text : List ℕ) : Type 0 where
  pub n : ℕ
  pub ns : List ℕ
  pub is : lengths ≡ n ∷ ns
  pub fits : Fits shape text n
  pub tail : IsSplit shapes ns (drop n text)

pub first_part : (shape : Shape) (shapes : List Shape) (lengths text : List ℕ) → IsSplit (shape ∷ shapes) lengths text → First shape shapes lengths text
first_part shape shapes [] text h = absurd h
first_part shape shapes (n ∷ ns) text h = record { n = n; ns = ns; is = refl; fits = record { within = h.0; shaped = h.1 }; tail = h.2 }

-- a part before a split gives a split
pub joined : (shape : Shape) (shapes : List Shape) (text : List ℕ) (n : ℕ) → Fits shape text n → CanSplit shapes (drop n text) → CanSplit (shape ∷ shapes) text
joined shape shapes text n f s = record { lengths = n ∷ s.lengths; split = (f.within, f.shaped, s.split) }

run_cons : (class : Class) (c : ℕ) (cs : List ℕ) → is_in class c ≡ true → prefix_len (is_in class) (c ∷ cs) ≡ 1 + prefix_len (is_in class) cs
run_cons class c cs e = ap (λ b. cond b (1 + prefix_len (is_in class) cs) 0) e

run_stop : (class : Class) (c : ℕ) (cs : List ℕ) → is_in class c ≡ false → prefix_len (is_in class) (c ∷ cs) ≡ 0
run_stop class c cs e = ap (λ b. cond b (1 + prefix_len (is_in class) cs) 0) e

-- one character, and the rest is split by the later shapes
one_alone : (class : Class) (shapes : List Shape) (c : ℕ) (cs : List ℕ) → is_in class c ≡ true → CanSplit shapes cs → CanSplit (OneOrMore class ∷ shapes) (c ∷ cs)
one_alone class shapes c cs e s =
    let run : prefix_len (is_in class) (c ∷ cs) ≡ 1 + prefix_len (is_in class) cs = run_cons class c cs e in
    joined (OneOrMore class) shapes (c ∷ cs) 1 (one_fits class (c ∷ cs) 1 (omega arith) (omega arith) (omega arith)) s

-- the first part grows by one character
one_longer : (class : Class) (shapes : List Shape) (c : ℕ) (cs : List ℕ) → is_in class c ≡ true → CanSplit (OneOrMore class ∷ shapes) cs → CanSplit (OneOrMore class ∷ shapes) (c ∷ cs)
one_longer class shapes c cs e s =
    let run : prefix_len (is_in class) (c ∷ cs) ≡ 1 + prefix_len (is_in class) cs = run_cons class c cs e in
    let f = first_part (OneOrMore class) shapes s.lengths cs s.split in
    let bound : f.n ≤ prefix_len (is_in class) cs = one_bounded class cs f.n f.fits in
    let within : f.n ≤ length cs = f.fits.within in
    joined (OneOrMore class) shapes (c ∷ cs) (suc f.n) (one_fits class (c ∷ cs) (suc f.n) (omega arith) (omega arith) (omega arith)) (record { lengths = f.ns; split = f.tail })

any_longer : (class : Class) (shapes : List Shape) (c : ℕ) (cs : List ℕ) → is_in class c ≡ true → CanSplit (AnyNumber class ∷ shapes) cs → CanSplit (AnyNumber class ∷ shapes) (c ∷ cs)
any_longer class shapes c cs e s =
    let run : prefix_len (is_in class) (c ∷ cs) ≡ 1 + prefix_len (is_in class) cs = run_cons class c cs e in
    let f = first_part (AnyNumber class) shapes s.lengths cs s.split in
    let bound : f.n ≤ prefix_len (is_in class) cs = any_bounded class cs f.n f.fits in
    let within : f.n ≤ length cs = f.fits.within in
    joined (AnyNumber class) shapes (c ∷ cs) (suc f.n) (any_fits class (c ∷ cs) (suc f.n) (omega arith) (omega arith)) (record { lengths = f.ns; split = f.tail })

-- a first part of no characters
any_empty : (class : Class) (shapes : List Shape) (text : List ℕ) → CanSplit shapes text → CanSplit (AnyNumber class ∷ shapes) text
any_empty class shapes text s = joined (AnyNumber class) shapes text 0 (any_fits class text 0 (omega arith) (omega arith)) s

-- a character outside the class begins no part
one_outside : (class : Class) (shapes : List Shape) (c : ℕ) (cs : List ℕ) → is_in class c ≡ false → HasNoSplit (OneOrMore class ∷ shapes) (c ∷ cs)
one_outside class shapes c cs e =
    record {
      none = λ lengths h.
          let run : prefix_len (is_in class) (c ∷ cs) ≡ 0 = run_stop class c cs e in
          let f = first_part (OneOrMore class) shapes lengths (c ∷ cs) h in
          let bound : f.n ≤ prefix_len (is_in class) (c ∷ cs) = one_bounded class (c ∷ cs) f.n f.fits in
          let least : 1 ≤ f.n = one_positive class (c ∷ cs) f.n f.fits in
          omega arith;
    }

shorter_first : (class : Class) (shapes : List Shape) (c : ℕ) (cs : List ℕ) (n : ℕ) (ns : List ℕ) → is_in class c ≡ true → n ≤ length (c ∷ cs) → n ≤ prefix_len (is_in class) (c ∷ cs) → IsSplit shapes ns (drop n (c ∷ cs)) → 1 ≤ n → HasNoSplit shapes cs → HasNoSplit (OneOrMore class ∷ shapes) cs → ⊥
shorter_first class shapes c cs zero ns e l b tail o now later = omega arith
shorter_first class shapes c cs (suc zero) ns e l b tail o now later = now.none ns tail
shorter_first class shapes c cs (suc (suc m)) ns e l b tail o now later =
    let run : prefix_len (is_in class) (c ∷ cs) ≡ 1 + prefix_len (is_in class) cs = run_cons class c cs e in
    let f = one_fits class cs (suc m) (omega arith) (omega arith) (omega arith) in
    later.none (suc m ∷ ns) (f.within, f.shaped, tail)

one_closed : (class : Class) (shapes : List Shape) (c : ℕ) (cs : List ℕ) → is_in class c ≡ true → HasNoSplit shapes cs → HasNoSplit (OneOrMore class ∷ shapes) cs → HasNoSplit (OneOrMore class ∷ shapes) (c ∷ cs)
one_closed class shapes c cs e now later =
    record {
      none = λ lengths h.
          let f = first_part (OneOrMore class) shapes lengths (c ∷ cs) h in
          shorter_first class shapes c cs f.n f.ns e f.fits.within (one_bounded class (c ∷ cs) f.n f.fits) f.tail (one_positive class (c ∷ cs) f.n f.fits) now later;
    }

one_cases : (class : Class) (shapes : List Shape) (c : ℕ) (cs : List ℕ) (t n b : Bool) → is_in class c ≡ t → Tells n shapes cs → Tells b (OneOrMore class ∷ shapes) cs → Tells (t && (n || b)) (OneOrMore class ∷ shapes) (c ∷ cs)
one_cases class shapes c cs true true b e now later = one_alone class shapes c cs e now
one_cases class shapes c cs true false true e now later = one_longer class shapes c cs e later
one_cases class shapes c cs true false false e now later = one_closed class shapes c cs e now later
one_cases class shapes c cs false n b e now later = one_outside class shapes c cs e

-- one or more characters of the class: the first alone, or with a part behind it
pub one_tells : (class : Class) (shapes : List Shape) (text : List ℕ) (next : List Bool) (shorter : Bool) (c : ℕ) → 0 < length text → c ≡ get_or text 0 c → TellsAll next shapes text → Tells shorter (OneOrMore class ∷ shapes) (drop 1 text) → Tells (is_in class c && (get_or next (length text - 1) false || shorter)) (OneOrMore class ∷ shapes) text
one_tells class shapes [] next shorter c l e told later = absurd (omega arith)
one_tells class shapes (x ∷ xs) next shorter c l e told later =
    let place : suc (length xs) - 1 ≡ length xs = omega arith in
    let left : suc (length xs) - length xs ≡ 1 = omega arith in
    let now : Tells (get_or next (length xs) false) shapes xs = subst (λ k. Tells (get_or next (length xs) false) shapes (drop k (x ∷ xs))) left (told.at (length xs) (omega arith)) in
    rw (e, place) (one_cases class shapes x xs (is_in class x) (get_or next (length xs) false) shorter refl now later)

any_first : (class : Class) (shapes : List Shape) (c : ℕ) (cs : List ℕ) (m : ℕ) (ns : List ℕ) (t : Bool) → is_in class c ≡ t → suc m ≤ length (c ∷ cs) → suc m ≤ prefix_len (is_in class) (c ∷ cs) → IsSplit shapes ns (drop m cs) → (is_in class c ≡ true → HasNoSplit (AnyNumber class ∷ shapes) cs) → ⊥
any_first class shapes c cs m ns true e l b tail later =
    let run : prefix_len (is_in class) (c ∷ cs) ≡ 1 + prefix_len (is_in class) cs = run_cons class c cs e in
    let f = any_fits class cs m (omega arith) (omega arith) in
    (later e).none (m ∷ ns) (f.within, f.shaped, tail)
any_first class shapes c cs m ns false e l b tail later =
    let run : prefix_len (is_in class) (c ∷ cs) ≡ 0 = run_stop class c cs e in
    omega arith

any_shorter : (class : Class) (shapes : List Shape) (c : ℕ) (cs : List ℕ) (n : ℕ) (ns : List ℕ) → n ≤ length (c ∷ cs) → n ≤ prefix_len (is_in class) (c ∷ cs) → IsSplit shapes ns (drop n (c ∷ cs)) → HasNoSplit shapes (c ∷ cs) → (is_in class c ≡ true → HasNoSplit (AnyNumber class ∷ shapes) cs) → ⊥
any_shorter class shapes c cs zero ns l b tail now later = now.none ns tail
any_shorter class shapes c cs (suc m) ns l b tail now later = any_first class shapes c cs m ns (is_in class c) refl l b tail later

any_closed : (class : Class) (shapes : List Shape) (c : ℕ) (cs : List ℕ) → HasNoSplit shapes (c ∷ cs) → (is_in class c ≡ true → HasNoSplit (AnyNumber class ∷ shapes) cs) → HasNoSplit (AnyNumber class ∷ shapes) (c ∷ cs)
any_closed class shapes c cs now later =
    record {
      none = λ lengths h.
          let f = first_part (AnyNumber class) shapes lengths (c ∷ cs) h in
          any_shorter class shapes c cs f.n f.ns f.fits.within (any_bounded class (c ∷ cs) f.n f.fits) f.tail now later;
    }

any_cases : (class : Class) (shapes : List Shape) (c : ℕ) (cs : List ℕ) (n t b : Bool) → is_in class c ≡ t → Tells n shapes (c ∷ cs) → Tells b (AnyNumber class ∷ shapes) cs → Tells (n || (t && b)) (AnyNumber class ∷ shapes) (c ∷ cs)
any_cases class shapes c cs true t b e now later = any_empty class shapes (c ∷ cs) now
any_cases class shapes c cs false true true e now later = any_longer class shapes c cs e later
any_cases class shapes c cs false true false e now later = any_closed class shapes c cs now (λ _. later)
any_cases class shapes c cs false false b e now later = any_closed class shapes c cs now (λ y. absurd (false≢true (sym e ∙ y)))

-- any number of characters of the class: none, or the first with a part behind it
pub any_tells : (class : Class) (shapes : List Shape) (text : List ℕ) (next : List Bool) (shorter : Bool) (c : ℕ) → 0 < length text → c ≡ get_or text 0 c → TellsAll next shapes text → Tells shorter (AnyNumber class ∷ shapes) (drop 1 text) → Tells (get_or next (length text) false || (is_in class c && shorter)) (AnyNumber class ∷ shapes) text
any_tells class shapes [] next shorter c l e told later = absurd (omega arith)
any_tells class shapes (x ∷ xs) next shorter c l e told later =
    let left : suc (length xs) - suc (length xs) ≡ 0 = omega arith in
    let now : Tells (get_or next (suc (length xs)) false) shapes (x ∷ xs) = subst (λ k. Tells (get_or next (suc (length xs)) false) shapes (drop k (x ∷ xs))) left (told.at (suc (length xs)) (omega arith)) in
    rw e (any_cases class shapes x xs (get_or next (suc (length xs)) false) (is_in class x) shorter refl now later)

any_nil : (class : Class) (shapes : List Shape) (n : Bool) → Tells n shapes [] → Tells n (AnyNumber class ∷ shapes) []
any_nil class shapes true now = any_empty class shapes [] now
any_nil class shapes false now =
    record {
      none = λ lengths h.
          let f = first_part (AnyNumber class) shapes lengths [] h in
          let none_left : drop f.n [] ≡ [] = drop_all f.n [] (omega arith) in
          now.none f.ns (subst (λ (t : List ℕ). IsSplit shapes f.ns t) none_left f.tail);
    }

-- at the empty text
pub any_tells_nil : (class : Class) (shapes : List Shape) (text : List ℕ) (next : List Bool) → length text ≡ 0 → TellsAll next shapes text → Tells (get_or next 0 false) (AnyNumber class ∷ shapes) text
any_tells_nil class shapes [] next l told = any_nil class shapes (get_or next 0 false) (told.at 0 (omega arith))
any_tells_nil class shapes (x ∷ xs) next l told = absurd (omega arith)

must_open : (b : Bool) (shapes : List Shape) (text lengths : List ℕ) → IsSplit shapes lengths text → Tells b shapes text → b ≡ true
must_open true shapes text lengths split told = refl
must_open false shapes text lengths split told = absurd (told.none lengths split)

-- a part that fits, before a split of the rest, is open
pub opened : (shape : Shape) (shapes : List Shape) (text : List ℕ) (next : List Bool) (n : ℕ) (ns : List ℕ) → Fits shape text n → IsSplit shapes ns (drop n text) → TellsAll next shapes text → IsOpen next shape text n
opened shape shapes text next n ns f tail told =
    let within : n ≤ length text = f.within in
    let place : length text - (length text - n) ≡ n = omega arith in
    let now : Tells (get_or next (length text - n) false) shapes (drop n text) = subst (λ k. Tells (get_or next (length text - n) false) shapes (drop k text)) place (told.at (length text - n) (omega arith)) in
    record { fits = f; opens = must_open (get_or next (length text - n) false) shapes (drop n text) ns tail now }

closed : (shape : Shape) (shapes : List Shape) (text : List ℕ) (next : List Bool) (n : ℕ) (ns : List ℕ) → Fits shape text n → IsSplit shapes ns (drop n text) → ((m : ℕ) → IsOpen next shape text m → ⊥) → TellsAll next shapes text → ⊥
closed shape shapes text next n ns f tail h told = h n (opened shape shapes text next n ns f tail told)

-- where the longest open part is none, there is no split
pub open_tells : (shape : Shape) (shapes : List Shape) (text : List ℕ) (next : List Bool) (found : Option ℕ) → IsGreatestOpen next shape text found → TellsAll next shapes text → Tells (is_some found) (shape ∷ shapes) text
open_tells shape shapes text next (Some n) h told =
    let within : n ≤ length text = h.0.fits.within in
    let place : length text - (length text - n) ≡ n = omega arith in
    let now : Tells (get_or next (length text - n) false) shapes (drop n text) = subst (λ k. Tells (get_or next (length text - n) false) shapes (drop k text)) place (told.at (length text - n) (omega arith)) in
    joined shape shapes text n h.0.fits (subst (λ b. Tells b shapes (drop n text)) h.0.opens now)
open_tells shape shapes text next None h told =
    record {
      none = λ lengths split.
          let f = first_part shape shapes lengths text split in
          closed shape shapes text next f.n f.ns f.fits f.tail h told;
    }

-- what a row tells of a text it tells of each end of it
pub tells_end : (row : List Bool) (shapes : List Shape) (text : List ℕ) (m : ℕ) → m ≤ length text → TellsAll row shapes text → TellsAll row shapes (drop m text)
tells_end row shapes text m l told =
    record {
      at = λ j h.
          let len : length (drop m text) ≡ length text - m = length-drop m text in
          let place : m + (length (drop m text) - j) ≡ length text - j = omega arith in
          let same : drop (length (drop m text) - j) (drop m text) ≡ drop (length text - j) text = drop-drop (length (drop m text) - j) m text ∙ ap (λ k. drop k text) place in
          subst (λ (t : List ℕ). Tells (get_or row j false) shapes t) (sym same) (told.at j (omega arith));
    }

pub not_nil : (text lengths : List ℕ) → 0 < length text → IsSplit [] lengths text → ⊥
not_nil text [] l h = let e : length text ≡ 0 = ap length h in omega arith
not_nil text (n ∷ ns) l h = h

end_at : (row : List Bool) (text : List ℕ) (j : ℕ) → j ≤ length text → get_or row 0 false ≡ true → ((j : ℕ) → 0 < j → get_or row j false ≡ false) → (0 < j) ⊎ (j ≤ 0) → Tells (get_or row j false) [] (drop (length text - j) text)
end_at row text j h first later (inl p) = rw (later j p) (record { none = λ lengths split. not_nil (drop (length text - j) text) lengths (let len : length (drop (length text - j) text) ≡ length text - (length text - j) = length-drop (length text - j) text in omega arith) split })
end_at row text j h first later (inr p) =
    let zero_is : j ≡ 0 = omega arith in
    rw (zero_is, first) (record { lengths = []; split = drop_all (length text - 0) text (omega arith) })

-- with no shapes only the empty text has a split
pub end_tells : (row : List Bool) (text : List ℕ) → get_or row 0 false ≡ true → ((j : ℕ) → 0 < j → get_or row j false ≡ false) → TellsAll row [] text
end_tells row text first later =
    record { at = λ j h. end_at row text j h first later (cases_lt 0 j) }

one_less : (n j : ℕ) → j ≤ n → 0 < j → (n - j) + 1 ≡ n - (j - 1)
one_less n j l p = omega arith

-- a length that is tested
pub positive : (n : ℕ) → eqb n 0 ≡ false → 0 < n
positive n e = grind (arith, nat_tests)

pub nothing : (n : ℕ) → eqb n 0 ≡ true → n ≡ 0
nothing n e = grind (arith, nat_tests)

told_more : (next : List Bool) (shape : Shape) (text : List ℕ) (row : List Bool) (j : ℕ) (shorter b : Bool) (shapes : List Shape) → IsRowSoFar next shape text row j shorter → Tells b (shape ∷ shapes) (drop (length text - j) text) → TellsAll next shapes text → (i : ℕ) → i < j + 1 → (i < j) ⊎ (j ≤ i) → Tells (get_or (row ++ b ∷ []) i false) (shape ∷ shapes) (drop (length text - i) text)
told_more next shape text row j shorter b shapes r now told i h (inl lt) =
    let size : length row ≡ j = r.count in
    let read : get_or (row ++ b ∷ []) i false ≡ get_or row i false = get_or_append_left row (b ∷ []) false i (omega arith) in
    rw read (r.told shapes told i lt)
told_more next shape text row j shorter b shapes r now told i h (inr le) =
    let here : i ≡ j = omega arith in
    let read : get_or (row ++ b ∷ []) i false ≡ b = get_or_push row b false i (r.count ∙ sym here) in
    rw (read, here) now

-- one entry more
pub row_more : (next : List Bool) (shape : Shape) (text : List ℕ) (row more : List Bool) (j : ℕ) (shorter b : Bool) (left : List ℕ) → j ≤ length text → left ≡ drop (length text - j) text → IsRowSoFar next shape text row j shorter → ((shapes : List Shape) → TellsAll next shapes left → (0 < length left → Tells shorter (shape ∷ shapes) (drop 1 left)) → Tells b (shape ∷ shapes) left) → more ≡ row ++ b ∷ [] → IsRowSoFar next shape text more (j + 1) b
row_more next shape text row more j shorter b left l e r step pushed =
    let size : length row ≡ j = r.count in
    let len : length (drop (length text - j) text) ≡ length text - (length text - j) = length-drop (length text - j) text in
    let shorter_text : (0 < j) → drop 1 (drop (length text - j) text) ≡ drop (length text - (j - 1)) text = λ p. drop-drop 1 (length text - j) text ∙ ap (λ k. drop k text) (one_less (length text) j l p) in
    let now : (shapes : List Shape) → TellsAll next shapes text → Tells b (shape ∷ shapes) (drop (length text - j) text) = λ shapes told.
    (subst (λ (t : List ℕ). TellsAll next shapes t → (0 < length t → Tells shorter (shape ∷ shapes) (drop 1 t)) → Tells b (shape ∷ shapes) t) e (step shapes))
    (tells_end next shapes text (length text - j) (omega arith) told)
    (λ p. let q : 0 < j = omega arith in subst (λ (t : List ℕ). Tells shorter (shape ∷ shapes) t) (sym (shorter_text q)) (r.last shapes told q)) in
    let last_place : (j + 1) - 1 ≡ j = omega arith in
    record {
      count = ap length pushed ∙ length_push row b ∙ ap (λ k. k + 1) size;
      told = λ shapes told i h. rw pushed (told_more next shape text row j shorter b shapes r (now shapes told) told i h (cases_lt i j));
      last = λ shapes told p. rw last_place (now shapes told);
    }
