-- The greatest split, part by part.
use Rattle.std.proofs.Common.{◌≡◌, ℕ, ◌+◌, ◌-◌, ◌<◌, ◌≤◌, Bool, false, List, [], ◌∷◌, ◌++◌, length, drop, get_or, refl, sym, ◌∙◌, ap, arith, subst, inl, inr}
use Rattle.std.specs.Prelude.{◌⊎◌, Some, None}
use Rattle.std.proofs.lemmas.Bool.{cases_lt}
use Rattle.std.proofs.lemmas.List.{append_assoc, append-nil, drop_more, drop-drop, drop_all, length-drop}
use Rattle.ftp_list.specs.declared.shape.Shape.{Shape}
use Rattle.ftp_list.specs.Split.{IsSplit, IsAtMost, IsGreatestSplit, HasNoSplit}
use Rattle.ftp_list.specs.Rows.{Fits, IsOpen, IsGreatestOpen, CanSplit, Tells, TellsAll, IsFront, IsOnlyFront}
use Rattle.ftp_list.proofs.RowFacts.{opened, open_tells, tells_end}

split_most : (shape : Shape) (shapes : List Shape) (n : ℕ) (tail text : List ℕ) (m : ℕ) (ms : List ℕ) → m ≤ n → IsGreatestSplit shapes tail (drop n text) → IsSplit shapes ms (drop m text) → (m < n) ⊎ (n ≤ m) → (m < n) ⊎ ((m ≡ n) × IsAtMost ms tail)
split_most shape shapes n tail text m ms le g h (inl lt) = inl lt
split_most shape shapes n tail text m ms le g h (inr ge) =
    let same : m ≡ n = omega arith in
    inr (same, g.greatest ms (subst (λ k. IsSplit shapes ms (drop k text)) same h))

others_most : (shape : Shape) (shapes : List Shape) (n : ℕ) (tail text others : List ℕ) → ((m : ℕ) → Fits shape text m → CanSplit shapes (drop m text) → m ≤ n) → IsGreatestSplit shapes tail (drop n text) → IsSplit (shape ∷ shapes) others text → IsAtMost others (n ∷ tail)
others_most shape shapes n tail text [] most g h = absurd h
others_most shape shapes n tail text (m ∷ ms) most g h =
    split_most shape shapes n tail text m ms (most m (record { within = h.0; shaped = h.1 }) (record { lengths = ms; split = h.2 })) g h.2 (cases_lt m n)

-- the longest part behind which the rest has a split, and the greatest split of the rest
pub split_step : (shape : Shape) (shapes : List Shape) (n : ℕ) (tail text : List ℕ) → Fits shape text n → ((m : ℕ) → Fits shape text m → CanSplit shapes (drop m text) → m ≤ n) → IsGreatestSplit shapes tail (drop n text) → IsGreatestSplit (shape ∷ shapes) (n ∷ tail) text
split_step shape shapes n tail text f most g =
    record {
      split = (f.within, f.shaped, g.split);
      greatest = λ others h. others_most shape shapes n tail text others most g h;
    }

-- one part more
pub front_more : (shapes : List Shape) (text : List ℕ) (i : ℕ) (lengths left more rest : List ℕ) (shape : Shape) (n : ℕ) → i < length shapes → shape ≡ get_or shapes i shape → IsFront shapes text i lengths left → Fits shape left n → ((m : ℕ) → Fits shape left m → CanSplit (drop (i + 1) shapes) (drop m left) → m ≤ n) → more ≡ lengths ++ n ∷ [] → rest ≡ drop n left → IsFront shapes text (i + 1) more rest
front_more shapes text i lengths left more rest shape n lt e front f most pushed rest_is =
    record {
      closes = λ tail g.
          let here : IsGreatestSplit (drop (i + 1) shapes) tail (drop n left) = subst (λ (t : List ℕ). IsGreatestSplit (drop (i + 1) shapes) tail t) rest_is g in
          let from : drop i shapes ≡ shape ∷ drop (i + 1) shapes = drop_more shapes i shape lt ∙ ap (λ (s : Shape). s ∷ drop (i + 1) shapes) (sym e) in
          let step : IsGreatestSplit (drop i shapes) (n ∷ tail) left = subst (λ (ss : List Shape). IsGreatestSplit ss (n ∷ tail) left) (sym from) (split_step shape (drop (i + 1) shapes) n tail left f most here) in
          let whole : (lengths ++ n ∷ []) ++ tail ≡ lengths ++ (n ∷ tail) = append_assoc lengths (n ∷ []) tail in
          subst (λ (ls : List ℕ). IsGreatestSplit shapes ls text) (sym (ap (λ (ls : List ℕ). ls ++ tail) pushed ∙ whole)) (front.closes (n ∷ tail) step);
    }

-- at the start
pub front_none : (shapes : List Shape) (text : List ℕ) → IsFront shapes text 0 [] text
front_none shapes text = record { closes = λ tail g. g }

nil_split : (others : List ℕ) → IsSplit [] others [] → IsAtMost others []
nil_split [] h = tt
nil_split (n ∷ ns) h = absurd h

-- at the end
pub front_all : (shapes : List Shape) (text : List ℕ) (i : ℕ) (lengths left : List ℕ) → length shapes ≤ i → length left ≡ 0 → IsFront shapes text i lengths left → IsGreatestSplit shapes lengths text
front_all shapes text i lengths [] le e front =
    let none_left : drop i shapes ≡ [] = drop_all i shapes le in
    let last : IsGreatestSplit [] [] [] = record { split = refl; greatest = nil_split } in
    subst (λ (ls : List ℕ). IsGreatestSplit shapes ls text) (append-nil lengths) (front.closes [] (subst (λ (ss : List Shape). IsGreatestSplit ss [] []) (sym none_left) last))
front_all shapes text i lengths (c ∷ cs) le e front = absurd (omega arith)

left_tells : (shapes : List Shape) (text : List ℕ) (i : ℕ) (lengths left : List ℕ) (row : List Bool) → IsOnlyFront shapes text i lengths left → TellsAll row (drop (i + 1) shapes) text → TellsAll row (drop (i + 1) shapes) left
left_tells shapes text i lengths left row front told =
    subst (λ (t : List ℕ). TellsAll row (drop (i + 1) shapes) t) (sym front.left_is) (tells_end row (drop (i + 1) shapes) text front.start front.within told)

splits_behind : (row : List Bool) (shape : Shape) (shapes : List Shape) (text : List ℕ) (n : ℕ) → IsOpen row shape text n → TellsAll row shapes text → CanSplit shapes (drop n text)
splits_behind row shape shapes text n o told =
    let within : n ≤ length text = o.fits.within in
    let place : length text - (length text - n) ≡ n = omega arith in
    let now : Tells (get_or row (length text - n) false) shapes (drop n text) = subst (λ k. Tells (get_or row (length text - n) false) shapes (drop k text)) place (told.at (length text - n) (omega arith)) in
    subst (λ b. Tells b shapes (drop n text)) o.opens now

-- one part more by the table
pub only_more : (shapes : List Shape) (text : List ℕ) (i : ℕ) (lengths left more rest : List ℕ) (shape : Shape) (n : ℕ) (row : List Bool) → i < length shapes → shape ≡ get_or shapes i shape → IsOnlyFront shapes text i lengths left → TellsAll row (drop (i + 1) shapes) text → IsGreatestOpen row shape left (Some n) → more ≡ lengths ++ n ∷ [] → rest ≡ drop n left → IsOnlyFront shapes text (i + 1) more rest
only_more shapes text i lengths left more rest shape n row lt e front told found pushed rest_is =
    let here : TellsAll row (drop (i + 1) shapes) left = left_tells shapes text i lengths left row front told in
    let behind : CanSplit (drop (i + 1) shapes) (drop n left) = splits_behind row shape (drop (i + 1) shapes) left n found.0 here in
    let within : n ≤ length left = found.0.fits.within in
    let from_start : front.start ≤ length text = front.within in
    let size : length left ≡ length text - front.start = ap length front.left_is ∙ length-drop front.start text in
    record {
      front = front_more shapes text i lengths left more rest shape n lt e front.front found.0.fits (λ m f s. found.1 m (opened shape (drop (i + 1) shapes) left row m s.lengths f s.split here)) pushed rest_is;
      none = λ h. absurd (h.none behind.lengths (subst (λ (t : List ℕ). IsSplit (drop (i + 1) shapes) behind.lengths t) (sym rest_is) behind.split));
      start = front.start + n;
      within = omega arith;
      left_is = rest_is ∙ ap (drop n) front.left_is ∙ drop-drop n front.start text;
    }

-- no part is open
pub only_closed : (shapes : List Shape) (text : List ℕ) (i : ℕ) (lengths left : List ℕ) (shape : Shape) (row : List Bool) → i < length shapes → shape ≡ get_or shapes i shape → IsOnlyFront shapes text i lengths left → TellsAll row (drop (i + 1) shapes) text → IsGreatestOpen row shape left None → HasNoSplit shapes text
only_closed shapes text i lengths left shape row lt e front told found =
    let here : TellsAll row (drop (i + 1) shapes) left = left_tells shapes text i lengths left row front told in
    let from : drop i shapes ≡ shape ∷ drop (i + 1) shapes = drop_more shapes i shape lt ∙ ap (λ (s : Shape). s ∷ drop (i + 1) shapes) (sym e) in
    front.none (subst (λ (ss : List Shape). HasNoSplit ss left) (sym from) (open_tells shape (drop (i + 1) shapes) left row None found here))
