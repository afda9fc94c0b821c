-- What is settled stays, however the input goes on.
use Rattle.std.proofs.Common.{◌≡◌, ◌⊎◌, inl, inr, ◌&&◌, ℕ, ◌+◌, ◌≤◌, ◌<◌, Bool, true, false, cond, List, [], ◌∷◌, ◌++◌, length, refl, ap, sym, ◌∙◌, subst, arith, length-append, append-nil, leb, ltb}
use Rattle.std.proofs.lemmas.Bool.{lt-leb, lt-ltb, ltb-true}
use Rattle.ftp_control.specs.declared.control.rule.ReplyRule.{ReplyRule}
use Rattle.ftp_control.specs.declared.control.outcome.Outcome.{Outcome}
use Rattle.ftp_control.specs.declared.control.outcome.Outcome.TheVariants.{Whole, Bad, TooLarge, Ended, Waits}
use Rattle.ftp_control.specs.Reading.{GoesOn}
use Rattle.ftp_control.specs.declared.plain.Found.{Found}
use Rattle.ftp_control.specs.declared.plain.Found.TheVariants.{Reply, NoReply, Unfinished}
use Rattle.ftp_base.specs.Features.{is_last}
use Rattle.ftp_control.specs.declared.control.form.ReplyForm.{ReplyForm}
use Rattle.ftp_control.specs.declared.control.lenient.Phase.{Phase}
use Rattle.ftp_control.specs.Inside.Phases.{is_listing, phase_in}
use Rattle.ftp_control.specs.Grammar.{whole_lines, rest, last_line, lines, joined, opens, ends, code_at_start, to_end, reply_in, reply_limit, within, outcome, first_within, line_outcome}
use Rattle.ftp_control.specs.Found.{after_line}
use Rattle.ftp_control.specs.Lenient.{by_dash, lists, opens_list, to_list_end}
use Rattle.ftp_control.specs.Law.{IsSettled, SettledStays}
use Rattle.ftp_control.proofs.Lines.{lines-append, joined-whole_lines, first_line_length, has_line_feed-rest}
use Rattle.ftp_control.proofs.Replies.{after_lines, after_lines-Reply, after_lines-Unfinished, found_in, found_after, reply_in-append, reply_in-stays, to_end-NoReply, to_list_end-NoReply}
use Rattle.ftp_control.proofs.Outcomes.{lines-open, outcome-open, after_lines-NoReply, rest_all}

-- a reply has at least its first line
covers : (line bytes : List ℕ) (code : ℕ) (found : Found) → after_line line found ≡ Reply bytes code → length line ≤ length bytes
covers line bytes code (Reply w c) e = let same : bytes ≡ line ++ w = cc e in rw (same, length-append line w) (omega arith)
covers line bytes code (NoReply l) e = let clash : NoReply l ≡ Reply bytes code = e in cc
covers line bytes code Unfinished e = let clash : Unfinished ≡ Reply bytes code = e in cc

to_list_end_covers : (ended : Bool) (line : List ℕ) (lines : List (List ℕ)) (bytes : List ℕ) (code : ℕ) → to_list_end ended (line ∷ lines) ≡ Reply bytes code → length line ≤ length bytes
to_list_end_covers ended line lines bytes code is =
    elim (is_last line) as (λ t. cond t (Reply line 211) (after_line line (to_list_end ended lines)) ≡ Reply bytes code → length line ≤ length bytes) [
      | true ↦ λ e. let same : bytes ≡ line = cc e in rw same (omega arith)
      | false ↦ λ e. covers line bytes code (to_list_end ended lines) e
    ]
    is

to_end_covers : (rule : ReplyRule) (form : ReplyForm) (ended : Bool) (first line : List ℕ) (lines : List (List ℕ)) (bytes : List ℕ) (code : ℕ) → to_end rule form ended first (line ∷ lines) ≡ Reply bytes code → length line ≤ length bytes
to_end_covers rule form ended first line lines bytes code is =
    elim (ends rule (by_dash form) first line) as (λ t. cond t (cond (lists form && opens_list line) (after_line line (to_list_end ended lines)) (Reply line (code_at_start line))) (after_line line (to_end rule form ended first lines)) ≡ Reply bytes code → length line ≤ length bytes) [
      | true ↦ elim (lists form && opens_list line) as (λ t. cond t (after_line line (to_list_end ended lines)) (Reply line (code_at_start line)) ≡ Reply bytes code → length line ≤ length bytes) [
        | true ↦ λ e. covers line bytes code (to_list_end ended lines) e
        | false ↦ λ e. let same : bytes ≡ line = cc e in rw same (omega arith)
      ]
      | false ↦ λ e. covers line bytes code (to_end rule form ended first lines) e
    ]
    is

found_in_covers : (rule : ReplyRule) (form : ReplyForm) (ended : Bool) (phase : Phase) (first line : List ℕ) (lines : List (List ℕ)) (bytes : List ℕ) (code : ℕ) → found_in rule form ended phase first (line ∷ lines) ≡ Reply bytes code → length line ≤ length bytes
found_in_covers rule form ended phase first line lines bytes code is =
    elim (is_listing form phase) as (λ t. cond t (to_list_end ended (line ∷ lines)) (to_end rule form ended first (line ∷ lines)) ≡ Reply bytes code → length line ≤ length bytes)
    [ true ↦ to_list_end_covers ended line lines bytes code | false ↦ to_end_covers rule form ended first line lines bytes code ] is

found_covers : (rule : ReplyRule) (form : ReplyForm) (ended : Bool) (so_far : List (List ℕ)) (line : List ℕ) (lines : List (List ℕ)) (bytes : List ℕ) (code : ℕ) → found_after rule form ended so_far (line ∷ lines) ≡ Reply bytes code → length line ≤ length bytes
found_covers rule form ended [] line lines bytes code is =
    elim (opens rule line) as (λ t. cond t (to_end rule form ended line (line ∷ lines)) (NoReply line) ≡ Reply bytes code → length line ≤ length bytes) [
      | true ↦ λ e. to_end_covers rule form ended line line lines bytes code e
      | false ↦ λ e. let clash : NoReply line ≡ Reply bytes code = e in cc
    ]
    is
found_covers rule form ended (first ∷ so_far) line lines bytes code is = found_in_covers rule form ended (phase_in rule first (first ∷ so_far)) first line lines bytes code is

-- only a first line is refused, and it is that line
refused_first : (rule : ReplyRule) (form : ReplyForm) (ended : Bool) (so_far : List (List ℕ)) (line : List ℕ) (lines : List (List ℕ)) (bad : List ℕ) → found_after rule form ended so_far (line ∷ lines) ≡ NoReply bad → (joined so_far ≡ []) × (bad ≡ line)
refused_first rule form ended [] line lines bad is =
    elim (opens rule line) as (λ t. cond t (to_end rule form ended line (line ∷ lines)) (NoReply line) ≡ NoReply bad → (joined [] ≡ []) × (bad ≡ line)) [
      | true ↦ λ e. absurd (to_end-NoReply rule form ended line (line ∷ lines) bad e)
      | false ↦ λ e. (refl, cc e)
    ]
    is
refused_first rule form ended (first ∷ so_far) line lines bad is =
    elim (is_listing form (phase_in rule first (first ∷ so_far))) as (λ t. cond t (to_list_end ended (line ∷ lines)) (to_end rule form ended first (line ∷ lines)) ≡ NoReply bad → (joined (first ∷ so_far) ≡ []) × (bad ≡ line)) [
      | true ↦ λ e. absurd (to_list_end-NoReply ended (line ∷ lines) bad e)
      | false ↦ λ e. absurd (to_end-NoReply rule form ended first (line ∷ lines) bad e)
    ]
    is

-- no lines hold nothing, unless the input has ended in a list
found_after-none : (rule : ReplyRule) (form : ReplyForm) (so_far : List (List ℕ)) → found_after rule form false so_far [] ≡ Unfinished
found_after-none rule form [] = refl
found_after-none rule form (first ∷ so_far) =
    elim (is_listing form (phase_in rule first (first ∷ so_far))) as (λ t. cond t Unfinished Unfinished ≡ Unfinished) [ true ↦ refl | false ↦ refl ]

found_after-end : (rule : ReplyRule) (form : ReplyForm) (so_far : List (List ℕ)) → (found_after rule form true so_far [] ≡ Unfinished) ⊎ (found_after rule form true so_far [] ≡ Reply [] 211)
found_after-end rule form [] = inl refl
found_after-end rule form (first ∷ so_far) =
    elim (is_listing form (phase_in rule first (first ∷ so_far))) as (λ t. (cond t (Reply [] 211) Unfinished ≡ Unfinished) ⊎ (cond t (Reply [] 211) Unfinished ≡ Reply [] 211)) [ true ↦ inr refl | false ↦ inl refl ]

-- only no bytes have no lines once they have ended
no_lines : (bytes : List ℕ) → lines bytes true ≡ [] → bytes ≡ []
no_lines bytes is = go (whole_lines bytes) refl is
  where
    alone : (r : List ℕ) → r ≡ bytes → last_line true r ≡ [] → bytes ≡ []
    alone [] same empty = sym same
    alone (b ∷ r) same empty = cc

    go : (ls : List (List ℕ)) → whole_lines bytes ≡ ls → ls ++ last_line true (rest bytes) ≡ [] → bytes ≡ []
    go [] none empty = alone (rest bytes) (rest_all bytes none) empty
    go (l ∷ ls) none empty = cc

-- past the limit with no reply, the rest doesn't count
overrun : (rule : ReplyRule) (form : ReplyForm) (bytes more : List ℕ) (ended : Bool) → reply_in rule form false (whole_lines bytes) ≡ Unfinished → reply_limit < length bytes → outcome rule form (bytes ++ more) ended ≡ TooLarge
unfolding outcome
overrun rule form bytes more ended open_end over =
    rw (lines-append bytes more ended, reply_in-append rule form ended (whole_lines bytes) (lines (rest bytes ++ more) ended) open_end)
    (by_lines (lines (rest bytes ++ more) ended) refl)
  where
    count : length (bytes ++ more) ≡ length bytes + length more
    count = length-append bytes more

    total : length (joined (whole_lines bytes)) + length (rest bytes) ≡ length bytes
    total = sym (length-append (joined (whole_lines bytes)) (rest bytes)) ∙ ap length (joined-whole_lines bytes)

    nothing : (e : Bool) → within (length (bytes ++ more)) e Unfinished ≡ TooLarge
    nothing e = let above : reply_limit < length (bytes ++ more) = omega (arith, over, count) in rw (lt-ltb _ _ above)

    by_lines : (ls : List (List ℕ)) → lines (rest bytes ++ more) ended ≡ ls → within (length (bytes ++ more)) ended (after_lines (whole_lines bytes) (found_after rule form ended (whole_lines bytes) ls)) ≡ TooLarge
    by_lines [] is = by_end ended is
      where
        at_end : (found : Found) → lines (rest bytes ++ more) true ≡ [] → (found ≡ Unfinished) ⊎ (found ≡ Reply [] 211) → within (length (bytes ++ more)) true (after_lines (whole_lines bytes) found) ≡ TooLarge
        at_end found none (inl e) = rw (e, after_lines-Unfinished (whole_lines bytes)) (nothing true)
        at_end found none (inr e) =
            let empty : length (rest bytes ++ more) ≡ 0 = ap length (no_lines (rest bytes ++ more) none) in
            let parts = length-append (rest bytes) more in
            let above : reply_limit < length (joined (whole_lines bytes)) = omega (arith, over, total, empty, parts) in
            rw (e, after_lines-Reply (whole_lines bytes) [] 211, append-nil (joined (whole_lines bytes)), lt-leb _ _ above)

        by_end : (e : Bool) → lines (rest bytes ++ more) e ≡ [] → within (length (bytes ++ more)) e (after_lines (whole_lines bytes) (found_after rule form e (whole_lines bytes) [])) ≡ TooLarge
        by_end false none = rw (found_after-none rule form (whole_lines bytes), after_lines-Unfinished (whole_lines bytes)) (nothing false)
        by_end true none = at_end (found_after rule form true (whole_lines bytes) []) none (found_after-end rule form (whole_lines bytes))
    by_lines (l ∷ ls) is = by_found (found_after rule form ended (whole_lines bytes) (l ∷ ls)) refl
      where
        long : length (rest bytes) ≤ length l
        long = first_line_length (rest bytes) more ended l ls (has_line_feed-rest bytes) is

        by_found : (found : Found) → found_after rule form ended (whole_lines bytes) (l ∷ ls) ≡ found → within (length (bytes ++ more)) ended (after_lines (whole_lines bytes) found) ≡ TooLarge
        by_found (Reply w c) e =
            let covers : length l ≤ length w = found_covers rule form ended (whole_lines bytes) l ls w c e in
            let above : reply_limit < length (joined (whole_lines bytes) ++ w) = rw (length-append (joined (whole_lines bytes)) w) (omega (arith, over, total, long, covers)) in
            rw (after_lines-Reply (whole_lines bytes) w c, lt-leb _ _ above)
        by_found (NoReply bad) e =
            let first = refused_first rule form ended (whole_lines bytes) l ls bad e in
            let none : length (joined (whole_lines bytes)) ≡ 0 = ap length first.0 in
            let same : length bad ≡ length l = ap length first.1 in
            let above : reply_limit < length bad = omega (arith, over, total, long, none, same) in
            rw (after_lines-NoReply (whole_lines bytes) bad, lt-leb _ _ above)
        by_found Unfinished e = rw (after_lines-Unfinished (whole_lines bytes)) (nothing ended)

-- what was found stays found
found_stays : (rule : ReplyRule) (form : ReplyForm) (bytes more : List ℕ) (ended : Bool) (found : Found) → reply_in rule form false (whole_lines bytes) ≡ found → (found ≡ Unfinished → ⊥) → ((count : ℕ) (e : Bool) → within count e found ≡ within (length bytes) false found) → outcome rule form (bytes ++ more) ended ≡ outcome rule form bytes false
found_stays rule form bytes more ended found is settled same =
    let later : outcome rule form (bytes ++ more) ended ≡ within (length (bytes ++ more)) ended found =
    unfold outcome in rw (lines-append bytes more ended, reply_in-stays rule form ended (whole_lines bytes) (lines (rest bytes ++ more) ended) found is settled) in
    later ∙ same (length (bytes ++ more)) ended ∙ ap (within (length bytes) false) (sym is) ∙ sym (outcome-open rule form bytes)

pub settled_stays : SettledStays
settled_stays rule form bytes more ended settled = go (reply_in rule form false (whole_lines bytes)) refl
  where
    go : (found : Found) → reply_in rule form false (whole_lines bytes) ≡ found → outcome rule form (bytes ++ more) ended ≡ outcome rule form bytes false
    go (Reply w c) is = found_stays rule form bytes more ended (Reply w c) is (λ e. cc e) (λ count e. refl)
    go (NoReply l) is = found_stays rule form bytes more ended (NoReply l) is (λ e. cc e) (λ count e. refl)
    go Unfinished is =
        let now : outcome rule form bytes false ≡ cond (ltb reply_limit (length bytes)) TooLarge Waits = outcome-open rule form bytes ∙ ap (within (length bytes) false) is in
        elim (ltb reply_limit (length bytes)) as (λ t. ltb reply_limit (length bytes) ≡ t → outcome rule form bytes false ≡ cond t TooLarge Waits → outcome rule form (bytes ++ more) ended ≡ outcome rule form bytes false) [
          | true ↦ λ t e. overrun rule form bytes more ended is (ltb-true _ _ t) ∙ sym e
          | false ↦ λ t e. absurd (subst IsSettled e settled)
        ]
        refl now

-- nothing ends before the end of the input
never_ended : (rule : ReplyRule) (form : ReplyForm) (bytes : List ℕ) → outcome rule form bytes false ≡ Ended → ⊥
never_ended rule form bytes is = go (reply_in rule form false (whole_lines bytes)) (sym (outcome-open rule form bytes) ∙ is)
  where
    go : (found : Found) → within (length bytes) false found ≡ Ended → ⊥
    go (Reply w c) e =
        elim (leb (length w) reply_limit) as (λ t. cond t (Whole w c) TooLarge ≡ Ended → ⊥)
        [ true ↦ λ f. let clash : Whole w c ≡ Ended = f in cc | false ↦ λ f. let clash : TooLarge ≡ Ended = f in cc ] e
    go (NoReply l) e =
        elim (leb (length l) reply_limit) as (λ t. cond t (Bad l) TooLarge ≡ Ended → ⊥)
        [ true ↦ λ f. let clash : Bad l ≡ Ended = f in cc | false ↦ λ f. let clash : TooLarge ≡ Ended = f in cc ] e
    go Unfinished e =
        elim (ltb reply_limit (length bytes)) as (λ t. cond t TooLarge Waits ≡ Ended → ⊥)
        [ true ↦ λ f. let clash : TooLarge ≡ Ended = f in cc | false ↦ λ f. let clash : Waits ≡ Ended = f in cc ] e

-- what was answered stays, however the input goes on
pub answer_stays : (rule : ReplyRule) (form : ReplyForm) (bytes : List ℕ) (ended : Bool) (heard : Outcome) → (heard ≡ Waits → ⊥) → heard ≡ outcome rule form bytes ended → (more : List ℕ) (e : Bool) → GoesOn ended more e → outcome rule form (bytes ++ more) e ≡ heard
answer_stays rule form bytes true heard settled is more e on = rw (on.nothing refl, on.over refl, append-nil bytes) (sym is)
answer_stays rule form bytes false heard settled is more e on =
    settled_stays rule form bytes more e (let P : Outcome → Type 0 = IsSettled in subst P is (go heard settled is)) ∙ sym is
  where
    go : (o : Outcome) → (o ≡ Waits → ⊥) → o ≡ outcome rule form bytes false → IsSettled o
    go (Whole reply code) other e = tt
    go (Bad line) other e = tt
    go TooLarge other e = tt
    go Ended other e = never_ended rule form bytes (sym e)
    go Waits other e = other refl

-- Single lines: what is said of one that came with others stays, too

line_overrun : (bytes more : List ℕ) (ended : Bool) → whole_lines bytes ≡ [] → reply_limit < length bytes → line_outcome (bytes ++ more) ended ≡ TooLarge
unfolding line_outcome
line_overrun bytes more ended none over =
    let split : lines (bytes ++ more) ended ≡ lines (rest bytes ++ more) ended = lines-append bytes more ended ∙ ap (λ ls. ls ++ lines (rest bytes ++ more) ended) none in
    rw split (go (lines (rest bytes ++ more) ended) refl)
  where
    count : length (bytes ++ more) ≡ length bytes + length more
    count = length-append bytes more

    go : (ls : List (List ℕ)) → lines (rest bytes ++ more) ended ≡ ls → first_within (length (bytes ++ more)) ended ls ≡ TooLarge
    go [] is = let above : reply_limit < length (bytes ++ more) = omega (arith, over, count) in rw (lt-ltb _ _ above)
    go (l ∷ ls) is =
        let all : length (rest bytes) ≡ length bytes = ap length (rest_all bytes none) in
        let long : length (rest bytes) ≤ length l = first_line_length (rest bytes) more ended l ls (has_line_feed-rest bytes) is in
        let above : reply_limit < length l = omega (arith, over, all, long) in
        rw (lt-leb _ _ above)

line_open : (bytes : List ℕ) → line_outcome bytes false ≡ first_within (length bytes) false (whole_lines bytes)
unfolding line_outcome
line_open bytes = rw (lines-open bytes)

line_at : (bytes : List ℕ) (ended : Bool) → line_outcome bytes ended ≡ first_within (length bytes) ended (lines bytes ended)
unfolding line_outcome
line_at bytes ended = refl

line_settled_stays : (bytes more : List ℕ) (ended : Bool) (heard : Outcome) → (heard ≡ Waits → ⊥) → heard ≡ line_outcome bytes false → line_outcome (bytes ++ more) ended ≡ heard
line_settled_stays bytes more ended heard settled is = go (whole_lines bytes) refl
  where
    go : (ls : List (List ℕ)) → whole_lines bytes ≡ ls → line_outcome (bytes ++ more) ended ≡ heard
    go [] none =
        let now : heard ≡ cond (ltb reply_limit (length bytes)) TooLarge Waits = is ∙ line_open bytes ∙ ap (first_within (length bytes) false) none in
        elim (ltb reply_limit (length bytes)) as (λ t. ltb reply_limit (length bytes) ≡ t → heard ≡ cond t TooLarge Waits → line_outcome (bytes ++ more) ended ≡ heard) [
          | true ↦ λ t e. line_overrun bytes more ended none (ltb-true _ _ t) ∙ sym e
          | false ↦ λ t e. absurd (settled e)
        ]
        refl now
    go (l ∷ ls) some =
        let now : heard ≡ cond (leb (length l) reply_limit) (Whole l 0) TooLarge = is ∙ line_open bytes ∙ ap (first_within (length bytes) false) some in
        let split : lines (bytes ++ more) ended ≡ l ∷ (ls ++ lines (rest bytes ++ more) ended) = lines-append bytes more ended ∙ ap (λ front. front ++ lines (rest bytes ++ more) ended) some in
        let later : line_outcome (bytes ++ more) ended ≡ cond (leb (length l) reply_limit) (Whole l 0) TooLarge = line_at (bytes ++ more) ended ∙ ap (first_within (length (bytes ++ more)) ended) split in
        later ∙ sym now

pub line_answer_stays : (bytes : List ℕ) (ended : Bool) (heard : Outcome) → (heard ≡ Waits → ⊥) → heard ≡ line_outcome bytes ended → (more : List ℕ) (e : Bool) → GoesOn ended more e → line_outcome (bytes ++ more) e ≡ heard
line_answer_stays bytes true heard settled is more e on = rw (on.nothing refl, on.over refl, append-nil bytes) (sym is)
line_answer_stays bytes false heard settled is more e on = line_settled_stays bytes more e heard settled is
