-- Lemmas on replies: how what lines hold goes on with more lines.
use Rattle.std.proofs.Common.{◌≡◌, ◌≢◌, ℕ, Bool, true, false, ◌&&◌, cond, List, [], ◌∷◌, ◌++◌, refl, sym, append_assoc}
use Rattle.ftp_base.specs.Features.{is_last}
use Rattle.ftp_control.specs.Grammar.{joined, opens, ends, code_at_start, to_end, reply_in}
use Rattle.ftp_control.specs.Found.{after_line}
use Rattle.ftp_control.specs.Lenient.{by_dash, lists, opens_list, to_list_end}
use Rattle.ftp_control.specs.Inside.Phases.{is_listing, phase_in, phase_of}
use Rattle.ftp_control.specs.declared.plain.Found.{Found}
use Rattle.ftp_control.specs.declared.plain.Found.TheVariants.{Reply, NoReply, Unfinished}
use Rattle.ftp_control.specs.declared.control.rule.ReplyRule.{ReplyRule}
use Rattle.ftp_control.specs.declared.control.form.ReplyForm.{ReplyForm}
use Rattle.ftp_control.specs.declared.control.form.ReplyForm.TheVariants.{Plain, System, Features}
use Rattle.ftp_control.specs.declared.control.lenient.Phase.{Phase}
use Rattle.ftp_control.specs.declared.control.lenient.Phase.TheVariants.{Past}

-- lines before what is found behind them
abbrev pub after_lines : List (List ℕ) → Found → Found
after_lines [] found = found
after_lines (line ∷ lines) found = after_line line (after_lines lines found)

pub after_lines-Reply : (lines : List (List ℕ)) (bytes : List ℕ) (code : ℕ) → after_lines lines (Reply bytes code) ≡ Reply (joined lines ++ bytes) code
after_lines-Reply [] bytes code = refl
after_lines-Reply (line ∷ lines) bytes code = rw (after_lines-Reply lines bytes code, append_assoc)

pub after_lines-Unfinished : (lines : List (List ℕ)) → after_lines lines Unfinished ≡ Unfinished
after_lines-Unfinished [] = refl
after_lines-Unfinished (line ∷ lines) = rw (after_lines-Unfinished lines)

pub after_line_unfinished : (line : List ℕ) (found : Found) → after_line line found ≡ Unfinished → found ≡ Unfinished
after_line_unfinished line (Reply bytes code) is = cc
after_line_unfinished line (NoReply other) is = cc
after_line_unfinished line Unfinished is = refl

-- A list of features

-- where lines don't end a list, the lines behind them do
pub to_list_end-append : (ended : Bool) (lines more : List (List ℕ)) → to_list_end false lines ≡ Unfinished → to_list_end ended (lines ++ more) ≡ after_lines lines (to_list_end ended more)
to_list_end-append ended [] more open_end = refl
to_list_end-append ended (line ∷ lines) more open_end =
    elim (is_last line) as (λ t. is_last line ≡ t → to_list_end ended ((line ∷ lines) ++ more) ≡ after_lines (line ∷ lines) (to_list_end ended more)) [
      | true ↦ λ is. let clash : Reply line 211 ≡ Unfinished = rw is at open_end in cc
      | false ↦ λ is.
          let later : after_line line (to_list_end false lines) ≡ Unfinished = rw is at open_end in
          rw (is, to_list_end-append ended lines more (after_line_unfinished line (to_list_end false lines) later))
    ]
    refl

-- a list that has ended stays
pub to_list_end-stays : (ended : Bool) (lines more : List (List ℕ)) (bytes : List ℕ) (code : ℕ) → to_list_end false lines ≡ Reply bytes code → to_list_end ended (lines ++ more) ≡ Reply bytes code
to_list_end-stays ended [] more bytes code is = cc
to_list_end-stays ended (line ∷ lines) more bytes code is =
    elim (is_last line) as (λ t. is_last line ≡ t → to_list_end ended ((line ∷ lines) ++ more) ≡ Reply bytes code) [
      | true ↦ λ e. let found : Reply line 211 ≡ Reply bytes code = rw e at is in rw e found
      | false ↦ λ e.
          let later : after_line line (to_list_end false lines) ≡ Reply bytes code = rw e at is in
          rw e (go (to_list_end false lines) refl later (λ w c found. to_list_end-stays ended lines more w c found))
    ]
    refl
  where
    go : (found : Found) → to_list_end false lines ≡ found → after_line line found ≡ Reply bytes code → ((w : List ℕ) (c : ℕ) → to_list_end false lines ≡ Reply w c → to_list_end ended (lines ++ more) ≡ Reply w c) → after_line line (to_list_end ended (lines ++ more)) ≡ Reply bytes code
    go (Reply w c) is e stays = rw (stays w c is) e
    go (NoReply l) is e stays = let clash : NoReply l ≡ Reply bytes code = e in cc
    go Unfinished is e stays = let clash : Unfinished ≡ Reply bytes code = e in cc

after_line-NoReply : (line bad : List ℕ) (found : Found) → after_line line found ≡ NoReply bad → found ≡ NoReply bad
after_line-NoReply line bad (Reply w c) is = let clash : Reply (line ++ w) c ≡ NoReply bad = is in cc
after_line-NoReply line bad (NoReply l) is = is
after_line-NoReply line bad Unfinished is = let clash : Unfinished ≡ NoReply bad = is in cc

-- a list holds no refusal
pub to_list_end-NoReply : (ended : Bool) (lines : List (List ℕ)) (bad : List ℕ) → to_list_end ended lines ≡ NoReply bad → ⊥
to_list_end-NoReply ended [] bad is =
    elim ended as (λ t. cond t (Reply [] 211) Unfinished ≡ NoReply bad → ⊥) [
      | true ↦ λ e. let clash : Reply [] 211 ≡ NoReply bad = e in cc
      | false ↦ λ e. let clash : Unfinished ≡ NoReply bad = e in cc
    ]
    is
to_list_end-NoReply ended (line ∷ lines) bad is =
    elim (is_last line) as (λ t. is_last line ≡ t → ⊥) [
      | true ↦ λ e. let clash : Reply line 211 ≡ NoReply bad = rw e at is in cc
      | false ↦ λ e.
          let later : after_line line (to_list_end ended lines) ≡ NoReply bad = rw e at is in
          to_list_end-NoReply ended lines bad (after_line-NoReply line bad (to_list_end ended lines) later)
    ]
    refl

-- A reply

-- what lines hold behind lines of this phase
abbrev pub found_in : ReplyRule → ReplyForm → Bool → Phase → List ℕ → List (List ℕ) → Found
found_in rule form ended phase first more = cond (is_listing form phase) (to_list_end ended more) (to_end rule form ended first more)

-- where lines don't end a reply that no list follows, the lines behind them do
alone-append : (rule : ReplyRule) (form : ReplyForm) (ended : Bool) (first : List ℕ) (lines more : List (List ℕ)) → lists form ≡ false → to_end rule form false first lines ≡ Unfinished → to_end rule form ended first (lines ++ more) ≡ after_lines lines (to_end rule form ended first more)
alone-append rule form ended first [] more alone open_end = refl
alone-append rule form ended first (line ∷ lines) more alone open_end =
    elim (ends rule (by_dash form) first line) as (λ t. ends rule (by_dash form) first line ≡ t → to_end rule form ended first ((line ∷ lines) ++ more) ≡ after_lines (line ∷ lines) (to_end rule form ended first more)) [
      | true ↦ λ is. let clash : Reply line (code_at_start line) ≡ Unfinished = rw (is, alone) at open_end in cc
      | false ↦ λ is.
          let later : after_line line (to_end rule form false first lines) ≡ Unfinished = rw is at open_end in
          rw (is, alone-append rule form ended first lines more alone (after_line_unfinished line (to_end rule form false first lines) later))
    ]
    refl

-- where lines don't end a reply or the list of features behind it, the lines behind them do
listed-append : (rule : ReplyRule) (ended : Bool) (first : List ℕ) (lines more : List (List ℕ)) → to_end rule Features false first lines ≡ Unfinished → to_end rule Features ended first (lines ++ more) ≡ after_lines lines (found_in rule Features ended (phase_in rule first lines) first more)
listed-append rule ended first [] more open_end = refl
listed-append rule ended first (line ∷ lines) more open_end =
    elim (ends rule true first line) as (λ t. ends rule true first line ≡ t → to_end rule Features ended first ((line ∷ lines) ++ more) ≡ after_lines (line ∷ lines) (found_in rule Features ended (phase_in rule first (line ∷ lines)) first more)) [
      | true ↦ λ is.
          elim (opens_list line) as (λ t. opens_list line ≡ t → to_end rule Features ended first ((line ∷ lines) ++ more) ≡ after_lines (line ∷ lines) (found_in rule Features ended (phase_in rule first (line ∷ lines)) first more)) [
            | true ↦ λ opened.
                let later : after_line line (to_list_end false lines) ≡ Unfinished = rw (is, opened) at open_end in
                rw (is, opened, to_list_end-append ended lines more (after_line_unfinished line (to_list_end false lines) later))
            | false ↦ λ other. let clash : Reply line (code_at_start line) ≡ Unfinished = rw (is, other) at open_end in cc
          ]
          refl
      | false ↦ λ is.
          let later : after_line line (to_end rule Features false first lines) ≡ Unfinished = rw is at open_end in
          rw (is, listed-append rule ended first lines more (after_line_unfinished line (to_end rule Features false first lines) later))
    ]
    refl

-- where lines don't end a reply, the lines behind them do
pub to_end-append : (rule : ReplyRule) (form : ReplyForm) (ended : Bool) (first : List ℕ) (lines more : List (List ℕ)) → to_end rule form false first lines ≡ Unfinished → to_end rule form ended first (lines ++ more) ≡ after_lines lines (found_in rule form ended (phase_in rule first lines) first more)
to_end-append rule Plain ended first lines more open_end = alone-append rule Plain ended first lines more refl open_end
to_end-append rule System ended first lines more open_end = alone-append rule System ended first lines more refl open_end
to_end-append rule Features ended first lines more open_end = listed-append rule ended first lines more open_end

-- lines that hold too little of the answer to FEAT aren't past it
pub never_past : (rule : ReplyRule) (first : List ℕ) (lines : List (List ℕ)) → to_end rule Features false first lines ≡ Unfinished → phase_in rule first lines ≢ Past
never_past rule first [] open_end = λ past. cc
never_past rule first (line ∷ lines) open_end =
    elim (ends rule true first line) as (λ t. ends rule true first line ≡ t → phase_in rule first (line ∷ lines) ≢ Past) [
      | true ↦ λ is.
          elim (opens_list line) as (λ t. opens_list line ≡ t → phase_in rule first (line ∷ lines) ≢ Past) [
            | true ↦ λ opened. rw (is, opened) (λ past. cc)
            | false ↦ λ other. let clash : Reply line (code_at_start line) ≡ Unfinished = rw (is, other) at open_end in cc
          ]
          refl
      | false ↦ λ is.
          let later : after_line line (to_end rule Features false first lines) ≡ Unfinished = rw is at open_end in
          rw is (never_past rule first lines (after_line_unfinished line (to_end rule Features false first lines) later))
    ]
    refl

-- what lines hold behind lines that hold too little
abbrev pub found_after : ReplyRule → ReplyForm → Bool → List (List ℕ) → List (List ℕ) → Found
found_after rule form ended [] more = reply_in rule form ended more
found_after rule form ended (first ∷ lines) more = found_in rule form ended (phase_in rule first (first ∷ lines)) first more

-- lines that hold too little begin with one that opens a reply
pub opened : (rule : ReplyRule) (form : ReplyForm) (first : List ℕ) (lines : List (List ℕ)) → reply_in rule form false (first ∷ lines) ≡ Unfinished → (opens rule first ≡ true) × (to_end rule form false first (first ∷ lines) ≡ Unfinished)
opened rule form first lines open_end =
    elim (opens rule first) as (λ t. cond t (to_end rule form false first (first ∷ lines)) (NoReply first) ≡ Unfinished → (t ≡ true) × (to_end rule form false first (first ∷ lines) ≡ Unfinished)) [
      | true ↦ λ e. (refl, e)
      | false ↦ λ e. let clash : NoReply first ≡ Unfinished = e in cc
    ]
    open_end

pub reply_in-append : (rule : ReplyRule) (form : ReplyForm) (ended : Bool) (lines more : List (List ℕ)) → reply_in rule form false lines ≡ Unfinished → reply_in rule form ended (lines ++ more) ≡ after_lines lines (found_after rule form ended lines more)
reply_in-append rule form ended [] more open_end = refl
reply_in-append rule form ended (first ∷ lines) more open_end =
    let is = opened rule form first lines open_end in
    rw is.0 (to_end-append rule form ended first (first ∷ lines) more is.1)

pub reply_never_past : (rule : ReplyRule) (lines : List (List ℕ)) → reply_in rule Features false lines ≡ Unfinished → phase_of rule lines ≢ Past
reply_never_past rule [] open_end = λ past. cc
reply_never_past rule (first ∷ lines) open_end = never_past rule first (first ∷ lines) (opened rule Features first lines open_end).1

-- what is found stays
pub to_end-stays : (rule : ReplyRule) (form : ReplyForm) (ended : Bool) (first : List ℕ) (lines more : List (List ℕ)) (bytes : List ℕ) (code : ℕ) → to_end rule form false first lines ≡ Reply bytes code → to_end rule form ended first (lines ++ more) ≡ Reply bytes code
to_end-stays rule form ended first [] more bytes code is = cc
to_end-stays rule form ended first (line ∷ lines) more bytes code is =
    elim (ends rule (by_dash form) first line) as (λ t. ends rule (by_dash form) first line ≡ t → to_end rule form ended first ((line ∷ lines) ++ more) ≡ Reply bytes code) [
      | true ↦ λ e. elim (lists form && opens_list line) as (λ t. (lists form && opens_list line) ≡ t → to_end rule form ended first ((line ∷ lines) ++ more) ≡ Reply bytes code) [
        | true ↦ λ o.
            let later : after_line line (to_list_end false lines) ≡ Reply bytes code = rw (e, o) at is in
            rw (e, o) (go (to_list_end false lines) (to_list_end ended (lines ++ more)) refl later (λ w c found. to_list_end-stays ended lines more w c found))
        | false ↦ λ o. let found : Reply line (code_at_start line) ≡ Reply bytes code = rw (e, o) at is in rw (e, o) found
      ]
          refl
      | false ↦ λ e.
          let later : after_line line (to_end rule form false first lines) ≡ Reply bytes code = rw e at is in
          rw e (go (to_end rule form false first lines) (to_end rule form ended first (lines ++ more)) refl later (λ w c found. to_end-stays rule form ended first lines more w c found))
    ]
    refl
  where
    go : (found all : Found) {now : Found} → now ≡ found → after_line line found ≡ Reply bytes code → ((w : List ℕ) (c : ℕ) → now ≡ Reply w c → all ≡ Reply w c) → after_line line all ≡ Reply bytes code
    go (Reply w c) all is e stays = rw (stays w c is) e
    go (NoReply l) all is e stays = let clash : NoReply l ≡ Reply bytes code = e in cc
    go Unfinished all is e stays = let clash : Unfinished ≡ Reply bytes code = e in cc

-- lines hold no refusal behind the first
pub to_end-NoReply : (rule : ReplyRule) (form : ReplyForm) (ended : Bool) (first : List ℕ) (lines : List (List ℕ)) (bad : List ℕ) → to_end rule form ended first lines ≡ NoReply bad → ⊥
to_end-NoReply rule form ended first [] bad is = cc
to_end-NoReply rule form ended first (line ∷ lines) bad is =
    elim (ends rule (by_dash form) first line) as (λ t. ends rule (by_dash form) first line ≡ t → ⊥) [
      | true ↦ λ e. elim (lists form && opens_list line) as (λ t. (lists form && opens_list line) ≡ t → ⊥) [
        | true ↦ λ o.
            let later : after_line line (to_list_end ended lines) ≡ NoReply bad = rw (e, o) at is in
            to_list_end-NoReply ended lines bad (after_line-NoReply line bad (to_list_end ended lines) later)
        | false ↦ λ o. let clash : Reply line (code_at_start line) ≡ NoReply bad = rw (e, o) at is in cc
      ]
          refl
      | false ↦ λ e.
          let later : after_line line (to_end rule form ended first lines) ≡ NoReply bad = rw e at is in
          to_end-NoReply rule form ended first lines bad (after_line-NoReply line bad (to_end rule form ended first lines) later)
    ]
    refl

pub reply_in-stays : (rule : ReplyRule) (form : ReplyForm) (ended : Bool) (lines more : List (List ℕ)) (found : Found) → reply_in rule form false lines ≡ found → (found ≡ Unfinished → ⊥) → reply_in rule form ended (lines ++ more) ≡ found
reply_in-stays rule form ended [] more found is settled = absurd (settled (sym is))
reply_in-stays rule form ended (first ∷ lines) more found is settled =
    elim (opens rule first) as (λ t. opens rule first ≡ t → reply_in rule form ended ((first ∷ lines) ++ more) ≡ found) [
      | true ↦ λ o. rw o (go found (rw o at is) settled)
      | false ↦ λ o. let bad : NoReply first ≡ found = rw o at is in rw o bad
    ]
    refl
  where
    go : (found : Found) → to_end rule form false first (first ∷ lines) ≡ found → (found ≡ Unfinished → ⊥) → to_end rule form ended first (first ∷ lines ++ more) ≡ found
    go (Reply w c) is settled = to_end-stays rule form ended first (first ∷ lines) more w c is
    go (NoReply l) is settled = absurd (to_end-NoReply rule form false first (first ∷ lines) l is)
    go Unfinished is settled = absurd (settled refl)
