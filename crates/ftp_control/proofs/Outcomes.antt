-- Lemmas on outcomes: one byte more, and the end of the input.
use Rattle.std.proofs.Common.{◌≡◌, ◌≢◌, ◌⊎◌, inl, inr, ℕ, ◌+◌, ◌≤◌, ◌<◌, Bool, true, false, cond, not, ◌&&◌, ◌||◌, List, [], ◌∷◌, ◌++◌, length, take, drop, nat_eq, Ok, refl, ap, sym, ◌∙◌, append_assoc, arith, length-append, append-nil, add-zero, leb, ltb, nat_le, slice_index}
use Rattle.std.specs.Cmp.Lexicographic.{pointwise}
use Rattle.std.proofs.lemmas.Bool.{and_parts, and_right, or_parts, le-leb, lt-leb, leb-true, lt-ltb, le-ltb, ltb-false, eqb-true, ne_eqb}
use Rattle.ftp_control.specs.Inside.UnderWay.{IsUnderWay}
use Rattle.std.proofs.lemmas.List.{take-append-le, drop-append-le}
use Rattle.std.proofs.Math.Seq.{drop-append_seam}
use Rattle.ftp_control.specs.declared.control.rule.ReplyRule.{ReplyRule}
use Rattle.ftp_control.specs.declared.control.rule.ReplyRule.TheVariants.{Strict, Lenient}
use Rattle.ftp_control.specs.declared.control.outcome.Outcome.TheVariants.{Whole, Bad, TooLarge, Ended, Waits}
use Rattle.ftp_control.specs.declared.control.grammar.Verdict.{Verdict}
use Rattle.ftp_control.specs.declared.control.grammar.Verdict.TheVariants.{Refused, Ends, GoesOn}
use Rattle.ftp_control.specs.Grammar.{is_line_feed, has_line_feed, whole_lines, rest, last_line, lines, joined, begins_with_digits, opens, ends, code_at_start, to_end, reply_in, reply_limit, within, outcome, line_outcome}
use Rattle.ftp_control.specs.Lenient.{by_dash, lists, opens_list, to_list_end}
use Rattle.ftp_control.specs.declared.plain.Found.{Found}
use Rattle.ftp_control.specs.declared.plain.Found.TheVariants.{Reply, NoReply, Unfinished}
use Rattle.ftp_control.specs.Inside.ReadLoop.{TakesAll}
use Rattle.ftp_base.specs.Features.{is_last}
use Rattle.ftp_control.specs.declared.control.form.ReplyForm.{ReplyForm}
use Rattle.ftp_control.specs.declared.control.form.ReplyForm.TheVariants.{Plain, System, Features}
use Rattle.ftp_control.specs.declared.control.lenient.Phase.{Phase}
use Rattle.ftp_control.specs.declared.control.lenient.Phase.TheVariants.{InReply, InList, Past}
use Rattle.ftp_control.specs.Inside.Phases.{in_list, in_reply, is_listing, phase_after, phase_in, phase_of, waiting_form}
use Rattle.ftp_control.specs.Inside.Verdict.{verdict, line_verdict, outcome_by, ended_by, phase_left}
use Rattle.ftp_control.proofs.Lines.{joined-whole_lines, whole_lines-line_feed, rest-closed, whole_lines-other, rest-other, first_nonempty}
use Rattle.ftp_control.proofs.Replies.{after_lines, after_lines-Reply, after_lines-Unfinished, found_after, found_in, reply_in-append, reply_never_past, opened}

pub lines-open : (bytes : List ℕ) → lines bytes false ≡ whole_lines bytes
lines-open bytes = go (rest bytes)
  where
    go : (r : List ℕ) → whole_lines bytes ++ last_line false r ≡ whole_lines bytes
    go [] = append-nil _
    go (b ∷ r) = append-nil _

-- what is said before the input ends
pub outcome-open : (rule : ReplyRule) (form : ReplyForm) (bytes : List ℕ) → outcome rule form bytes false ≡ within (length bytes) false (reply_in rule form false (whole_lines bytes))
unfolding outcome
outcome-open rule form bytes = rw (lines-open bytes)

-- nothing is said yet exactly where the lines hold too little, within the limit
pub record HoldsTooLittle (rule : ReplyRule) (form : ReplyForm) (bytes : List ℕ) : Type 0 where
  pub unfinished : reply_in rule form false (whole_lines bytes) ≡ Unfinished
  pub fits : length bytes ≤ reply_limit

pub too_little : (rule : ReplyRule) (form : ReplyForm) (bytes : List ℕ) → outcome rule form bytes false ≡ Waits → HoldsTooLittle rule form bytes
too_little rule form bytes waits = go (reply_in rule form false (whole_lines bytes)) refl (rw (outcome-open rule form bytes) at waits)
  where
    go : (found : Found) → reply_in rule form false (whole_lines bytes) ≡ found → within (length bytes) false found ≡ Waits → HoldsTooLittle rule form bytes
    go (Reply w c) is e =
        elim (leb (length w) reply_limit) as (λ t. cond t (Whole w c) TooLarge ≡ Waits → HoldsTooLittle rule form bytes)
        [ true ↦ λ f. let clash : Whole w c ≡ Waits = f in cc | false ↦ λ f. let clash : TooLarge ≡ Waits = f in cc ] e
    go (NoReply l) is e =
        elim (leb (length l) reply_limit) as (λ t. cond t (Bad l) TooLarge ≡ Waits → HoldsTooLittle rule form bytes)
        [ true ↦ λ f. let clash : Bad l ≡ Waits = f in cc | false ↦ λ f. let clash : TooLarge ≡ Waits = f in cc ] e
    go Unfinished is e =
        elim (ltb reply_limit (length bytes)) as (λ t. ltb reply_limit (length bytes) ≡ t → cond t TooLarge Waits ≡ Waits → HoldsTooLittle rule form bytes) [
          | true ↦ λ t f. let clash : TooLarge ≡ Waits = f in cc
          | false ↦ λ t f. record { unfinished = is; fits = ltb-false reply_limit (length bytes) t }
        ] refl e

pub says_nothing : (rule : ReplyRule) (form : ReplyForm) (bytes : List ℕ) → reply_in rule form false (whole_lines bytes) ≡ Unfinished → length bytes ≤ reply_limit → outcome rule form bytes false ≡ Waits
says_nothing rule form bytes unfinished fits =
    let short : ltb reply_limit (length bytes) ≡ false = le-ltb _ _ fits in
    rw (outcome-open rule form bytes, unfinished, short)

-- a line that holds no LF yet says nothing
pub waits_on : (rule : ReplyRule) (form : ReplyForm) (bytes : List ℕ) (b : ℕ) → outcome rule form bytes false ≡ Waits → is_line_feed b ≡ false → length bytes < reply_limit → outcome rule form (bytes ++ b ∷ []) false ≡ Waits
waits_on rule form bytes b waits other fits =
    let held = too_little rule form bytes waits in
    says_nothing rule form (bytes ++ b ∷ [])
    (rw (whole_lines-other bytes b other) held.unfinished)
    (rw (length-append bytes (b ∷ [])) (omega (arith, fits)))

-- what is found by a verdict on a line, after lines that hold too little; the end of the input ends a list
abbrev pub found_by : Bool → Verdict → List ℕ → Found
found_by listed Refused line = NoReply line
found_by listed (Ends code) line = Reply line code
found_by listed GoesOn line = cond listed (Reply line 211) Unfinished

abbrev pub is_first_of : List (List ℕ) → Bool
is_first_of [] = true
is_first_of (first ∷ lines) = false

abbrev pub first_of : List (List ℕ) → List ℕ → List ℕ
first_of [] line = line
first_of (first ∷ lines) line = first

ends-code : (rule : ReplyRule) (dash : Bool) (first reply line : List ℕ) → take 3 reply ≡ take 3 first → ends rule dash reply line ≡ ends rule dash first line
ends-code Strict dash first reply line same = rw same
ends-code Lenient dash first reply line same = rw same

-- the phase after a line more
phase_in-snoc : (rule : ReplyRule) (first : List ℕ) (lines : List (List ℕ)) (line : List ℕ) → phase_in rule first (lines ++ line ∷ []) ≡ phase_after rule (phase_in rule first lines) first line
phase_in-snoc rule first [] line = refl
phase_in-snoc rule first (one ∷ lines) line =
    elim (ends rule true first one) as (λ t. cond t (cond (opens_list one) InList Past) (phase_in rule first (lines ++ line ∷ [])) ≡ phase_after rule (cond t (cond (opens_list one) InList Past) (phase_in rule first lines)) first line) [
      | true ↦ elim (opens_list one) as (λ u. cond u InList Past ≡ phase_after rule (cond u InList Past) first line) [ true ↦ refl | false ↦ refl ]
      | false ↦ phase_in-snoc rule first lines line
    ]

phase_after-code : (rule : ReplyRule) (phase : Phase) (first reply line : List ℕ) → take 3 reply ≡ take 3 first → phase_after rule phase reply line ≡ phase_after rule phase first line
phase_after-code rule InReply first reply line same = rw (ends-code rule true first reply line same)
phase_after-code rule InList first reply line same = refl
phase_after-code rule Past first reply line same = refl

phase_of-snoc : (rule : ReplyRule) (lines : List (List ℕ)) (line : List ℕ) → phase_of rule (lines ++ line ∷ []) ≡ phase_after rule (phase_of rule lines) (first_of lines line) line
phase_of-snoc rule [] line = refl
phase_of-snoc rule (first ∷ lines) line = phase_in-snoc rule first (first ∷ lines) line

no_end : (ended : Bool) (line : List ℕ) → Unfinished ≡ cond (ended && false) (Reply line 211) Unfinished
no_end true line = refl
no_end false line = refl

list_goes_on : (ended : Bool) (line : List ℕ) → after_lines (line ∷ []) (to_list_end ended []) ≡ cond (ended && true) (Reply line 211) Unfinished
list_goes_on true line = rw (append-nil line)
list_goes_on false line = refl

-- a line of a reply
abbrev LineFound : ReplyRule → ReplyForm → Bool → Phase → List ℕ → List ℕ → Type 0
LineFound rule form ended phase first line =
    found_in rule form ended phase first (line ∷ []) ≡ found_by (ended && is_listing form (phase_after rule phase first line)) (line_verdict rule form phase first line) line

alone_line : (rule : ReplyRule) (dash ended : Bool) (first line : List ℕ) → cond (ends rule dash first line) (Reply line (code_at_start line)) Unfinished ≡ found_by (ended && false) (cond (ends rule dash first line) (Ends (code_at_start line)) GoesOn) line
alone_line rule dash ended first line =
    elim (ends rule dash first line) as (λ u. cond u (Reply line (code_at_start line)) Unfinished ≡ found_by (ended && false) (cond u (Ends (code_at_start line)) GoesOn) line) [ true ↦ refl | false ↦ no_end ended line ]

reply_line : (rule : ReplyRule) (ended : Bool) (first line : List ℕ) → LineFound rule Features ended InReply first line
reply_line rule ended first line =
    elim (ends rule true first line) as (λ t. cond t (cond (opens_list line) (after_lines (line ∷ []) (to_list_end ended [])) (Reply line (code_at_start line))) Unfinished ≡ found_by (ended && in_list (cond t (cond (opens_list line) InList Past) InReply)) (cond t (cond (opens_list line) GoesOn (Ends (code_at_start line))) GoesOn) line) [
      | true ↦ elim (opens_list line) as (λ u. cond u (after_lines (line ∷ []) (to_list_end ended [])) (Reply line (code_at_start line)) ≡ found_by (ended && in_list (cond u InList Past)) (cond u GoesOn (Ends (code_at_start line))) line) [ true ↦ list_goes_on ended line | false ↦ refl ]
      | false ↦ no_end ended line
    ]

list_line : (rule : ReplyRule) (ended : Bool) (first line : List ℕ) → LineFound rule Features ended InList first line
list_line rule ended first line =
    elim (is_last line) as (λ t. cond t (Reply line 211) (after_lines (line ∷ []) (to_list_end ended [])) ≡ found_by (ended && true) (cond t (Ends 211) GoesOn) line) [ true ↦ refl | false ↦ list_goes_on ended line ]

line_found : (rule : ReplyRule) (form : ReplyForm) (ended : Bool) (phase : Phase) (first line : List ℕ) → (form ≡ Features → phase ≢ Past) → LineFound rule form ended phase first line
line_found rule Plain ended phase first line never = alone_line rule false ended first line
line_found rule System ended phase first line never = alone_line rule true ended first line
line_found rule Features ended InReply first line never = reply_line rule ended first line
line_found rule Features ended InList first line never = list_line rule ended first line
line_found rule Features ended Past first line never = absurd (never refl refl)

line_verdict-code : (rule : ReplyRule) (form : ReplyForm) (phase : Phase) (first reply line : List ℕ) → take 3 reply ≡ take 3 first → line_verdict rule form phase reply line ≡ line_verdict rule form phase first line
line_verdict-code rule form phase first reply line same = rw (ends-code rule (by_dash form) first reply line same)

-- the verdict tells what the lines hold with this one
pub found_after-line : (rule : ReplyRule) (form : ReplyForm) (ended : Bool) (lines : List (List ℕ)) (reply line : List ℕ) → take 3 reply ≡ take 3 (first_of lines line) → (form ≡ Features → phase_of rule lines ≢ Past) → found_after rule form ended lines (line ∷ []) ≡ found_by (ended && is_listing form (phase_after rule (phase_of rule lines) reply line)) (verdict rule form (is_first_of lines) (phase_of rule lines) reply line) line
found_after-line rule form ended [] reply line same never =
    rw (line_verdict-code rule form InReply line reply line same, phase_after-code rule InReply line reply line same)
    (elim (opens rule line) as (λ t. cond t (to_end rule form ended line (line ∷ [])) (NoReply line) ≡ found_by (ended && is_listing form (phase_after rule InReply line line)) (cond (true && not t) Refused (line_verdict rule form InReply line line)) line) [
      | true ↦ first_found form
      | false ↦ refl
    ])
  where
    first_found : (form : ReplyForm) → to_end rule form ended line (line ∷ []) ≡ found_by (ended && is_listing form (phase_after rule InReply line line)) (line_verdict rule form InReply line line) line
    first_found Plain = line_found rule Plain ended InReply line line (λ f. let clash : Plain ≡ Features = f in cc)
    first_found System = line_found rule System ended InReply line line (λ f. let clash : System ≡ Features = f in cc)
    first_found Features = reply_line rule ended line line
found_after-line rule form ended (first ∷ lines) reply line same never =
    let phase = phase_in rule first (first ∷ lines) in
    rw (line_verdict-code rule form phase first reply line same, phase_after-code rule phase first reply line same)
    (line_found rule form ended phase first line never)

-- a first line that opens a reply has its code
opens-length : (rule : ReplyRule) (line : List ℕ) → opens rule line ≡ true → 5 ≤ length line
opens-length rule line is = long rule (leb 5 (length line)) refl is
  where
    long : (rule : ReplyRule) (t : Bool) → leb 5 (length line) ≡ t → opens rule line ≡ true → 5 ≤ length line
    long rule true e opened = leb-true 5 (length line) e
    long Strict false e opened = let clash : false ≡ true = rw e at opened in cc
    long Lenient false e opened = let clash : false ≡ true = rw e at opened in cc

pub first_code : (rule : ReplyRule) (form : ReplyForm) (bytes more : List ℕ) → HoldsTooLittle rule form bytes → take 3 (bytes ++ more) ≡ take 3 (first_of (whole_lines bytes) (rest bytes ++ more))
first_code rule form bytes more held = go (whole_lines bytes) refl
  where
    go : (ls : List (List ℕ)) → whole_lines bytes ≡ ls → take 3 (bytes ++ more) ≡ take 3 (first_of ls (rest bytes ++ more))
    go [] is = let all : rest bytes ≡ bytes = rw is at (joined-whole_lines bytes) in rw all
    go (first ∷ ls) is =
        let opened : cond (opens rule first) (to_end rule form false first (first ∷ ls)) (NoReply first) ≡ Unfinished = rw is at held.unfinished in
        let long : 3 ≤ length first =
        elim (opens rule first) as (λ t. opens rule first ≡ t → cond t (to_end rule form false first (first ∷ ls)) (NoReply first) ≡ Unfinished → 3 ≤ length first) [
          | true ↦ λ t f. omega (arith, opens-length rule first t)
          | false ↦ λ t f. let clash : NoReply first ≡ Unfinished = f in cc
        ]
        refl opened in
        let all : (first ++ joined ls) ++ rest bytes ≡ bytes = rw is at (joined-whole_lines bytes) in
        rw (← all, append_assoc, append_assoc) (take-append-le 3 first (joined ls ++ (rest bytes ++ more)) long)

pub after_lines-NoReply : (lines : List (List ℕ)) (line : List ℕ) → after_lines lines (NoReply line) ≡ NoReply line
after_lines-NoReply [] line = refl
after_lines-NoReply (l ∷ lines) line = rw (after_lines-NoReply lines line)

-- only a first line is refused
goes_or_ends : (rule : ReplyRule) (form : ReplyForm) (phase : Phase) (reply line : List ℕ) → line_verdict rule form phase reply line ≢ Refused
goes_or_ends rule form phase reply line =
    elim (is_listing form phase) as (λ t. cond t (cond (is_last line) (Ends 211) GoesOn) (cond (ends rule (by_dash form) reply line) (cond (lists form && in_reply phase && opens_list line) GoesOn (Ends (code_at_start line))) GoesOn) ≢ Refused) [
      | true ↦ two (is_last line) 211
      | false ↦ elim (ends rule (by_dash form) reply line) as (λ t. cond t (cond (lists form && in_reply phase && opens_list line) GoesOn (Ends (code_at_start line))) GoesOn ≢ Refused) [ true ↦ other (lists form && in_reply phase && opens_list line) (code_at_start line) | false ↦ λ f. let clash : GoesOn ≡ Refused = f in cc ]
    ]
  where
    two : (t : Bool) (code : ℕ) → cond t (Ends code) GoesOn ≢ Refused
    two true code = λ f. let clash : Ends code ≡ Refused = f in cc
    two false code = λ f. let clash : GoesOn ≡ Refused = f in cc

    other : (t : Bool) (code : ℕ) → cond t GoesOn (Ends code) ≢ Refused
    other true code = λ f. let clash : GoesOn ≡ Refused = f in cc
    other false code = λ f. let clash : Ends code ≡ Refused = f in cc

refused_first : (rule : ReplyRule) (form : ReplyForm) (lines : List (List ℕ)) (phase : Phase) (reply line : List ℕ) → verdict rule form (is_first_of lines) phase reply line ≡ Refused → joined lines ≡ []
refused_first rule form [] phase reply line is = refl
refused_first rule form (first ∷ lines) phase reply line is = absurd (goes_or_ends rule form phase reply line is)

-- the lines with one more, which the bytes are, after which a list is listed or not
record OneLineMore (rule : ReplyRule) (form : ReplyForm) (ended : Bool) (lines : List (List ℕ)) (line bytes : List ℕ) (listing : Bool) (verdict : Verdict) : Type 0 where
  pub found : reply_in rule form ended (lines ++ line ∷ []) ≡ after_lines lines (found_by (ended && listing) verdict line)
  pub all : joined lines ++ line ≡ bytes
  pub first : verdict ≡ Refused → joined lines ≡ []

-- the phase of the whole lines of these bytes, and after the line under way
abbrev pub phase_so_far : ReplyRule → List ℕ → Phase
phase_so_far rule bytes = phase_of rule (whole_lines bytes)

abbrev pub listing_after : ReplyRule → ReplyForm → List ℕ → List ℕ → Bool
listing_after rule form bytes more = is_listing form (phase_after rule (phase_so_far rule bytes) (bytes ++ more) (rest bytes ++ more))

abbrev pub verdict_on : ReplyRule → ReplyForm → List ℕ → List ℕ → Verdict
verdict_on rule form bytes more = verdict rule form (is_first_of (whole_lines bytes)) (phase_so_far rule bytes) (bytes ++ more) (rest bytes ++ more)

-- lines that hold too little of the answer to FEAT aren't past it
held_never_past : (rule : ReplyRule) (form : ReplyForm) (bytes : List ℕ) → HoldsTooLittle rule form bytes → form ≡ Features → phase_so_far rule bytes ≢ Past
held_never_past rule form bytes held is = reply_never_past rule (whole_lines bytes) (rw is at held.unfinished)

one_line_more : (rule : ReplyRule) (form : ReplyForm) (ended : Bool) (bytes more : List ℕ) → HoldsTooLittle rule form bytes → OneLineMore rule form ended (whole_lines bytes) (rest bytes ++ more) (bytes ++ more) (listing_after rule form bytes more) (verdict_on rule form bytes more)
one_line_more rule form ended bytes more held = record {
  found =
      reply_in-append rule form ended (whole_lines bytes) ((rest bytes ++ more) ∷ []) held.unfinished
      ∙ ap (after_lines (whole_lines bytes)) (found_after-line rule form ended (whole_lines bytes) (bytes ++ more) (rest bytes ++ more) (first_code rule form bytes more held) (held_never_past rule form bytes held));
  all = rw (← append_assoc, joined-whole_lines bytes);
  first = refused_first rule form (whole_lines bytes) (phase_so_far rule bytes) (bytes ++ more) (rest bytes ++ more);
}

within_verdict : (rule : ReplyRule) (form : ReplyForm) (ended : Bool) (lines : List (List ℕ)) (line bytes : List ℕ) (listing : Bool) (v : Verdict) → OneLineMore rule form ended lines line bytes listing v → length bytes ≤ reply_limit → within (length bytes) ended (reply_in rule form ended (lines ++ line ∷ [])) ≡ outcome_by ended listing v bytes
within_verdict rule form ended lines line bytes listing Refused one fits =
    let alone : line ≡ bytes = rw (one.first refl) at one.all in
    rw (one.found, after_lines-NoReply lines line, alone, le-leb _ _ fits)
within_verdict rule form ended lines line bytes listing (Ends code) one fits = rw (one.found, after_lines-Reply lines line code, one.all, le-leb _ _ fits)
within_verdict rule form false lines line bytes listing GoesOn one fits = rw (one.found, after_lines-Unfinished lines, le-ltb _ _ fits)
within_verdict rule form true lines line bytes true GoesOn one fits = rw (one.found, after_lines-Reply lines line 211, one.all, le-leb _ _ fits)
within_verdict rule form true lines line bytes false GoesOn one fits = rw (one.found, after_lines-Unfinished lines, le-ltb _ _ fits)

too_large_verdict : (rule : ReplyRule) (form : ReplyForm) (lines : List (List ℕ)) (line bytes : List ℕ) (listing : Bool) (v : Verdict) → OneLineMore rule form false lines line bytes listing v → reply_limit < length bytes → within (length bytes) false (reply_in rule form false (lines ++ line ∷ [])) ≡ TooLarge
too_large_verdict rule form lines line bytes listing Refused one over =
    let alone : line ≡ bytes = rw (one.first refl) at one.all in
    rw (one.found, after_lines-NoReply lines line, alone, lt-leb _ _ over)
too_large_verdict rule form lines line bytes listing (Ends code) one over = rw (one.found, after_lines-Reply lines line code, one.all, lt-leb _ _ over)
too_large_verdict rule form lines line bytes listing GoesOn one over = rw (one.found, after_lines-Unfinished lines, lt-ltb _ _ over)

-- a whole line more: the verdict on it is the outcome, within the limit
pub line_more : (rule : ReplyRule) (form : ReplyForm) (bytes : List ℕ) → outcome rule form bytes false ≡ Waits → length bytes < reply_limit → outcome rule form (bytes ++ 10 ∷ []) false ≡ outcome_by false (listing_after rule form bytes (10 ∷ [])) (verdict_on rule form bytes (10 ∷ [])) (bytes ++ 10 ∷ [])
line_more rule form bytes waits below =
    let held = too_little rule form bytes waits in
    let fits : length (bytes ++ 10 ∷ []) ≤ reply_limit = rw (length-append bytes (10 ∷ [])) (omega (arith, below)) in
    outcome-open rule form (bytes ++ 10 ∷ [])
    ∙ rw (whole_lines-line_feed bytes [])
    (within_verdict rule form false (whole_lines bytes) (rest bytes ++ 10 ∷ []) (bytes ++ 10 ∷ []) _ _ (one_line_more rule form false bytes (10 ∷ []) held) fits)

-- past the limit nothing else counts
pub byte_too_many : (rule : ReplyRule) (form : ReplyForm) (bytes : List ℕ) (b : ℕ) → outcome rule form bytes false ≡ Waits → reply_limit ≤ length bytes → outcome rule form (bytes ++ b ∷ []) false ≡ TooLarge
byte_too_many rule form bytes b waits full =
    elim (is_line_feed b) as (λ t. is_line_feed b ≡ t → outcome rule form (bytes ++ b ∷ []) false ≡ TooLarge) [
      | true ↦ λ is.
          let ten : b ≡ 10 = eqb-true b 10 is in
          rw ten
          (outcome-open rule form (bytes ++ 10 ∷ [])
          ∙ rw (whole_lines-line_feed bytes [])
          (too_large_verdict rule form (whole_lines bytes) (rest bytes ++ 10 ∷ []) (bytes ++ 10 ∷ []) _ _ (one_line_more rule form false bytes (10 ∷ []) held) (over 10)))
      | false ↦ λ other. rw (outcome-open rule form (bytes ++ b ∷ []), whole_lines-other bytes b other, held.unfinished, lt-ltb _ _ (over b))
    ]
    refl
  where
    held : HoldsTooLittle rule form bytes
    held = too_little rule form bytes waits

    over : (c : ℕ) → reply_limit < length (bytes ++ c ∷ [])
    over c = rw (length-append bytes (c ∷ [])) (omega (arith, full))

-- the input ends after a whole line
pub ends_empty : (rule : ReplyRule) (form : ReplyForm) (bytes : List ℕ) → outcome rule form bytes false ≡ Waits → rest bytes ≡ [] → outcome rule form bytes true ≡ ended_by (is_listing form (phase_so_far rule bytes)) bytes
unfolding outcome
ends_empty rule form bytes waits empty =
    let held = too_little rule form bytes waits in
    rw (empty, reply_in-append rule form true (whole_lines bytes) [] held.unfinished)
    (by_lines (whole_lines bytes) (rw (empty, append-nil (joined (whole_lines bytes))) at (joined-whole_lines bytes)) held.fits)
  where
    by_list : (lines : List (List ℕ)) (listing : Bool) → joined lines ≡ bytes → length bytes ≤ reply_limit → within (length bytes) true (after_lines lines (cond listing (Reply [] 211) Unfinished)) ≡ ended_by listing bytes
    by_list lines true all fits = rw (after_lines-Reply lines [] 211, append-nil (joined lines), all, le-leb _ _ fits)
    by_list lines false all fits = rw (after_lines-Unfinished lines, le-ltb _ _ fits)

    by_lines : (lines : List (List ℕ)) → joined lines ≡ bytes → length bytes ≤ reply_limit → within (length bytes) true (after_lines lines (found_after rule form true lines [])) ≡ ended_by (is_listing form (phase_of rule lines)) bytes
    by_lines [] all fits = none form
      where
        none : (form : ReplyForm) → within (length bytes) true Unfinished ≡ ended_by (is_listing form InReply) bytes
        none Plain = rw (le-ltb _ _ fits)
        none System = rw (le-ltb _ _ fits)
        none Features = rw (le-ltb _ _ fits)
    by_lines (first ∷ lines) all fits = by_list (first ∷ lines) (is_listing form (phase_in rule first (first ∷ lines))) all fits

-- the input ends inside a line, which counts as one
pub ends_inside : (rule : ReplyRule) (form : ReplyForm) (bytes : List ℕ) → outcome rule form bytes false ≡ Waits → 0 < length (rest bytes) → outcome rule form bytes true ≡ outcome_by true (is_listing form (phase_after rule (phase_so_far rule bytes) bytes (rest bytes))) (verdict rule form (is_first_of (whole_lines bytes)) (phase_so_far rule bytes) bytes (rest bytes)) bytes
unfolding outcome
ends_inside rule form bytes waits inside =
    let held = too_little rule form bytes waits in
    let one : OneLineMore rule form true (whole_lines bytes) (rest bytes) bytes (is_listing form (phase_after rule (phase_so_far rule bytes) bytes (rest bytes))) (verdict rule form (is_first_of (whole_lines bytes)) (phase_so_far rule bytes) bytes (rest bytes)) = rw (append-nil (rest bytes), append-nil bytes) at (one_line_more rule form true bytes [] held) in
    rw (open_end (rest bytes) inside)
    (within_verdict rule form true (whole_lines bytes) (rest bytes) bytes _ _ one held.fits)
  where
    open_end : (r : List ℕ) → 0 < length r → last_line true r ≡ r ∷ []
    open_end [] none = absurd (omega arith)
    open_end (b ∷ r) some = refl

joined_length : (bytes : List ℕ) → length (joined (whole_lines bytes)) + length (rest bytes) ≡ length bytes
joined_length bytes = sym (length-append (joined (whole_lines bytes)) (rest bytes)) ∙ ap length (joined-whole_lines bytes)

-- a line begins where the lines so far end
pub start_of_line : (bytes : List ℕ) (start : ℕ) → start + length (rest bytes) ≡ length bytes → drop start bytes ≡ rest bytes
start_of_line bytes start split =
    let same : start ≡ length (joined (whole_lines bytes)) = omega (arith, joined_length bytes, split) in
    let seam : drop (length (joined (whole_lines bytes))) (joined (whole_lines bytes) ++ rest bytes) ≡ rest bytes = drop-append_seam (joined (whole_lines bytes)) (rest bytes) in
    rw same (rw (joined-whole_lines bytes) at seam)

-- a first line is the one that begins at 0
pub first_starts : (bytes : List ℕ) (start : ℕ) → start + length (rest bytes) ≡ length bytes → is_first_of (whole_lines bytes) ≡ nat_eq start 0
first_starts bytes start split = go (whole_lines bytes) refl (joined_length bytes)
  where
    go : (ls : List (List ℕ)) → whole_lines bytes ≡ ls → length (joined ls) + length (rest bytes) ≡ length bytes → is_first_of ls ≡ nat_eq start 0
    go [] is sum = let zero : start ≡ 0 = omega (arith, sum, split) in rw zero
    go (first ∷ ls) is sum =
        let some : 0 < length first = first_nonempty bytes first ls is in
        let above : start ≢ 0 = omega (arith, sum, split, some, length-append first (joined ls)) in
        sym (ne_eqb start 0 above)

-- no bytes are under way
pub nothing_under_way : (rule : ReplyRule) → IsUnderWay rule [] 0 InReply
unfolding outcome
nothing_under_way rule = record { split = refl; phase_is = refl; waits = refl }

-- a line that a dash doesn't end, a space doesn't either
ends_by_space : (rule : ReplyRule) (reply line : List ℕ) → ends rule true reply line ≡ false → ends rule false reply line ≡ false
ends_by_space Strict reply line is = is
ends_by_space Lenient reply line is = cases (nat_le 4 (length line) && begins_with_digits line) (nat_eq (slice_index line 3) 32) is
  where
    dash : Bool
    dash = nat_eq (slice_index line 3) 45

    same : Bool
    same = pointwise nat_eq (take 3 line) (take 3 reply)

    cases : (shaped space : Bool) → (shaped && (space || (true && dash && same))) ≡ false → (shaped && (space || (false && dash && same))) ≡ false
    cases false space g = refl
    cases true true g = g
    cases true false g = refl

-- a line that ends a list of features ends any reply
four : (a b c d : ℕ) (line : List ℕ) → is_last (a ∷ b ∷ c ∷ d ∷ line) ≡ true → (a ≡ 50) × (b ≡ 49) × (c ≡ 49) × (d ≡ 32)
four a b c d line is =
    let one = and_parts _ _ is in
    let two = and_parts _ _ one.1 in
    let three = and_parts _ _ two.1 in
    let last = and_parts _ _ three.1 in
    (sym (eqb-true 50 a one.0), sym (eqb-true 49 b two.0), sym (eqb-true 49 c three.0), sym (eqb-true 32 d last.0))

closes_any : (dash : Bool) (reply line : List ℕ) → ends Lenient dash reply line ≡ false → is_last line ≡ false
closes_any dash reply (a ∷ b ∷ c ∷ d ∷ line) is =
    elim (is_last (a ∷ b ∷ c ∷ d ∷ line)) as (λ t. is_last (a ∷ b ∷ c ∷ d ∷ line) ≡ t → t ≡ false) [
      | true ↦ λ e.
          let parts = four a b c d line e in
          let shown : 4 ≤ length (a ∷ b ∷ c ∷ d ∷ line) = omega arith in
          let digits : 3 ≤ length (a ∷ b ∷ c ∷ d ∷ line) = omega arith in
          let clash : true ≡ false = rw (le-leb _ _ shown, le-leb _ _ digits, parts.0, parts.1, parts.2, parts.3) at is in
          clash
      | false ↦ λ e. refl
    ]
    refl
closes_any dash reply (a ∷ b ∷ c ∷ []) is = rw (and_right (nat_eq 49 c) false refl, and_right (nat_eq 49 b) false refl) (and_right (nat_eq 50 a) false refl)
closes_any dash reply (a ∷ b ∷ []) is = rw (and_right (nat_eq 49 b) false refl) (and_right (nat_eq 50 a) false refl)
closes_any dash reply (a ∷ []) is = and_right (nat_eq 50 a) false refl
closes_any dash reply [] is = refl

-- a strict reply has no list behind it: a line that ends it has a space where one that opens a list has a dash
pub ends_no_list : (first line : List ℕ) → ends Strict true first line ≡ true → opens_list line ≡ false
ends_no_list first (a ∷ b ∷ c ∷ d ∷ line) is =
    let all : List ℕ = a ∷ b ∷ c ∷ d ∷ line in
    let space : Bool = nat_eq d 32 in
    let same : Bool = pointwise nat_eq (take 3 all) (take 3 first) in
    let shaped : Bool = nat_le 4 (length all) && begins_with_digits all in
    let both = and_parts (shaped && space) same is in
    let at : d ≡ 32 = eqb-true d 32 (and_parts shaped space both.0).1 in
    rw at (ending (nat_eq 50 a) (nat_eq 49 b) (nat_eq 49 c))
  where
    ending : (x y z : Bool) → (x && (y && (z && false))) ≡ false
    ending true true true = refl
    ending true true false = refl
    ending true false z = refl
    ending false y z = refl
ends_no_list first (a ∷ b ∷ c ∷ []) is = let clash : false ≡ true = is in cc
ends_no_list first (a ∷ b ∷ []) is = let clash : false ≡ true = is in cc
ends_no_list first (a ∷ []) is = let clash : false ≡ true = is in cc
ends_no_list first [] is = let clash : false ≡ true = is in cc

never_lists : (first : List ℕ) (lines : List (List ℕ)) → phase_in Strict first lines ≡ InList → ⊥
never_lists first [] is = let clash : InReply ≡ InList = is in cc
never_lists first (line ∷ lines) is =
    elim (ends Strict true first line) as (λ t. ends Strict true first line ≡ t → cond t (cond (opens_list line) InList Past) (phase_in Strict first lines) ≡ InList → ⊥) [
      | true ↦ λ e f. past (opens_list line) (ends_no_list first line e) f
      | false ↦ λ e f. never_lists first lines f
    ]
    refl is
  where
    past : (b : Bool) → b ≡ false → cond b InList Past ≡ InList → ⊥
    past true none f = let clash : true ≡ false = none in cc
    past false none f = let clash : Past ≡ InList = f in cc

never_listed : (bytes : List ℕ) → phase_so_far Strict bytes ≡ InList → ⊥
never_listed bytes is = go (whole_lines bytes) is
  where
    go : (lines : List (List ℕ)) → phase_of Strict lines ≡ InList → ⊥
    go [] f = let clash : InReply ≡ InList = f in cc
    go (first ∷ lines) f = never_lists first (first ∷ lines) f

-- a line that goes on under some form ends no reply, or it opens a list
goes_on_as : (rule : ReplyRule) (form : ReplyForm) (phase : Phase) (reply line : List ℕ) → line_verdict rule form phase reply line ≡ GoesOn → (is_listing form phase ≡ true) × (is_last line ≡ false) ⊎ (ends rule (by_dash form) reply line ≡ false) ⊎ (lists form && in_reply phase && opens_list line ≡ true)
goes_on_as rule form phase reply line is =
    elim (is_listing form phase) as (λ t. cond t (cond (is_last line) (Ends 211) GoesOn) (cond (ends rule (by_dash form) reply line) (cond (lists form && in_reply phase && opens_list line) GoesOn (Ends (code_at_start line))) GoesOn) ≡ GoesOn → (t ≡ true) × (is_last line ≡ false) ⊎ (ends rule (by_dash form) reply line ≡ false) ⊎ (lists form && in_reply phase && opens_list line ≡ true)) [
      | true ↦ λ e. inl (refl, elim (is_last line) as (λ u. cond u (Ends 211) GoesOn ≡ GoesOn → u ≡ false) [ true ↦ λ f. let clash : Ends 211 ≡ GoesOn = f in cc | false ↦ λ f. refl ] e)
      | false ↦ λ e. inr (elim (ends rule (by_dash form) reply line) as (λ u. cond u (cond (lists form && in_reply phase && opens_list line) GoesOn (Ends (code_at_start line))) GoesOn ≡ GoesOn → (u ≡ false) ⊎ (lists form && in_reply phase && opens_list line ≡ true)) [
        | true ↦ λ f. inr (elim (lists form && in_reply phase && opens_list line) as (λ w. cond w GoesOn (Ends (code_at_start line)) ≡ GoesOn → w ≡ true) [ true ↦ λ h. refl | false ↦ λ h. let clash : Ends (code_at_start line) ≡ GoesOn = h in cc ] f)
        | false ↦ λ f. inl refl
      ] e)
    ]
    is

-- lines that end no reply by a dash end none by a space
no_space_ends : (rule : ReplyRule) (first : List ℕ) (lines : List (List ℕ)) → phase_in rule first lines ≡ InReply → to_end rule Plain false first lines ≡ Unfinished
no_space_ends rule first [] is = refl
no_space_ends rule first (line ∷ lines) is =
    elim (ends rule true first line) as (λ t. ends rule true first line ≡ t → cond t (cond (opens_list line) InList Past) (phase_in rule first lines) ≡ InReply → to_end rule Plain false first (line ∷ lines) ≡ Unfinished) [
      | true ↦ λ e f. absurd (never (opens_list line) f)
      | false ↦ λ e f. rw (ends_by_space rule first line e, no_space_ends rule first lines f)
    ]
    refl is
  where
    never : (t : Bool) → cond t InList Past ≡ InReply → ⊥
    never true f = let clash : InList ≡ InReply = f in cc
    never false f = let clash : Past ≡ InReply = f in cc

plain_waits : (rule : ReplyRule) (bytes : List ℕ) → outcome rule Features bytes false ≡ Waits → phase_so_far rule bytes ≡ InReply → outcome rule Plain bytes false ≡ Waits
plain_waits rule bytes waits phase =
    let held = too_little rule Features bytes waits in
    says_nothing rule Plain bytes (go (whole_lines bytes) held.unfinished phase) held.fits
  where
    go : (lines : List (List ℕ)) → reply_in rule Features false lines ≡ Unfinished → phase_of rule lines ≡ InReply → reply_in rule Plain false lines ≡ Unfinished
    go [] open_end is = refl
    go (first ∷ lines) open_end is = rw ((opened rule Features first lines open_end).0) (no_space_ends rule first (first ∷ lines) is)

no_list : (form : ReplyForm) (other : Bool) → (lists form && false && other) ≡ true → ⊥
no_list Plain other is = cc
no_list System other is = cc
no_list Features other is = cc

not_listing : (form : ReplyForm) → (lists form && false) ≡ true → ⊥
not_listing Plain is = cc
not_listing System is = cc
not_listing Features is = cc

-- what some form doesn't end goes on under the form of the phase that it reaches
record StillWaits (rule : ReplyRule) (phase : Phase) (bytes reply line : List ℕ) : Type 0 where
  pub before : outcome rule (waiting_form (phase_after rule phase reply line)) bytes false ≡ Waits
  pub goes_on : line_verdict rule (waiting_form (phase_after rule phase reply line)) phase reply line ≡ GoesOn

still_waits : (rule : ReplyRule) (form : ReplyForm) (phase : Phase) (bytes reply line : List ℕ) → outcome rule (waiting_form phase) bytes false ≡ Waits → phase_so_far rule bytes ≡ phase → line_verdict rule form phase reply line ≡ GoesOn → StillWaits rule phase bytes reply line
still_waits rule form InReply bytes reply line waits phase_is is =
    elim (ends rule true reply line) as (λ t. ends rule true reply line ≡ t → StillWaits rule InReply bytes reply line) [
      | true ↦ λ e. elim (opens_list line) as (λ u. opens_list line ≡ u → StillWaits rule InReply bytes reply line) [
        | true ↦ λ o. record { before = rw (e, o) waits; goes_on = rw (e, o) (rw e refl) }
        | false ↦ λ o. record { before = rw (e, o) (plain_waits rule bytes waits phase_is); goes_on = rw (e, o) (rw (space e o) refl) }
      ]
          refl
      | false ↦ λ e. record { before = rw e waits; goes_on = rw e (rw e refl) }
    ]
    refl
  where
    space : ends rule true reply line ≡ true → opens_list line ≡ false → ends rule false reply line ≡ false
    space e o = go (goes_on_as rule form InReply reply line is)
      where
        by_form : (f : ReplyForm) → ends rule (by_dash f) reply line ≡ false → ends rule false reply line ≡ false
        by_form Plain h = h
        by_form System h = let clash : true ≡ false = sym e ∙ h in cc
        by_form Features h = let clash : true ≡ false = sym e ∙ h in cc

        opens_none : (f : ReplyForm) → (lists f && true && opens_list line) ≡ true → ⊥
        opens_none Plain h = cc
        opens_none System h = cc
        opens_none Features h = let clash : false ≡ true = sym o ∙ h in cc

        go : (is_listing form InReply ≡ true) × (is_last line ≡ false) ⊎ (ends rule (by_dash form) reply line ≡ false) ⊎ (lists form && in_reply InReply && opens_list line ≡ true) → ends rule false reply line ≡ false
        go (inl both) = absurd (not_listing form both.0)
        go (inr (inl none)) = by_form form none
        go (inr (inr opens)) = absurd (opens_none form opens)
still_waits Strict form InList bytes reply line waits phase_is is = absurd (never_listed bytes phase_is)
still_waits Lenient form InList bytes reply line waits phase_is is = record {
  before = waits;
  goes_on = rw (go (goes_on_as Lenient form InList reply line is)) refl;
}
  where
    go : (is_listing form InList ≡ true) × (is_last line ≡ false) ⊎ (ends Lenient (by_dash form) reply line ≡ false) ⊎ (lists form && in_reply InList && opens_list line ≡ true) → is_last line ≡ false
    go (inl both) = both.1
    go (inr (inl none)) = closes_any (by_dash form) reply line none
    go (inr (inr opens)) = absurd (no_list form (opens_list line) opens)
still_waits rule form Past bytes reply line waits phase_is is = record {
  before = waits;
  goes_on = rw (go (goes_on_as rule form Past reply line is)) refl;
}
  where
    by_form : (f : ReplyForm) → ends rule (by_dash f) reply line ≡ false → ends rule false reply line ≡ false
    by_form Plain h = h
    by_form System h = ends_by_space rule reply line h
    by_form Features h = ends_by_space rule reply line h

    go : (is_listing form Past ≡ true) × (is_last line ≡ false) ⊎ (ends rule (by_dash form) reply line ≡ false) ⊎ (lists form && in_reply Past && opens_list line ≡ true) → ends rule false reply line ≡ false
    go (inl both) = absurd (not_listing form both.0)
    go (inr (inl none)) = by_form form none
    go (inr (inr opens)) = absurd (no_list form (opens_list line) opens)

-- a verdict that lets a line go on
record LetsOn (rule : ReplyRule) (form : ReplyForm) (first : Bool) (phase : Phase) (reply line : List ℕ) : Type 0 where
  pub opened : (first && not (opens rule line)) ≡ false
  pub goes_on : line_verdict rule form phase reply line ≡ GoesOn

lets_on : (rule : ReplyRule) (form : ReplyForm) (first : Bool) (phase : Phase) (reply line : List ℕ) → verdict rule form first phase reply line ≡ GoesOn → LetsOn rule form first phase reply line
lets_on rule form first phase reply line is =
    elim (first && not (opens rule line)) as (λ t. (first && not (opens rule line)) ≡ t → cond t Refused (line_verdict rule form phase reply line) ≡ GoesOn → LetsOn rule form first phase reply line) [
      | true ↦ λ e f. let clash : Refused ≡ GoesOn = f in cc
      | false ↦ λ e f. record { opened = e; goes_on = f }
    ]
    refl is

-- a line more leaves a reply under way, or none
pub line_leaves : (rule : ReplyRule) (form : ReplyForm) (bytes : List ℕ) (start : ℕ) (phase : Phase) (listing : Bool) (v : Verdict) → IsUnderWay rule bytes start phase → length bytes < reply_limit → verdict_on rule form bytes (10 ∷ []) ≡ v → (kept : List ℕ) → TakesAll (Ok (outcome_by false listing v (bytes ++ 10 ∷ []))) (bytes ++ 10 ∷ []) kept → IsUnderWay rule kept (length kept) (phase_left false v (phase_after rule phase (bytes ++ 10 ∷ []) (rest bytes ++ 10 ∷ [])))
line_leaves rule form bytes start phase listing Refused under below is kept all = rw all.1 (nothing_under_way rule)
line_leaves rule form bytes start phase listing (Ends code) under below is kept all = rw all.1 (nothing_under_way rule)
line_leaves rule form bytes start phase listing GoesOn under below is kept all =
    let reply = bytes ++ 10 ∷ [] in
    let line = rest bytes ++ 10 ∷ [] in
    let on = lets_on rule form (is_first_of (whole_lines bytes)) (phase_so_far rule bytes) reply line is in
    let still = still_waits rule form phase bytes reply line under.waits (sym under.phase_is) (rw (sym under.phase_is) at on.goes_on) in
    let next = waiting_form (phase_after rule phase reply line) in
    let goes_on : verdict_on rule next bytes (10 ∷ []) ≡ GoesOn = rw (on.opened, ← under.phase_is) still.goes_on in
    let waits : outcome rule next reply false ≡ Waits = line_more rule next bytes still.before below ∙ ap (λ v. outcome_by false (listing_after rule next bytes (10 ∷ [])) v reply) goes_on in
    let held = too_little rule (waiting_form phase) bytes under.waits in
    let phases : phase_after rule phase reply line ≡ phase_of rule (whole_lines reply) =
    rw (whole_lines-line_feed bytes [], phase_of-snoc rule (whole_lines bytes) line, ← under.phase_is)
    (phase_after-code rule phase (first_of (whole_lines bytes) line) reply line (first_code rule (waiting_form phase) bytes (10 ∷ []) held)) in
    rw all (record { split = rw (rest-closed bytes) (add-zero _); phase_is = phases; waits = waits })

-- a byte that closes no line leaves the reply under way
pub byte_leaves : (rule : ReplyRule) (bytes : List ℕ) (start : ℕ) (phase : Phase) (b : ℕ) → IsUnderWay rule bytes start phase → is_line_feed b ≡ false → length bytes < reply_limit → IsUnderWay rule (bytes ++ b ∷ []) start phase
byte_leaves rule bytes start phase b under other below = record {
  split = rw (rest-other bytes b other, length-append (rest bytes) (b ∷ []), length-append bytes (b ∷ [])) (omega (arith, under.split));
  phase_is = rw (whole_lines-other bytes b other) under.phase_is;
  waits = waits_on rule (waiting_form phase) bytes b under.waits other below;
}

-- the line that an LF closes, and whether it is the first
pub closed_line : (bytes : List ℕ) (start : ℕ) → start + length (rest bytes) ≡ length bytes → drop start (bytes ++ 10 ∷ []) ≡ rest bytes ++ 10 ∷ []
closed_line bytes start split = drop-append-le start bytes (10 ∷ []) (omega (arith, split)) ∙ ap (λ r. r ++ 10 ∷ []) (start_of_line bytes start split)

-- the verdict and the phase of the code are those of the definitions
pub judged_line : (rule : ReplyRule) (form : ReplyForm) (bytes : List ℕ) (start : ℕ) (phase : Phase) → IsUnderWay rule bytes start phase → verdict rule form (nat_eq start 0) phase (bytes ++ 10 ∷ []) (drop start (bytes ++ 10 ∷ [])) ≡ verdict_on rule form bytes (10 ∷ [])
judged_line rule form bytes start phase under = rw (closed_line bytes start under.split, first_starts bytes start under.split, ← under.phase_is) refl

pub phased_line : (rule : ReplyRule) (bytes : List ℕ) (start : ℕ) (phase : Phase) → IsUnderWay rule bytes start phase → phase_after rule phase (bytes ++ 10 ∷ []) (drop start (bytes ++ 10 ∷ [])) ≡ phase_after rule phase (bytes ++ 10 ∷ []) (rest bytes ++ 10 ∷ [])
phased_line rule bytes start phase under = rw (closed_line bytes start under.split) refl

pub judged_end : (rule : ReplyRule) (form : ReplyForm) (bytes : List ℕ) (start : ℕ) (phase : Phase) → IsUnderWay rule bytes start phase → verdict rule form (nat_eq start 0) phase bytes (drop start bytes) ≡ verdict rule form (is_first_of (whole_lines bytes)) (phase_so_far rule bytes) bytes (rest bytes)
judged_end rule form bytes start phase under = rw (start_of_line bytes start under.split, first_starts bytes start under.split, ← under.phase_is) refl

pub phased_end : (rule : ReplyRule) (bytes : List ℕ) (start : ℕ) (phase : Phase) → IsUnderWay rule bytes start phase → phase_after rule phase bytes (drop start bytes) ≡ phase_after rule (phase_so_far rule bytes) bytes (rest bytes)
phased_end rule bytes start phase under = rw (start_of_line bytes start under.split, ← under.phase_is) refl

-- the end of the input leaves nothing
pub end_leaves : (listing : Bool) (v : Verdict) (bytes kept : List ℕ) → TakesAll (Ok (outcome_by true listing v bytes)) bytes kept → kept ≡ []
end_leaves listing Refused bytes kept all = all.1
end_leaves listing (Ends code) bytes kept all = all.1
end_leaves true GoesOn bytes kept all = all.1
end_leaves false GoesOn bytes kept all = all

pub end_phase : (v : Verdict) (phase : Phase) → phase_left true v phase ≡ InReply
end_phase Refused phase = refl
end_phase (Ends code) phase = refl
end_phase GoesOn phase = refl

pub empty_rest : (bytes : List ℕ) (start : ℕ) → start + length (rest bytes) ≡ length bytes → start ≡ length bytes → rest bytes ≡ []
empty_rest bytes start split all = go (rest bytes) (omega (arith, split, all))
  where
    go : (r : List ℕ) → length r ≡ 0 → r ≡ []
    go [] none = refl
    go (b ∷ r) none = absurd (omega arith)

pub open_rest : (bytes : List ℕ) (start : ℕ) → start + length (rest bytes) ≡ length bytes → start ≢ length bytes → 0 < length (rest bytes)
open_rest bytes start split some = omega (arith, split, some)

pub end_settled : (listing : Bool) (v : Verdict) (bytes : List ℕ) → outcome_by true listing v bytes ≡ Waits → ⊥
end_settled listing Refused bytes is = let clash : Bad bytes ≡ Waits = is in cc
end_settled listing (Ends code) bytes is = let clash : Whole bytes code ≡ Waits = is in cc
end_settled true GoesOn bytes is = let clash : Whole bytes 211 ≡ Waits = is in cc
end_settled false GoesOn bytes is = let clash : Ended ≡ Waits = is in cc

-- One line at a time

pub rest_all : (bytes : List ℕ) → whole_lines bytes ≡ [] → rest bytes ≡ bytes
rest_all bytes none = rw none at (joined-whole_lines bytes)

-- bytes of a reply under way that hold no whole line say nothing of a line either
pub line_waits_on : (rule : ReplyRule) (form : ReplyForm) (bytes : List ℕ) → outcome rule form bytes false ≡ Waits → whole_lines bytes ≡ [] → line_outcome bytes false ≡ Waits
unfolding line_outcome
line_waits_on rule form bytes waits none = rw (lines-open bytes, none, le-ltb _ _ (too_little rule form bytes waits).fits)

-- a byte that closes no line
pub line_waits : (bytes : List ℕ) (b : ℕ) → whole_lines bytes ≡ [] → is_line_feed b ≡ false → length bytes < reply_limit → line_outcome (bytes ++ b ∷ []) false ≡ Waits
unfolding line_outcome
line_waits bytes b none other below =
    let short : length (bytes ++ b ∷ []) ≤ reply_limit = rw (length-append bytes (b ∷ [])) (omega (arith, below)) in
    rw (lines-open (bytes ++ b ∷ []), whole_lines-other bytes b other, none, le-ltb _ _ short)

-- the LF that closes it
pub line_closes : (bytes : List ℕ) → whole_lines bytes ≡ [] → length bytes < reply_limit → line_outcome (bytes ++ 10 ∷ []) false ≡ Whole (bytes ++ 10 ∷ []) 0
unfolding line_outcome
line_closes bytes none below =
    let short : length (bytes ++ 10 ∷ []) ≤ reply_limit = rw (length-append bytes (10 ∷ [])) (omega (arith, below)) in
    rw (lines-open (bytes ++ 10 ∷ []), whole_lines-line_feed bytes [], none, rest_all bytes none, le-leb _ _ short)

-- past the limit
pub line_too_long : (bytes : List ℕ) (b : ℕ) → whole_lines bytes ≡ [] → reply_limit ≤ length bytes → line_outcome (bytes ++ b ∷ []) false ≡ TooLarge
unfolding line_outcome
line_too_long bytes b none full =
    elim (is_line_feed b) as (λ t. is_line_feed b ≡ t → line_outcome (bytes ++ b ∷ []) false ≡ TooLarge) [
      | true ↦ λ is.
          let ten : b ≡ 10 = eqb-true b 10 is in
          rw (ten, lines-open (bytes ++ 10 ∷ []), whole_lines-line_feed bytes [], none, rest_all bytes none, lt-leb _ _ (over 10))
      | false ↦ λ other. rw (lines-open (bytes ++ b ∷ []), whole_lines-other bytes b other, none, lt-ltb _ _ (over b))
    ]
    refl
  where
    over : (c : ℕ) → reply_limit < length (bytes ++ c ∷ [])
    over c = rw (length-append bytes (c ∷ [])) (omega (arith, full))

-- the end
pub line_ends : (bytes : List ℕ) → whole_lines bytes ≡ [] → length bytes ≤ reply_limit → 0 < length bytes → line_outcome bytes true ≡ Whole bytes 0
unfolding line_outcome
line_ends bytes none fits some = rw (none, rest_all bytes none, open_end bytes some, le-leb _ _ fits)
  where
    open_end : (r : List ℕ) → 0 < length r → last_line true r ≡ r ∷ []
    open_end [] nothing = absurd (omega arith)
    open_end (b ∷ r) some = refl

pub line_nothing : line_outcome [] true ≡ Ended
unfolding line_outcome
line_nothing = refl

pub no_line_yet : (bytes : List ℕ) (b : ℕ) → whole_lines bytes ≡ [] → is_line_feed b ≡ false → whole_lines (bytes ++ b ∷ []) ≡ []
no_line_yet bytes b none other = whole_lines-other bytes b other ∙ none

-- no whole line is kept exactly where the line under way begins at 0
pub no_line_starts : (bytes : List ℕ) (start : ℕ) → start + length (rest bytes) ≡ length bytes → whole_lines bytes ≡ [] → start ≡ 0
no_line_starts bytes start split none = let all : length (rest bytes) ≡ length bytes = ap length (rest_all bytes none) in omega (arith, split, all)

pub starts_no_line : (bytes : List ℕ) (start : ℕ) → start + length (rest bytes) ≡ length bytes → start ≡ 0 → whole_lines bytes ≡ []
starts_no_line bytes start split zero = go (whole_lines bytes) refl (first_starts bytes start split ∙ ap (λ s. nat_eq s 0) zero)
  where
    go : (ls : List (List ℕ)) → whole_lines bytes ≡ ls → is_first_of ls ≡ true → whole_lines bytes ≡ []
    go [] is first = is
    go (l ∷ ls) is first = let clash : false ≡ true = first in cc

-- A piece: what holds after each byte that closes no line holds after all of them

module _ (b : ℕ) (front : List ℕ) (bytes : List ℕ) where
  front_next : bytes ++ b ∷ front ≡ (bytes ++ b ∷ []) ++ front
  front_next = sym (append_assoc bytes (b ∷ []) front)

  front_fits : (limit : ℕ) → length bytes + length (b ∷ front) ≤ limit → length (bytes ++ b ∷ []) + length front ≤ limit
  front_fits limit fits = rw (length-append bytes (b ∷ [])) (omega (arith, fits))

pub front_waits : (rule : ReplyRule) (form : ReplyForm) (bytes front : List ℕ) → outcome rule form bytes false ≡ Waits → has_line_feed front ≡ false → length bytes + length front ≤ reply_limit → outcome rule form (bytes ++ front) false ≡ Waits
front_waits rule form bytes [] waits none fits = rw (append-nil bytes) waits
front_waits rule form bytes (b ∷ front) waits none fits =
    let parts = or_parts (is_line_feed b) (has_line_feed front) none in
    rw (front_next b front bytes) (front_waits rule form (bytes ++ b ∷ []) front (waits_on rule form bytes b waits parts.0 (omega (arith, fits))) parts.1 (front_fits b front bytes reply_limit fits))

pub front_leaves : (rule : ReplyRule) (bytes front : List ℕ) (start : ℕ) (phase : Phase) → IsUnderWay rule bytes start phase → has_line_feed front ≡ false → length bytes + length front ≤ reply_limit → IsUnderWay rule (bytes ++ front) start phase
front_leaves rule bytes [] start phase under none fits = rw (append-nil bytes) under
front_leaves rule bytes (b ∷ front) start phase under none fits =
    let parts = or_parts (is_line_feed b) (has_line_feed front) none in
    rw (front_next b front bytes) (front_leaves rule (bytes ++ b ∷ []) front start phase (byte_leaves rule bytes start phase b under parts.0 (omega (arith, fits))) parts.1 (front_fits b front bytes reply_limit fits))

pub front_no_line : (bytes front : List ℕ) → whole_lines bytes ≡ [] → has_line_feed front ≡ false → whole_lines (bytes ++ front) ≡ []
front_no_line bytes [] no_line none = rw (append-nil bytes) no_line
front_no_line bytes (b ∷ front) no_line none =
    let parts = or_parts (is_line_feed b) (has_line_feed front) none in
    rw (front_next b front bytes) (front_no_line (bytes ++ b ∷ []) front (no_line_yet bytes b no_line parts.0) parts.1)
