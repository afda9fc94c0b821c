-- The facts of a text, piece by piece.
use Rattle.std.proofs.Common.{◌≡◌, ℕ, suc, ◌+◌, ◌-◌, ◌<◌, ◌≤◌, Bool, true, false, cond, eqb, List, [], ◌∷◌, length, take, drop, get_or, refl, sym, ◌∙◌, ap, arith, inl, inr}
use Rattle.std.specs.Prelude.{not, Result, Ok, Err, Some, None, ◌⊎◌}
use Rattle.std.specs.List.{position_or_len, suffix_len, slice_split, onto_first, after_last, filter_map, before_first, after_first}
use Rattle.std.proofs.lemmas.List.{take_all}
use Rattle.std.proofs.lemmas.Bool.{cases_lt}
use Rattle.std.proofs.lemmas.List.Sums.{suffix_len_is}
use Rattle.std.proofs.lemmas.List.Splits.{slice_split_first}
use Rattle.ftp_list.specs.declared.error.ParseError.{ParseError}
use Rattle.ftp_list.specs.Entry.{Entry}
use Rattle.ftp_list.specs.Places.{holds, before, behind}
use Rattle.ftp_list.specs.ResultSteps.{◌>>=◌}
use Rattle.ftp_list.specs.Facts.{Fact, fact_in, facts, with_fact, with_facts, with_piece}

abbrev semicolon : ℕ → Bool
semicolon c = eqb c 59

whole_step : (b : Bool) (n k x : ℕ) (xs : List ℕ) (rest : List (List ℕ)) → cond (not b) (1 + n) 0 ≡ suc k → (n ≡ k → rest ≡ xs ∷ []) → cond b ([] ∷ rest) (onto_first x rest) ≡ (x ∷ xs) ∷ []
whole_step true n k x xs rest e h = absurd (omega arith)
whole_step false n k x xs rest e h = rw (h (omega arith)) refl

-- without a semicolon the text is the one piece
pub one_piece : (text : List ℕ) → position_or_len semicolon text ≡ length text → slice_split semicolon text ≡ text ∷ []
one_piece [] e = refl
one_piece (x ∷ xs) e =
    whole_step (semicolon x) (position_or_len semicolon xs) (length xs) x xs (slice_split semicolon xs) e (one_piece xs)

one_fact : (b : Bool) (fact : Fact) (entry : Entry) (others : List Fact) (r : Result Entry ParseError) → r ≡ with_fact entry fact → (cond b r (Ok entry) >>= λ changed. with_facts changed others) ≡ with_facts entry (cond b (fact ∷ others) others)
one_fact true fact entry others r e = ap (λ (s : Result Entry ParseError). s >>= λ changed. with_facts changed others) e
one_fact false fact entry others r e = refl

onto : (b : Bool) (fact : Fact) (pieces : List (List ℕ)) (piece : List ℕ) → fact_in piece ≡ cond b (Some fact) None → filter_map fact_in (piece ∷ pieces) ≡ cond b (fact ∷ filter_map fact_in pieces) (filter_map fact_in pieces)
onto true fact pieces piece e = rw e refl
onto false fact pieces piece e = rw e refl

-- the first piece, then the others
pub first_piece : (entry : Entry) (piece : List ℕ) (pieces : List (List ℕ)) → with_facts entry (filter_map fact_in (piece ∷ pieces)) ≡ (with_piece entry piece >>= λ changed. with_facts changed (filter_map fact_in pieces))
first_piece entry piece pieces =
    let fact : Fact = record { key = before (61 ∷ []) piece; value = before (61 ∷ []) (behind (61 ∷ []) piece) } in
    ap (with_facts entry) (onto (holds (61 ∷ []) piece) fact pieces piece refl)
    ∙ sym (one_fact (holds (61 ∷ []) piece) fact entry (filter_map fact_in pieces) (with_fact entry fact) refl)

bind_ok : (r : Result Entry ParseError) → (r >>= λ changed. Ok changed) ≡ r
bind_ok (Ok e) = refl
bind_ok (Err f) = refl

-- at the last piece
pub facts_last : (entry : Entry) (text : List ℕ) → position_or_len semicolon text ≡ length text → with_facts entry (facts text) ≡ with_piece entry text
facts_last entry text e =
    ap (λ (pieces : List (List ℕ)). with_facts entry (filter_map fact_in pieces)) (one_piece text e)
    ∙ first_piece entry text [] ∙ bind_ok (with_piece entry text)

-- before it
pub facts_more : (entry : Entry) (text : List ℕ) → position_or_len semicolon text < length text → with_facts entry (facts text) ≡ (with_piece entry (take (position_or_len semicolon text) text) >>= λ changed. with_facts changed (facts (drop (position_or_len semicolon text + 1) text)))
facts_more entry text lt =
    ap (λ (pieces : List (List ℕ)). with_facts entry (filter_map fact_in pieces)) (slice_split_first semicolon text 0 lt)
    ∙ first_piece entry (before_first semicolon text) (slice_split semicolon (after_first semicolon text))

fault_at : (entry : Entry) (text : List ℕ) (fault : ParseError) → (with_piece entry (take (position_or_len semicolon text) text) ≡ Err fault) → (position_or_len semicolon text < length text) ⊎ (length text ≤ position_or_len semicolon text) → position_or_len semicolon text ≤ length text → with_facts entry (facts text) ≡ Err fault
fault_at entry text fault e (inl lt) le =
    facts_more entry text lt ∙ ap (λ (r : Result Entry ParseError). r >>= λ changed. with_facts changed (facts (drop (position_or_len semicolon text + 1) text))) e
fault_at entry text fault e (inr ge) le =
    let last : position_or_len semicolon text ≡ length text = omega arith in
    let whole : take (position_or_len semicolon text) text ≡ text = take_all (position_or_len semicolon text) text ge in
    facts_last entry text last ∙ ap (with_piece entry) (sym whole) ∙ e

-- an error of a piece is the answer
pub facts_fault : (entry : Entry) (text : List ℕ) (fault : ParseError) → (with_piece entry (take (position_or_len semicolon text) text) ≡ Err fault) → position_or_len semicolon text ≤ length text → with_facts entry (facts text) ≡ Err fault
facts_fault entry text fault e le = fault_at entry text fault e (cases_lt (position_or_len semicolon text) (length text)) le

-- what stands behind the last semicolon
pub last_piece_is : (text : List ℕ) (n : ℕ) → n ≤ length text → ((k : ℕ) → n ≤ k → k < length text → not (semicolon (get_or text k 0)) ≡ true) → (0 < n → not (semicolon (get_or text (n - 1) 0)) ≡ false) → after_last semicolon text ≡ drop n text
last_piece_is text n l h stop =
    let size : suffix_len (λ x. not (semicolon x)) text ≡ length text - n = suffix_len_is (λ x. not (semicolon x)) text n 0 l h stop in
    let place : length text - suffix_len (λ x. not (semicolon x)) text ≡ n = omega arith in
    ap (λ k. drop k text) place

-- a semicolon stops the search
pub at_semicolon : (text : List ℕ) (i c : ℕ) → get_or text i 0 ≡ c → c ≡ 59 → not (semicolon (get_or text i 0)) ≡ false
at_semicolon text i c e f = ap (λ x. not (semicolon x)) (e ∙ f)
