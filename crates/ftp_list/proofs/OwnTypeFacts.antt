-- The types of a system's own, piece by piece.
use Rattle.std.proofs.Common.{◌≡◌, ℕ, ◌+◌, ◌<◌, ◌≤◌, Bool, true, false, cond, eqb, List, [], ◌∷◌, length, take, drop, refl, sym, ◌∙◌, ap, arith, inl, inr}
use Rattle.std.specs.Prelude.{Result, Ok, Err, Some, None, Option, ◌⊎◌}
use Rattle.std.specs.List.{position_or_len, slice_split, filter_map, cons_option, fold, before_first, after_first}
use Rattle.std.proofs.lemmas.List.{take_all}
use Rattle.std.proofs.lemmas.Bool.{cases_lt}
use Rattle.std.proofs.lemmas.List.Splits.{slice_split_first}
use Rattle.ftp_list.specs.declared.error.ParseError.{ParseError}
use Rattle.ftp_list.specs.Entry.{Entry}
use Rattle.ftp_list.specs.Facts.{Fact, fact_in, with_fact, with_facts, with_piece}
use Rattle.ftp_list.specs.Places.{holds, before, behind}
use Rattle.ftp_list.specs.OwnTypes.{pieces, is_own_type, other_fact_in, other_facts, with_other_piece}
use Rattle.ftp_list.specs.ResultSteps.{◌>>=◌}
use Rattle.ftp_list.proofs.FactFacts.{one_piece}

abbrev semicolon : ℕ → Bool
semicolon c = eqb c 59

abbrev end : List ℕ → ℕ
end text = position_or_len semicolon text

-- at the last piece
pub fold_last : {B : Type 0} (f : B → List ℕ → B) (b : B) (text : List ℕ) → end text ≡ length text → fold f b (pieces text) ≡ f b text
fold_last f b text e = ap (fold f b) (one_piece text e)

-- before it
pub fold_more : {B : Type 0} (f : B → List ℕ → B) (b : B) (text : List ℕ) → end text < length text → fold f b (pieces text) ≡ fold f (f b (take (end text) text)) (pieces (drop (end text + 1) text))
fold_more f b text lt = ap (fold f b) (slice_split_first semicolon text 0 lt)

bind_ok : (r : Result Entry ParseError) → (r >>= λ changed. Ok changed) ≡ r
bind_ok (Ok e) = refl
bind_ok (Err f) = refl

any_fact : (b : Bool) (fact : Fact) (entry : Entry) (others : List Fact) → with_facts entry (cons_option (cond b (Some fact) None) others) ≡ (cond b (with_fact entry fact) (Ok entry) >>= λ changed. with_facts changed others)
any_fact true fact entry others = refl
any_fact false fact entry others = refl

unless_own : (b : Bool) (found : Option Fact) (read : Result Entry ParseError) (entry : Entry) (others : List Fact) → with_facts entry (cons_option found others) ≡ (read >>= λ changed. with_facts changed others) → with_facts entry (cons_option (cond b None found) others) ≡ (cond b (Ok entry) read >>= λ changed. with_facts changed others)
unless_own true found read entry others e = refl
unless_own false found read entry others e = e

-- the first piece, then the others
first_other : (entry : Entry) (piece : List ℕ) (rest : List (List ℕ)) → with_facts entry (filter_map other_fact_in (piece ∷ rest)) ≡ (with_other_piece entry piece >>= λ changed. with_facts changed (filter_map other_fact_in rest))
first_other entry piece rest =
    let others : List Fact = filter_map other_fact_in rest in
    let fact : Fact = record { key = before (61 ∷ []) piece; value = before (61 ∷ []) (behind (61 ∷ []) piece) } in
    unless_own (is_own_type piece) (fact_in piece) (with_piece entry piece) entry others (any_fact (holds (61 ∷ []) piece) fact entry others)

-- at the last piece
pub others_last : (entry : Entry) (text : List ℕ) → end text ≡ length text → with_facts entry (other_facts text) ≡ with_other_piece entry text
others_last entry text e =
    ap (λ (ps : List (List ℕ)). with_facts entry (filter_map other_fact_in ps)) (one_piece text e)
    ∙ first_other entry text [] ∙ bind_ok (with_other_piece entry text)

-- before it
pub others_more : (entry : Entry) (text : List ℕ) → end text < length text → with_facts entry (other_facts text) ≡ (with_other_piece entry (take (end text) text) >>= λ changed. with_facts changed (other_facts (drop (end text + 1) text)))
others_more entry text lt =
    ap (λ (ps : List (List ℕ)). with_facts entry (filter_map other_fact_in ps)) (slice_split_first semicolon text 0 lt)
    ∙ first_other entry (before_first semicolon text) (slice_split semicolon (after_first semicolon text))

fault_at : (entry : Entry) (text : List ℕ) (fault : ParseError) → (with_other_piece entry (take (end text) text) ≡ Err fault) → (end text < length text) ⊎ (length text ≤ end text) → end text ≤ length text → with_facts entry (other_facts text) ≡ Err fault
fault_at entry text fault e (inl lt) le =
    others_more entry text lt ∙ ap (λ (r : Result Entry ParseError). r >>= λ changed. with_facts changed (other_facts (drop (end text + 1) text))) e
fault_at entry text fault e (inr ge) le =
    let last : end text ≡ length text = omega arith in
    let whole : take (end text) text ≡ text = take_all (end text) text ge in
    others_last entry text last ∙ ap (with_other_piece entry) (sym whole) ∙ e

-- an error of a piece is the answer
pub others_fault : (entry : Entry) (text : List ℕ) (fault : ParseError) → (with_other_piece entry (take (end text) text) ≡ Err fault) → end text ≤ length text → with_facts entry (other_facts text) ≡ Err fault
others_fault entry text fault e le = fault_at entry text fault e (cases_lt (end text) (length text)) le
