-- A strict read ends as it does whatever is asked of it, and as a lenient one where no line inside its reply could end that.
use Rattle.std.proofs.Common.{◌≡◌, ◌<◌, ◌≤◌, ◌+◌, ◌-◌, ◌==◌, ◌&&◌, ◌||◌, ℕ, nat_eq, nat_le, nat_lt, slice_index, Bool, true, false, cond, List, [], ◌∷◌, ◌++◌, length, drop, take, length-append, arith, refl, ap, subst, ◌∙◌}
use Rattle.std.proofs.lemmas.Bool.{leb-true, lt-ltb}
use Rattle.std.specs.Char.{is_ascii_digit}
use Rattle.std.specs.Cmp.Lexicographic.{pointwise}
use Rattle.std.specs.List.{list_all, list_any}
use Rattle.ftp_control.specs.Grammar.{begins_with_digits, opens, ends, code_at_start, lines, to_end, reply_in, within, outcome}
use Rattle.ftp_control.specs.Found.{after_line}
use Rattle.ftp_control.specs.Lenient.{lists, opens_list, to_list_end}
use Rattle.ftp_control.specs.Law.{OneForm, StrictAsLenient, is_spaced, lines_before}
use Rattle.ftp_control.specs.declared.plain.Found.{Found}
use Rattle.ftp_control.specs.declared.plain.Found.TheVariants.{Reply, NoReply, Unfinished}
use Rattle.ftp_control.specs.declared.control.form.ReplyForm.{ReplyForm}
use Rattle.ftp_control.specs.declared.control.form.ReplyForm.TheVariants.{Plain}
use Rattle.ftp_control.specs.declared.control.rule.ReplyRule.TheVariants.{Strict, Lenient}
use Rattle.ftp_control.specs.declared.control.outcome.Outcome.TheVariants.{Whole, Bad, TooLarge, Ended, Waits}
use Rattle.ftp_control.proofs.Outcomes.{ends_no_list}

-- nothing follows a line that opens no list
nothing_behind : (b : Bool) (list alone : Found) → cond (b && false) list alone ≡ alone
nothing_behind true list alone = refl
nothing_behind false list alone = refl

one_end : (form : ReplyForm) (ended : Bool) (first : List ℕ) (lines : List (List ℕ)) → to_end Strict form ended first lines ≡ to_end Strict Plain ended first lines
one_end form ended first [] = refl
one_end form ended first (line ∷ lines) =
    elim (ends Strict true first line) as (λ t. ends Strict true first line ≡ t → cond t (cond (lists form && opens_list line) (after_line line (to_list_end ended lines)) (Reply line (code_at_start line))) (after_line line (to_end Strict form ended first lines)) ≡ cond t (Reply line (code_at_start line)) (after_line line (to_end Strict Plain ended first lines))) [
      | true ↦ λ e. rw (ends_no_list first line e) (nothing_behind (lists form) (after_line line (to_list_end ended lines)) (Reply line (code_at_start line)))
      | false ↦ λ e. ap (after_line line) (one_end form ended first lines)
    ]
    refl

one_reply : (form : ReplyForm) (ended : Bool) (lines : List (List ℕ)) → reply_in Strict form ended lines ≡ reply_in Strict Plain ended lines
one_reply form ended [] = refl
one_reply form ended (line ∷ lines) = ap (λ found. cond (opens Strict line) found (NoReply line)) (one_end form ended line (line ∷ lines))

pub one_form : OneForm
unfolding outcome
one_form form bytes ended = ap (within (length bytes) ended) (one_reply form ended (lines bytes ended))

-- Strictly and leniently

-- a line that opens a reply strictly opens one leniently
opens_alike : (line : List ℕ) → opens Strict line ≡ true → opens Lenient line ≡ true
opens_alike line is = go (nat_le 5 (length line)) (begins_with_digits line) is
  where
    go : (long digits : Bool) → (long && digits && ((slice_index line 3 == 32) || (slice_index line 3 == 45))) ≡ true → (long && (digits || ((slice_index line 0 == 43) && list_all is_ascii_digit (take 2 (drop 1 line))))) ≡ true
    go true true e = refl
    go true false e = let clash : false ≡ true = e in cc
    go false digits e = let clash : false ≡ true = e in cc

-- one that ends it strictly begins with three digits and a space, and has four bytes
spaced : (first line : List ℕ) → ends Strict false first line ≡ true → (is_spaced line ≡ true) × (4 ≤ length line)
spaced first line is = go (nat_le 4 (length line)) refl is
  where
    parts : (digits space same : Bool) → (true && digits && space && same) ≡ true → (true && digits && space) ≡ true
    parts true true same e = refl
    parts true false same e = let clash : false ≡ true = e in cc
    parts false space same e = let clash : false ≡ true = e in cc

    go : (t : Bool) → nat_le 4 (length line) ≡ t → (t && begins_with_digits line && (slice_index line 3 == 32) && pointwise nat_eq (take 3 line) (take 3 first)) ≡ true → (is_spaced line ≡ true) × (4 ≤ length line)
    go true long e = (ap (λ b. b && begins_with_digits line && (slice_index line 3 == 32)) long ∙ parts (begins_with_digits line) (slice_index line 3 == 32) (pointwise nat_eq (take 3 line) (take 3 first)) e, leb-true 4 (length line) long)
    go false long e = let clash : false ≡ true = e in cc

-- that is what ends it leniently
ends_spaced : (first line : List ℕ) → ends Lenient false first line ≡ is_spaced line
ends_spaced first line = go (nat_le 4 (length line) && begins_with_digits line) (slice_index line 3 == 32)
  where
    go : (shaped space : Bool) → (shaped && (space || (false && (slice_index line 3 == 45) && pointwise nat_eq (take 3 line) (take 3 first)))) ≡ (shaped && space)
    go true true = refl
    go true false = refl
    go false space = refl

-- a reply has bytes
reply_long : (ended : Bool) (first : List ℕ) (lines : List (List ℕ)) (reply : List ℕ) (code : ℕ) → to_end Strict Plain ended first lines ≡ Reply reply code → 0 < length reply
reply_long ended first [] reply code is = let clash : Unfinished ≡ Reply reply code = is in cc
reply_long ended first (line ∷ lines) reply code is =
    elim (ends Strict false first line) as (λ t. ends Strict false first line ≡ t → cond t (Reply line (code_at_start line)) (after_line line (to_end Strict Plain ended first lines)) ≡ Reply reply code → 0 < length reply) [
      | true ↦ λ e f. let same : reply ≡ line = cc f in let long = (spaced first line e).1 in rw same (omega (arith, long))
      | false ↦ λ e f. later (λ w c e. reply_long ended first lines w c e) (to_end Strict Plain ended first lines) refl f
    ]
    refl is
  where
    later : ((w : List ℕ) (c : ℕ) → to_end Strict Plain ended first lines ≡ Reply w c → 0 < length w) → (found : Found) → to_end Strict Plain ended first lines ≡ found → after_line line found ≡ Reply reply code → 0 < length reply
    later rec (Reply w c) e f =
        let same : reply ≡ line ++ w = cc f in
        let long = rec w c e in
        rw same (omega (arith, long, length-append line w))
    later rec (NoReply other) e f = let clash : NoReply other ≡ Reply reply code = f in cc
    later rec Unfinished e f = let clash : Unfinished ≡ Reply reply code = f in cc

-- where no line inside it begins so, the same reply is found leniently
end_alike : (ended : Bool) (first : List ℕ) (lines : List (List ℕ)) (reply : List ℕ) (code : ℕ) → to_end Strict Plain ended first lines ≡ Reply reply code → list_any is_spaced (lines_before (length reply) lines) ≡ false → to_end Lenient Plain ended first lines ≡ Reply reply code
end_alike ended first [] reply code is none = let clash : Unfinished ≡ Reply reply code = is in cc
end_alike ended first (line ∷ lines) reply code is none =
    elim (ends Strict false first line) as (λ t. ends Strict false first line ≡ t → cond t (Reply line (code_at_start line)) (after_line line (to_end Strict Plain ended first lines)) ≡ Reply reply code → to_end Lenient Plain ended first (line ∷ lines) ≡ Reply reply code) [
      | true ↦ λ e f. rw (ends_spaced first line ∙ (spaced first line e).0) f
      | false ↦ λ e f. later (λ w c e g. end_alike ended first lines w c e g) (to_end Strict Plain ended first lines) refl f
    ]
    refl is
  where
    goes_on : (w : List ℕ) (c : ℕ) → to_end Strict Plain ended first lines ≡ Reply w c → reply ≡ line ++ w → code ≡ c → (is_spaced line ≡ false) × (list_any is_spaced (lines_before (length w) lines) ≡ false)
    goes_on w c e same codes =
        let long : 0 < length w = reply_long ended first lines w c e in
        let all : length reply ≡ length line + length w = ap length same ∙ length-append line w in
        let inside : nat_lt (length line) (length reply) ≡ true = lt-ltb (length line) (length reply) (omega (arith, all, long)) in
        let left : length reply - length line ≡ length w = omega (arith, all) in
        let P : Bool → Type 0 = λ t. list_any is_spaced (cond t (line ∷ lines_before (length reply - length line) lines) []) ≡ false in
        let Q : ℕ → Type 0 = λ n. (is_spaced line || list_any is_spaced (lines_before n lines)) ≡ false in
        either (is_spaced line) (list_any is_spaced (lines_before (length w) lines)) (subst Q left (subst P inside none))
      where
        either : (one others : Bool) → (one || others) ≡ false → (one ≡ false) × (others ≡ false)
        either true others h = let clash : true ≡ false = h in cc
        either false others h = (refl, h)

    later : ((w : List ℕ) (c : ℕ) → to_end Strict Plain ended first lines ≡ Reply w c → list_any is_spaced (lines_before (length w) lines) ≡ false → to_end Lenient Plain ended first lines ≡ Reply w c) → (found : Found) → to_end Strict Plain ended first lines ≡ found → after_line line found ≡ Reply reply code → to_end Lenient Plain ended first (line ∷ lines) ≡ Reply reply code
    later rec (Reply w c) e f =
        let same : reply ≡ line ++ w = cc f in
        let codes : code ≡ c = cc f in
        let parts = goes_on w c e same codes in
        let rest : to_end Lenient Plain ended first lines ≡ Reply w c = rec w c e parts.1 in
        rw (ends_spaced first line ∙ parts.0) (ap (after_line line) rest ∙ f)
    later rec (NoReply other) e f = let clash : NoReply other ≡ Reply reply code = f in cc
    later rec Unfinished e f = let clash : Unfinished ≡ Reply reply code = f in cc

reply_alike : (ended : Bool) (lines : List (List ℕ)) (reply : List ℕ) (code : ℕ) → reply_in Strict Plain ended lines ≡ Reply reply code → list_any is_spaced (lines_before (length reply) lines) ≡ false → reply_in Lenient Plain ended lines ≡ Reply reply code
reply_alike ended [] reply code is none = let clash : Unfinished ≡ Reply reply code = is in cc
reply_alike ended (line ∷ lines) reply code is none =
    elim (opens Strict line) as (λ t. opens Strict line ≡ t → cond t (to_end Strict Plain ended line (line ∷ lines)) (NoReply line) ≡ Reply reply code → reply_in Lenient Plain ended (line ∷ lines) ≡ Reply reply code) [
      | true ↦ λ e f. rw (opens_alike line e) (end_alike ended line (line ∷ lines) reply code f none)
      | false ↦ λ e f. let clash : NoReply line ≡ Reply reply code = f in cc
    ]
    refl is

pub strict_as_lenient : StrictAsLenient
unfolding outcome
strict_as_lenient bytes reply code ended is none = go (reply_in Strict Plain ended (lines bytes ended)) refl is
  where
    whole : (w : List ℕ) (c : ℕ) → within (length bytes) ended (Reply w c) ≡ Whole reply code → (reply ≡ w) × (code ≡ c)
    whole w c e =
        elim (nat_le (length w) 262144) as (λ t. cond t (Whole w c) TooLarge ≡ Whole reply code → (reply ≡ w) × (code ≡ c)) [
          | true ↦ λ f. (cc f, cc f)
          | false ↦ λ f. let clash : TooLarge ≡ Whole reply code = f in cc
        ]
        e

    bad : (line : List ℕ) → within (length bytes) ended (NoReply line) ≡ Whole reply code → ⊥
    bad line e =
        elim (nat_le (length line) 262144) as (λ t. cond t (Bad line) TooLarge ≡ Whole reply code → ⊥) [
          | true ↦ λ f. let clash : Bad line ≡ Whole reply code = f in cc
          | false ↦ λ f. let clash : TooLarge ≡ Whole reply code = f in cc
        ]
        e

    open_end : within (length bytes) ended Unfinished ≡ Whole reply code → ⊥
    open_end e =
        elim (nat_lt 262144 (length bytes)) as (λ t. cond t TooLarge (cond ended Ended Waits) ≡ Whole reply code → ⊥) [
          | true ↦ λ f. let clash : TooLarge ≡ Whole reply code = f in cc
          | false ↦ λ f. elim ended as (λ u. cond u Ended Waits ≡ Whole reply code → ⊥) [ true ↦ λ g. let clash : Ended ≡ Whole reply code = g in cc | false ↦ λ g. let clash : Waits ≡ Whole reply code = g in cc ] f
        ]
        e

    go : (found : Found) → reply_in Strict Plain ended (lines bytes ended) ≡ found → within (length bytes) ended found ≡ Whole reply code → within (length bytes) ended (reply_in Lenient Plain ended (lines bytes ended)) ≡ Whole reply code
    go (Reply w c) e f =
        let both = whole w c f in
        let P : List ℕ → Type 0 = λ r. list_any is_spaced (lines_before (length r) (lines bytes ended)) ≡ false in
        ap (within (length bytes) ended) (reply_alike ended (lines bytes ended) w c e (subst P both.0 none)) ∙ f
    go (NoReply line) e f = absurd (bad line f)
    go Unfinished e f = absurd (open_end f)
