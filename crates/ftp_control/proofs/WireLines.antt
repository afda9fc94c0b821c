-- Lemmas on wire lines.
use Rattle.std.proofs.Common.{◌≡◌, ℕ, ◌-◌, Bool, true, false, cond, not, ◌||◌, List, [], ◌∷◌, ◌++◌, length, take, drop, Option, Some, None, Ok, Err, MatchOption, subst, refl, ap, sym, ◌∙◌, arith, length-append, nat_eq, ◌&&◌, append_assoc, ◌<◌}
use Rattle.std.specs.Cmp.Lexicographic.{same_text}
use Rattle.std.specs.Cmp.Derive.{both_true}
use Rattle.std.proofs.Math.Seq.{take-append_seam, drop-append_seam}
use Rattle.std.proofs.lemmas.List.{take-append-drop}
use Rattle.std.proofs.lemmas.Grind.{flat_map-append}
use Rattle.std.proofs.lemmas.List.Folds.{list_any-append}
use Rattle.ftp_base.specs.declared.types.fault.ConnectionError.{ConnectionError}
use Rattle.ftp_base.specs.declared.types.fault.ConnectionError.TheVariants.{EncodedLineBreak, EncodedWithoutCrlf}
use Rattle.ftp_base.specs.Line.{line_end, has_line_break, ends_in_crlf, before_crlf, encoded_fault}
use Rattle.ftp_base.specs.Telnet.{escaped}
use Rattle.ftp_control.specs.Sending.{is_wire_line, AreWireLines, last_length, IsLines}
use Rattle.ftp_control.specs.Grammar.{is_line_feed, has_line_feed, whole_lines, rest}
use Rattle.ftp_control.proofs.Lines.{whole_lines-closed, rest-closed, whole_lines-append, rest-append}

-- a line is what stands before its CR LF, and CR LF
pub record Ending (bytes : List ℕ) : Type 0 where
  pub front : List ℕ
  pub is : bytes ≡ front ++ line_end

pub crlf_ending : (bytes : List ℕ) → ends_in_crlf bytes ≡ true → Ending bytes
crlf_ending bytes ends = record {
  front = take (length bytes - 2) bytes;
  is =
      let tail : drop (length bytes - 2) bytes ≡ line_end = sym (same_text line_end (drop (length bytes - 2) bytes) (sym ends)) in
      sym (take-append-drop (length bytes - 2) bytes) ∙ ap (λ d. take (length bytes - 2) bytes ++ d) tail;
}

less_two : (front : List ℕ) → length (front ++ line_end) - 2 ≡ length front
less_two front = rw (length-append front line_end) (omega arith)

pub ends_in_crlf-append : (front : List ℕ) → ends_in_crlf (front ++ line_end) ≡ true
ends_in_crlf-append front = rw (less_two front, drop-append_seam front line_end)

pub before_crlf-append : (front : List ℕ) → before_crlf (front ++ line_end) ≡ front
before_crlf-append front = rw (ends_in_crlf-append front, less_two front, take-append_seam front line_end)

pub wire_line-append : (front : List ℕ) → has_line_break front ≡ false → is_wire_line (front ++ line_end) ≡ true
wire_line-append front none = both_true (ends_in_crlf-append front) (ap (λ bytes. not (has_line_break bytes)) (before_crlf-append front) ∙ ap not none)

-- doubling byte 255 makes no line break and takes none away
has_line_break-escaped : (bytes : List ℕ) → has_line_break (escaped bytes) ≡ has_line_break bytes
has_line_break-escaped [] = refl
has_line_break-escaped (b ∷ bytes) =
    elim (nat_eq b 255) as (λ t. has_line_break (cond t (b ∷ b ∷ []) (b ∷ []) ++ escaped bytes) ≡ has_line_break (b ∷ bytes)) [
      | true ↦ rw (has_line_break-escaped bytes) (twice (nat_eq b 13 || nat_eq b 10) (has_line_break bytes))
      | false ↦ rw (has_line_break-escaped bytes)
    ]
  where
    twice : (t u : Bool) → (t || (t || u)) ≡ (t || u)
    twice true u = refl
    twice false u = refl

-- the encoded line of a command is still one after 255 is doubled
pub escaped_line : (bytes : List ℕ) → encoded_fault bytes ≡ None → is_wire_line (escaped bytes) ≡ true
escaped_line bytes sound = go (ends_in_crlf bytes) refl sound
  where
    go : (t : Bool) → ends_in_crlf bytes ≡ t → cond t (cond (has_line_break (before_crlf bytes)) (Some EncodedLineBreak) None) (Some EncodedWithoutCrlf) ≡ None → is_wire_line (escaped bytes) ≡ true
    go false missing f = let clash : ◌≡◌ {A = Option ConnectionError} (Some EncodedWithoutCrlf) None = f in cc
    go true ends f = inner (has_line_break (before_crlf bytes)) refl f
      where
        inner : (u : Bool) → has_line_break (before_crlf bytes) ≡ u → cond u (Some EncodedLineBreak) None ≡ None → is_wire_line (escaped bytes) ≡ true
        inner true has g = let clash : ◌≡◌ {A = Option ConnectionError} (Some EncodedLineBreak) None = g in cc
        inner false none g =
            let line = crlf_ending bytes ends in
            let same : before_crlf bytes ≡ line.front = ap before_crlf line.is ∙ before_crlf-append line.front in
            let plain : has_line_break line.front ≡ false = ap has_line_break (sym same) ∙ none in
            let doubled : escaped bytes ≡ escaped line.front ++ line_end = ap escaped line.is ∙ flat_map-append _ line.front line_end in
            ap is_wire_line doubled ∙ wire_line-append (escaped line.front) (has_line_break-escaped line.front ∙ plain)

-- what a test that passed says
pub passed : {F : Type 0} (fault : Option ConnectionError) (error : ConnectionError → F) (done : Unit {0}) → MatchOption fault (◌≡◌ {A = Bool} true true) (λ cause. Ok done ≡ Err (error cause)) → fault ≡ None
passed None error done says = refl
passed (Some cause) error done says = cc

-- what has no line break has no LF
no_feed : (bytes : List ℕ) → has_line_break bytes ≡ false → has_line_feed bytes ≡ false
no_feed [] none = refl
no_feed (b ∷ bytes) none = go (nat_eq b 13) (nat_eq b 10) (has_line_break bytes) (has_line_feed bytes) (no_feed bytes) none
  where
    go : (t u v w : Bool) → (v ≡ false → w ≡ false) → ((t || u) || v) ≡ false → (u || w) ≡ false
    go true u v w later f = let clash : true ≡ false = f in cc
    go false true v w later f = let clash : true ≡ false = f in cc
    go false false v w later f = later f

-- a wire line is one line
pub record OneLine (line : List ℕ) : Type 0 where
  pub lines : whole_lines line ≡ line ∷ []
  pub rest : rest line ≡ []

and_left : (t u : Bool) → (t && u) ≡ true → t ≡ true
and_left true u f = refl
and_left false u f = f

and_right : (t u : Bool) → (t && u) ≡ true → u ≡ true
and_right true u f = f
and_right false u f = let clash : false ≡ true = f in cc

pub wire_line_once : (line : List ℕ) → is_wire_line line ≡ true → OneLine line
wire_line_once line is =
    let ends : ends_in_crlf line ≡ true = and_left _ _ is in
    let ending = crlf_ending line ends in
    let none : has_line_break (before_crlf line) ≡ false = not-true _ (and_right _ _ is) in
    let same : before_crlf line ≡ ending.front = ap before_crlf ending.is ∙ before_crlf-append ending.front in
    let plain : has_line_break ending.front ≡ false = ap has_line_break (sym same) ∙ none in
    let whole : line ≡ (ending.front ++ 13 ∷ []) ++ 10 ∷ [] = ending.is ∙ sym (append_assoc ending.front (13 ∷ []) (10 ∷ [])) in
    let no_line : has_line_feed (ending.front ++ 13 ∷ []) ≡ false = rw (list_any-append is_line_feed ending.front (13 ∷ []), no_feed ending.front plain) in
    record {
      lines = ap whole_lines whole ∙ whole_lines-closed (ending.front ++ 13 ∷ []) [] no_line ∙ ap (λ l. l ∷ []) (sym whole);
      rest = ap rest whole ∙ rest-closed (ending.front ++ 13 ∷ []);
    }
  where
    not-true : (t : Bool) → not t ≡ true → t ≡ false
    not-true true f = let clash : false ≡ true = f in cc
    not-true false f = refl

lines-snoc : (ls : List (List ℕ)) (line : List ℕ) → AreWireLines ls → is_wire_line line ≡ true → AreWireLines (ls ++ line ∷ [])
lines-snoc [] line are is = (is, tt)
lines-snoc (l ∷ ls) line are is = (are.0, lines-snoc ls line are.1 is)

last_length-snoc : (ls : List (List ℕ)) (line : List ℕ) → last_length (ls ++ line ∷ []) ≡ length line
last_length-snoc [] line = refl
last_length-snoc (l ∷ []) line = refl
last_length-snoc (l ∷ k ∷ ls) line = last_length-snoc (k ∷ ls) line

-- a line behind whole lines
pub line_behind : (said line : List ℕ) → IsLines said [] → is_wire_line line ≡ true → IsLines (said ++ line) line
line_behind said line lines is =
    let once = wire_line_once line is in
    let all : whole_lines (said ++ line) ≡ whole_lines said ++ line ∷ [] = whole_lines-append said line ∙ ap (λ r. whole_lines said ++ whole_lines (r ++ line)) lines.whole ∙ ap (λ ls. whole_lines said ++ ls) once.lines in
    record {
      whole = rest-append said line ∙ ap (λ r. rest (r ++ line)) lines.whole ∙ once.rest;
      lines = let P : List (List ℕ) → Type 0 = AreWireLines in subst P (sym all) (lines-snoc (whole_lines said) line lines.lines is);
      end_of_last = rw (all, last_length-snoc (whole_lines said) line) (omega arith);
    }

-- a wire line isn't empty
pub line_some : (line : List ℕ) → is_wire_line line ≡ true → 0 < length line
line_some [] is = let clash : false ≡ true = is in cc
line_some (b ∷ line) is = omega arith
