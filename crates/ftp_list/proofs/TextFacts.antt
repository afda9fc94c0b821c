-- Blanks at the end of a text, and words, character by character.
use Rattle.std.proofs.Common.{◌≡◌, ℕ, suc, ◌+◌, ◌-◌, ◌<◌, ◌≤◌, Bool, true, false, cond, eqb, List, [], ◌∷◌, ◌++◌, length, take, get_or, refl, sym, ◌∙◌, ap, arith}
use Rattle.std.specs.Prelude.{◌&&◌, encode_utf8_all, encode_utf8}
use Rattle.std.specs.Char.{to_ascii_lowercase}
use Rattle.std.specs.List.{list_all}
use Rattle.std.proofs.lemmas.List.{append-nil, take_more}
use Rattle.std.proofs.lemmas.Str.{encodes-append}
use Rattle.ftp_list.specs.declared.class.Class.TheVariants.{Blank}
use Rattle.ftp_list.specs.Shapes.{is_in, all_in}
use Rattle.ftp_list.specs.Texts.{trim_back, is_word}

all_push : (p : ℕ → Bool) (xs : List ℕ) (x : ℕ) → list_all p (xs ++ x ∷ []) ≡ (list_all p xs && p x)
all_push p [] x = last (p x)
  where
    last : (b : Bool) → (b && true) ≡ b
    last true = refl
    last false = refl
all_push p (y ∷ ys) x = ap (λ b. p y && b) (all_push p ys x) ∙ shift (p y) (list_all p ys) (p x)
  where
    shift : (a b c : Bool) → (a && (b && c)) ≡ ((a && b) && c)
    shift true b c = refl
    shift false b c = refl

and_true : (b : Bool) → (b && true) ≡ b
and_true true = refl
and_true false = refl

and_false : (b : Bool) → (b && false) ≡ false
and_false true = refl
and_false false = refl

-- a blank at the end is cut
pub trim_back_blank : (xs : List ℕ) (x : ℕ) → is_in Blank x ≡ true → trim_back (xs ++ x ∷ []) ≡ trim_back xs
trim_back_blank [] x e = ap (λ b. cond (b && true) [] (x ∷ [])) e
trim_back_blank (y ∷ ys) x e =
    let tests : all_in Blank ((y ∷ ys) ++ x ∷ []) ≡ all_in Blank (y ∷ ys) = all_push (is_in Blank) (y ∷ ys) x ∙ ap (λ b. all_in Blank (y ∷ ys) && b) e ∙ and_true (all_in Blank (y ∷ ys)) in
    ap (λ b. cond b [] (y ∷ trim_back (ys ++ x ∷ []))) tests ∙ ap (λ (t : List ℕ). cond (all_in Blank (y ∷ ys)) [] (y ∷ t)) (trim_back_blank ys x e)

-- another character at the end stops the cut
pub trim_back_stop : (xs : List ℕ) (x : ℕ) → is_in Blank x ≡ false → trim_back (xs ++ x ∷ []) ≡ xs ++ x ∷ []
trim_back_stop [] x e = ap (λ b. cond (b && true) [] (x ∷ [])) e
trim_back_stop (y ∷ ys) x e =
    let tests : all_in Blank ((y ∷ ys) ++ x ∷ []) ≡ false = all_push (is_in Blank) (y ∷ ys) x ∙ ap (λ b. all_in Blank (y ∷ ys) && b) e ∙ and_false (all_in Blank (y ∷ ys)) in
    ap (λ b. cond b [] (y ∷ trim_back (ys ++ x ∷ []))) tests ∙ ap (λ (t : List ℕ). y ∷ t) (trim_back_stop ys x e)

-- the last character of a front
pub last_taken : (text : List ℕ) (n : ℕ) (d : ℕ) → 0 < n → n ≤ length text → take n text ≡ take (n - 1) text ++ get_or text (n - 1) d ∷ []
last_taken text n d p l =
    let place : (n - 1) + 1 ≡ n = omega arith in
    ap (λ k. take k text) (sym place) ∙ take_more text (n - 1) d (omega arith)

-- a word is as long as the text
pub is_word_length : (word text : List ℕ) → (length text ≡ length word → ⊥) → is_word word text ≡ false
is_word_length [] [] h = absurd (h refl)
is_word_length [] (c ∷ cs) h = refl
is_word_length (w ∷ ws) [] h = refl
is_word_length (w ∷ ws) (c ∷ cs) h =
    ap (λ b. eqb (to_ascii_lowercase c) w && b) (is_word_length ws cs (λ e. h (ap suc e))) ∙ and_false (eqb (to_ascii_lowercase c) w)

-- the bytes of one character more
pub encoded_more : (text : List ℕ) (i d : ℕ) → i < length text → encode_utf8_all (take (i + 1) text) ≡ encode_utf8_all (take i text) ++ encode_utf8 (get_or text i d)
encoded_more text i d l =
    ap encode_utf8_all (take_more text i d l)
    ∙ encodes-append (take i text) (get_or text i d ∷ [])
    ∙ ap (λ (bytes : List ℕ). encode_utf8_all (take i text) ++ bytes) (append-nil (encode_utf8 (get_or text i d)))
