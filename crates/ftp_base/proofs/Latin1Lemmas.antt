-- ISO 8859-1: bytes are characters.
use Rattle.std.proofs.Common.{◌≡◌, ℕ, ◌<◌, Bool, true, false, cond, List, [], ◌∷◌, refl, sym, ◌∙◌, ap, arith}
use Rattle.std.specs.Prelude.{Ok, Err, encode_utf8_all}
use Rattle.std.specs.declared.io.ErrorKind.TheVariants.{InvalidInput}
use Rattle.std.specs.List.{All, list_all}
use Rattle.std.specs.Str.{chars, IsUtf8}
use Rattle.std.proofs.lemmas.Str.{chars-encodes, encodes-chars}
use Rattle.std.proofs.lemmas.Bool.{le-leb}
use Rattle.std.proofs.lemmas.List.Elements.{All-head, All-tail}
use lib.Utf8.{scalars, scalar, low_scalar}
use Rattle.ftp_base.specs.Latin1.{is_latin1, latin1_bytes, latin1_text, latin1_numbers}

small_scalar : (c : ℕ) → c < 256 → scalar c ≡ true
small_scalar c l = low_scalar c (omega arith)

small_scalars : (bytes : List ℕ) → All (λ byte. byte < 256) bytes → scalars bytes ≡ true
small_scalars [] h = refl
small_scalars (c ∷ cs) h =
    rw (small_scalar c (All-head (λ byte. byte < 256) c cs h), small_scalars cs (All-tail (λ byte. byte < 256) c cs h)) refl

have_bytes : (bytes : List ℕ) → All (λ byte. byte < 256) bytes → list_all is_latin1 bytes ≡ true
have_bytes [] h = refl
have_bytes (c ∷ cs) h =
    let small : c < 256 = All-head (λ byte. byte < 256) c cs h in
    rw (le-leb c 255 (omega arith), have_bytes cs (All-tail (λ byte. byte < 256) c cs h)) refl

-- where all have a byte
pub numbers_are : (letters : List ℕ) → list_all is_latin1 letters ≡ true → latin1_numbers letters ≡ Ok letters
numbers_are letters e = ap (λ b. cond b (Ok letters) (Err InvalidInput)) e

-- where one has none
pub numbers_fail : (letters : List ℕ) → list_all is_latin1 letters ≡ false → latin1_numbers letters ≡ Err InvalidInput
numbers_fail letters e = ap (λ b. cond b (Ok letters) (Err InvalidInput)) e

-- bytes that are read as text are sent as the same bytes
pub bytes_back : (bytes : List ℕ) → All (λ byte. byte < 256) bytes → latin1_bytes (latin1_text bytes) ≡ Ok bytes
bytes_back bytes h =
    ap latin1_numbers (chars-encodes bytes (small_scalars bytes h)) ∙ numbers_are bytes (have_bytes bytes h)

same_letters : (b : Bool) (letters bytes : List ℕ) → cond b (Ok letters) (Err InvalidInput) ≡ Ok bytes → letters ≡ bytes
same_letters true letters bytes e = grind arith
same_letters false letters bytes e = absurd (grind arith)

-- a text that is sent as bytes is what they are read as
pub text_back : (text bytes : List ℕ) → IsUtf8 text → latin1_bytes text ≡ Ok bytes → latin1_text bytes ≡ text
text_back text bytes u e =
    ap encode_utf8_all (sym (same_letters (list_all is_latin1 (chars text)) (chars text) bytes e)) ∙ encodes-chars text u
