-- Lemmas on the bytes of an upload that haven't gone out.
use Rattle.std.proofs.Common.{◌≡◌, ◌≤◌, ◌<◌, ◌+◌, ◌-◌, ◌==◌, ◌&&◌, not, ℕ, zero, suc, Bool, true, false, cond, nat_le, Some, None, List, [], ◌∷◌, ◌++◌, drop, take, length, refl, ap, sym, ◌∙◌, arith}
use Rattle.std.specs.Prelude.{slice_index}
use Rattle.std.proofs.lemmas.Bool.{eqb-false, eqb-true, le-leb, leb-true, ne_eqb}
use Rattle.std.proofs.lemmas.List.{length-drop, length-take-le, take-append-drop, take_at}
use Rattle.ftp_base.specs.Ascii.{converted, last_return, most_bytes, wire_data}
use Rattle.ftp_base.proofs.AsciiLemmas.{converted-append, crlf-converted, front_plain}
use Rattle.ftp_dialogue.specs.Sending.{IsPlain, MayEnd, on_wire}
use Rattle.ftp_dialogue.specs.Dialogue.{size_to_send}

-- where none has gone out
pub wire_start : (text : Bool) (bytes : List ℕ) → on_wire text false bytes ≡ wire_data text bytes
wire_start true bytes = sym (crlf-converted bytes)
wire_start false bytes = refl

-- none are left
some_zero : (n : ℕ) → (suc n == 0) ≡ false
some_zero n = ne_eqb (suc n) 0 (λ e. omega (arith, e))

empty_on_wire : (text after : Bool) (bytes : List ℕ) → (length (on_wire text after bytes) == 0) ≡ (length bytes == 0)
empty_on_wire true after [] = refl
empty_on_wire false after [] = refl
empty_on_wire false after (byte ∷ bytes) = refl
empty_on_wire true after (byte ∷ bytes) = go ((byte == 10) && not after)
  where
    go : (b : Bool) → (length (cond b (13 ∷ 10 ∷ []) (byte ∷ []) ++ converted (byte == 13) bytes) == 0) ≡ (length (byte ∷ bytes) == 0)
    go true = some_zero (suc (length (converted (byte == 13) bytes))) ∙ sym (some_zero (length bytes))
    go false = some_zero (length (converted (byte == 13) bytes)) ∙ sym (some_zero (length bytes))

eqb-yes : (a b : ℕ) → a ≡ b → (a == b) ≡ true
eqb-yes a b same = go (a == b) refl
  where
    go : (x : Bool) → (a == b) ≡ x → x ≡ true
    go true is = refl
    go false is = absurd (eqb-false a b is same)

empty_after : (next : ℕ) (bytes : List ℕ) → next ≤ length bytes → (next == length bytes) ≡ (length (drop next bytes) == 0)
empty_after next bytes within = go (next == length bytes) refl
  where
    left : length (drop next bytes) ≡ length bytes - next
    left = length-drop next bytes

    go : (b : Bool) → (next == length bytes) ≡ b → b ≡ (length (drop next bytes) == 0)
    go true is =
        let all : next ≡ length bytes = eqb-true next (length bytes) is in
        sym (eqb-yes (length (drop next bytes)) 0 (omega (arith, left, all)))
    go false is = sym (ne_eqb (length (drop next bytes)) 0 (λ e. clash (omega (arith, left, e, within))))
      where
        clash : next ≡ length bytes → ⊥
        clash all = let no : true ≡ false = sym (eqb-yes next (length bytes) all) ∙ is in cc

pub none_left : (text after : Bool) (next : ℕ) (bytes : List ℕ) → next ≤ length bytes → (next == length bytes) ≡ (length (on_wire text after (drop next bytes)) == 0)
none_left text after next bytes within = empty_after next bytes within ∙ sym (empty_on_wire text after (drop next bytes))

-- a text that begins with LF comes after CR, where none is lacking
pub may_end : (text after : Bool) (byte : ℕ) (bytes : List ℕ) → (text && ((byte == 10) && not after)) ≡ false → MayEnd text after (byte ∷ bytes)
may_end text true byte bytes plain is feed = refl
may_end text false byte bytes plain is feed =
    let clash : true ≡ false = sym (ap (λ b. b && ((byte == 10) && true)) is ∙ ap (λ b. b && true) (eqb-yes byte 10 feed)) ∙ plain in cc

-- a plain front is the front of what goes out
pub plain_is_front : (text after : Bool) (count : ℕ) (bytes : List ℕ) → count ≤ length bytes → on_wire text after (take count bytes) ≡ take count bytes → take count bytes ≡ take count (on_wire text after bytes)
plain_is_front false after count bytes within plain = refl
plain_is_front true after count bytes within plain =
    let xs : List ℕ = take count bytes in
    let ys : List ℕ = drop count bytes in
    let whole : converted after bytes ≡ xs ++ converted (last_return after xs) ys = ap (converted after) (sym (take-append-drop count bytes)) ∙ converted-append after xs ys ∙ ap (λ l. l ++ converted (last_return after xs) ys) plain in
    sym (ap (take count) whole ∙ take_at xs (converted (last_return after xs) ys) count (length-take-le count bytes within))

-- an LF that follows CR, and plain bytes after it
pub plain_end : (after : Bool) (most : ℕ) (bytes : List ℕ) → after ≡ true → IsPlain true false most bytes → IsPlain true after (1 + most) (10 ∷ bytes)
plain_end after most bytes follows plain zero within = refl
plain_end after most bytes follows plain (suc count) within =
    let here : converted false (take count bytes) ≡ take count bytes = plain count (omega (arith, within)) in
    rw follows (ap (λ l. 10 ∷ l) here)

-- bytes before the first LF are plain
pub plain_line : (after : Bool) (most : ℕ) (bytes : List ℕ) → ((k : ℕ) → 0 ≤ k → k < most → (slice_index bytes k == 10) ≡ true → ⊥) → IsPlain true after most bytes
plain_line after most bytes none count within = front_plain bytes count (λ k low high is. none k low (omega (arith, high, within)) is) after

-- at least as many bytes go out
longer_with : (b : Bool) (byte : ℕ) (bytes sent : List ℕ) → length bytes ≤ length sent → length (byte ∷ bytes) ≤ length (cond b (13 ∷ 10 ∷ []) (byte ∷ []) ++ sent)
longer_with true byte bytes sent rest = omega (arith, rest)
longer_with false byte bytes sent rest = omega (arith, rest)

converted_longer : (after : Bool) (bytes : List ℕ) → length bytes ≤ length (converted after bytes)
converted_longer after [] = omega arith
converted_longer after (byte ∷ bytes) = longer_with ((byte == 10) && not after) byte bytes (converted (byte == 13) bytes) (converted_longer (byte == 13) bytes)

pub wire_longer : (text : Bool) (bytes : List ℕ) → length bytes ≤ length (wire_data text bytes)
wire_longer false bytes = omega arith
wire_longer true bytes = rw (crlf-converted bytes) (converted_longer false bytes)

-- how many bytes can be sent
pub size_some : (bytes : List ℕ) (size : ℕ) → length bytes ≡ size → size ≤ most_bytes → Some size ≡ size_to_send bytes
size_some bytes size is within = sym (ap (λ b. cond b (Some (length bytes)) None) (le-leb (length bytes) most_bytes (omega (arith, is, within))) ∙ ap Some is)

pub size_none : (bytes : List ℕ) → most_bytes < length bytes → None ≡ size_to_send bytes
size_none bytes beyond = go (nat_le (length bytes) most_bytes) refl
  where
    go : (b : Bool) → nat_le (length bytes) most_bytes ≡ b → None ≡ cond b (Some (length bytes)) None
    go true is = absurd (no (leb-true (length bytes) most_bytes is))
      where
        no : length bytes ≤ most_bytes → ⊥
        no within = omega (arith, within, beyond)
    go false is = refl

-- none are left, or some
pub nil_of : (bytes : List ℕ) → true ≡ (length bytes == 0) → bytes ≡ []
nil_of [] none = refl
nil_of (byte ∷ bytes) none = let clash : true ≡ false = none ∙ some_zero (length bytes) in cc

pub some_of : (bytes : List ℕ) → false ≡ (length bytes == 0) → bytes ≡ [] → ⊥
some_of [] some none = let clash : false ≡ true = some in cc
some_of (byte ∷ bytes) some none = let clash : byte ∷ bytes ≡ [] = none in cc

pub length_some : (bytes : List ℕ) → false ≡ (length bytes == 0) → 0 < length bytes
length_some [] some = let clash : false ≡ true = some in cc
length_some (byte ∷ bytes) some = omega arith

-- the piece that goes out next is the front of what goes out
pub piece_front : (text after : Bool) (part : List ℕ) (count : ℕ) (now : List ℕ) → on_wire text after part ≡ now → 0 < length part → count ≤ length part → false ≡ (text && ((slice_index part 0 == 10) && not after)) → ((before : Bool) → MayEnd text before part → IsPlain text before count part) → take count part ≡ take (length (take count part)) now
piece_front text after [] count now is some within plain front = absurd (no some)
  where
    no : 0 < 0 → ⊥
    no some = omega (arith, some)
piece_front text after (byte ∷ bytes) count now is some within plain front =
    let part : List ℕ = byte ∷ bytes in
    let here : take count part ≡ take count (on_wire text after part) = plain_is_front text after count part within (front after (may_end text after byte bytes (sym plain)) count (omega arith)) in
    here ∙ ap (take count) is ∙ ap (λ n. take n now) (sym (length-take-le count part within))

pub piece_within : (text after : Bool) (part : List ℕ) (count : ℕ) (now : List ℕ) → on_wire text after part ≡ now → count ≤ length part → length (take count part) ≤ length now
piece_within false after part count now is within =
    omega (arith, length-take-le count part within, ap length is, within)
piece_within true after part count now is within =
    omega (arith, length-take-le count part within, ap length is, within, converted_longer after part)
