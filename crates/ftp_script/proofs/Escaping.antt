-- Lemmas on what a text writes, read byte by byte.
use Rattle.std.specs.Prelude.{nat_le}
use Rattle.std.specs.List.{list_all}
use Rattle.std.specs.Cmp.{first_so, second_so}
use Rattle.std.specs.Str.{IsUtf8}
use Rattle.std.proofs.lemmas.Bool.{leb-true, cond-true}
use Rattle.std.proofs.lemmas.Str.{IsUtf8-from_ascii}
use Rattle.ftp_script.specs.Calls.{ascii_only}
use Rattle.std.proofs.Common.{arith, true, lit<, zero, suc, slice_index, ◌≡◌, ℕ, ◌<◌, ◌≤◌, ◌+◌, Option, Some, None, List, [], ◌∷◌, ◌++◌, length, get_or, drop, refl, sym, ap, ◌∙◌, append_assoc}
use Rattle.std.proofs.lemmas.List.{at_drop_more, drop_all}
use Rattle.ftp_script.specs.declared.escapes.Place.{Place}
use Rattle.ftp_script.specs.declared.escapes.Part.{Part}
use Rattle.ftp_script.specs.declared.escapes.Part.TheVariants.{Gives, Begins}
use Rattle.ftp_script.specs.declared.escapes.Place.TheVariants.{Plain}
use Rattle.ftp_script.specs.Escapes.{and_then, onto, part_of, read_from, ended_at}

-- bytes before those that come
abbrev pub after : List ℕ → Option (List ℕ) → Option (List ℕ)
after before None = None
after before (Some bytes) = Some (before ++ bytes)

pub after-nil : (bytes : Option (List ℕ)) → bytes ≡ after [] bytes
after-nil None = refl
after-nil (Some bytes) = refl

pub after-onto : (before : List ℕ) (byte : ℕ) (bytes : Option (List ℕ)) → after before (onto byte bytes) ≡ after (before ++ byte ∷ []) bytes
after-onto before byte None = refl
after-onto before byte (Some bytes) = ap Some (sym (append_assoc before (byte ∷ []) bytes))

-- what is read from a place on, one byte on
pub read-cons : (place : Place) (byte : ℕ) (text : List ℕ) → read_from place (byte ∷ text) ≡ and_then (part_of place byte) (λ next. read_from next text)
unfolding read_from
read-cons place byte text = refl

pub read-nil : (place : Place) → read_from place [] ≡ ended_at place
unfolding read_from
read-nil place = refl

-- one byte of a text says this
pub one_part : (place : Place) (text : List ℕ) (i : ℕ) (part : Option Part) → i < length text → part ≡ part_of place (get_or text i 0) →
    read_from place (drop i text) ≡ and_then part (λ next. read_from next (drop (i + 1) text))
one_part place text i part less is =
    at_drop_more (read_from place) text i 0 less ∙ read-cons place (get_or text i 0) (drop (i + 1) text) ∙ ap (λ p. and_then p (λ next. read_from next (drop (i + 1) text))) (sym is)

-- a text that was read to its end
pub read_end : (place : Place) (place' : Place) (text : List ℕ) (i : ℕ) → length text ≤ i → place ≡ place' → read_from place (drop i text) ≡ ended_at place'
read_end place place' text i all is = ap (read_from place) (drop_all i text all) ∙ read-nil place ∙ ap ended_at is

-- a byte that gives one was read
pub step_gives : (text before before' : List ℕ) (i byte : ℕ) (place place' : Place) (part : Part) → i < length text → Some part ≡ part_of place (get_or text i 0) → part ≡ Gives byte
    → before' ≡ before ++ byte ∷ [] → place' ≡ Plain → after before (read_from place (drop i text)) ≡ after before' (read_from place' (drop (i + 1) text))
step_gives text before before' i byte place place' part less is gives grown plain =
    ap (after before) (one_part place text i (Some part) less is ∙ ap (λ p. and_then (Some p) (λ next. read_from next (drop (i + 1) text))) gives)
    ∙ after-onto before byte (read_from Plain (drop (i + 1) text))
    ∙ ap (λ b. after b (read_from Plain (drop (i + 1) text))) (sym grown)
    ∙ ap (λ p. after before' (read_from p (drop (i + 1) text))) (sym plain)

-- a byte of an escape was read
pub step_begins : (text before before' : List ℕ) (i : ℕ) (place place' next : Place) (part : Part) → i < length text → Some part ≡ part_of place (get_or text i 0) → part ≡ Begins next
    → before' ≡ before → place' ≡ next → after before (read_from place (drop i text)) ≡ after before' (read_from place' (drop (i + 1) text))
step_begins text before before' i place place' next part less is begins same goes =
    ap (after before) (one_part place text i (Some part) less is ∙ ap (λ p. and_then (Some p) (λ next. read_from next (drop (i + 1) text))) begins)
    ∙ ap (λ b. after b (read_from next (drop (i + 1) text))) (sym same)
    ∙ ap (λ p. after before' (read_from p (drop (i + 1) text))) (sym goes)

-- bytes of ASCII
pub bytes_ascii : (bytes : List ℕ) → list_all (λ byte. nat_le byte 127) bytes ≡ true → (i : ℕ) → slice_index bytes i < 128
bytes_ascii [] h i = lit< tt
bytes_ascii (b ∷ bs) h zero = omega (arith, leb-true b 127 (first_so _ _ h))
bytes_ascii (b ∷ bs) h (suc i) = bytes_ascii bs (second_so _ _ h) i

pub ascii_utf8 : (bytes : List ℕ) → list_all (λ byte. nat_le byte 127) bytes ≡ true → IsUtf8 bytes
ascii_utf8 bytes h = IsUtf8-from_ascii bytes (bytes_ascii bytes h)

-- an argument's text, where it is ASCII
pub ascii_text : (bytes copy : List ℕ) (read : Option (List ℕ)) → read ≡ Some bytes → copy ≡ bytes → list_all (λ byte. nat_le byte 127) copy ≡ true → Some copy ≡ ascii_only read
ascii_text bytes copy read is same h = sym (ap ascii_only (is ∙ ap Some (sym same)) ∙ cond-true _ _ _ h)
