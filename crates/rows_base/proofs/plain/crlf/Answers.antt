use Rattle.std.proofs.Common.{◌≡◌, ◌+◌, ◌<◌, ◌++◌, ℕ, List, [], ◌∷◌, ◌∙◌, length, take, take_all, slice_index, get_or, zero-add, sym, ap, arith, append-nil}
use Rattle.std.specs.List.{flat_map, enumerate_from}
use Rattle.std.proofs.lemmas.Grind.{flat_map-append}
use Rattle.std.proofs.lemmas.List.{take_more}
use Rattle.std.proofs.lemmas.List.FromFn.{length-enumerate_from, get_or-enumerate_from}
use Rattle.ftp_base.specs.Ascii.{follows_return, on_wire}
use Rattle.rows_base.proofs.plain.crlf.Goals as goal

-- what stands on the wire for the places before this one, and for it, stands for the places before the next
next_place : (bytes : List ℕ) (place : ℕ) → place < length bytes →
    flat_map (λ p. on_wire (follows_return bytes p.0) p.1) (take place (enumerate_from 0 bytes)) ++ on_wire (follows_return bytes place) (slice_index bytes place)
    ≡ flat_map (λ p. on_wire (follows_return bytes p.0) p.1) (take (place + 1) (enumerate_from 0 bytes))
next_place bytes place within =
    let f : ℕ × ℕ → List ℕ = λ p. on_wire (follows_return bytes p.0) p.1 in
    let all : List (ℕ × ℕ) = enumerate_from 0 bytes in
    let long : place < length all = omega (arith, within, length-enumerate_from 0 bytes) in
    let one : get_or all place (0, 0) ≡ (place, slice_index bytes place) = get_or-enumerate_from 0 bytes place (0, 0) within ∙ ap (λ (n : ℕ). let p : ℕ × ℕ = (n, slice_index bytes place) in p) (zero-add place) in
    sym (ap (flat_map f) (take_more all place (0, 0) long) ∙ flat_map-append f (take place all) (get_or all place (0, 0) ∷ []) ∙ ap (λ (p : ℕ × ℕ). flat_map f (take place all) ++ (f p ++ [])) one
    ∙ ap (λ (l : List ℕ). flat_map f (take place all) ++ l) (append-nil (f (place, slice_index bytes place))))

pub loop-place-preserved : goal.loop-place-preserved
loop-place-preserved c = c.in_ok-push_place.ensures ∙ ap (λ (l : List ℕ). l ++ on_wire (follows_return c.args.bytes.now c.loop-place.place) (slice_index c.args.bytes.now c.loop-place.place)) c.loop-place.invariant
    ∙ next_place c.args.bytes.now c.loop-place.place (omega (arith, c.loop-place-test.true))

pub returns : goal.returns
returns c = c.loop-place.invariant ∙ ap (λ (l : List (ℕ × ℕ)). flat_map (λ p. on_wire (follows_return c.args.bytes.now p.0) p.1) l)
    (take_all c.loop-place.place (enumerate_from 0 c.args.bytes.now) (omega (arith, c.loop-place-test.false, length-enumerate_from 0 c.args.bytes.now)))
