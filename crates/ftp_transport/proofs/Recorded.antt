-- Lemmas on connections over memory.
use Rattle.std.proofs.Common.{◌≡◌, ℕ, ◌+◌, ◌-◌, ◌≤◌, List, ◌++◌, length, length-drop, take, drop, sym, ◌∙◌, ap, arith}
use Rattle.std.proofs.Math.Seq.{take-add}
use Rattle.std.proofs.lemmas.List.{length-take-le, drop-append-le, take-append-drop}

-- bytes more that were read
pub read_more : (input : List ℕ) (begun read count : ℕ) → begun ≤ read → read ≤ length input → drop begun (take (read + count) input) ≡ drop begun (take read input) ++ take count (drop read input)
read_more input begun read count before within =
    let long : length (take read input) ≡ read = length-take-le read input within in
    ap (drop begun) (take-add read count input)
    ∙ drop-append-le begun (take read input) (take count (drop read input)) (omega (arith, long, before))

-- the bytes that came are those that were read, and those ahead
pub read_and_ahead : (input : List ℕ) (begun read : ℕ) → begun ≤ read → read ≤ length input → drop begun input ≡ drop begun (take read input) ++ drop read input
read_and_ahead input begun read before within =
    let long : length (take read input) ≡ read = length-take-le read input within in
    ap (drop begun) (sym (take-append-drop read input))
    ∙ drop-append-le begun (take read input) (drop read input) (omega (arith, long, before))

-- all was read
pub all_read : (input : List ℕ) (begun read : ℕ) → begun ≤ read → read ≤ length input → drop begun (take read input) ≡ drop begun input → read ≡ length input
all_read input begun read before within same =
    let long : length (take read input) ≡ read = length-take-le read input within in
    let one : length (drop begun (take read input)) ≡ read - begun = length-drop begun (take read input) ∙ ap (λ n. n - begun) long in
    let other : length (drop begun input) ≡ length input - begun = length-drop begun input in
    omega (arith, one, other, ap length same, before, within)
