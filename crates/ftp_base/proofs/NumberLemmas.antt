-- Lemmas on the numbers that digits write.
use Rattle.std.proofs.Common.{◌≡◌, ℕ, ◌+◌, ◌-◌, ◌*◌, ◌≤◌, ◌<◌, true, false, cond, Some, None, List, [], ◌∷◌, length, refl, arith, leb, drop, get_or, add-one, drop-cons}
use Rattle.std.proofs.lemmas.Bool.{lt-leb}
use Rattle.std.specs.List.{list_all}
use Rattle.std.specs.Char.{is_ascii_digit}
use Rattle.ftp_base.specs.Scan.{digits_value, number_up_to}

-- digits make a number no smaller
pub digits_value-le : (digits : List ℕ) (before : ℕ) → before ≤ digits_value before digits
digits_value-le [] before = omega arith
digits_value-le (d ∷ digits) before = omega (arith, digits_value-le digits (before * 10 + (d - 48)))

pub no_number-above : (digits : List ℕ) (most : ℕ) → most < digits_value 0 digits → number_up_to most digits ≡ None
no_number-above [] most above = refl
no_number-above (d ∷ digits) most above =
    let test = lt-leb (digits_value 0 (d ∷ digits)) most above in
    elim (list_all is_ascii_digit (d ∷ digits)) as (λ t. cond t (cond (leb (digits_value 0 (d ∷ digits)) most) (Some (digits_value 0 (d ∷ digits))) None) None ≡ None)
    [ true ↦ rw test | false ↦ refl ]

-- one digit more leads above the most
pub above_turn : (digits : List ℕ) (most value place : ℕ) → place < length digits → digits_value value (drop place digits) ≡ digits_value 0 digits → most < value * 10 + (get_or digits place 0 - 48) → number_up_to most digits ≡ None
above_turn digits most value place below so_far above =
    let split : drop place digits ≡ get_or digits place 0 ∷ drop (place + 1) digits = rw add-one (drop-cons digits place 0 below) in
    let turn : digits_value (value * 10 + (get_or digits place 0 - 48)) (drop (place + 1) digits) ≡ digits_value 0 digits = rw split at so_far in
    let grown = digits_value-le (drop (place + 1) digits) (value * 10 + (get_or digits place 0 - 48)) in
    no_number-above digits most (omega (arith, above, grown, turn))
