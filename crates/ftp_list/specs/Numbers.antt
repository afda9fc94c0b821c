-- Decimal numbers. Texts are lists of characters.
use Rattle.std.specs.Prelude.{ℕ, ◌+◌, ◌-◌, ◌*◌, ◌&&◌, nat_lt, nat_le, if◌then◌else◌, List, [], ◌∷◌, length, drop, Option, Some, None, codes}
use Rattle.ftp_list.specs.declared.class.Class.TheVariants.{Digit}
use Rattle.ftp_list.specs.Shapes.{all_in}
use Rattle.ftp_list.specs.Places.{begins}

-- the number that digits write behind those of n
abbrev pub digits_after : ℕ → List ℕ → ℕ
digits_after n [] = n
digits_after n (c ∷ cs) = digits_after (n * 10 + (c - 48)) cs

-- the number of one or more digits, if it is below the limit
unfoldable pub decimal : ℕ → List ℕ → Option ℕ
decimal limit digits =
    if nat_le 1 (length digits) && all_in Digit digits && nat_lt (digits_after 0 digits) limit
    then Some (digits_after 0 digits) else None

-- the same, where a plus may stand in front
unfoldable pub number : ℕ → List ℕ → Option ℕ
number limit text = decimal limit (if begins (codes "+") text then drop 1 text else text)
