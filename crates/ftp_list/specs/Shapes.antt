-- The shapes of the parts of a listing line. Texts are lists of characters.
use Rattle.std.specs.Prelude.{ℕ, Bool, not, ◌&&◌, ◌||◌, ◌==◌, nat_le, nat_eq, List, [], length, codes}
use Rattle.std.specs.Char.{is_whitespace, is_ascii_digit}
use Rattle.std.specs.List.{list_all}
use Rattle.std.specs.Cmp.Lexicographic.{pointwise}
use Rattle.ftp_list.specs.Places.{holds, before, behind}
use Rattle.ftp_list.specs.declared.class.Class.{Class}
use Rattle.ftp_list.specs.declared.class.Class.TheVariants.{Kind, Permission, Blank, Digit, NotSpace, NotLineFeed, DigitOrComma, Dash, Colon}
use Rattle.ftp_list.specs.declared.shape.Form.{Form}
use Rattle.ftp_list.specs.declared.shape.Form.TheVariants.{Between, ClockOrYear, HalfDay, DirectoryMark}
use Rattle.ftp_list.specs.declared.shape.Shape.{Shape}
use Rattle.ftp_list.specs.declared.shape.Shape.TheVariants.{OneOrMore, AnyNumber, Short}

-- the character belongs to the class: -ld, -rwxsStT, White_Space, 0 to 9, all but the space, all but LF,
-- digits and the comma, the dash, the colon
unfoldable pub is_in : Class → ℕ → Bool
is_in Kind c = (c == 45) || (c == 108) || (c == 100)
is_in Permission c = (c == 45) || (c == 114) || (c == 119) || (c == 120) || (c == 115) || (c == 83) || (c == 116) || (c == 84)
is_in Blank c = is_whitespace c
is_in Digit c = is_ascii_digit c
is_in NotSpace c = not (c == 32)
is_in NotLineFeed c = not (c == 10)
is_in DigitOrComma c = is_ascii_digit c || (c == 44)
is_in Dash c = c == 45
is_in Colon c = c == 58

-- all characters belong to the class
abbrev pub all_in : Class → List ℕ → Bool
all_in class text = list_all (is_in class) text

-- characters of the class, at least so many and at most so many
abbrev pub is_between : Class → ℕ → ℕ → List ℕ → Bool
is_between class least most text = nat_le least (length text) && nat_le (length text) most && all_in class text

-- one or two digits, a colon, one or two digits
abbrev pub is_clock : List ℕ → Bool
is_clock text =
    holds (codes ":") text && is_between Digit 1 2 (before (codes ":") text)
    && is_between Digit 1 2 (behind (codes ":") text)

-- the text has the form
unfoldable pub is_form : Form → List ℕ → Bool
is_form (Between class least most) text = is_between class least most text
is_form ClockOrYear text = is_clock text || is_between Digit 4 4 text
is_form HalfDay text = pointwise nat_eq text (codes "AM") || pointwise nat_eq text (codes "PM")
is_form DirectoryMark text = pointwise nat_eq text [] || pointwise nat_eq text (codes "<DIR>")

-- the text has the shape
abbrev pub is_shape : Shape → List ℕ → Bool
is_shape (OneOrMore class) text = nat_le 1 (length text) && all_in class text
is_shape (AnyNumber class) text = all_in class text
is_shape (Short form) text = is_form form text
