-- Names of files. A name is the bytes of its text.
use Rattle.std.specs.Prelude.{ℕ, Bool, not, ◌&&◌, ◌||◌, ◌==◌, List, length, bytes_eq, codes}
use Rattle.std.specs.List.{list_all}

-- the name of a directory itself or of its parent
abbrev pub is_dots : List ℕ → Bool
is_dots name = bytes_eq name (codes ".") || bytes_eq name (codes "..")

-- not NUL, LF, CR, / or \
abbrev pub is_plain_byte : ℕ → Bool
is_plain_byte b = not (b == 0) && not (b == 10) && not (b == 13) && not (b == 47) && not (b == 92)

-- the name of a file in a directory, which leads nowhere else
abbrev pub is_plain_name : List ℕ → Bool
is_plain_name name = not (length name == 0) && not (is_dots name) && list_all is_plain_byte name
