-- Blanks at the ends of a text, and words. Texts are lists of characters.
use Rattle.std.specs.Prelude.{ℕ, Bool, ◌&&◌, ◌==◌, true, false, if◌then◌else◌, List, [], ◌∷◌, drop}
use Rattle.std.specs.Char.{to_ascii_lowercase}
use Rattle.std.specs.List.{prefix_len}
use Rattle.ftp_list.specs.declared.class.Class.TheVariants.{Blank}
use Rattle.ftp_list.specs.Shapes.{is_in, all_in}

-- the text without the blanks at its front
abbrev pub trim_front : List ℕ → List ℕ
trim_front text = drop (prefix_len (is_in Blank) text) text

-- the text without the blanks at its end
abbrev pub trim_back : List ℕ → List ℕ
trim_back [] = []
trim_back (c ∷ cs) = if all_in Blank (c ∷ cs) then [] else c ∷ trim_back cs

-- the text without the blanks at both ends
abbrev pub trim : List ℕ → List ℕ
trim text = trim_back (trim_front text)

-- the text is that word of small letters, whatever the case of its own ASCII letters
abbrev pub is_word : List ℕ → List ℕ → Bool
is_word [] [] = true
is_word [] (c ∷ cs) = false
is_word (w ∷ ws) [] = false
is_word (w ∷ ws) (c ∷ cs) = (to_ascii_lowercase c == w) && is_word ws cs
