-- What is read of one more line of a listing.
use Rattle.std.proofs.Common.{◌≡◌, ℕ, ◌+◌, ◌<◌, true, false, cond, List, [], ◌∷◌, ◌++◌, length, take, map, get_or, refl, sym, ◌∙◌, ap, subst, String, Global}
use Rattle.std.proofs.lemmas.List.{map-append, append-nil, take_more}
use Rattle.std.proofs.lemmas.List.Elements.{filter-append}
use Rattle.std.specs.String.{string_bytes}
use Rattle.ftp_list.specs.declared.sorts.Sort.{Sort}
use Rattle.ftp_list.specs.declared.sorts.Sort.TheVariants.{File, Around, Other, Unread}
use Rattle.ftp_list.specs.Entries.{Contents, nothing, onto, added, IsRead, entries, is_entry}
use Rattle.ftp_list.specs.Entries.IsRead.{Ended, Read}

-- a line put before the others and one behind them
onto-added : (line other : List ℕ) (sort sort' : Sort) (contents : Contents) → onto other sort' (added line sort contents) ≡ added line sort (onto other sort' contents)
onto-added line other (File entry) (File entry') contents = refl
onto-added line other (File entry) (Around entry') contents = refl
onto-added line other (File entry) (Other file') contents = refl
onto-added line other (File entry) Unread contents = refl
onto-added line other (Around entry) (File entry') contents = refl
onto-added line other (Around entry) (Around entry') contents = refl
onto-added line other (Around entry) (Other file') contents = refl
onto-added line other (Around entry) Unread contents = refl
onto-added line other (Other file) (File entry') contents = refl
onto-added line other (Other file) (Around entry') contents = refl
onto-added line other (Other file) (Other file') contents = refl
onto-added line other (Other file) Unread contents = refl
onto-added line other Unread (File entry') contents = refl
onto-added line other Unread (Around entry') contents = refl
onto-added line other Unread (Other file') contents = refl
onto-added line other Unread Unread contents = refl

one_alone : (Says : List ℕ → Sort → Type 0) (line : List ℕ) (sort : Sort) → Says line sort → IsRead Says (line ∷ []) (added line sort nothing)
one_alone Says line (File entry) h = Read h Ended
one_alone Says line (Around entry) h = Read h Ended
one_alone Says line (Other file) h = Read h Ended
one_alone Says line Unread h = Read h Ended

-- one more line
pub read_more : (Says : List ℕ → Sort → Type 0) {lines : List (List ℕ)} {contents : Contents} (line : List ℕ) (sort : Sort) → Says line sort → IsRead Says lines contents → IsRead Says (lines ++ line ∷ []) (added line sort contents)
read_more Says line sort h Ended = one_alone Says line sort h
read_more Says line sort h (Read {line = other} {sort = sort'} {lines = lines} {others = contents} g r) =
    subst (λ (read : Contents). IsRead Says (other ∷ (lines ++ line ∷ [])) read) (onto-added line other sort sort' contents)
    (Read g (read_more Says line sort h r))

-- one more line that is a file's
pub entries_more : (lines : List (List ℕ)) (line : List ℕ) → is_entry line ≡ true → entries (lines ++ line ∷ []) ≡ entries lines ++ line ∷ []
entries_more lines line is = filter-append is_entry lines (line ∷ []) ∙ ap (λ b. entries lines ++ cond b (line ∷ []) []) is

-- one more line that is left out
pub entries_same : (lines : List (List ℕ)) (line : List ℕ) → is_entry line ≡ false → entries (lines ++ line ∷ []) ≡ entries lines
entries_same lines line is = filter-append is_entry lines (line ∷ []) ∙ ap (λ b. entries lines ++ cond b (line ∷ []) []) is ∙ append-nil (entries lines)

-- the bytes of one more line
pub bytes_more : (lines : List (String Global)) (i : ℕ) (line : String Global) → i < length lines → line ≡ get_or lines i line → map string_bytes (take (i + 1) lines) ≡ map string_bytes (take i lines) ++ string_bytes line ∷ []
bytes_more lines i line h is =
    ap (map string_bytes) (take_more lines i line h)
    ∙ map-append string_bytes (take i lines) (get_or lines i line ∷ [])
    ∙ ap (λ (l : String Global). map string_bytes (take i lines) ++ string_bytes l ∷ []) (sym is)
