-- Laws of places.
use Rattle.std.proofs.Common.{◌≡◌, ◌<◌, ◌+◌, ℕ, suc, true, IsTrue, List, [], ◌∷◌, ◌++◌, drop, length, get_or, refl, ap, sym, ◌∙◌, inl, inr, append-nil, append_assoc, reverse, arith}
use Rattle.std.proofs.lemmas.Grind.{common_steps}
use Rattle.std.proofs.lemmas.List.{reverse-append}
use Rattle.std.proofs.Math.Seq.{drop-cons}
use Rattle.ftp_list.specs.Entry.{Entry}
use Rattle.ftp_list.specs.FileTypes.{is_directory}
use Rattle.ftp_list.specs.Names.{is_plain_name}
use Rattle.ftp_shared.specs.Places.{Names, are_plain, AreSomeOf, folders_among}

-- a plain name after plain names
pub are_plain-push : (names : Names) (name : List ℕ) → IsTrue (are_plain names) → is_plain_name name ≡ true → IsTrue (are_plain (names ++ name ∷ []))
are_plain-push [] name all one = grind (arith, common_steps)
are_plain-push (n ∷ ns) name all one = grind (arith, common_steps, are_plain-push ns name)

-- some of these are some of more
pub are_some_of-more : (some places more : List Names) → AreSomeOf some places → AreSomeOf some (places ++ more)
are_some_of-more [] places more of = tt
are_some_of-more (one ∷ others) [] more of = absurd of
are_some_of-more (one ∷ others) (place ∷ places) more (inl here) = inl (here.0, are_some_of-more others places more here.1)
are_some_of-more (one ∷ others) (place ∷ places) more (inr later) = inr (are_some_of-more (one ∷ others) places more later)

-- one more of each
pub are_some_of-push : (some places : List Names) (last : Names) → AreSomeOf some places → AreSomeOf (some ++ last ∷ []) (places ++ last ∷ [])
are_some_of-push [] [] last of = inl (refl, tt)
are_some_of-push [] (place ∷ places) last of = inr (are_some_of-push [] places last tt)
are_some_of-push (one ∷ others) [] last of = absurd of
are_some_of-push (one ∷ others) (place ∷ places) last (inl here) = inl (here.0, are_some_of-push others places last here.1)
are_some_of-push (one ∷ others) (place ∷ places) last (inr later) = inr (are_some_of-push (one ∷ others) places last later)

-- the first entry of those that are left, and the others
pub folders_among-next : (folder : Names) (entry : Entry) (entries : List Entry) → folders_among folder (entry ∷ entries) ≡ folders_among folder (entry ∷ []) ++ folders_among folder entries
unfolding folders_among
folders_among-next folder entry entries = ap (λ first. first ++ folders_among folder entries) (sym (append-nil _))

pub folders_among-here : (folder : Names) (entries : List Entry) (place : ℕ) (entry : Entry) → place < length entries → entry ≡ get_or entries place entry → folders_among folder (drop place entries) ≡ folders_among folder (entry ∷ []) ++ folders_among folder (drop (place + 1) entries)
folders_among-here folder entries place entry at is =
    let on : place + 1 ≡ suc place = omega arith in
    ap (folders_among folder) (drop-cons entries place entry at)
    ∙ folders_among-next folder (get_or entries place entry) (drop (suc place) entries)
    ∙ ap (λ one. folders_among folder (one ∷ []) ++ folders_among folder (drop (suc place) entries)) (sym is)
    ∙ ap (λ next. folders_among folder (entry ∷ []) ++ folders_among folder (drop next entries)) (sym on)

-- a folder with a plain name
pub folders_among-one : (folder : Names) (entry : Entry) (place : Names) → is_directory entry.file_type ≡ true → is_plain_name entry.name ≡ true → place ≡ folder ++ entry.name ∷ [] → folders_among folder (entry ∷ []) ≡ place ∷ []
unfolding folders_among
folders_among-one folder entry place directory plain is = rw (directory, plain) (ap (λ one. one ∷ []) (sym is))

-- the last of those that are entered is moved
pub reverse-pop : (whole added left : List Names) (place : Names) → reverse whole ≡ added ++ reverse (left ++ place ∷ []) → reverse whole ≡ (added ++ place ∷ []) ++ reverse left
reverse-pop whole added left place is = is ∙ ap (λ names. added ++ names) (reverse-append left (place ∷ [])) ∙ sym (append_assoc added (place ∷ []) (reverse left))
