-- The number of EPSV: the fourth piece between bars in brackets, and the port that it tells.
use Rattle.std.proofs.Common.{◌≡◌, ℕ, ◌+◌, true, false, eqb, leb, inl, inr, List, [], ◌∷◌, ◌++◌, length, drop, get_or, refl, sym, ap, ◌∙◌, arith}
use Rattle.std.specs.Prelude.{Some, None, Ok, Err, codes}
use Rattle.std.specs.List.{list_any, slice_split}
use Rattle.std.specs.Option.{option_map}
use Rattle.std.proofs.lemmas.Bool.{cases_Bool, and_parts, ne_eqb}
use Rattle.std.proofs.lemmas.List.{drop-drop}
use Rattle.std.proofs.lemmas.List.Splits.{slice_split_at}
use Rattle.ftp_base.specs.declared.command.scan.Span.{Span}
use Rattle.ftp_base.specs.Scan.{IsExtended, StandsFirst, StandsNowhere, between, digits_value}
use Rattle.ftp_calls.specs.declared.answers.addresses.NoAddress.TheVariants.{Absent, Unreadable}
use Rattle.ftp_calls.specs.Addresses.{is_closing, has_brackets, pieces, is_number, are_extended, has_extended, extended_number, port_of}
use Rattle.ftp_calls.proofs.PlaceFacts.{no_place, first_place}
use Rattle.ftp_calls.proofs.QuoteFacts.{if_passed, if_failed}
use Rattle.ftp_calls.proofs.NumberFacts.{spelled, value_at, spelled_digits, spelled_number, number_split, number_here, rest_here, Reads, read_value, read_none}
use Rattle.ftp_calls.proofs.PieceFacts.{begins_with, after_drop, inside, inside_more, inside_ends, inside_digits, cut, uncut, any_later, split_begins, both_hold, brackets, stands_within, open_bracket}

-- the pieces of a number between bars
extended_cut : (text : List ℕ) (place : ℕ) (span : Span) → IsExtended text place span →
    (pieces 124 text place ≡ [] ∷ [] ∷ [] ∷ spelled text span ∷ [] ∷ []) × (list_any is_closing (drop (place + 1) text) ≡ true)
extended_cut text place span extended =
    let number = extended.number in
    let front = spelled text span in
    let all = spelled_digits text (place + 4) span number in
    let rest = drop 2 (drop span.end text) in
    let opens : drop place text ≡ codes "(|||" ++ drop (place + 4) text = begins_with (drop place text) (codes "(|||") extended.opens ∙ ap (λ l. codes "(|||" ++ l) (drop-drop 4 place text) in
    let closes : drop (place + 4) text ≡ front ++ 124 ∷ 41 ∷ rest = number_split text (place + 4) span number ∙ ap (λ l. front ++ l) (begins_with (drop span.end text) (codes "|)") extended.closes) in
    let whole : drop (place + 1) text ≡ 124 ∷ 124 ∷ 124 ∷ (front ++ 124 ∷ 41 ∷ rest) =
    after_drop text place 40 (124 ∷ 124 ∷ 124 ∷ drop (place + 4) text) opens ∙ ap (λ l. 124 ∷ 124 ∷ 124 ∷ l) closes in
    let within : inside (front ++ 124 ∷ 41 ∷ rest) ≡ front ++ 124 ∷ [] =
    inside_digits front (124 ∷ 41 ∷ rest) all ∙ ap (λ l. front ++ l) (inside_more 124 (41 ∷ rest) refl ∙ ap (λ l. 124 ∷ l) (inside_ends 41 rest refl)) in
    let opened : inside (124 ∷ 124 ∷ 124 ∷ (front ++ 124 ∷ 41 ∷ rest)) ≡ 124 ∷ 124 ∷ 124 ∷ (front ++ 124 ∷ []) =
    inside_more 124 (124 ∷ 124 ∷ (front ++ 124 ∷ 41 ∷ rest)) refl
    ∙ ap (λ l. 124 ∷ l) (inside_more 124 (124 ∷ (front ++ 124 ∷ 41 ∷ rest)) refl
    ∙ ap (λ l. 124 ∷ l) (inside_more 124 (front ++ 124 ∷ 41 ∷ rest) refl ∙ ap (λ l. 124 ∷ l) within)) in (
      ap (λ l. slice_split (cut 124) (inside l)) whole ∙ ap (slice_split (cut 124)) opened
          ∙ ap (λ l. [] ∷ [] ∷ [] ∷ l) (slice_split_at (cut 124) front 124 [] (uncut 124 front (λ x digit. ne_eqb x 124 (λ same. omega (arith, same, digit.1))) all) refl),
      ap (list_any is_closing) whole ∙ any_later front 124 (41 ∷ rest) refl,
    )

extended_passes : (text : List ℕ) (place : ℕ) (span : Span) → IsExtended text place span → has_extended text place ≡ true
extended_passes text place span extended =
    let (split, any) = extended_cut text place span extended in
    both_hold (has_brackets text place) (are_extended (pieces 124 text place)) (brackets text place (codes "|||") extended.opens any)
    (ap are_extended split ∙ spelled_number text (place + 4) span extended.number)

-- pieces that pass are three empty ones, a number and an empty one
pieces_extended : (ps : List (List ℕ)) → are_extended ps ≡ true → (port : List ℕ) × (ps ≡ [] ∷ [] ∷ [] ∷ port ∷ [] ∷ []) × (is_number port ≡ true)
pieces_extended ([] ∷ [] ∷ [] ∷ port ∷ [] ∷ []) passes = (port, refl, passes)
pieces_extended others passes = cc passes

-- lists that go on one after another
chained : (xs one two three four five port : List ℕ) → xs ≡ 124 ∷ one → one ≡ 124 ∷ two → two ≡ 124 ∷ three → three ≡ port ++ 124 ∷ four → four ≡ 41 ∷ five →
    xs ≡ 124 ∷ 124 ∷ 124 ∷ (port ++ 124 ∷ 41 ∷ five)
chained xs one two three four five port p q r s t = cc

-- where a text goes on so, a number stands between bars
extended_stands : (text : List ℕ) (place : ℕ) (port one two three four five : List ℕ) → eqb (get_or text place 0) 40 ≡ true → is_number port ≡ true →
    drop (place + 1) text ≡ 124 ∷ one → one ≡ 124 ∷ two → two ≡ 124 ∷ three → three ≡ port ++ 124 ∷ four → four ≡ 41 ∷ five →
    IsExtended text place (between (place + 4) (place + 4 + length port))
extended_stands text place port one two three four five opens number p q r s t =
    let is : drop place text ≡ 40 ∷ 124 ∷ 124 ∷ 124 ∷ (port ++ 124 ∷ 41 ∷ five) =
    open_bracket text place opens ∙ ap (λ l. 40 ∷ l) (chained (drop (place + 1) text) one two three four five port p q r s t) in
    let here : drop (place + 4) text ≡ port ++ 124 ∷ 41 ∷ five = sym (drop-drop 4 place text) ∙ ap (drop 4) is in
    let back : drop (place + 4 + length port) text ≡ 124 ∷ 41 ∷ five = rest_here text (place + 4) port (124 ∷ 41 ∷ five) here in
    record { opens = rw is refl; number = number_here text (place + 4) port (124 ∷ 41 ∷ five) here number; closes = rw back refl }

passes_extended : (text : List ℕ) (place : ℕ) → has_extended text place ≡ true → (span : Span) × IsExtended text place span
passes_extended text place passes =
    let (bracket, between_bars) = and_parts (has_brackets text place) (are_extended (pieces 124 text place)) passes in
    let (opens, any) = and_parts (eqb (get_or text place 0) 40) (list_any is_closing (drop (place + 1) text)) bracket in
    let (port, split, number) = pieces_extended (pieces 124 text place) between_bars in
    let (one, is_one, any_one, split_one) = split_begins 124 (drop (place + 1) text) [] ([] ∷ [] ∷ port ∷ [] ∷ []) any split in
    let (two, is_two, any_two, split_two) = split_begins 124 one [] ([] ∷ port ∷ [] ∷ []) any_one split_one in
    let (three, is_three, any_three, split_three) = split_begins 124 two [] (port ∷ [] ∷ []) any_two split_two in
    let (four, is_four, any_four, split_four) = split_begins 124 three port ([] ∷ []) any_three split_three in
    let (five, is_five) = split_begins 124 four [] [] any_four split_four in
    (between (place + 4) (place + 4 + length port), extended_stands text place port one two three four five opens number is_one is_two is_three is_four is_five)

not_extended : (text : List ℕ) (place : ℕ) → ((span : Span) → IsExtended text place span → ⊥) → has_extended text place ≡ false
not_extended text place none =
    elim (cases_Bool (has_extended text place)) [
      | inr other ↦ other
      | inl passes ↦ (let (span, extended) = passes_extended text place passes in absurd (none span extended))
    ]

abbrev pub number_piece : List ℕ → ℕ → ℕ
number_piece text place = digits_value 0 (get_or (pieces 124 text place) 3 [])

pub no_extended : (text : List ℕ) → StandsNowhere (IsExtended text) → Err Absent ≡ port_of (extended_number text)
no_extended text nowhere =
    ap (λ place. port_of (option_map (number_piece text) place)) (sym (no_place (has_extended text) (length text) (λ k lt. not_extended text k (nowhere k))))

first_extended : (text : List ℕ) (span : Span) → StandsFirst (IsExtended text) span → extended_number text ≡ Some (value_at text span)
first_extended text span first =
    ap (option_map (number_piece text))
    (first_place (has_extended text) (length text) first.place (stands_within text first.place (codes "|||") first.stands.opens)
    (extended_passes text first.place span first.stands) (λ k lt. not_extended text k (λ other extended. first.first k other lt extended)))
    ∙ ap (λ ps. Some (digits_value 0 (get_or ps 3 []))) (extended_cut text first.place span first.stands).0

-- the port of a number that was read, and of one that is too large
pub port_is : (text : List ℕ) (span : Span) (port : ℕ) → StandsFirst (IsExtended text) span → Reads 65535 text span (Some port) → Ok port ≡ port_of (extended_number text)
port_is text span port first reads =
    let value = value_at text span in
    let (fits, is) = read_value text (first.place + 4) 65535 span port first.stands.number reads in
    ap Ok is ∙ if_passed (leb value 65535) (Ok value) (Err Unreadable) fits ∙ ap port_of (sym (first_extended text span first))

pub too_large : (text : List ℕ) (span : Span) → StandsFirst (IsExtended text) span → Reads 65535 text span None → Err Unreadable ≡ port_of (extended_number text)
too_large text span first reads =
    let value = value_at text span in
    let above = read_none text (first.place + 4) 65535 span first.stands.number reads in
    if_failed (leb value 65535) (Ok value) (Err Unreadable) above ∙ ap port_of (sym (first_extended text span first))
