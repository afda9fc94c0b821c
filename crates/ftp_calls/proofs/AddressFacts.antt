-- The six numbers of PASV: the pieces between commas in brackets, and the address that they tell.
use Rattle.std.proofs.Common.{◌≡◌, ℕ, zero, suc, ◌+◌, ◌*◌, ◌<◌, Bool, true, false, eqb, leb, inl, inr, List, [], ◌∷◌, ◌++◌, length, map, take, drop, get_or, refl, sym, ap, ◌∙◌, arith}
use Rattle.std.specs.Prelude.{Some, None, ◌&&◌}
use Rattle.std.specs.List.{list_all, list_any, slice_split}
use Rattle.std.specs.Option.{option_map, option_and_then}
use Rattle.std.specs.Char.{IsAsciiDigit}
use Rattle.std.specs.Net.Addr.{ipv4_octets}
use Rattle.std.specs.Net.Socket.{v4_ip, v4_port}
use Rattle.std.specs.declared.net.socket_addr.SocketAddr.TheVariants.{V4}
use Rattle.std.specs.declared.net.socket_addr.SocketAddrV4.{SocketAddrV4}
use Rattle.std.proofs.lemmas.Bool.{cases_Bool, cases_lt, and_parts, eq-eqb, eqb-true}
use Rattle.std.proofs.lemmas.List.{append-nil, length-append, length-map, get_or_at, get_or_past, drop_more, drop_all}
use Rattle.std.proofs.lemmas.List.Folds.{list_all_at, list_any_at}
use Rattle.std.proofs.lemmas.List.Splits.{slice_split_none, slice_split_at}
use Rattle.ftp_base.specs.declared.command.scan.Span.{Span}
use Rattle.ftp_base.specs.Scan.{AreFields, IsNumber, IsMark, IsPassive, StandsFirst, StandsNowhere, between, digits_value}
use Rattle.ftp_calls.specs.Addresses.{is_closing, has_brackets, pieces, is_number, has_passive, passive_numbers, socket, is_octet, address_of}
use Rattle.ftp_calls.proofs.PlaceFacts.{no_place, first_place}
use Rattle.ftp_calls.proofs.QuoteFacts.{if_passed, if_failed}
use Rattle.ftp_calls.proofs.NumberFacts.{spelled, value_at, spelled_digits, spelled_number, number_split, number_here, rest_here, Reads, read_value, read_none}
use Rattle.ftp_calls.proofs.PieceFacts.{at_drop, after_drop, inside, inside_more, inside_ends, no_byte, inside_digits, cut, uncut, any_later, Begins, split_some, split_begins, brackets, stands_within, open_bracket}

-- a closing byte ends a run of digits
mark_is : (text : List ℕ) (place close : ℕ) → IsMark close → get_or text place 0 ≡ close → (place < length text) × (IsAsciiDigit (get_or text place 0) → ⊥)
mark_is text place close mark is = (
  elim (cases_lt place (length text)) [
    | inl lt ↦ lt
    | inr past ↦ (let zero_at : get_or text place 0 ≡ 0 = get_or_past text place 0 past in absurd (omega (arith, zero_at, is, mark.0)))
  ],
  λ digit. omega (arith, is, mark.1, digit.0),
)

-- so many commas and a closing bracket
abbrev pub commas : ℕ → List ℕ
commas zero = 41 ∷ []
commas (suc n) = 44 ∷ commas n

-- numbers that stand in a text are its pieces
fields_cut : (text : List ℕ) (from n : ℕ) (spans : List Span) → AreFields text from (commas n) spans →
    (slice_split (cut 44) (inside (drop from text)) ≡ map (spelled text) spans) × (list_any is_closing (drop from text) ≡ true) × (list_all is_number (map (spelled text) spans) ≡ true)
fields_cut text from zero [] fields = absurd fields
fields_cut text from zero (span ∷ other ∷ spans) fields = absurd fields.2
fields_cut text from zero (span ∷ []) fields =
    let front = spelled text span in
    let (within, _) = mark_is text span.end 41 (omega arith, omega arith) fields.1 in
    let all = spelled_digits text from span fields.0 in
    let rest = drop (span.end + 1) text in
    let whole : drop from text ≡ front ++ 41 ∷ rest =
    number_split text from span fields.0 ∙ ap (λ l. front ++ l) (drop_more text span.end 0 within ∙ ap (λ b. b ∷ rest) fields.1) in
    let one = spelled_number text from span fields.0 in (
      ap (λ l. slice_split (cut 44) (inside l)) whole
          ∙ ap (slice_split (cut 44)) (inside_digits front (41 ∷ rest) all ∙ ap (λ l. front ++ l) (inside_ends 41 rest refl) ∙ append-nil front)
          ∙ slice_split_none (cut 44) front (uncut 44 front (λ x digit. no_byte x 44 (omega arith) digit) all),
      ap (list_any is_closing) whole
          ∙ list_any_at is_closing (front ++ 41 ∷ rest) (length front) 0 (omega (arith, length-append front (41 ∷ rest))) (ap is_closing (get_or_at front 41 rest 0 (length front) refl)),
      rw one refl,
    )
fields_cut text from (suc n) [] fields = absurd fields
fields_cut text from (suc n) (span ∷ spans) fields =
    let front = spelled text span in
    let (within, _) = mark_is text span.end 44 (omega arith, omega arith) fields.1 in
    let all = spelled_digits text from span fields.0 in
    let rest = drop (span.end + 1) text in
    let whole : drop from text ≡ front ++ 44 ∷ rest =
    number_split text from span fields.0 ∙ ap (λ l. front ++ l) (drop_more text span.end 0 within ∙ ap (λ b. b ∷ rest) fields.1) in
    let one = spelled_number text from span fields.0 in
    let (split, any, numbers) = fields_cut text (span.end + 1) n spans fields.2 in (
      ap (λ l. slice_split (cut 44) (inside l)) whole
          ∙ ap (slice_split (cut 44)) (inside_digits front (44 ∷ rest) all ∙ ap (λ l. front ++ l) (inside_more 44 rest refl))
          ∙ slice_split_at (cut 44) front 44 (inside rest) (uncut 44 front (λ x digit. no_byte x 44 (omega arith) digit) all) refl
          ∙ ap (λ l. front ∷ l) split,
      ap (list_any is_closing) whole ∙ any_later front 44 rest any,
      rw (one, numbers) refl,
    )

-- pieces that are numbers stand in a text
pieces_stand : (text : List ℕ) (from n : ℕ) (piece : List ℕ) (more : List (List ℕ)) → length more ≡ n → list_all is_number (piece ∷ more) ≡ true → Begins 44 (drop from text) piece more →
    (spans : List Span) × AreFields text from (commas n) spans
pieces_stand text from zero piece [] long numbers begins =
    let (rest, is) = begins in
    let end = from + length piece in
    let (number, _) = and_parts (is_number piece) true numbers in
    let (_, closed) = at_drop text end 41 rest (rest_here text from piece (41 ∷ rest) is) in
    (between from end ∷ [], (number_here text from piece (41 ∷ rest) is number, closed, tt))
pieces_stand text from zero piece (next ∷ more) long numbers begins = absurd (omega (arith, long))
pieces_stand text from (suc n) piece [] long numbers begins = absurd (omega (arith, long))
pieces_stand text from (suc n) piece (next ∷ more) long numbers begins =
    let (rest, is, any, split) = begins in
    let end = from + length piece in
    let (number, others) = and_parts (is_number piece) (list_all is_number (next ∷ more)) numbers in
    let here : drop end text ≡ 44 ∷ rest = rest_here text from piece (44 ∷ rest) is in
    let (_, closed) = at_drop text end 44 rest here in
    let after : drop (end + 1) text ≡ rest = after_drop text end 44 rest here in
    let (spans, fields) =
    pieces_stand text (end + 1) n next more (omega (arith, long)) others
    (split_begins 44 (drop (end + 1) text) next more (ap (list_any is_closing) after ∙ any) (ap (λ l. slice_split (cut 44) (inside l)) after ∙ split)) in
    (between from end ∷ spans, (number_here text from piece (44 ∷ rest) is number, closed, fields))

fields_long : (text : List ℕ) (from : ℕ) (closes : List ℕ) (spans : List Span) → AreFields text from closes spans → length spans ≡ length closes
fields_long text from [] [] fields = refl
fields_long text from [] (span ∷ spans) fields = absurd fields
fields_long text from (close ∷ closes) [] fields = absurd fields
fields_long text from (close ∷ closes) (span ∷ spans) fields = ap suc (fields_long text (span.end + 1) closes spans fields.2)

three_hold : (a b c : Bool) → a ≡ true → b ≡ true → c ≡ true → (a && b && c) ≡ true
three_hold a b c p q r = rw (p, q, r) refl

all_three : (a b c : Bool) → (a && b && c) ≡ true → (a ≡ true) × (b ≡ true) × (c ≡ true)
all_three true true true h = (refl, refl, refl)
all_three true true false h = cc h
all_three true false c h = cc h
all_three false b c h = cc h

-- the pieces of six numbers
passive_pieces : (text : List ℕ) (place : ℕ) (spans : List Span) → IsPassive text place spans → pieces 44 text place ≡ map (spelled text) spans
passive_pieces text place spans passive = (fields_cut text (place + 1) 5 spans passive.fields).0

-- the test passes where six numbers stand
passive_passes : (text : List ℕ) (place : ℕ) (spans : List Span) → IsPassive text place spans → has_passive text place ≡ true
passive_passes text place spans passive =
    let (split, any, numbers) = fields_cut text (place + 1) 5 spans passive.fields in
    let long : length (pieces 44 text place) ≡ 6 = ap length split ∙ length-map spans (spelled text) ∙ fields_long text (place + 1) (commas 5) spans passive.fields in
    three_hold (has_brackets text place) (eqb (length (pieces 44 text place)) 6) (list_all is_number (pieces 44 text place))
    (brackets text place [] passive.opens any) (eq-eqb (length (pieces 44 text place)) 6 long) (ap (list_all is_number) split ∙ numbers)

-- and six numbers stand where it passes
passes_passive : (text : List ℕ) (place : ℕ) → has_passive text place ≡ true → (spans : List Span) × IsPassive text place spans
passes_passive text place passes =
    let (bracket, six, numbers) = all_three (has_brackets text place) (eqb (length (pieces 44 text place)) 6) (list_all is_number (pieces 44 text place)) passes in
    let (opens, any) = and_parts (eqb (get_or text place 0) 40) (list_any is_closing (drop (place + 1) text)) bracket in
    let (piece, more, split) = split_some 44 (inside (drop (place + 1) text)) in
    let long : length more ≡ 5 = (let l : suc (length more) ≡ 6 = ap length (sym split) ∙ eqb-true (length (pieces 44 text place)) 6 six in omega (arith, l)) in
    let (spans, fields) =
    pieces_stand text (place + 1) 5 piece more long (ap (list_all is_number) (sym split) ∙ numbers)
    (split_begins 44 (drop (place + 1) text) piece more any split) in
    let front = open_bracket text place opens in
    (spans, record { opens = rw front refl; fields = fields })

not_passive : (text : List ℕ) (place : ℕ) → ((spans : List Span) → IsPassive text place spans → ⊥) → has_passive text place ≡ false
not_passive text place none =
    elim (cases_Bool (has_passive text place)) [
      | inr other ↦ other
      | inl passes ↦ (let (spans, passive) = passes_passive text place passes in absurd (none spans passive))
    ]

map_spelled : (text : List ℕ) (spans : List Span) → map (digits_value 0) (map (spelled text) spans) ≡ map (value_at text) spans
map_spelled text [] = refl
map_spelled text (span ∷ spans) = ap (λ l. value_at text span ∷ l) (map_spelled text spans)

no_passive : (text : List ℕ) → StandsNowhere (IsPassive text) → passive_numbers text ≡ None
no_passive text nowhere =
    ap (option_map (λ place. map (digits_value 0) (pieces 44 text place))) (no_place (has_passive text) (length text) (λ k lt. not_passive text k (nowhere k)))

first_passive : (text : List ℕ) (spans : List Span) → StandsFirst (IsPassive text) spans → passive_numbers text ≡ Some (map (value_at text) spans)
first_passive text spans first =
    ap (option_map (λ place. map (digits_value 0) (pieces 44 text place)))
    (first_place (has_passive text) (length text) first.place (stands_within text first.place [] first.stands.opens)
    (passive_passes text first.place spans first.stands) (λ k lt. not_passive text k (λ others passive. first.first k others lt passive)))
    ∙ ap (λ l. Some (map (digits_value 0) l)) (passive_pieces text first.place spans first.stands)
    ∙ ap Some (map_spelled text spans)

-- the spans of numbers, one by one
field_number : (text : List ℕ) (from : ℕ) (closes : List ℕ) (spans : List Span) (i : ℕ) → AreFields text from closes spans → i < length closes →
    (i < length spans) × ((place : ℕ) × IsNumber text place (get_or spans i (between 0 0)))
field_number text from [] spans i fields lt = absurd (omega (arith, lt))
field_number text from (close ∷ closes) [] i fields lt = absurd fields
field_number text from (close ∷ closes) (span ∷ spans) zero fields lt = (omega arith, (from, fields.0))
field_number text from (close ∷ closes) (span ∷ spans) (suc i) fields lt =
    let (within, number) = field_number text (span.end + 1) closes spans i fields.2 (omega (arith, lt)) in (omega (arith, within), number)

map_at : (f : Span → ℕ) (spans : List Span) (i : ℕ) → i < length spans → get_or (map f spans) i 0 ≡ f (get_or spans i (between 0 0))
map_at f [] i lt = absurd (omega (arith, lt))
map_at f (span ∷ spans) zero lt = refl
map_at f (span ∷ spans) (suc i) lt = map_at f spans i (omega (arith, lt))

-- no address is told where one of six numbers isn't an octet
pub no_octet : (text : List ℕ) (spans : List Span) (i : ℕ) → StandsFirst (IsPassive text) spans → i < 6 → Reads 255 text (get_or spans i (between 0 0)) None →
    None ≡ option_and_then address_of (passive_numbers text)
no_octet text spans i first lt reads =
    let (within, (place, number)) = field_number text (first.place + 1) (commas 5) spans i first.stands.fields lt in
    let ns = map (value_at text) spans in
    let above : leb (value_at text (get_or spans i (between 0 0))) 255 ≡ false = read_none text place 255 (get_or spans i (between 0 0)) number reads in
    let fails : list_all is_octet ns ≡ false =
    list_all_at is_octet ns i 0 (omega (arith, within, length-map spans (value_at text))) (ap is_octet (map_at (value_at text) spans i within) ∙ above) in
    if_failed (list_all is_octet ns) (Some (socket (take 4 ns) (get_or ns 4 0 * 256 + get_or ns 5 0))) None fails
    ∙ ap (option_and_then address_of) (sym (first_passive text spans first))

pub absent_address : (text : List ℕ) → StandsNowhere (IsPassive text) → None ≡ option_and_then address_of (passive_numbers text)
absent_address text nowhere = ap (option_and_then address_of) (sym (no_passive text nowhere))

six_of : (ns : List ℕ) → length ns ≡ 6 → ns ≡ get_or ns 0 0 ∷ get_or ns 1 0 ∷ get_or ns 2 0 ∷ get_or ns 3 0 ∷ get_or ns 4 0 ∷ get_or ns 5 0 ∷ []
six_of ns long =
    drop_more ns 0 0 (omega (arith, long))
    ∙ ap (λ l. get_or ns 0 0 ∷ l) (drop_more ns 1 0 (omega (arith, long))
    ∙ ap (λ l. get_or ns 1 0 ∷ l) (drop_more ns 2 0 (omega (arith, long))
    ∙ ap (λ l. get_or ns 2 0 ∷ l) (drop_more ns 3 0 (omega (arith, long))
    ∙ ap (λ l. get_or ns 3 0 ∷ l) (drop_more ns 4 0 (omega (arith, long))
    ∙ ap (λ l. get_or ns 4 0 ∷ l) (drop_more ns 5 0 (omega (arith, long))
    ∙ ap (λ l. get_or ns 5 0 ∷ l) (drop_all 6 ns (omega (arith, long))))))))

-- an octet is the number of its span
octet_at : (text : List ℕ) (spans : List Span) (i x : ℕ) → StandsFirst (IsPassive text) spans → i < 6 → Reads 255 text (get_or spans i (between 0 0)) (Some x) →
    (get_or (map (value_at text) spans) i 0 ≡ x) × (leb x 255 ≡ true)
octet_at text spans i x first lt reads =
    let (within, (place, number)) = field_number text (first.place + 1) (commas 5) spans i first.stands.fields lt in
    let (fits, is) = read_value text place 255 (get_or spans i (between 0 0)) x number reads in
    (map_at (value_at text) spans i within ∙ sym is, ap (λ n. leb n 255) is ∙ fits)

-- the address of six octets
pub address_is : (text : List ℕ) (spans : List Span) (a b c d h l : ℕ) → StandsFirst (IsPassive text) spans →
    Reads 255 text (get_or spans 0 (between 0 0)) (Some a) → Reads 255 text (get_or spans 1 (between 0 0)) (Some b) → Reads 255 text (get_or spans 2 (between 0 0)) (Some c) →
    Reads 255 text (get_or spans 3 (between 0 0)) (Some d) → Reads 255 text (get_or spans 4 (between 0 0)) (Some h) → Reads 255 text (get_or spans 5 (between 0 0)) (Some l) →
    Some (socket (a ∷ b ∷ c ∷ d ∷ []) (h * 256 + l)) ≡ option_and_then address_of (passive_numbers text)
address_is text spans a b c d h l first ra rb rc rd rh rl =
    let ns = map (value_at text) spans in
    let six = a ∷ b ∷ c ∷ d ∷ h ∷ l ∷ [] in
    let long : length ns ≡ 6 = length-map spans (value_at text) ∙ fields_long text (first.place + 1) (commas 5) spans first.stands.fields in
    let (ea, fa) = octet_at text spans 0 a first (omega arith) ra in
    let (eb, fb) = octet_at text spans 1 b first (omega arith) rb in
    let (ec, fc) = octet_at text spans 2 c first (omega arith) rc in
    let (ed, fd) = octet_at text spans 3 d first (omega arith) rd in
    let (eh, fh) = octet_at text spans 4 h first (omega arith) rh in
    let (el, fl) = octet_at text spans 5 l first (omega arith) rl in
    let is : ns ≡ six = let parts = six_of ns long in cc in
    let all : list_all is_octet six ≡ true = rw (fa, fb, fc, fd, fh, fl) refl in
    if_passed (list_all is_octet six) (Some (socket (take 4 six) (h * 256 + l))) None all
    ∙ ap (λ l. option_and_then address_of (Some l)) (sym is)
    ∙ ap (option_and_then address_of) (sym (first_passive text spans first))

-- a socket address of IPv4 is its octets and its port
pub socket_is : (address : SocketAddrV4) {octets : List ℕ} {port : ℕ} → ipv4_octets (v4_ip address) ≡ octets → v4_port address ≡ port → Some (V4 address) ≡ Some (socket octets port)
socket_is address same_octets same_port = λ i. Some (V4 (record { ip = record { octets = same_octets i }; port = same_port i }))
