-- The address in a reply to PASV and the port in a reply to EPSV: RFC 959, section 4.1.2, and RFC 2428, section 3.
use Rattle.std.specs.Prelude.{ℕ, ◌+◌, ◌*◌, Bool, false, ◌&&◌, ◌==◌, nat_lt, nat_le, if◌then◌else◌, List, [], ◌∷◌, length, map, take, drop, slice_index, slice_index_or, find, Option, Some, None, Result, Ok, Err, ok_or}
use Rattle.std.specs.List.{list_all, list_any, before_first, slice_split}
use Rattle.std.specs.Option.{option_map, option_and_then}
use Rattle.std.specs.Char.{is_ascii_digit}
use Rattle.std.specs.Str.{is_utf8}
use Rattle.std.specs.declared.net.socket_addr.SocketAddr.{SocketAddr}
use Rattle.std.specs.declared.net.socket_addr.SocketAddr.TheVariants.{V4}
use Rattle.ftp_base.specs.Scan.{digits_value}
use Rattle.ftp_calls.specs.Times.{places}
use Rattle.ftp_calls.specs.declared.answers.addresses.NoAddress.{NoAddress}
use Rattle.ftp_calls.specs.declared.answers.addresses.NoAddress.TheVariants.{Absent, Unreadable}

-- the bytes "(" and ")", "," and "|"
abbrev pub opening_bracket : ℕ
opening_bracket = 40

abbrev pub closing_bracket : ℕ
closing_bracket = 41

abbrev pub comma : ℕ
comma = 44

abbrev pub bar : ℕ
bar = 124

abbrev pub is_closing : ℕ → Bool
is_closing byte = byte == closing_bracket

-- whether "(" stands at a place, and ")" after it
abbrev pub has_brackets : List ℕ → ℕ → Bool
has_brackets text place = (slice_index text place == opening_bracket) && list_any is_closing (drop (place + 1) text)

-- what stands in the brackets at a place, up to the first ")", cut at each delimiter
abbrev pub pieces : ℕ → List ℕ → ℕ → List (List ℕ)
pieces delimiter text place =
    slice_split (λ byte. byte == delimiter) (before_first is_closing (drop (place + 1) text))

-- one digit or more
abbrev pub is_number : List ℕ → Bool
is_number piece = nat_lt 0 (length piece) && list_all is_ascii_digit piece

-- whether "(d,d,d,d,d,d)" stands at a place: six numbers between commas
abbrev pub has_passive : List ℕ → ℕ → Bool
has_passive text place =
    has_brackets text place && (length (pieces comma text place) == 6) && list_all is_number (pieces comma text place)

-- three empty pieces, a number and an empty piece
abbrev pub are_extended : List (List ℕ) → Bool
are_extended ([] ∷ [] ∷ [] ∷ port ∷ [] ∷ []) = is_number port
are_extended others = false

-- whether "(|||d|)" stands at a place: the pieces between its bars are these
abbrev pub has_extended : List ℕ → ℕ → Bool
has_extended text place = has_brackets text place && are_extended (pieces bar text place)

-- the six numbers at the first place where they stand so
abbrev pub passive_numbers : List ℕ → Option (List ℕ)
passive_numbers text =
    option_map (λ place. map (digits_value 0) (pieces comma text place)) (find (has_passive text) (places (length text)))

-- the number at the first place where it stands so
abbrev pub extended_number : List ℕ → Option ℕ
extended_number text =
    option_map (λ place. digits_value 0 (slice_index_or (pieces bar text place) 3 []))
    (find (has_extended text) (places (length text)))

-- the IPv4 address of four octets, with a port
abbrev pub socket : List ℕ → ℕ → SocketAddr
socket octets port = V4 (record { ip = record { octets = octets }; port = port })

abbrev pub is_octet : ℕ → Bool
is_octet number = nat_le number 255

-- the address of six octets: four of the IP address, and two of the port, the high one first
abbrev pub address_of : List ℕ → Option SocketAddr
address_of numbers =
    if list_all is_octet numbers
    then Some (socket (take 4 numbers) (slice_index numbers 4 * 256 + slice_index numbers 5)) else None

-- the port that a number is, if there is one
abbrev pub port_of : Option ℕ → Result ℕ NoAddress
port_of None = Err Absent
port_of (Some number) = if nat_le number 65535 then Ok number else Err Unreadable

-- the address in a reply to PASV, which is UTF-8
abbrev pub passive_address_of : List ℕ → Result SocketAddr NoAddress
passive_address_of body =
    if is_utf8 body then ok_or (option_and_then address_of (passive_numbers body)) Absent else Err Unreadable

-- the port in a reply to EPSV, which is UTF-8
abbrev pub extended_port_of : List ℕ → Result ℕ NoAddress
extended_port_of body = if is_utf8 body then port_of (extended_number body) else Err Unreadable
