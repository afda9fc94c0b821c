-- The grammar of replies: RFC 959, section 4.2. A definition speaks of all bytes that came, and of whether
-- they have ended.
use Rattle.std.specs.Prelude.{ℕ, ◌+◌, ◌*◌, ◌-◌, Bool, ◌||◌, ◌&&◌, ◌==◌, nat_eq, nat_le, nat_lt, List, [], ◌∷◌, ◌++◌, length, take, drop, slice_index, if◌then◌else◌}
use Rattle.std.specs.List.{list_any, list_all}
use Rattle.std.specs.Cmp.Lexicographic.{pointwise}
use Rattle.std.specs.Char.{is_ascii_digit}
use Rattle.ftp_control.specs.declared.control.rule.ReplyRule.{ReplyRule}
use Rattle.ftp_control.specs.declared.control.rule.ReplyRule.TheVariants.{Strict, Lenient}
use Rattle.ftp_control.specs.declared.control.form.ReplyForm.{ReplyForm}
use Rattle.ftp_control.specs.declared.plain.Found.{Found}
use Rattle.ftp_control.specs.declared.plain.Found.TheVariants.{Reply, NoReply, Unfinished}
use Rattle.ftp_control.specs.Found.{after_line}
use Rattle.ftp_control.specs.Lenient.{by_dash, lists, opens_list, to_list_end}
use Rattle.ftp_control.specs.declared.control.outcome.Outcome.{Outcome}
use Rattle.ftp_control.specs.declared.control.outcome.Outcome.TheVariants.{Whole, Bad, TooLarge, Ended, Waits}

-- Lines

abbrev pub is_line_feed : ℕ → Bool
is_line_feed b = b == 10

abbrev pub has_line_feed : List ℕ → Bool
has_line_feed bytes = list_any is_line_feed bytes

-- a byte put before the first line, where there is one
abbrev pub onto_first_line : ℕ → List (List ℕ) → List (List ℕ)
onto_first_line b [] = []
onto_first_line b (line ∷ lines) = (b ∷ line) ∷ lines

-- the pieces that end in LF, LF with them
abbrev pub whole_lines : List ℕ → List (List ℕ)
whole_lines [] = []
whole_lines (b ∷ bytes) = if is_line_feed b then (b ∷ []) ∷ whole_lines bytes else onto_first_line b (whole_lines bytes)

-- what follows the last LF
abbrev pub rest : List ℕ → List ℕ
rest [] = []
rest (b ∷ bytes) = if has_line_feed (b ∷ bytes) then rest bytes else b ∷ bytes

-- a rest is a line where the input has ended and it isn't empty
abbrev pub last_line : Bool → List ℕ → List (List ℕ)
last_line ended [] = []
last_line ended (b ∷ bytes) = if ended then (b ∷ bytes) ∷ [] else []

-- the lines of the bytes that came
abbrev pub lines : List ℕ → Bool → List (List ℕ)
lines bytes ended = whole_lines bytes ++ last_line ended (rest bytes)

-- lines one after another
abbrev pub joined : List (List ℕ) → List ℕ
joined [] = []
joined (line ∷ lines) = line ++ joined lines

-- What a line says

abbrev pub begins_with_digits : List ℕ → Bool
begins_with_digits line = nat_le 3 (length line) && list_all is_ascii_digit (take 3 line)

-- the number that the first three digits write
abbrev pub code_at_start : List ℕ → ℕ
code_at_start line =
    100 * (slice_index line 0 - 48) + 10 * (slice_index line 1 - 48) + (slice_index line 2 - 48)

-- a first line: at least 5 bytes, three digits and a space or '-'; leniently three digits in front, or '+' and two digits
abbrev pub opens : ReplyRule → List ℕ → Bool
opens Strict line =
    nat_le 5 (length line) && begins_with_digits line && ((slice_index line 3 == 32) || (slice_index line 3 == 45))
opens Lenient line =
    nat_le 5 (length line)
    && (begins_with_digits line || ((slice_index line 0 == 43) && list_all is_ascii_digit (take 2 (drop 1 line))))

-- a last line: at least 4 bytes, the first line's three digits and a space; leniently any three digits and a space, and
-- where a dash ends a reply, also the first line's three digits and '-'
abbrev pub ends : ReplyRule → Bool → List ℕ → List ℕ → Bool
ends Strict dash first line =
    nat_le 4 (length line) && begins_with_digits line && (slice_index line 3 == 32) && pointwise nat_eq (take 3 line) (take 3 first)
ends Lenient dash first line =
    nat_le 4 (length line)
    && begins_with_digits line
    && ((slice_index line 3 == 32) || (dash && (slice_index line 3 == 45) && pointwise nat_eq (take 3 line) (take 3 first)))

-- A reply

-- the lines up to and with the first that ends the reply, and the list of features that it opens
abbrev pub to_end : ReplyRule → ReplyForm → Bool → List ℕ → List (List ℕ) → Found
to_end rule form ended first [] = Unfinished
to_end rule form ended first (line ∷ lines) =
    if ends rule (by_dash form) first line
    then (if lists form && opens_list line then after_line line (to_list_end ended lines) else Reply line (code_at_start line))
    else after_line line (to_end rule form ended first lines)

-- the reply that the lines begin with
abbrev pub reply_in : ReplyRule → ReplyForm → Bool → List (List ℕ) → Found
reply_in rule form ended [] = Unfinished
reply_in rule form ended (line ∷ lines) =
    if opens rule line then to_end rule form ended line (line ∷ lines) else NoReply line

-- The outcome of a read: a whole reply, with its bytes and its code; a first line that opens none; more bytes
-- than a reply may have; an end of input before the reply's; or nothing yet

-- how many bytes a reply may have
abbrev pub reply_limit : ℕ
reply_limit = 262144

-- what is found, within the limit
abbrev pub within : ℕ → Bool → Found → Outcome
within count ended (Reply bytes code) = if nat_le (length bytes) reply_limit then Whole bytes code else TooLarge
within count ended (NoReply line) = if nat_le (length line) reply_limit then Bad line else TooLarge
within count ended Unfinished = if nat_lt reply_limit count then TooLarge else (if ended then Ended else Waits)

-- what a read says of all bytes that came since the reply began
unfoldable pub outcome : ReplyRule → ReplyForm → List ℕ → Bool → Outcome
outcome rule form bytes ended = within (length bytes) ended (reply_in rule form ended (lines bytes ended))

-- the bytes that an outcome leaves for the next read
abbrev pub left_by : Outcome → List ℕ → List ℕ
left_by (Whole reply code) bytes = drop (length reply) bytes
left_by (Bad line) bytes = drop (length line) bytes
left_by TooLarge bytes = drop (reply_limit + 1) bytes
left_by Ended bytes = []
left_by Waits bytes = bytes

-- the first of these lines, within the limit; it stands as a whole of no code
abbrev pub first_within : ℕ → Bool → List (List ℕ) → Outcome
first_within count ended [] = within count ended Unfinished
first_within count ended (line ∷ lines) = if nat_le (length line) reply_limit then Whole line 0 else TooLarge

-- what a read of one line says of all bytes that came since the line began
unfoldable pub line_outcome : List ℕ → Bool → Outcome
line_outcome bytes ended = first_within (length bytes) ended (lines bytes ended)
