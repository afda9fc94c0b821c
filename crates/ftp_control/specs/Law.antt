-- The laws of outcomes: what is settled stays, however the input goes on; a strict read ends as it does whatever is asked of
-- it, and as a lenient one where no line inside its reply could end that.
use Rattle.std.specs.Prelude.{◌≡◌, ◌-◌, ◌==◌, ◌&&◌, ℕ, nat_le, nat_lt, slice_index, Bool, false, List, [], ◌∷◌, ◌++◌, length, if◌then◌else◌}
use Rattle.std.specs.List.{list_any}
use Rattle.ftp_control.specs.declared.control.form.ReplyForm.{ReplyForm}
use Rattle.ftp_control.specs.declared.control.form.ReplyForm.TheVariants.{Plain}
use Rattle.ftp_control.specs.declared.control.rule.ReplyRule.{ReplyRule}
use Rattle.ftp_control.specs.declared.control.rule.ReplyRule.TheVariants.{Strict, Lenient}
use Rattle.ftp_control.specs.declared.control.outcome.Outcome.{Outcome}
use Rattle.ftp_control.specs.declared.control.outcome.Outcome.TheVariants.{Whole, Bad, TooLarge, Ended, Waits}
use Rattle.ftp_control.specs.Grammar.{begins_with_digits, lines, outcome}

-- settled before the input has ended
abbrev pub IsSettled : Outcome → Type 0
IsSettled (Whole bytes code) = Unit {0}
IsSettled (Bad line) = Unit {0}
IsSettled TooLarge = Unit {0}
IsSettled Ended = ⊥
IsSettled Waits = ⊥

abbrev pub SettledStays : Type 0
SettledStays =
    (rule : ReplyRule) (form : ReplyForm) (bytes more : List ℕ) (ended : Bool) → IsSettled (outcome rule form bytes false)
    → outcome rule form (bytes ++ more) ended ≡ outcome rule form bytes false

-- each form reads alike
abbrev pub OneForm : Type 0
OneForm = (form : ReplyForm) (bytes : List ℕ) (ended : Bool) → outcome Strict form bytes ended ≡ outcome Strict Plain bytes ended

-- three digits and a space
abbrev pub is_spaced : List ℕ → Bool
is_spaced line = nat_le 4 (length line) && begins_with_digits line && (slice_index line 3 == 32)

-- the lines that end before so many bytes are over
abbrev pub lines_before : ℕ → List (List ℕ) → List (List ℕ)
lines_before count [] = []
lines_before count (line ∷ lines) = if nat_lt (length line) count then line ∷ lines_before (count - length line) lines else []

-- where strictly there is a whole reply, and none of its lines before the last begins so, leniently there is the same
abbrev pub StrictAsLenient : Type 0
StrictAsLenient =
    (bytes reply : List ℕ) (code : ℕ) (ended : Bool) → outcome Strict Plain bytes ended ≡ Whole reply code
    → list_any is_spaced (lines_before (length reply) (lines bytes ended)) ≡ false → outcome Lenient Plain bytes ended ≡ Whole reply code
