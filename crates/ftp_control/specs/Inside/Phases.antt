-- The phases of a lenient reply: whether its lines have reached a list of features.
use Rattle.std.specs.Prelude.{ℕ, Bool, true, false, ◌&&◌, List, [], ◌∷◌, if◌then◌else◌}
use Rattle.ftp_control.specs.declared.control.rule.ReplyRule.{ReplyRule}
use Rattle.ftp_control.specs.declared.control.form.ReplyForm.{ReplyForm}
use Rattle.ftp_control.specs.declared.control.form.ReplyForm.TheVariants.{Plain, Features}
use Rattle.ftp_control.specs.declared.control.lenient.Phase.{Phase}
use Rattle.ftp_control.specs.declared.control.lenient.Phase.TheVariants.{InReply, InList, Past}
use Rattle.ftp_control.specs.Grammar.{ends}
use Rattle.ftp_control.specs.Lenient.{lists, opens_list}

-- the phase of a reply after one more line, where its first line has these three digits
abbrev pub phase_after : ReplyRule → Phase → List ℕ → List ℕ → Phase
phase_after rule InReply reply line = if ends rule true reply line then (if opens_list line then InList else Past) else InReply
phase_after rule InList reply line = InList
phase_after rule Past reply line = Past

abbrev pub phase_in : ReplyRule → List ℕ → List (List ℕ) → Phase
phase_in rule first [] = InReply
phase_in rule first (line ∷ lines) = if ends rule true first line then (if opens_list line then InList else Past) else phase_in rule first lines

-- the phase of a reply after its lines so far
abbrev pub phase_of : ReplyRule → List (List ℕ) → Phase
phase_of rule [] = InReply
phase_of rule (first ∷ lines) = phase_in rule first (first ∷ lines)

abbrev pub in_reply : Phase → Bool
in_reply InReply = true
in_reply InList = false
in_reply Past = false

abbrev pub in_list : Phase → Bool
in_list InReply = false
in_list InList = true
in_list Past = false

-- the next line is one of the list of features
abbrev pub is_listing : ReplyForm → Phase → Bool
is_listing form phase = lists form && in_list phase

-- the form under which lines that have reached a phase say nothing yet
abbrev pub waiting_form : Phase → ReplyForm
waiting_form InReply = Features
waiting_form InList = Features
waiting_form Past = Plain
