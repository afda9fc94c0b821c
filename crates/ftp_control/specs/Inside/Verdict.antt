-- What one more line of a reply results in.
use Rattle.std.specs.Prelude.{ℕ, Bool, ◌&&◌, not, List, if◌then◌else◌}
use Rattle.ftp_control.specs.declared.control.outcome.Outcome.{Outcome}
use Rattle.ftp_control.specs.declared.control.outcome.Outcome.TheVariants.{Whole, Bad, Ended, Waits}
use Rattle.ftp_control.specs.declared.control.rule.ReplyRule.{ReplyRule}
use Rattle.ftp_control.specs.declared.control.form.ReplyForm.{ReplyForm}
use Rattle.ftp_control.specs.declared.control.grammar.Verdict.{Verdict}
use Rattle.ftp_control.specs.declared.control.grammar.Verdict.TheVariants.{Refused, Ends, GoesOn}
use Rattle.ftp_control.specs.declared.control.lenient.Phase.{Phase}
use Rattle.ftp_control.specs.declared.control.lenient.Phase.TheVariants.{InReply}
use Rattle.ftp_base.specs.Features.{is_last}
use Rattle.ftp_control.specs.Grammar.{opens, ends, code_at_start}
use Rattle.ftp_control.specs.Inside.Phases.{in_reply, is_listing}
use Rattle.ftp_control.specs.Lenient.{by_dash, lists, opens_list}

-- a line of a list ends it, or the list goes on; another ends the reply, unless a list follows
abbrev pub line_verdict : ReplyRule → ReplyForm → Phase → List ℕ → List ℕ → Verdict
line_verdict rule form phase reply line =
    if is_listing form phase
    then (if is_last line then Ends 211 else GoesOn)
    else (if ends rule (by_dash form) reply line
    then (if lists form && in_reply phase && opens_list line then GoesOn else Ends (code_at_start line))
    else GoesOn)

-- a first line that opens no reply is refused; a line that ends the reply gives its code
abbrev pub verdict : ReplyRule → ReplyForm → Bool → Phase → List ℕ → List ℕ → Verdict
verdict rule form is_first phase reply line =
    if is_first && not (opens rule line) then Refused else line_verdict rule form phase reply line

-- what the end of the input results in after these bytes, in a list or not
abbrev pub ended_by : Bool → List ℕ → Outcome
ended_by listing bytes = if listing then Whole bytes 211 else Ended

-- what a verdict on the last line of these bytes results in, where a list is listed or not after it
abbrev pub outcome_by : Bool → Bool → Verdict → List ℕ → Outcome
outcome_by ended listing Refused bytes = Bad bytes
outcome_by ended listing (Ends code) bytes = Whole bytes code
outcome_by ended listing GoesOn bytes = if ended then ended_by listing bytes else Waits

-- the phase that a verdict on the last line leaves, where the line reached this one
abbrev pub phase_left : Bool → Verdict → Phase → Phase
phase_left ended Refused phase = InReply
phase_left ended (Ends code) phase = InReply
phase_left ended GoesOn phase = if ended then InReply else phase
