-- What lenient replies ask of a reply under way: one view of System. Strictly a reply ends alike whatever is asked of it,
-- and nothing of this is.
use Rattle.std.specs.Prelude.{◌≡◌, ◌||◌, false, ℕ, List, if◌then◌else◌}
use Rattle.ftp_control.specs.declared.control.form.ReplyForm.{ReplyForm}
use Rattle.ftp_control.specs.declared.control.form.ReplyForm.TheVariants.{Plain}
use Rattle.ftp_control.specs.declared.control.rule.ReplyRule.{ReplyRule}
use Rattle.ftp_control.specs.declared.control.rule.ReplyRule.TheVariants.{Strict, Lenient}
use Rattle.ftp_control.specs.declared.control.outcome.Outcome.TheVariants.{Waits}
use Rattle.ftp_control.specs.Grammar.{outcome}
use Rattle.ftp_calls.specs.declared.call.Call.{Call}
use Rattle.ftp_calls.specs.declared.exchange.Row.{Row}
use Rattle.ftp_calls.specs.declared.exchange.Row.TheVariants.{Exchanges, Arms, Resyncs, Sets, Moves}
use Rattle.ftp_calls.specs.declared.exchange.Turn.TheVariants.{First}
use Rattle.ftp_calls.specs.Exchanges.{row_of, finishes, negotiates}
use Rattle.ftp_dialogue.specs.Dialogue.{expected_of}

-- what is kept says nothing yet as a reply of this form; strictly it says nothing as one of any, which isn't asked
abbrev pub SaysNothingYet : ReplyRule → ReplyForm → List ℕ → Type 0
SaysNothingYet Strict form kept = Unit {0}
SaysNothingYet Lenient form kept = outcome Lenient form kept false ≡ Waits

-- the form of the reply that a row hears
abbrev pub heard_form : Row → ReplyForm
heard_form (Exchanges exchange) = (expected_of exchange.hears).form
heard_form (Arms offset) = Plain
heard_form Resyncs = Plain
heard_form (Sets setting) = Plain
heard_form (Moves movement) = Plain

-- the form of the reply that a call first hears; neither a negotiation nor the end of a transfer hears a list
abbrev pub first_form : Call → ReplyForm
first_form call = if negotiates call || finishes call then Plain else heard_form (row_of call First)

-- the call hears a reply of the form that was read; strictly that isn't asked
abbrev pub SameForm : ReplyRule → Call → ReplyForm → Type 0
SameForm Strict call form = Unit {0}
SameForm Lenient call form = first_form call ≡ form
