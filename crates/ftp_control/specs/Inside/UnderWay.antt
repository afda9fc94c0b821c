-- The reply under way.
use Rattle.std.specs.Prelude.{◌≡◌, ℕ, ◌+◌, false, List, length}
use Rattle.ftp_control.specs.declared.control.rule.ReplyRule.{ReplyRule}
use Rattle.ftp_control.specs.declared.control.lenient.Phase.{Phase}
use Rattle.ftp_control.specs.declared.control.outcome.Outcome.TheVariants.{Waits}
use Rattle.ftp_control.specs.Grammar.{rest, whole_lines, outcome}
use Rattle.ftp_control.specs.Inside.Phases.{phase_of, waiting_form}

-- the bytes of a reply that isn't whole, whose last line begins at `start`, and the phase that its whole lines have
-- reached
pub record IsUnderWay (rule : ReplyRule) (bytes : List ℕ) (start : ℕ) (phase : Phase) : Type 0 where
  pub split : start + length (rest bytes) ≡ length bytes
  pub phase_is : phase ≡ phase_of rule (whole_lines bytes)
  pub waits : outcome rule (waiting_form phase) bytes false ≡ Waits
