-- What holds of a control channel's parts.
use Rattle.std.specs.Prelude.{ℕ, ◌≡◌, ◌≤◌, Bool, true, List, [], length, drop}
use Rattle.ftp_control.specs.declared.control.rule.ReplyRule.{ReplyRule}
use Rattle.ftp_control.specs.declared.control.lenient.Phase.{Phase}
use Rattle.ftp_transport.specs.Told.{Told}
use Rattle.ftp_control.specs.Inside.UnderWay.{IsUnderWay}
use Rattle.ftp_control.specs.Channel.{IsSound}

-- the reply under way, the line that goes out, and the sound channel
pub record Holds (tells : Type 0) (told : Told) (kept : List ℕ) (start : ℕ) (phase : Phase) (ahead line : List ℕ) (sent : ℕ) (ended failed : Bool) (rule : ReplyRule) : Type 0 where
  pub under_way : IsUnderWay rule kept start phase
  pub within : sent ≤ length line
  pub over : ended ≡ true → ahead ≡ []
  pub sound : IsSound tells (record { told = told; kept = kept; ahead = ahead; unsent = drop sent line; ended = ended; failed = failed; rule = rule })
