-- Lists of events that are one script, however many calls are dropped in them.
use Rattle.std.specs.Prelude.{◌≡◌, List, [], ◌∷◌}
use Rattle.ftp_calls.specs.declared.call.Event.{Event}
use Rattle.ftp_calls.specs.declared.call.Event.TheVariants.{Cancel}
use Rattle.ftp_dialogue.specs.Coding.{Coding}
use Rattle.ftp_dialogue.specs.declared.model.PlayState.{PlayState}
use Rattle.ftp_runs.specs.Script.{MayCancel, after_event}
use Rattle.ftp_runs.specs.declared.model.Script.{Script}

-- each call that is dropped wasn't polled, or is a plain read, or `Finish`
abbrev pub DropsFreely : Coding → PlayState → Script → List Event → Type 0
DropsFreely coding start s [] = Unit {0}
DropsFreely coding start s (event ∷ events) = (event ≡ Cancel → MayCancel s.call s.polled) × DropsFreely coding start (after_event coding start s event) events
