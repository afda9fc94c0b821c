-- A list of calls, played one after another, and one mode and one view of System for the reply under way before them.
use Rattle.std.specs.Prelude.{◌≡◌, ◌⊎◌, Bool, true, false, ℕ, List, [], ◌∷◌}
use Rattle.ftp_control.specs.declared.control.rule.ReplyRule.{ReplyRule}
use Rattle.ftp_transport.specs.declared.room.Room.{Room}
use Rattle.ftp_dialogue.specs.declared.state.State.{State}
use Rattle.ftp_calls.specs.declared.call.Answer.{Answer}
use Rattle.ftp_calls.specs.declared.call.Call.{Call}
use Rattle.ftp_dialogue.specs.declared.model.PlayState.{PlayState}
use Rattle.ftp_dialogue.specs.declared.model.Played.{Played}
use Rattle.ftp_dialogue.specs.declared.model.Played.TheVariants.{Done, Pending}
use Rattle.ftp_runs.specs.declared.model.Ran.{Ran}
use Rattle.ftp_runs.specs.declared.model.Ran.TheVariants.{Finished, Waiting}
use Rattle.ftp_calls.specs.declared.call.Call.TheVariants.{Drain}
use Rattle.ftp_calls.specs.Exchanges.{drains_first, of_transfer}
use Rattle.ftp_dialogue.specs.Coding.{Coding}
use Rattle.ftp_dialogue.specs.Dialogue.{dialogue, entered}
use Rattle.ftp_runs.specs.declared.model.Item.{Item}
use Rattle.ftp_runs.specs.declared.model.Item.TheVariants.{Shown, Hidden}
use Rattle.ftp_dialogue.specs.Play.{play_call, play_drained}
use Rattle.ftp_dialogue.specs.Resuming.{Modes, Resumes, Silent, modes_in}

-- an answer before those of later calls
abbrev pub before : Answer → Ran → Ran
before answer (Finished answers s) = Finished (answer ∷ answers) s
before answer (Waiting answers wait s) = Waiting (answer ∷ answers) wait s

-- a call that is done goes on with the later ones
abbrev pub and_then : Played → (PlayState → Ran) → Ran
and_then (Done answer s) next = before answer (next s)
and_then (Pending wait s) next = Waiting [] wait s

-- the calls in turn, each after the last reply of a transfer that was left
unfoldable pub run : Room → Coding → List Call → PlayState → Ran
run room coding [] s = Finished [] s
run room coding (call ∷ calls) s = and_then (play_drained room coding call s) (λ t. run room coding calls t)

-- a call whose answer is discarded
abbrev pub and_on : Played → (PlayState → Ran) → Ran
and_on (Done answer s) next = next s
and_on (Pending wait s) next = Waiting [] wait s

-- the items of a script in turn: the last reply of a transfer that was left is an item by itself
unfoldable pub replay : Room → Coding → List Item → PlayState → Ran
replay room coding [] s = Finished [] s
replay room coding (Shown call ∷ items) s = and_then (play_call room coding call s) (λ t. replay room coding items t)
replay room coding (Hidden call ∷ items) s = and_on (play_call room coding call s) (λ t. replay room coding items t)

-- One mode, and one view of System: what earlier reads left of a reply goes on by the rule by which it began, and says
-- nothing yet under the list of codes that goes on with it

-- a call may hear nothing, and leave this state: its dialogue does, or it is of a transfer, and none is held
abbrev pub MayBeSilent : Coding → Call → State → State → Type 0
MayBeSilent coding call state to = Silent (entered call state) to (dialogue coding call state) ⊎ ((of_transfer call ≡ true) × (to ≡ state))

-- the list under which the last reply of a transfer that was left is heard, where a call may come after one
abbrev pub ResumesDrain : Bool → Modes → List ℕ → Coding → State → Type 0
ResumesDrain true modes kept coding state = Resumes modes kept (dialogue coding Drain state)
ResumesDrain false modes kept coding state = Unit {0}

-- where these calls first hear, from a state on; this is kept of a reply, by this rule
abbrev pub OneView : ReplyRule → List ℕ → Coding → List Call → State → Type 0
OneView rule kept coding [] state = Unit {0}
OneView rule kept coding (call ∷ calls) state =
    ResumesDrain (drains_first call) (modes_in kept rule state) kept coding state × Resumes (modes_in kept rule state) kept (dialogue coding call state) × ((to : State) → MayBeSilent coding call state to → OneView rule kept coding calls to)
