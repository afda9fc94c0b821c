-- A poll of a call: where the call begins, and what its poll does.
use Rattle.std.specs.Prelude.{◌≡◌, ◌⊎◌, Bool, true, false, Option, Some, None, List, [], ◌∷◌, if◌then◌else◌}
use Rattle.futures.specs.declared.task.Poll.{Poll}
use Rattle.futures.specs.declared.task.Poll.TheVariants.{Ready, Pending}
use Rattle.ftp_base.specs.declared.types.fault.FtpError.TheVariants.{SessionFailed}
use Rattle.ftp_transport.specs.Told.{EndsAsTold}
use Rattle.ftp_calls.specs.declared.call.Answer.{Answer}
use Rattle.ftp_calls.specs.declared.call.Answer.TheVariants.{Fault}
use Rattle.ftp_calls.specs.declared.call.Call.{Call}
use Rattle.ftp_calls.specs.declared.exchange.Turn.{Turn}
use Rattle.ftp_calls.specs.declared.exchange.Turn.TheVariants.{First}
use Rattle.ftp_dialogue.specs.declared.state.State.{State}
use Rattle.ftp_dialogue.specs.declared.stage.Stage.{Stage}
use Rattle.ftp_dialogue.specs.declared.stage.Stage.TheVariants.{At, Composing, OpeningData, Closing}
use Rattle.ftp_dialogue.specs.declared.stage.Recovery.TheVariants.{Abort}
use Rattle.ftp_dialogue.specs.declared.stage.AfterClose.TheVariants.{Finishes}
use Rattle.ftp_dialogue.specs.declared.stage.OpeningData.TheVariants.{Negotiating}
use Rattle.ftp_dialogue.specs.State.{SessionValue}
use Rattle.ftp_dialogue.specs.Coding.{Coding}
use Rattle.ftp_calls.specs.Exchanges.{aborts, finishes, is_read, negotiates}
use Rattle.ftp_dialogue.specs.Dialogue.{Tree, dialogue, entered}
use Rattle.ftp_dialogue.specs.Play.{Taken}
use Rattle.ftp_dialogue.specs.Promises.{HasFault, IsRefused, Rests, refusal_of}
use Rattle.ftp_dialogue.specs.Steps.Stages.{remaining, begun_at, StageOf}
use Rattle.ftp_dialogue.specs.Steps.Moving.{HasBegun, PollsTo}
use Rattle.ftp_dialogue.specs.Link.{Link}

-- nothing was made of a call yet
abbrev pub is_first_turn : Turn → Bool
is_first_turn First = true
is_first_turn other = false

abbrev pub is_first : Stage → Bool
is_first (At turn) = is_first_turn turn
is_first other = false

-- where the end of a transfer begins: its data connection is closed, or ABOR goes out first
abbrev pub last_stage : Call → Stage
last_stage call = if aborts call then Composing Abort else Closing Finishes

-- where a call begins: one that opens a data connection takes the offset with it
abbrev pub first_stage : Call → State → Stage
first_stage call state = if negotiates call then OpeningData (Negotiating state.settings.restart_offset) else if finishes call then last_stage call else At First

-- where a poll of a call begins
abbrev pub entered_stage : Call → Stage → State → Stage
entered_stage call stage state = if is_first stage then first_stage call state else stage

abbrev pub entered_state : Call → Stage → State → State
entered_state call stage state = if is_first stage then entered call state else state

abbrev pub entered_at : Call → Stage → SessionValue → SessionValue
entered_at call stage v = record v { state = entered_state call stage v.state }

abbrev pub entered_tree : Coding → Call → Stage → State → Tree
entered_tree coding call stage state = if is_first stage then dialogue coding call state else remaining coding call state stage

-- the stage of the call under way, if any, is one of that call's
abbrev pub StageIn : Option Call → Stage → Type 0
StageIn None stage = Unit {0}
StageIn (Some call) stage = StageOf call stage ⊎ (stage ≡ At First)

-- the answer that a poll gives, if any
abbrev pub polled_answer : Poll Answer → List Answer
polled_answer (Ready answer) = answer ∷ []
polled_answer Pending = []

-- a call is polled: it begins and isn't refused, or it was begun in a session that goes on
abbrev pub MayPollFrom : Bool → Call → SessionValue → Type 0
MayPollFrom true call v = refusal_of call v ≡ Taken
MayPollFrom false call v = v.channel.failed ≡ false

abbrev pub MayPollAt : Stage → Call → SessionValue → Type 0
MayPollAt stage call v = MayPollFrom (is_first stage) call v

-- a call isn't made: it is refused where it begins, or its session has failed since
abbrev pub RefusesFrom : Bool → Type 0 → Call → SessionValue → SessionValue → Answer → Type 0
RefusesFrom true tells call v w answer = IsRefused tells call v w answer
RefusesFrom false tells call v w answer = (v.channel.failed ≡ true) × (answer ≡ Fault SessionFailed) × (w ≡ v)

-- a call that is made goes on as far as it gets
pub record PollsOn (link : Link) (may_wait : Type 0) (coding : Coding) (call : Call) (stage stage' : Stage) (v w : SessionValue) (result : Poll Answer) : Type 0 where
  pub may : MayPollAt stage call v
  pub going : v.channel.failed ≡ false
  pub polls : PollsTo link (begun_at stage) (entered_tree coding call stage v.state) (remaining coding call (entered_state call stage v.state) stage') (entered_at call stage v) w result
  pub rests : result ≡ Pending → is_read call ≡ true → Rests link v w
  pub begun : result ≡ Pending → HasBegun link (begun_at stage) (begun_at stage') (entered_tree coding call stage v.state) (entered_at call stage v) w
  pub fails : w.channel.failed ≡ true → (v.channel.failed ≡ true) ⊎ HasFault (polled_answer result)
  pub end : link.tells → may_wait → EndsAsTold v.channel.ended w.channel.ended v.channel.told

-- a call that is polled isn't made, or goes on
abbrev pub StartsTo : Link → Type 0 → Coding → Call → Stage → Stage → SessionValue → SessionValue → Poll Answer → Type 0
StartsTo link may_wait coding call stage stage' v w result =
    ((answer : Answer) × (result ≡ Ready answer) × RefusesFrom (is_first stage) link.tells call v w answer) ⊎ PollsOn link may_wait coding call stage stage' v w result
