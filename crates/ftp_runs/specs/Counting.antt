-- Why a call of a list returns an error of a connection, or `SessionFailed`: the cause is in that call; in a list of events
-- in the Poll that gives the answer, or in an earlier one of that call, which kept the error.
use Rattle.std.specs.Prelude.{◌≡◌, ◌⊎◌, ◌≤◌, true, List, [], ◌∷◌, ◌++◌, Option, Some, None, Bool}
use Rattle.std.specs.declared.io.ErrorKind.{ErrorKind}
use Rattle.std.specs.declared.io.ErrorKind.TheVariants.{WriteZero}
use Rattle.ftp_base.specs.declared.types.fault.FtpError.{FtpError}
use Rattle.ftp_base.specs.declared.types.fault.FtpError.TheVariants.{ConnectionError, SessionFailed}
use Rattle.ftp_base.specs.declared.types.fault.ConnectionError.TheVariants.{Io}
use Rattle.ftp_transport.specs.Told.{Told}
use Rattle.ftp_calls.specs.declared.call.Answer.{Answer}
use Rattle.ftp_calls.specs.declared.call.Answer.TheVariants.{Fault}
use Rattle.ftp_calls.specs.declared.call.Call.{Call}
use Rattle.ftp_calls.specs.declared.call.Event.{Event}
use Rattle.ftp_calls.specs.declared.call.Event.TheVariants as event
use Rattle.ftp_dialogue.specs.Coding.{Coding}
use Rattle.ftp_dialogue.specs.Counted.{CountsFailure, IsGivenBeside}
use Rattle.ftp_dialogue.specs.Link.{Builds, Link, over_memory}
use Rattle.ftp_dialogue.specs.Promises.{FailsWith}
use Rattle.ftp_dialogue.specs.Sound.{cannot_open}
use Rattle.ftp_dialogue.specs.State.{SessionValue}
use Rattle.ftp_dialogue.specs.declared.stage.Stage.{Stage}
use Rattle.ftp_dialogue.specs.PollCauses.{sends}
use Rattle.ftp_dialogue.specs.PollCauses.{CausesAnswer, CausesKept, kept_error}
use Rattle.ftp_runs.specs.Following.{Grows, given_answer}
use Rattle.ftp_runs.specs.Runs.{PlaysAmong}

-- an error of a connection was counted, or given beside it, or it is that of an upload whose data connection takes no more
-- bytes; `SessionFailed` comes of a session that had failed, of transfers that are spent, or from beside it
pub record HasCause (link : Link) (call : Call) (old new : SessionValue) (answer : Answer) : Type 0 where
  pub counted : (kind : ErrorKind) → answer ≡ Fault (ConnectionError (Io kind)) → link.tells → CountsFailure old.channel.told new.channel.told ⊎ IsGivenBeside link (ConnectionError (Io kind)) old.net new.net ⊎ ((sends call ≡ true) × (kind ≡ WriteZero))
  pub had_failed : answer ≡ Fault SessionFailed → (old.channel.failed ≡ true) ⊎ (cannot_open new.state.counts ≡ Some SessionFailed) ⊎ IsGivenBeside link SessionFailed old.net new.net

-- calls made one after another: each is its dialogue, from where the one before it left the session, with the cause of its
-- error in itself; where replies were due at the beginning, after those that are still due
abbrev pub CountsEach : Bool → Link → Coding → List Call → SessionValue → SessionValue → List Answer → Type 0
CountsEach due link coding [] old new answers = (new ≡ old) × (answers ≡ [])
CountsEach due link coding (call ∷ calls) old new answers =
    (middle : SessionValue) × (answer : Answer) × (later : List Answer) × (answers ≡ answer ∷ later) × PlaysAmong due link coding call old middle answer × HasCause link call old middle answer × CountsEach due link coding calls middle new later

-- Events

-- no failure is forgotten; the count ends at 2^64 - 1
abbrev pub NoFewer : Told → Told → Type 0
NoFewer t u = (t.failures ≤ u.failures) ⊎ (18446744073709551615 ≤ u.failures)

-- the call under way after an event, which may have given an answer
abbrev pub under_way_after : Event → Option Answer → Option Call → Option Call
under_way_after (event.Start call) given None = Some call
under_way_after (event.Start call) given (Some other) = Some other
under_way_after event.Poll None under_way = under_way
under_way_after event.Poll (Some answer) under_way = None
under_way_after event.Cancel given under_way = None
under_way_after other given under_way = under_way

-- a Poll of a call gives an error that has its cause in that Poll, or was kept by the call before it; or it waits, and the
-- call keeps such an error
abbrev pub CausesPolled : Builds → Option Call → Option FtpError → Option FtpError → SessionValue → SessionValue → Option Answer → Type 0
CausesPolled builds None kept kept' old new given = (given ≡ None) × (kept' ≡ None)
CausesPolled builds (Some call) kept kept' old new (Some answer) = CausesAnswer (over_memory builds) call kept old new answer × (kept' ≡ None)
CausesPolled builds (Some call) kept kept' old new None = CausesKept (over_memory builds) call kept kept' old new

-- no other event gives an answer, or an error to keep
abbrev pub CausesEvent : Builds → Event → Option Call → Option FtpError → Option FtpError → SessionValue → SessionValue → Option Answer → Type 0
CausesEvent builds event.Poll under_way kept kept' old new given = CausesPolled builds under_way kept kept' old new given
CausesEvent builds other under_way kept kept' old new given = (given ≡ None) × ((kept' ≡ kept) ⊎ (kept' ≡ None))

-- an event of a list, where the call under way keeps this error before it, and that one after it
pub record CountsEvent (builds : Builds) (event : Event) (under_way : Option Call) (kept kept' : Option FtpError) (old new : SessionValue) (given : Option Answer) : Type 0 where
  pub no_fewer : NoFewer old.channel.told new.channel.told
  pub beside : Grows builds old new
  pub failed : old.channel.failed ≡ true → new.channel.failed ≡ true
  pub fails : FailsWith old new (given_answer given)
  pub causes : CausesEvent builds event under_way kept kept' old new given

-- events, one after another, each from where the one before it left the session; after the last of them nothing goes over the
-- control connection
abbrev pub CountsEvents : Builds → Option Call → Option FtpError → List Event → SessionValue → SessionValue → List Answer → Type 0
CountsEvents builds under_way kept [] old new answers = (answers ≡ []) × (new.channel ≡ old.channel) × Grows builds old new
CountsEvents builds under_way kept (event ∷ events) old new answers =
    (middle : SessionValue) × (given : Option Answer) × (kept' : Option FtpError) × (later : List Answer) × (answers ≡ given_answer given ++ later) × CountsEvent builds event under_way kept kept' old middle given × CountsEvents builds (under_way_after event given under_way) kept' events middle new later

-- Between two events

-- the error that the call under way keeps at its stage
abbrev pub kept_in : Option Call → Stage → Option FtpError
kept_in None stage = None
kept_in (Some call) stage = kept_error stage

pub record CausesHere (builds : Builds) (event : Event) (v w : SessionValue) (call call' : Option Call) (stage stage' : Stage) (given : Option Answer) : Type 0 where
  pub no_fewer : NoFewer v.channel.told w.channel.told
  pub causes : CausesEvent builds event call (kept_in call stage) (kept_in call' stage') v w given
  pub next : call' ≡ under_way_after event given call
