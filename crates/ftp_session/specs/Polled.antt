-- A call that is polled: the look before it says anything, the last reply of a transfer that was left, and the call itself. RFC
-- 959, sections 3.2 and 5.4.
use Rattle.std.specs.Prelude.{◌≡◌, ◌⊎◌, ◌&&◌, ℕ, Bool, true, false, IfErr, Option, Some, None, Result, Ok, Err, is_none, not}
use Rattle.futures.specs.declared.task.Poll.{Poll}
use Rattle.futures.specs.declared.task.Poll.TheVariants.{Ready, Pending}
use Rattle.ftp_base.specs.declared.types.reply.Response.{Response}
use Rattle.ftp_base.specs.declared.types.fault.FtpError.{FtpError}
use Rattle.ftp_base.specs.declared.types.fault.FtpError.TheVariants.{ConnectionError}
use Rattle.ftp_base.specs.declared.types.fault.ConnectionError.TheVariants.{AlreadyCompleted, NotOwed}
use Rattle.ftp_calls.specs.declared.call.Answer.{Answer}
use Rattle.ftp_calls.specs.declared.call.Answer.TheVariants.{Unit as Nothing, Fault}
use Rattle.ftp_calls.specs.declared.call.Call.{Call}
use Rattle.ftp_calls.specs.declared.call.Call.TheVariants.{Drain}
use Rattle.ftp_calls.specs.declared.exchange.Turn.TheVariants.{First}
use Rattle.ftp_transfer.specs.Mark.{End}
use Rattle.ftp_dialogue.specs.Coding.{Coding}
use Rattle.ftp_dialogue.specs.Counted.{CountsFaults}
use Rattle.ftp_dialogue.specs.Dropping.{DropsCall}
use Rattle.ftp_calls.specs.Exchanges.{drains}
use Rattle.ftp_dialogue.specs.CatchingUp.{CatchesUp, reads_dropped_first, is_plain_read}
use Rattle.ftp_dialogue.specs.Link.{Link, unasked}
use Rattle.ftp_dialogue.specs.Play.{is_unit}
use Rattle.ftp_dialogue.specs.Promises.{IsFault, due_of}
use Rattle.ftp_dialogue.specs.Sound.{is_live}
use Rattle.ftp_dialogue.specs.State.{SessionValue}
use Rattle.ftp_dialogue.specs.Steps.Polls.{StartsTo}
use Rattle.ftp_dialogue.specs.declared.stage.Stage.{Stage}
use Rattle.ftp_dialogue.specs.declared.stage.Stage.TheVariants.{At}
use Rattle.ftp_session.specs.Handed.{HandsOut, LooksIf, as_seen, left_if, opened_as, opens, watches}
use Rattle.ftp_transfer.specs.Transfer.{TransferValue}
use Rattle.ftp_transfer.specs.declared.direction.Direction.{Direction}

-- a call under way: whether it looks at the mark at its next poll, whether it has its answer, and where it stands
pub record UnderWay : Type 0 where
  pub call : Call
  pub looks : Bool
  pub over : Bool
  pub stage : Stage

-- after a poll: it has its answer, or stands at this stage; it looks again as long as it waits for replies that were due
-- before it
abbrev pub after_poll : Poll Answer → Stage → Bool → UnderWay → UnderWay
after_poll (Ready answer) stage behind p = record p { looks = false; over = true; stage = At First }
after_poll Pending stage behind p = record p { looks = p.looks && behind; stage = stage }

-- one look at the mark, at a poll before which nothing of the call was said
abbrev pub LooksFirst : Bool → Option End → Option End → SessionValue → SessionValue → Type 0
LooksFirst true mark after old seen = LooksIf (watches mark old) mark after × (seen ≡ as_seen after old)
LooksFirst false mark after old seen = (after ≡ mark) × (seen ≡ old)

-- the last reply of a transfer that was left was polled: while it is waited for the call waits, too; an error of it is
-- the answer; once it is over the call is polled
abbrev pub ThenStartsIf : Bool → Link → Type 0 → Coding → Call → Stage → Stage → Answer → SessionValue → SessionValue → Poll Answer → Type 0
ThenStartsIf true link may_wait coding call stage stage' first middle new result = StartsTo link may_wait coding call stage stage' middle new result
ThenStartsIf false link may_wait coding call stage stage' first middle new result = (result ≡ Ready first) × (new ≡ middle)

abbrev pub ThenStarts : Link → Type 0 → Coding → Call → Stage → Stage → Poll Answer → SessionValue → SessionValue → Poll Answer → Type 0
ThenStarts link may_wait coding call stage stage' (Ready first) middle new result = ThenStartsIf (is_unit first) link may_wait coding call stage stage' first middle new result
ThenStarts link may_wait coding call stage stage' Pending middle new result = (result ≡ Pending) × (new ≡ middle) × (stage' ≡ stage)

pub record DrainsFirst (link : Link) (may_wait : Type 0) (coding : Coding) (call : Call) (stage stage' : Stage) (old new : SessionValue) (result : Poll Answer) : Type 0 where
  pub middle : SessionValue
  pub first : Poll Answer
  pub at : Stage
  pub drains : StartsTo link may_wait coding Drain (At First) at old middle first
  pub then_starts : ThenStarts link may_wait coding call stage stage' first middle new result

abbrev pub PollsNextIf : Bool → Link → Type 0 → Coding → Call → Stage → Stage → SessionValue → SessionValue → Poll Answer → Type 0
PollsNextIf true link may_wait coding call stage stage' old new result = DrainsFirst link may_wait coding call stage stage' old new result
PollsNextIf false link may_wait coding call stage stage' old new result = StartsTo link may_wait coding call stage stage' old new result

-- a poll of a call, after that reply, where it is due
pub record PollsNext (link : Link) (may_wait : Type 0) (coding : Coding) (call : Call) (stage stage' : Stage) (old new : SessionValue) (result : Poll Answer) : Type 0 where
  pub polls : PollsNextIf (due_of call old) link may_wait coding call stage stage' old new result

-- replies that are due to commands that were dropped come first: while one is waited for the call waits, too; an error
-- of one is the answer; once none is due the call is polled, but for a read of the last reply of a transfer that was
-- left, which is among them
abbrev pub EndsOrPolls : Bool → Link → Type 0 → Coding → Call → Stage → Stage → SessionValue → SessionValue → Poll Answer → Type 0
EndsOrPolls true link may_wait coding call stage stage' middle new result = (result ≡ Ready Nothing) × (new ≡ middle)
EndsOrPolls false link may_wait coding call stage stage' middle new result = PollsNext link may_wait coding call stage stage' middle new result

abbrev pub ThenPolls : Link → Type 0 → Coding → Call → Stage → Stage → Poll (Option FtpError) → SessionValue → SessionValue → Poll Answer → Type 0
ThenPolls link may_wait coding call stage stage' (Ready None) middle new result = EndsOrPolls (drains call) link may_wait coding call stage stage' middle new result
ThenPolls link may_wait coding call stage stage' (Ready (Some fault)) middle new result = (result ≡ Ready (Fault fault)) × (new ≡ middle)
ThenPolls link may_wait coding call stage stage' Pending middle new result = (result ≡ Pending) × (new ≡ middle) × (stage' ≡ stage)

-- those replies are waited for
abbrev pub still_behind : Poll (Option FtpError) → Bool
still_behind (Ready told) = false
still_behind Pending = true

pub record CatchesUpThenPolls (link : Link) (may_wait : Type 0) (coding : Coding) (call : Call) (stage stage' : Stage) (behind : Bool) (old new : SessionValue) (result : Poll Answer) : Type 0 where
  pub middle : SessionValue
  pub caught : Poll (Option FtpError)
  pub catches_up : CatchesUp (unasked link) (is_plain_read call) old middle caught
  pub then_polls : ThenPolls link may_wait coding call stage stage' caught middle new result
  pub still : behind ≡ still_behind caught

abbrev pub PollsInStepIf : Bool → Link → Type 0 → Coding → Call → Stage → Stage → Bool → SessionValue → SessionValue → Poll Answer → Type 0
PollsInStepIf true link may_wait coding call stage stage' behind old new result = CatchesUpThenPolls link may_wait coding call stage stage' behind old new result
PollsInStepIf false link may_wait coding call stage stage' behind old new result = (behind ≡ false) × PollsNext link may_wait coding call stage stage' old new result

-- where none is due the call is polled at once; else it may still be behind, and has said nothing
pub record PollsInStep (link : Link) (may_wait : Type 0) (coding : Coding) (call : Call) (stage stage' : Stage) (behind : Bool) (old new : SessionValue) (result : Poll Answer) : Type 0 where
  pub polls : PollsInStepIf (reads_dropped_first call old) link may_wait coding call stage stage' behind old new result

-- a poll of a call that has no answer yet
pub record PollsSeen (link : Link) (may_wait : Type 0) (coding : Coding) (p q : UnderWay) (mark after : Option End) (old new : SessionValue) (result : Poll Answer) : Type 0 where
  pub seen : SessionValue
  pub stage : Stage
  pub behind : Bool
  pub looks : LooksFirst p.looks mark after old seen
  pub polls : PollsInStep link may_wait coding p.call p.stage stage behind seen new result
  pub next : q ≡ after_poll result stage behind p

-- a call that has its answer gives none a second time, and nothing happens
pub record IsOver (p q : UnderWay) (mark after : Option End) (old new : SessionValue) (result : Poll Answer) : Type 0 where
  pub is : result ≡ Ready (Fault (ConnectionError AlreadyCompleted))
  pub call_stays : q ≡ p
  pub mark_stays : after ≡ mark
  pub unchanged : new ≡ old

abbrev pub PollsUnless : Bool → Link → Type 0 → Coding → UnderWay → UnderWay → Option End → Option End → SessionValue → SessionValue → Poll Answer → Type 0
PollsUnless true link may_wait coding p q mark after old new result = IsOver p q mark after old new result
PollsUnless false link may_wait coding p q mark after old new result = PollsSeen link may_wait coding p q mark after old new result

-- a poll of a call
abbrev pub PollsCall : Link → Type 0 → Coding → UnderWay → UnderWay → Option End → Option End → SessionValue → SessionValue → Poll Answer → Type 0
PollsCall link may_wait coding p q mark after old new result = PollsUnless p.over link may_wait coding p q mark after old new result

-- an error that a poll gives was counted in that poll: of a command, which asks nothing beside the control connection
abbrev pub CountsPoll : Type 0 → SessionValue → SessionValue → Poll Answer → Type 0
CountsPoll tells old new (Ready answer) = CountsFaults tells old new answer
CountsPoll tells old new Pending = Unit {0}

-- of an error that a poll gives this is so
abbrev pub IfFails : {T : Type 0} → Poll (Result T FtpError) → (FtpError → Type 0) → Type 0
IfFails (Ready result) Is = IfErr result Is
IfFails Pending Is = Unit {0}

-- a call that is dropped, unless it has its answer
abbrev pub DropsUnless : Bool → Type 0 → UnderWay → SessionValue → SessionValue → Type 0
DropsUnless true tells p old new = new ≡ old
DropsUnless false tells p old new = DropsCall tells p.call p.stage old new

abbrev pub Drops : Type 0 → UnderWay → SessionValue → SessionValue → Type 0
Drops tells p old new = DropsUnless p.over tells p old new

-- What an answer means

-- an answer is neither an error nor that of a transfer that stands on a data connection under this number
pub record OpensNoTransfer (replies : Bool) (number : ℕ) (answer : Answer) (fault : FtpError) (given new : SessionValue) : Type 0 where
  pub no_fault : IsFault answer → ⊥
  pub lacks : opens replies answer ≡ true → (is_none given.net.data_conn ≡ true) ⊎ (is_live number given.state.counts.owed ≡ false)
  pub is : fault ≡ ConnectionError NotOwed
  pub left : new ≡ left_if true given

-- an answer opens a transfer under this mark, which is handed out, and the mark of before is kept; or it is an error,
-- or none that opens one, and the marks stay
abbrev pub HandsOver : Bool → Direction → End → Answer → Option End → Option End → Option End → Option End → SessionValue → SessionValue → Result (Option Response × TransferValue) FtpError → Type 0
HandsOver replies direction end answer mark after former kept old new (Ok opened) = (answer ≡ opened_as opened.0) × (is_none opened.0 ≡ not replies) × (opened.1.end ≡ end) × (kept ≡ mark) × HandsOut direction old opened.1 after new
HandsOver replies direction end answer mark after former kept old new (Err fault) = (after ≡ mark) × (kept ≡ former) × (((answer ≡ Fault fault) × (new ≡ old)) ⊎ OpensNoTransfer replies end.number answer fault old new)
