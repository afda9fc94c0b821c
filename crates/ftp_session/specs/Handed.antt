-- A transfer that a session hands to its caller, and how the session learns that it was left: RFC 959, section 3.2.
use Rattle.std.specs.Prelude.{◌≡◌, ◌⊎◌, ◌&&◌, ◌==◌, ℕ, Bool, true, false, List, [], ◌∷◌, Option, Some, None, Result, Ok, Err, Contains, is_none, not, if◌then◌else◌}
use Rattle.futures.specs.declared.task.Poll.{Poll}
use Rattle.ftp_base.specs.declared.types.reply.Response.{Response}
use Rattle.ftp_base.specs.declared.types.fault.FtpError.{FtpError}
use Rattle.ftp_base.specs.declared.types.fault.FtpError.TheVariants.{ConnectionError, SessionFailed}
use Rattle.ftp_base.specs.declared.types.fault.ConnectionError.TheVariants.{NotOwed}
use Rattle.ftp_calls.specs.Exchanges.{row_of}
use Rattle.ftp_calls.specs.Kinds.{IsOpening}
use Rattle.ftp_calls.specs.declared.call.Call.{Call}
use Rattle.ftp_calls.specs.declared.call.Call.TheVariants.{Drain}
use Rattle.ftp_calls.specs.declared.call.Answer.{Answer}
use Rattle.ftp_calls.specs.declared.call.Answer.TheVariants.{Opened, OpenedWith, Fault, Unit as Done}
use Rattle.ftp_calls.specs.declared.exchange.Ending.TheVariants as ending
use Rattle.ftp_calls.specs.declared.exchange.Row.{Row}
use Rattle.ftp_calls.specs.declared.exchange.Row.TheVariants.{Exchanges, Arms, Resyncs, Sets, Moves}
use Rattle.ftp_calls.specs.declared.exchange.Turn.TheVariants.{First, Second}
use Rattle.ftp_transfer.specs.Mark.{End, loaded}
use Rattle.ftp_transport.specs.Told.{Told}
use Rattle.ftp_transfer.specs.Transfer.{TransferValue}
use Rattle.ftp_transfer.specs.declared.direction.Direction.{Direction}
use Rattle.ftp_dialogue.specs.Coding.{Coding}
use Rattle.ftp_dialogue.specs.Dialogue.{Expected, with_left}
use Rattle.ftp_dialogue.specs.Link.{Link}
use Rattle.ftp_dialogue.specs.CatchingUp.{PlaysInStep, PollsReadInStep}
use Rattle.ftp_dialogue.specs.Promises.{IsFault, PlaysAlone}
use Rattle.ftp_dialogue.specs.Steps.Moving.{withheld}
use Rattle.ftp_dialogue.specs.Sound.{is_live, is_owed, next_number}
use Rattle.ftp_dialogue.specs.State.{SessionValue}

-- The look

-- whether the mark is that of the transfer that is live
abbrev pub watches : Option End → SessionValue → Bool
watches None v = false
watches (Some end) v = is_live end.number v.state.counts.owed

-- one load of the mark, which finds what was found before; or none, where no transfer is live that was handed out
abbrev pub LoadsOnce : Option End → Option End → Type 0
LoadsOnce None after = after ≡ None
LoadsOnce (Some end) after = (left : Bool) × (after ≡ Some (loaded left end)) × (Contains end.loads true → left ≡ true)

abbrev pub LooksIf : Bool → Option End → Option End → Type 0
LooksIf true mark after = LoadsOnce mark after
LooksIf false mark after = after ≡ mark

-- what the last load found
abbrev pub last_of : List Bool → Bool
last_of [] = false
last_of (left ∷ loads) = left

abbrev pub found : Option End → Bool
found None = false
found (Some end) = last_of end.loads

-- the transfer that is live is left, or isn't
abbrev pub left_if : Bool → SessionValue → SessionValue
left_if true v = record v { state = with_left v.state }
left_if false v = v

-- the session after a look that ended with this mark: the transfer that it found left is owed
abbrev pub as_seen : Option End → SessionValue → SessionValue
as_seen mark v = left_if (watches mark v && found mark) v

-- a session looks once, and makes a call as the look has it
pub record PlaysSeen (link : Link) (coding : Coding) (call : Call) (mark after : Option End) (old new : SessionValue) (answer : Answer) : Type 0 where
  pub looks : LooksIf (watches mark old) mark after
  pub plays : PlaysInStep link coding call (as_seen after old) new answer

-- a session looks once, and polls a read of one reply as the look has it
pub record ReadsSeen (link : Link) (coding : Coding) (codes : Expected) (mark after : Option End) (old new : SessionValue) (result : Poll (Result Response FtpError)) : Type 0 where
  pub looks : LooksIf (watches mark old) mark after
  pub reads : PollsReadInStep link coding codes (as_seen after old) new result

-- The opening

-- the session without its data connection, and with one
abbrev pub with_data : Option Told → SessionValue → SessionValue
with_data conn v = record v { net = record v.net { data_conn = conn } }

-- the mark is of this transfer, and was not looked at yet
abbrev pub IsMarkOf : TransferValue → Option End → Type 0
IsMarkOf transfer mark = (transfer.end.loads ≡ []) × (mark ≡ Some transfer.end)

-- a transfer is handed out: it takes the data connection along, and its number is the one that is live
pub record HandsOut (direction : Direction) (given : SessionValue) (transfer : TransferValue) (after : Option End) (new : SessionValue) : Type 0 where
  pub told : given.net.data_conn ≡ Some transfer.told
  pub live : is_live transfer.end.number given.state.counts.owed ≡ true
  pub direction_is : transfer.direction ≡ direction
  pub mark : IsMarkOf transfer after
  pub new_is : new ≡ with_data None given

-- what a call that opened a transfer answers: with its reply, or without
abbrev pub opened_as : Option Response → Answer
opened_as None = Opened
opened_as (Some reply) = OpenedWith reply

abbrev pub opens : Bool → Answer → Bool
opens false Opened = true
opens true (OpenedWith reply) = true
opens replies other = false

-- what an answer means: a transfer is opened, with this reply or without; or an error, if it is one
abbrev pub ComesTo : Bool → Answer → Result (Option Response) (Option FtpError) → Type 0
ComesTo replies answer (Ok reply) = (is_none reply ≡ not replies) × (answer ≡ opened_as reply)
ComesTo replies answer (Err (Some fault)) = answer ≡ Fault fault
ComesTo replies answer (Err None) = (IsFault answer → ⊥) × (opens replies answer ≡ false)

-- a call opens a transfer, which is handed out
pub record OpensFrom (link : Link) (coding : Coding) (call : Call) (direction : Direction) (old : SessionValue) (reply : Option Response) (transfer : TransferValue) (after : Option End) (new : SessionValue) : Type 0 where
  pub given : SessionValue
  pub plays : PlaysInStep link coding call old given (opened_as reply)
  pub hands : HandsOut direction given transfer after new

-- no transfer is handed out: for this error, and nothing changes; or for none, and the transfer that is live is left
abbrev pub GivesUp : Option FtpError → FtpError → SessionValue → SessionValue → Type 0
GivesUp (Some fault) cause old new = (cause ≡ fault) × (new ≡ old)
GivesUp None cause old new = (cause ≡ ConnectionError NotOwed) × (new ≡ left_if true old)

-- the last exchange of a call opens a data connection, and its reply is part of the answer or isn't
abbrev pub OpensRow : Bool → Row → Type 0
OpensRow replies (Exchanges exchange) = exchange.ending ≡ ending.Opens replies
OpensRow replies (Arms offset) = ⊥
OpensRow replies Resyncs = ⊥
OpensRow replies (Sets setting) = ⊥
OpensRow replies (Moves movement) = ⊥

pub record HandsConnection (replies : Bool) (call : Call) : Type 0 where
  pub sort : IsOpening call
  pub first : OpensRow replies (row_of call First)
  pub last : OpensRow replies (row_of call Second)

-- the answer is that of a data connection that was opened, and none stands, or no transfer on it under this number
pub record Strands (replies : Bool) (number : ℕ) (answer : Answer) (fault : FtpError) (given new : SessionValue) : Type 0 where
  pub opened : opens replies answer ≡ true
  pub lacks : (is_none given.net.data_conn ≡ true) ⊎ (is_live number given.state.counts.owed ≡ false)
  pub is : fault ≡ ConnectionError NotOwed
  pub left : new ≡ left_if true given

-- a call opens no transfer: this error is its answer
pub record FailsFrom (link : Link) (coding : Coding) (call : Call) (replies : Bool) (old : SessionValue) (fault : FtpError) (new : SessionValue) : Type 0 where
  pub answer : Answer
  pub given : SessionValue
  pub plays : PlaysInStep link coding call old given answer
  pub ends : ((answer ≡ Fault fault) × (new ≡ given)) ⊎ Strands replies (next_number old.state.counts) answer fault given new

-- what an opening call returns after the look: a transfer, with its reply or without, and the mark of before is kept; or the
-- call's error, and the marks stay
abbrev pub OpensEither : Link → Coding → Call → Bool → Direction → Option End → Option End → Option End → Option End → SessionValue → SessionValue → Result (Option Response × TransferValue) FtpError → Type 0
OpensEither link coding call replies direction mark after former kept old new (Ok opened) = (kept ≡ mark) × (is_none opened.0 ≡ not replies) × OpensFrom link coding call direction old opened.0 opened.1 after new
OpensEither link coding call replies direction mark after former kept old new (Err fault) = (after ≡ mark) × (kept ≡ former) × FailsFrom link coding call replies old fault new

abbrev pub OpensOne : Link → Coding → Call → Direction → Option End → Option End → Option End → Option End → SessionValue → SessionValue → Result TransferValue FtpError → Type 0
OpensOne link coding call direction mark after former kept old new (Ok transfer) = (kept ≡ mark) × OpensFrom link coding call direction old None transfer after new
OpensOne link coding call direction mark after former kept old new (Err fault) = (after ≡ mark) × (kept ≡ former) × FailsFrom link coding call false old fault new

abbrev pub OpensWithReply : Link → Coding → Call → Direction → Option End → Option End → Option End → Option End → SessionValue → SessionValue → Result (Response × TransferValue) FtpError → Type 0
OpensWithReply link coding call direction mark after former kept old new (Ok opened) = (kept ≡ mark) × OpensFrom link coding call direction old (Some opened.0) opened.1 after new
OpensWithReply link coding call direction mark after former kept old new (Err fault) = (after ≡ mark) × (kept ≡ former) × FailsFrom link coding call true old fault new

-- a session looks once, and goes on as the look has it
pub record SeesFirst (mark : Option End) (old : SessionValue) (GoesOn : Option End → SessionValue → Type 0) : Type 0 where
  pub between : Option End
  pub looks : LooksIf (watches mark old) mark between
  pub goes_on : GoesOn between (as_seen between old)

-- what an opening call returns
abbrev pub Opens : Link → Coding → Call → Direction → Option End → Option End → Option End → Option End → SessionValue → SessionValue → Result TransferValue FtpError → Type 0
Opens link coding call direction mark after former kept old new result = SeesFirst mark old (λ between seen. OpensOne link coding call direction between after former kept seen new result)

abbrev pub OpensReplied : Link → Coding → Call → Direction → Option End → Option End → Option End → Option End → SessionValue → SessionValue → Result (Response × TransferValue) FtpError → Type 0
OpensReplied link coding call direction mark after former kept old new result = SeesFirst mark old (λ between seen. OpensWithReply link coding call direction between after former kept seen new result)

abbrev pub OpensAs : Link → Coding → Call → Bool → Direction → Option End → Option End → Option End → Option End → SessionValue → SessionValue → Result (Option Response × TransferValue) FtpError → Type 0
OpensAs link coding call replies direction mark after former kept old new result = SeesFirst mark old (λ between seen. OpensEither link coding call replies direction between after former kept seen new result)

-- a result without its reply, and with one
abbrev pub without_reply : Result (Option Response × TransferValue) FtpError → Result TransferValue FtpError
without_reply (Ok opened) = Ok opened.1
without_reply (Err fault) = Err fault

abbrev pub with_reply : Result (Response × TransferValue) FtpError → Result (Option Response × TransferValue) FtpError
with_reply (Ok opened) = Ok (Some opened.0, opened.1)
with_reply (Err fault) = Err fault

-- The end

-- whether the transfer of this number was handed out, and is live
unfoldable pub is_out : ℕ → Option End → SessionValue → Bool
is_out number None v = false
is_out number (Some end) v = is_live end.number v.state.counts.owed && (end.number == number)

-- an answer of a call that brings a transfer to its end
abbrev pub EndsOnly : Answer → Type 0
EndsOnly Done = Unit {0}
EndsOnly (Fault fault) = Unit {0}
EndsOnly other = ⊥

-- a transfer that is live comes to its end, on its data connection; or there was no memory for the record of that, and
-- the transfer is left
pub record Ends (link : Link) (coding : Coding) (call : Call) (transfer : TransferValue) (old new : SessionValue) (answer : Answer) (after : Option End) : Type 0 where
  pub mark : after ≡ None
  pub made : PlaysAlone link coding call (with_data (Some transfer.told) old) new answer

pub record EndsWithout (mark after : Option End) (old new : SessionValue) (answer : Answer) : Type 0 where
  pub mark_stays : after ≡ mark
  pub is : answer ≡ Fault (withheld old)
  pub left : new ≡ left_if true old

-- why: no transfer of this number was handed out and is live; a session that has failed says that first
abbrev pub passed_over : SessionValue → FtpError
passed_over v = if v.channel.failed then SessionFailed else ConnectionError NotOwed

-- a transfer of another number is no concern of the session's
pub record PassesOver (mark after : Option End) (old new : SessionValue) (answer : Answer) : Type 0 where
  pub mark_stays : after ≡ mark
  pub is : answer ≡ Fault (passed_over old)
  pub unchanged : new ≡ old

abbrev pub BringsToEndIf : Bool → Link → Coding → Call → TransferValue → Option End → Option End → SessionValue → SessionValue → Answer → Type 0
BringsToEndIf true link coding call transfer mark after old new answer = Ends link coding call transfer old new answer after ⊎ EndsWithout mark after old new answer
BringsToEndIf false link coding call transfer mark after old new answer = PassesOver mark after old new answer

abbrev pub BringsToEnd : Link → Coding → Call → TransferValue → Option End → Option End → SessionValue → SessionValue → Answer → Type 0
BringsToEnd link coding call transfer mark after old new answer = BringsToEndIf (is_out transfer.end.number mark old) link coding call transfer mark after old new answer

-- the data connection of a transfer that is live stands beside the control connection again, or it results in the above
abbrev pub TakesBackIf : Bool → TransferValue → Option End → Option End → SessionValue → SessionValue → Result (Unit {0}) FtpError → Type 0
TakesBackIf true transfer mark after old new (Ok done) = (after ≡ None) × (new ≡ with_data (Some transfer.told) old)
TakesBackIf true transfer mark after old new (Err fault) = EndsWithout mark after old new (Fault fault)
TakesBackIf false transfer mark after old new (Ok done) = ⊥
TakesBackIf false transfer mark after old new (Err fault) = PassesOver mark after old new (Fault fault)

abbrev pub TakesBack : TransferValue → Option End → Option End → SessionValue → SessionValue → Result (Unit {0}) FtpError → Type 0
TakesBack transfer mark after old new result = TakesBackIf (is_out transfer.end.number mark old) transfer mark after old new result

-- the last reply of a transfer that was left, by its receipt, is read, and those that are due to commands that were dropped;
-- one that is no longer owed asks nothing
abbrev pub SettlesIf : Bool → Link → Coding → SessionValue → SessionValue → Answer → Type 0
SettlesIf true link coding old new answer = PlaysInStep link coding Drain (left_if true old) new answer
SettlesIf false link coding old new answer = (answer ≡ Done) × (new ≡ old)

abbrev pub SettlesUnless : Bool → Link → Coding → End → SessionValue → SessionValue → Answer → Type 0
SettlesUnless true link coding receipt old new answer = (answer ≡ Fault SessionFailed) × (new ≡ old)
SettlesUnless false link coding receipt old new answer = SettlesIf (is_owed receipt.number old.state.counts.owed) link coding old new answer

abbrev pub Settles : Link → Coding → End → SessionValue → SessionValue → Answer → Type 0
Settles link coding receipt old new answer = SettlesUnless old.channel.failed link coding receipt old new answer

-- a receipt is looked at before its transfer's last reply is read: the transfer is left, and that reply is to be read; or
-- none is owed; or the session has failed
abbrev pub BeginsToSettleIf : Bool → SessionValue → SessionValue → Result Bool FtpError → Type 0
BeginsToSettleIf true old new result = (result ≡ Ok true) × (new ≡ left_if true old)
BeginsToSettleIf false old new result = (result ≡ Ok false) × (new ≡ old)

abbrev pub BeginsToSettleUnless : Bool → End → SessionValue → SessionValue → Result Bool FtpError → Type 0
BeginsToSettleUnless true receipt old new result = (result ≡ Err SessionFailed) × (new ≡ old)
BeginsToSettleUnless false receipt old new result = BeginsToSettleIf (is_owed receipt.number old.state.counts.owed) old new result

abbrev pub BeginsToSettle : End → SessionValue → SessionValue → Result Bool FtpError → Type 0
BeginsToSettle receipt old new result = BeginsToSettleUnless old.channel.failed receipt old new result
