-- Replies that are due to commands that were dropped are read before a call says or hears anything of its own: RFC 959,
-- sections 4.2 and 5.4.
use Rattle.std.specs.Prelude.{◌≡◌, ◌⊎◌, ◌&&◌, ◌||◌, ◌==◌, not, ℕ, zero, suc, Bool, true, false, [], Option, Some, None, Result, Ok, Err, if◌then◌else◌}
use Rattle.futures.specs.declared.task.Poll.{Poll}
use Rattle.futures.specs.declared.task.Poll.TheVariants.{Ready, Pending}
use Rattle.ftp_base.specs.declared.types.reply.Response.{Response}
use Rattle.ftp_base.specs.declared.types.fault.FtpError.{FtpError}
use Rattle.ftp_base.specs.declared.types.fault.FtpError.TheVariants.{UnexpectedResponse, BadResponse}
use Rattle.ftp_transport.specs.Told.{IsFull}
use Rattle.ftp_calls.specs.Exchanges.{drains, drains_first, is_read, negotiates, resyncs}
use Rattle.ftp_calls.specs.declared.call.Answer.{Answer}
use Rattle.ftp_calls.specs.declared.call.Answer.TheVariants.{Unit as Nothing, Fault}
use Rattle.ftp_calls.specs.declared.call.Call.{Call}
use Rattle.ftp_dialogue.specs.Coding.{Coding}
use Rattle.ftp_dialogue.specs.Dialogue.{Expected, Tree, Say, Leaf, expecting}
use Rattle.ftp_dialogue.specs.Link.{Link, unasked}
use Rattle.ftp_dialogue.specs.Promises.{Aborts, Completes, Leads, Plays}
use Rattle.ftp_dialogue.specs.Reading.{PollsRead, ReadsAlone}
use Rattle.ftp_dialogue.specs.Resuming.{Resumes, modes_of}
use Rattle.ftp_dialogue.specs.Sound.{none_left, some_live}
use Rattle.ftp_dialogue.specs.State.{SessionValue}
use Rattle.ftp_dialogue.specs.Unanswered.{most_commands}
use Rattle.ftp_dialogue.specs.declared.state.Owed.{Owed}
use Rattle.ftp_dialogue.specs.declared.state.State.{State}

-- beside a live transfer no other is opened and nothing is sought, and a call that would says so at once
abbrev pub opens_beside : Call → Owed → Bool
opens_beside call owed = some_live owed && (negotiates call || resyncs call)

-- replies are due to commands that were dropped, in a session that goes on
abbrev pub has_dropped_replies : SessionValue → Bool
has_dropped_replies v = not (v.channel.failed || (v.state.unanswered == 0))

-- and a call reads them first: one that goes over the control connection, but for those that bring a transfer to its end
abbrev pub reads_dropped_first : Call → SessionValue → Bool
reads_dropped_first call v = has_dropped_replies v && (drains_first call || drains call) && not (opens_beside call v.state.counts.owed)

-- a plain read reads none of them first but the last one of a transfer that was left: its own reply is one
abbrev pub is_plain_read : Call → Bool
is_plain_read call = is_read call && not (drains call)

-- the unsent tail of the line that was begun last goes out
abbrev pub flushing : State → Tree
flushing state = Say (Ok []) (Leaf Nothing state)

-- it waits: some of it is unsent, and no more may be written
pub record AwaitsRoom (link : Link) (v : SessionValue) : Type 0 where
  pub some : v.channel.unsent ≡ [] → ⊥
  pub full : link.tells → IsFull v.channel.told

abbrev pub SendsTail : Link → SessionValue → SessionValue → Poll (Option FtpError) → Type 0
SendsTail link old new (Ready None) = Completes link (flushing old.state) Nothing old new
SendsTail link old new (Ready (Some fault)) = Completes link (flushing old.state) (Fault fault) old new ⊎ Aborts link false (flushing old.state) (Fault fault) old new
SendsTail link old new Pending = Leads link (flushing old.state) (flushing old.state) old new × AwaitsRoom link new

-- and nothing else happens: neither to what was received nor to the state
pub record Flushes (link : Link) (old new : SessionValue) (result : Poll (Option FtpError)) : Type 0 where
  pub sends : SendsTail link old new result
  pub beside : new ≡ record old { channel = record old.channel { told = new.channel.told; unsent = new.channel.unsent; failed = new.channel.failed } }

-- a line went out, or is waited for, or this is why it can't
abbrev pub told_of_line : Poll (Result (Unit {0}) FtpError) → Poll (Option FtpError)
told_of_line (Ready (Ok done)) = Ready None
told_of_line (Ready (Err fault)) = Ready (Some fault)
told_of_line Pending = Pending

-- an error is told
abbrev pub TellsFault : Poll (Option FtpError) → Type 0
TellsFault (Ready None) = ⊥
TellsFault (Ready (Some fault)) = Unit {0}
TellsFault Pending = ⊥

-- a reply of any status is passed over, and an error in its place is told
abbrev pub fault_told : Result Response FtpError → Option FtpError
fault_told (Ok reply) = None
fault_told (Err (UnexpectedResponse reply)) = None
fault_told (Err fault) = Some fault

-- what comes after a part that was done, was waited for, or gave an error
abbrev pub After : (SessionValue → SessionValue → Poll (Option FtpError) → Type 0) → Poll (Option FtpError) → SessionValue → SessionValue → Poll (Option FtpError) → Type 0
After Next (Ready None) middle new result = Next middle new result
After Next (Ready (Some fault)) middle new result = (result ≡ Ready (Some fault)) × (new ≡ middle)
After Next Pending middle new result = (result ≡ Pending) × (new ≡ middle)

abbrev pub told_by : Poll (Result Response FtpError) → Poll (Option FtpError)
told_by (Ready heard) = Ready (fault_told heard)
told_by Pending = Pending

-- one reply is read, and then the next
pub record ReadsOne (link : Link) (Next : SessionValue → SessionValue → Poll (Option FtpError) → Type 0) (old new : SessionValue) (result : Poll (Option FtpError)) : Type 0 where
  pub middle : SessionValue
  pub heard : Poll (Result Response FtpError)
  pub reads : ReadsAlone link (expecting []) old middle heard
  pub then_reads : After Next (told_by heard) middle new result

abbrev pub ReadsIf : Bool → Link → (SessionValue → SessionValue → Poll (Option FtpError) → Type 0) → SessionValue → SessionValue → Poll (Option FtpError) → Type 0
ReadsIf true link Next old new result = (result ≡ Ready None) × (new ≡ old)
ReadsIf false link Next old new result = ReadsOne link Next old new result

-- none is due any more; before a plain read, whose own reply is one of them, only the last one of a transfer that was left
-- is read
abbrev pub is_caught_up : Bool → State → Bool
is_caught_up plain state = if plain then none_left state.counts.owed else state.unanswered == 0

-- as long as some are due; a server that sends more than so many in their place says nothing that can be read
unfoldable pub ReadsDue : Bool → ℕ → Link → SessionValue → SessionValue → Poll (Option FtpError) → Type 0
ReadsDue plain zero link old new result = (result ≡ Ready (Some BadResponse)) × (new ≡ old)
ReadsDue plain (suc left) link old new result = ReadsIf (is_caught_up plain old.state) link (λ v w r. ReadsDue plain left link v w r) old new result

-- the tail goes out, and then the replies are read
pub record CatchesUp (link : Link) (plain : Bool) (old new : SessionValue) (result : Poll (Option FtpError)) : Type 0 where
  pub flushed : SessionValue
  pub flush : Poll (Option FtpError)
  pub flushes : Flushes link old flushed flush
  pub then_reads : After (ReadsDue plain most_commands link) flush flushed new result

-- nothing is kept of a reply, so whatever is read next begins anew, by the setting
pub record BeginsAnew (v : SessionValue) : Type 0 where
  pub none : v.channel.kept ≡ []
  pub resumes : (tree : Tree) → Resumes (modes_of v) v.channel.kept tree

-- then the call is made, but for a read of the last reply of a transfer that was left, which is among them; an error is
-- the answer
abbrev pub MakesThen : Option FtpError → Bool → (SessionValue → SessionValue → Answer → Type 0) → SessionValue → SessionValue → Answer → Type 0
MakesThen (Some fault) ends Makes middle new answer = (answer ≡ Fault fault) × (new ≡ middle)
MakesThen None true Makes middle new answer = (answer ≡ Nothing) × (new ≡ middle)
MakesThen None false Makes middle new answer = Makes middle new answer

pub record CatchesUpFirst (link : Link) (plain ends : Bool) (Makes : SessionValue → SessionValue → Answer → Type 0) (old new : SessionValue) (answer : Answer) : Type 0 where
  pub middle : SessionValue
  pub fault : Option FtpError
  pub catches_up : CatchesUp link plain old middle (Ready fault)
  pub then_makes : MakesThen fault ends Makes middle new answer

abbrev pub InStepIf : Bool → Link → Bool → Bool → (SessionValue → SessionValue → Answer → Type 0) → SessionValue → SessionValue → Answer → Type 0
InStepIf true link plain ends Makes old new answer = CatchesUpFirst link plain ends Makes old new answer
InStepIf false link plain ends Makes old new answer = Makes old new answer

-- a call in step: after the replies that are due
pub record PlaysInStep (link : Link) (coding : Coding) (call : Call) (old new : SessionValue) (answer : Answer) : Type 0 where
  pub plays : InStepIf (reads_dropped_first call old) (unasked link) (is_plain_read call) (drains call) (Plays link coding call) old new answer

-- a polled read of one reply: where replies are due the unsent tail goes out first, and the last reply of a transfer that was
-- left is among them
abbrev pub ReadsThen : Poll (Option FtpError) → Link → Coding → Expected → SessionValue → SessionValue → Poll (Result Response FtpError) → Type 0
ReadsThen (Ready None) link coding codes middle new result = PollsRead link coding codes middle new result
ReadsThen (Ready (Some fault)) link coding codes middle new result = (result ≡ Ready (Err fault)) × (new ≡ middle)
ReadsThen Pending link coding codes middle new result = (result ≡ Pending) × (new ≡ middle)

pub record CatchesUpThenReads (link : Link) (coding : Coding) (codes : Expected) (old new : SessionValue) (result : Poll (Result Response FtpError)) : Type 0 where
  pub middle : SessionValue
  pub caught : Poll (Option FtpError)
  pub catches_up : CatchesUp link true old middle caught
  pub then_reads : ReadsThen caught link coding codes middle new result

abbrev pub CatchesUpReadIf : Bool → Link → Coding → Expected → SessionValue → SessionValue → Poll (Result Response FtpError) → Type 0
CatchesUpReadIf true link coding codes old new result = CatchesUpThenReads link coding codes old new result
CatchesUpReadIf false link coding codes old new result = PollsRead link coding codes old new result

pub record PollsReadInStep (link : Link) (coding : Coding) (codes : Expected) (old new : SessionValue) (result : Poll (Result Response FtpError)) : Type 0 where
  pub reads : CatchesUpReadIf (has_dropped_replies old) link coding codes old new result
