-- TLS on a session's control connection: RFC 2228, section 3; RFC 4217, sections 4, 5 and 9.
use Rattle.std.specs.Prelude.{◌≡◌, ◌⊎◌, ◌&&◌, ◌∷◌, [], not, ℕ, Bool, true, false, List, Option, None, Result, Ok, Err, if◌then◌else◌, codes}
use Rattle.futures.specs.declared.task.Poll.{Poll}
use Rattle.futures.specs.declared.task.Poll.TheVariants.{Ready, Pending}
use Rattle.ftp_base.specs.declared.status.Status.{Status}
use Rattle.ftp_base.specs.declared.status.Status.TheVariants.{AuthOk, CommandOk}
use Rattle.ftp_base.specs.declared.command.Command.TheVariants.{Custom}
use Rattle.ftp_base.specs.declared.types.fault.FtpError.{FtpError}
use Rattle.ftp_base.specs.declared.types.fault.FtpError.TheVariants.{DataConnectionAlreadyOpen, OutOfMemory}
use Rattle.ftp_base.specs.declared.types.reply.Response.{Response}
use Rattle.ftp_calls.specs.declared.exchange.Codes.TheVariants.{Given}
use Rattle.ftp_transfer.specs.Mark.{End}
use Rattle.ftp_transport.specs.Told.{Told, begun}
use Rattle.ftp_control.specs.Channel.{IsIdle}
use Rattle.ftp_dialogue.specs.Coding.{Coding}
use Rattle.ftp_dialogue.specs.Link.{Link}
use Rattle.ftp_dialogue.specs.Promises.{failed_from}
use Rattle.ftp_dialogue.specs.Sound.{some_live}
use Rattle.ftp_secure.specs.Gone.{gone_after}
use Rattle.ftp_secure.specs.Securing.{SecuresBy}
use Rattle.ftp_dialogue.specs.State.{SessionValue, anew}
use Rattle.ftp_dialogue.specs.Steps.Moving.{withheld}
use Rattle.ftp_dialogue.specs.declared.state.State.{State}
use Rattle.ftp_session.specs.Calls.{reply_answer}
use Rattle.ftp_session.specs.Commands.{PlaysCommand}
use Rattle.ftp_session.specs.Handed.{LooksIf, as_seen, watches}
use Rattle.ftp_session.specs.Trees.{reply_tree}

-- a transfer is live, in a session that goes on
abbrev pub is_beside : SessionValue → Bool
is_beside v = not v.channel.failed && some_live v.state.counts.owed

-- the error of a command is the result; after the change the session has failed then
abbrev pub failed_if : Bool → SessionValue → SessionValue
failed_if late v = if late then failed_from v else v

-- what follows a command that was accepted
abbrev pub OnAccepted : Bool → (Option End → SessionValue → Type 0) → Result Response FtpError → Option End → Option End → SessionValue → SessionValue → Result (Unit {0}) FtpError → Type 0
OnAccepted late Next (Ok reply) between after middle new result = Next between middle
OnAccepted late Next (Err fault) between after middle new result = (result ≡ Err fault) × (after ≡ between) × (new ≡ failed_if late middle)

-- a command is made, and accepted with this status alone
pub record CommandThen (late : Bool) (link : Link) (coding : Coding) (line : List ℕ) (status : Status) (Next : Option End → SessionValue → Type 0) (mark after : Option End) (old new : SessionValue) (result : Result (Unit {0}) FtpError) : Type 0 where
  pub between : Option End
  pub middle : SessionValue
  pub reply : Result Response FtpError
  pub plays : PlaysCommand link (reply_tree coding (Custom line) (Given (status ∷ []))) mark between old middle (reply_answer reply)
  pub later : OnAccepted late Next reply between after middle new result

-- the control connection is handed to a connector, which may answer so for the server's name and that record: a stream of
-- this record, or its text; one under TLS is taken from under it first
abbrev pub HandsOver : (C : Type 0) → (C → Told) → (C → Result Told FtpError → Type 0) → (Told → Result Told (List ℕ) → Type 0) → Told → Result Told FtpError → Type 0
HandsOver C told gives answers before outcome = (conn : C) × (told conn ≡ before) × SecuresBy (gives conn) answers outcome

-- the control connection is taken from under TLS: what its stream may give
abbrev pub TakesOff : (C : Type 0) → (C → Told) → (C → Result Told FtpError → Type 0) → Told → Result Told FtpError → Type 0
TakesOff C told gives before outcome = (conn : C) × (told conn ≡ before) × gives conn outcome

-- data connections are put under TLS from then on
abbrev pub secured : State → State
secured state = record state { settings = record state.settings { secure = true } }

-- data connections of a session are put under TLS from then on
abbrev pub secured_from : SessionValue → SessionValue
secured_from v = record v { state = secured v.state }

-- the channel begins anew on a connection of this record, which was put under TLS, or taken from under it: nothing that was
-- received before is part of a reply after it
pub record ChangesTo (tells : Type 0) (handshake : Told → Result Told FtpError → Type 0) (told : Told) (change : State → State) (old new : SessionValue) : Type 0 where
  pub made : handshake old.channel.told (Ok told)
  pub idle : IsIdle new.channel
  pub begins : tells → new.channel.told ≡ begun told
  pub rule : new.channel.rule ≡ old.channel.rule
  pub state : new.state ≡ change (anew old.state)
  pub net : new.net ≡ old.net

-- that failed with this error, and the session has failed: its connection is gone
pub record FailsToChange (tells : Type 0) (handshake : Told → Result Told FtpError → Type 0) (fault : FtpError) (old new : SessionValue) : Type 0 where
  pub made : handshake old.channel.told (Err fault)
  pub failed : new.channel.failed ≡ true
  pub gone : tells → new.channel.told ≡ begun (gone_after 0 None)
  pub state : new.state ≡ anew old.state
  pub net : new.net ≡ old.net

abbrev pub Changes : Type 0 → (Told → Result Told FtpError → Type 0) → (State → State) → SessionValue → SessionValue → Result (Unit {0}) FtpError → Type 0
Changes tells handshake change old new (Ok done) = (told : Told) × ChangesTo tells handshake told change old new
Changes tells handshake change old new (Err fault) = FailsToChange tells handshake fault old new

-- PROT is accepted
abbrev pub ProtectsData : Link → Coding → Option End → Option End → SessionValue → SessionValue → Result (Unit {0}) FtpError → Type 0
ProtectsData link coding mark after old new result =
    CommandThen true link coding (codes "PROT P") CommandOk (λ last at. (result ≡ Ok tt) × (after ≡ last) × (new ≡ at)) mark after old new result

-- PBSZ and then PROT are accepted
abbrev pub Protects : Link → Coding → Option End → Option End → SessionValue → SessionValue → Result (Unit {0}) FtpError → Type 0
Protects link coding mark after old new result =
    CommandThen true link coding (codes "PBSZ 0") CommandOk (λ between middle. ProtectsData link coding between after middle new result) mark after old new result

abbrev pub AfterChange : Link → Coding → Result (Unit {0}) FtpError → Option End → Option End → SessionValue → SessionValue → Result (Unit {0}) FtpError → Type 0
AfterChange link coding (Ok done) mark after old new result = Protects link coding mark after old new result
AfterChange link coding (Err fault) mark after old new result = (result ≡ Err fault) × (after ≡ mark) × (new ≡ old)

pub record ChangesThen (link : Link) (handshake : Told → Result Told FtpError → Type 0) (coding : Coding) (mark after : Option End) (old new : SessionValue) (result : Result (Unit {0}) FtpError) : Type 0 where
  pub middle : SessionValue
  pub changed : Result (Unit {0}) FtpError
  pub changes : Changes link.tells handshake secured old middle changed
  pub then_protects : AfterChange link coding changed mark after middle new result

-- nothing is sent beside a live transfer, nor where there is no memory for the server's name; else AUTH is, and where it is
-- accepted the control connection is put under TLS
abbrev pub SecuresFrom : Link → (Told → Result Told FtpError → Type 0) → Coding → Option End → Option End → SessionValue → SessionValue → Result (Unit {0}) FtpError → Type 0
SecuresFrom link handshake coding mark after old new result =
    ((is_beside old ≡ true) × (result ≡ Err DataConnectionAlreadyOpen) × (after ≡ mark) × (new ≡ old))
    ⊎ ((is_beside old ≡ false) × (result ≡ Err (withheld old)) × (after ≡ mark) × (new ≡ old))
    ⊎ ((is_beside old ≡ false) × CommandThen false link coding (codes "AUTH TLS") AuthOk (λ between middle. ChangesThen link handshake coding between after middle new result) mark after old new result)

-- a session is put under TLS, after a look at the mark of the transfer that was handed out
pub record Secures (link : Link) (handshake : Told → Result Told FtpError → Type 0) (coding : Coding) (mark after : Option End) (old new : SessionValue) (result : Result (Unit {0}) FtpError) : Type 0 where
  pub seen : Option End
  pub looks : LooksIf (watches mark old) mark seen
  pub secures : SecuresFrom link handshake coding seen after (as_seen seen old) new result

-- data connections stay as they are
abbrev pub unchanged : State → State
unchanged state = state

-- nothing is sent beside a live transfer; else CCC is, and where it is accepted the control connection is taken from under
-- TLS
abbrev pub ClearsFrom : Link → (Told → Result Told FtpError → Type 0) → Coding → Option End → Option End → SessionValue → SessionValue → Result (Unit {0}) FtpError → Type 0
ClearsFrom link handshake coding mark after old new result =
    ((is_beside old ≡ true) × (result ≡ Err DataConnectionAlreadyOpen) × (after ≡ mark) × (new ≡ old))
    ⊎ ((is_beside old ≡ false) × CommandThen false link coding (codes "CCC") CommandOk (λ between middle. Changes link.tells handshake unchanged middle new result × (after ≡ between)) mark after old new result)

pub record Clears (link : Link) (handshake : Told → Result Told FtpError → Type 0) (coding : Coding) (mark after : Option End) (old new : SessionValue) (result : Result (Unit {0}) FtpError) : Type 0 where
  pub seen : Option End
  pub looks : LooksIf (watches mark old) mark seen
  pub clears : ClearsFrom link handshake coding seen after (as_seen seen old) new result

-- Changes that are polled

-- a handshake results in what one may, or memory ran out for it
abbrev pub shaken_by : Link → Told → Result Told FtpError → Type 0
shaken_by link before outcome = (link.tells → link.beside.secures outcome) ⊎ (outcome ≡ Err OutOfMemory)

-- a handshake waits: the session stands on no connection meanwhile, and nothing is kept
pub record AwaitsChange (tells : Type 0) (old new : SessionValue) : Type 0 where
  pub idle : IsIdle new.channel
  pub gone : tells → new.channel.told ≡ begun (gone_after 0 None)
  pub rule : new.channel.rule ≡ old.channel.rule
  pub state : new.state ≡ anew old.state
  pub net : new.net ≡ old.net

-- a poll of the handshake puts the control connection under TLS, or the session has failed, or it waits
abbrev pub PollsChange : Link → SessionValue → SessionValue → Poll (Result (Unit {0}) FtpError) → Type 0
PollsChange link old new (Ready result) = Changes link.tells (shaken_by link) secured old new result
PollsChange link old new Pending = AwaitsChange link.tells old new

-- a change is given up: the session has failed, and its connection is closed
pub record GivesUp (tells : Type 0) (old new : SessionValue) : Type 0 where
  pub failed : new.channel.failed ≡ true
  pub gone : tells → new.channel.told ≡ begun (gone_after 0 None)
  pub state : new.state ≡ anew old.state
  pub net : new.net ≡ old.net
