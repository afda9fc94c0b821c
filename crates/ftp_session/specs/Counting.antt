-- When an error of a connection is returned, and when `SessionFailed` is, by calls that come to a connection, put it
-- under TLS or move a whole file: only where a failure was counted, or what was asked or handed in gave the error.
use Rattle.std.specs.Prelude.{◌≡◌, ◌⊎◌, ℕ, Bool, true, List, [], ◌∷◌, Option, Some, Result, Ok, Err, codes}
use Rattle.std.specs.Io.KnownBytes.{Appends, Consumes}
use Rattle.std.specs.declared.io.ErrorKind.{ErrorKind}
use Rattle.ftp_base.specs.Ascii.{AppendsFront, IsCopyFault, wire_data}
use Rattle.ftp_base.specs.declared.command.Command.TheVariants.{Custom}
use Rattle.ftp_base.specs.declared.status.Status.{Status}
use Rattle.ftp_base.specs.declared.status.Status.TheVariants.{AuthOk, CommandOk}
use Rattle.ftp_base.specs.declared.types.fault.ConnectionError.{ConnectionError}
use Rattle.ftp_base.specs.declared.types.fault.ConnectionError.TheVariants.{Io}
use Rattle.ftp_base.specs.declared.types.fault.FtpError.{FtpError}
use Rattle.ftp_base.specs.declared.types.fault.FtpError.TheVariants.{ConnectionError as Connection, SessionFailed}
use Rattle.ftp_base.specs.declared.types.reply.Response.{Response}
use Rattle.ftp_transport.specs.Asking.{RefusedInTurn}
use Rattle.ftp_transport.specs.Told.{Told}
use Rattle.ftp_transport.specs.declared.request.Asked.{Asked}
use Rattle.ftp_transport.specs.declared.request.Request.{Request}
use Rattle.ftp_transport.specs.declared.request.RequestOutcome.TheVariants.{Refused}
use Rattle.ftp_transport.specs.declared.supply.Supply.{Supply}
use Rattle.ftp_control.specs.declared.control.rule.ReplyRule.{ReplyRule}
use Rattle.ftp_control.specs.declared.control.rule.ReplyRule.TheVariants.{Strict}
use Rattle.ftp_calls.specs.declared.call.Answer.TheVariants.{Reply}
use Rattle.ftp_calls.specs.declared.call.Call.{Call}
use Rattle.ftp_calls.specs.declared.exchange.Codes.TheVariants.{Given}
use Rattle.ftp_transfer.specs.Mark.{End}
use Rattle.ftp_transfer.specs.Transfer.{TransferValue}
use Rattle.ftp_transfer.specs.declared.direction.Direction.{Direction}
use Rattle.ftp_transfer.specs.declared.direction.Direction.TheVariants.{Download, Upload}
use Rattle.ftp_dialogue.specs.Coding.{Coding}
use Rattle.ftp_dialogue.specs.Counted.{CountsFailure, IsGivenBeside}
use Rattle.ftp_dialogue.specs.Link.{Link}
use Rattle.ftp_dialogue.specs.NetEvents.{Net, first_net}
use Rattle.ftp_dialogue.specs.Sound.{cannot_open}
use Rattle.ftp_dialogue.specs.State.{SessionValue}
use Rattle.ftp_session.specs.Calls.{Connects}
use Rattle.ftp_session.specs.Commands.{PlaysCommand}
use Rattle.ftp_session.specs.Connecting.{IsConnected}
use Rattle.ftp_transfer.specs.Copying.{Copies, Failed, Wrote, WroteFront}
use Rattle.ftp_session.specs.Handed.{LooksIf, Opens, as_seen, watches, with_data}
use Rattle.ftp_transfer.specs.Saving.{Gave, Saves, StopsAt}
use Rattle.ftp_session.specs.Trees.{reply_tree}

-- Coming to a connection

-- the greeting's dialogue on a connection of this record ended with this error, and the connection counted a failure
abbrev pub FailsInGreeting : Link → Coding → ReplyRule → Told → Net → FtpError → Type 0
FailsInGreeting link coding rule told beside fault =
    (new : SessionValue) × Connects link coding rule told beside new (Err fault) × CountsFailure told new.channel.told

-- no session is made on a connection of this record: it failed while the greeting was heard
pub record CountsInGreeting (link : Link) (coding : Coding) (rule : ReplyRule) (told : Told) (beside : Net) (fault : FtpError) : Type 0 where
  pub counted : (kind : ErrorKind) → fault ≡ Connection (Io kind) → link.tells → FailsInGreeting link coding rule told beside fault
  pub not_failed : fault ≡ SessionFailed → ⊥

-- the last of these requests was refused with this error
abbrev pub EndsRefused : ConnectionError → List Asked → Type 0
EndsRefused cause [] = ⊥
EndsRefused cause (one ∷ []) = one.outcome ≡ Refused cause
EndsRefused cause (one ∷ more) = EndsRefused cause more

-- each request was refused, and the last one with this error
pub record IsRefusedAtLast (refuses : List Supply → ConnectionError → Type 0) (requests : List Request) (none cause : ConnectionError) (ready : List Supply) (asked : List Asked) : Type 0 where
  pub unused : List Supply
  pub asked_by : List Asked
  pub in_turn : RefusedInTurn refuses requests [] none cause ready unused asked asked_by
  pub last : EndsRefused cause in_turn.answered

-- the requests made a connection, and this is so of its record and of what stands beside it
pub record OnConnected (link : Link) (coding : Coding) (refuses : List Supply → ConnectionError → Type 0) (requests : List Request) (none : ConnectionError) (ready : List Supply) (closed : List Told) (asked : List Asked) (Is : Told → Net → Type 0) : Type 0 where
  pub told : Told
  pub asked_by : List Asked
  pub connected : IsConnected link coding refuses requests none ready asked asked_by told
  pub is : Is told (first_net asked_by connected.unused closed)

-- no session is made by these requests: the last one was refused, or the connection failed while the greeting was heard
pub record CountsConnecting (link : Link) (coding : Coding) (rule : ReplyRule) (refuses : List Supply → ConnectionError → Type 0) (requests : List Request) (none : ConnectionError) (ready : List Supply) (closed : List Told) (asked : List Asked) (fault : FtpError) : Type 0 where
  pub counted : (kind : ErrorKind) → fault ≡ Connection (Io kind) → link.tells → IsRefusedAtLast refuses requests none (Io kind) ready asked ⊎ OnConnected link coding refuses requests none ready closed asked (λ told net. FailsInGreeting link coding rule told net fault)
  pub not_failed : fault ≡ SessionFailed → ⊥

-- the handshake gave this error, or the greeting's dialogue under TLS failed with it
abbrev pub FailsAtFirst : Link → (Told → Result Told FtpError → Type 0) → Coding → Told → Net → FtpError → Type 0
FailsAtFirst link handshake coding told net fault =
    handshake told (Err fault) ⊎ ((under : Told) × handshake told (Ok under) × FailsInGreeting link coding Strict under net fault)

-- no session is made under TLS by these requests
pub record CountsConnectingUnder (link : Link) (handshake : Told → Result Told FtpError → Type 0) (coding : Coding) (refuses : List Supply → ConnectionError → Type 0) (requests : List Request) (none : ConnectionError) (ready : List Supply) (closed : List Told) (asked : List Asked) (fault : FtpError) : Type 0 where
  pub counted : (kind : ErrorKind) → fault ≡ Connection (Io kind) → link.tells → IsRefusedAtLast refuses requests none (Io kind) ready asked ⊎ OnConnected link coding refuses requests none ready closed asked (λ told net. FailsAtFirst link handshake coding told net fault)
  pub had_failed : fault ≡ SessionFailed → OnConnected link coding refuses requests none ready closed asked (λ told net. handshake told (Err fault))

-- Changes of TLS

-- a session looked, and this command was accepted: this is so of the record of its connection then
pub record OnceAccepted (link : Link) (coding : Coding) (line : List ℕ) (status : Status) (mark : Option End) (old : SessionValue) (Is : Told → Type 0) : Type 0 where
  pub seen : Option End
  pub looks : LooksIf (watches mark old) mark seen
  pub between : Option End
  pub at : SessionValue
  pub reply : Response
  pub plays : PlaysCommand link (reply_tree coding (Custom line) (Given (status ∷ []))) seen between (as_seen seen old) at (Reply reply)
  pub is : Is at.channel.told

-- the handshake gave this error, or the connection that it made counted a failure
abbrev pub FailsInChange : (Told → Result Told FtpError → Type 0) → FtpError → Told → Told → Type 0
FailsInChange handshake fault told new =
    handshake told (Err fault) ⊎ ((under : Told) × handshake told (Ok under) × CountsFailure under new)

-- a session isn't put under TLS: its connection failed before the handshake, in it or after it
pub record CountsSecuring (link : Link) (handshake : Told → Result Told FtpError → Type 0) (coding : Coding) (mark : Option End) (old new : SessionValue) (fault : FtpError) : Type 0 where
  pub counted : (kind : ErrorKind) → fault ≡ Connection (Io kind) → link.tells → CountsFailure old.channel.told new.channel.told ⊎ OnceAccepted link coding (codes "AUTH TLS") AuthOk mark old (λ told. FailsInChange handshake fault told new.channel.told)
  pub had_failed : fault ≡ SessionFailed → (old.channel.failed ≡ true) ⊎ OnceAccepted link coding (codes "AUTH TLS") AuthOk mark old (λ told. handshake told (Err fault))

-- a connection isn't taken from under TLS: it failed before that, or its stream gave the error
pub record CountsClearing (link : Link) (gives : Told → Result Told FtpError → Type 0) (coding : Coding) (mark : Option End) (old new : SessionValue) (fault : FtpError) : Type 0 where
  pub counted : (kind : ErrorKind) → fault ≡ Connection (Io kind) → link.tells → CountsFailure old.channel.told new.channel.told ⊎ OnceAccepted link coding (codes "CCC") CommandOk mark old (λ told. gives told (Err fault))
  pub had_failed : fault ≡ SessionFailed → (old.channel.failed ≡ true) ⊎ OnceAccepted link coding (codes "CCC") CommandOk mark old (λ told. gives told (Err fault))

-- a change by itself gives an error of a connection, or `SessionFailed`, only where the handshake or the stream gave it
pub record CountsChange (Gives : Type 0) (fault : FtpError) : Type 0 where
  pub counted : (kind : ErrorKind) → fault ≡ Connection (Io kind) → Gives
  pub had_failed : fault ≡ SessionFailed → Gives

-- Whole files

-- a call opened a transfer, and this is so of it and of the session that handed it out
pub record OnOpened (link : Link) (coding : Coding) (call : Call) (direction : Direction) (mark former kept : Option End) (old : SessionValue) (Is : TransferValue → SessionValue → Type 0) : Type 0 where
  pub transfer : TransferValue
  pub marked : Option End
  pub given : SessionValue
  pub opened : Opens link coding call direction mark marked former kept old given (Ok transfer)
  pub is : Is transfer given

-- the bytes stopped with this error; or they went over, and the end of the transfer met it on the data connection
pub record GivesOn {T : Type 0} (link : Link) (Moves : TransferValue → Result T FtpError → TransferValue → Type 0) (Stops : FtpError → TransferValue → TransferValue → Type 0) (transfer : TransferValue) (given new : SessionValue) (fault : FtpError) : Type 0 where
  pub over : TransferValue
  pub why : Stops fault transfer over ⊎ ((value : T) × Moves transfer (Ok value) over × IsGivenBeside link fault (with_data (Some over.told) given).net new.net)

-- a call that moves a whole file: as one that opens a transfer, or the transfer gave the error
pub record CountsWhole (link : Link) (Gives : Type 0) (old new : SessionValue) (fault : FtpError) : Type 0 where
  pub counted : (kind : ErrorKind) → fault ≡ Connection (Io kind) → link.tells → CountsFailure old.channel.told new.channel.told ⊎ IsGivenBeside link fault old.net new.net ⊎ Gives
  pub had_failed : fault ≡ SessionFailed → (old.channel.failed ≡ true) ⊎ (cannot_open new.state.counts ≡ Some SessionFailed) ⊎ IsGivenBeside link fault old.net new.net ⊎ Gives

-- the data connection counted a failure, which is this error
abbrev pub CountsOn : Type 0 → FtpError → TransferValue → TransferValue → Type 0
CountsOn tells fault old new = (kind : ErrorKind) × (fault ≡ Connection (Io kind)) × Failed tells kind old new

-- the source failed, and all that it gave has gone out; or a front of it has, and the data connection counted a failure
abbrev pub CopyStops : Type 0 → Bool → Option (List ℕ) → Option (List ℕ) → FtpError → TransferValue → TransferValue → Type 0
CopyStops tells text source source' fault old new =
    (given : List ℕ) × Consumes source source' given × ((Wrote tells (wire_data text given) old new × IsCopyFault fault) ⊎ (WroteFront tells (wire_data text given) old new × CountsOn tells fault old new))

-- the writer stopped, and a front of what came was written; or all of it was, and the data connection counted a failure
abbrev pub SaveStops : Type 0 → Option (List ℕ) → Option (List ℕ) → FtpError → TransferValue → TransferValue → Type 0
SaveStops tells writer writer' fault old new =
    (given : List ℕ) × Gave tells given old new × ((AppendsFront writer writer' given × StopsAt given fault) ⊎ (Appends writer writer' given × CountsOn tells fault old new))

-- an upload from a source
abbrev pub CountsUpload : Link → Link → Coding → Call → Option (List ℕ) → Option (List ℕ) → Option End → Option End → Option End → SessionValue → SessionValue → FtpError → Type 0
CountsUpload opens ends coding call source source' mark former kept old new fault =
    CountsWhole opens (OnOpened opens coding call Upload mark former kept old (λ transfer given. GivesOn ends (λ t copied u. Copies ends.tells given.state.settings.text source source' t u copied) (CopyStops ends.tells given.state.settings.text source source') transfer given new fault)) old new fault

-- a download to a reader, which may give any error of its own
abbrev pub CountsDownload : {T : Type 0} → Link → Link → Coding → Call → (TransferValue → Result T FtpError → TransferValue → Type 0) → Option End → Option End → Option End → SessionValue → SessionValue → FtpError → Type 0
CountsDownload opens ends coding call Reads mark former kept old new fault =
    CountsWhole opens (OnOpened opens coding call Download mark former kept old (λ transfer given. GivesOn ends Reads (λ error t u. Reads t (Err error) u) transfer given new fault)) old new fault

-- a download to a writer
abbrev pub CountsSaving : Link → Link → Coding → Call → Option (List ℕ) → Option (List ℕ) → Option End → Option End → Option End → SessionValue → SessionValue → FtpError → Type 0
CountsSaving opens ends coding call writer writer' mark former kept old new fault =
    CountsWhole opens (OnOpened opens coding call Download mark former kept old (λ transfer given. GivesOn ends (λ t saved u. Saves ends.tells writer writer' t u saved) (SaveStops ends.tells writer writer') transfer given new fault)) old new fault
