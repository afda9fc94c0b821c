-- Whole files, from a caller's source or to a caller's reader: RFC 959, sections 3.2 and 4.1.3 (RETR, STOR, APPE).
use Rattle.std.specs.Prelude.{◌≡◌, ◌⊎◌, ℕ, Bool, true, false, if◌then◌else◌, List, Option, Some, None, Result, Ok, Err}
use Rattle.ftp_base.specs.declared.types.fault.FtpError.{FtpError}
use Rattle.ftp_base.specs.declared.types.fault.FtpError.TheVariants.{OutOfMemory}
use Rattle.ftp_calls.specs.declared.call.Answer.{Answer}
use Rattle.ftp_calls.specs.declared.call.Call.{Call}
use Rattle.ftp_calls.specs.declared.call.Call.TheVariants.{Finish, Leave}
use Rattle.ftp_transfer.specs.Mark.{End}
use Rattle.ftp_dialogue.specs.Coding.{Coding}
use Rattle.ftp_dialogue.specs.Dialogue.{wants_memory}
use Rattle.ftp_dialogue.specs.Link.{Link}
use Rattle.ftp_dialogue.specs.Promises.{PlaysAlone, failed_from}
use Rattle.ftp_dialogue.specs.State.{SessionValue}
use Rattle.ftp_dialogue.specs.Steps.Moving.{CarriesOut}
use Rattle.ftp_session.specs.Calls.{unit_answer}
use Rattle.ftp_transfer.specs.Copying.{Copies}
use Rattle.ftp_transfer.specs.Saving.{Saves}
use Rattle.ftp_session.specs.Handed.{OpensOne, SeesFirst, left_if, with_data}
use Rattle.ftp_transfer.specs.Transfer.{TransferValue}
use Rattle.ftp_transfer.specs.declared.direction.Direction.TheVariants.{Download, Upload}

-- a value is returned unless a call after it failed
abbrev pub unless_failed : {T : Type 0} → T → Result (Unit {0}) FtpError → Result T FtpError
unless_failed value (Ok done) = Ok value
unless_failed value (Err fault) = Err fault

-- the error of the first, or that of the second, or what the first gave
abbrev pub first_of : {T : Type 0} → Result T FtpError → Result (Unit {0}) FtpError → Result T FtpError
first_of (Ok value) ended = unless_failed value ended
first_of (Err fault) ended = Err fault

-- where memory runs out for the last reply of a whole file the session has failed, since its call has begun
abbrev pub lacks_memory : Result (Unit {0}) FtpError → Bool
lacks_memory (Ok done) = false
lacks_memory (Err fault) = wants_memory fault

abbrev pub failed_if : Bool → SessionValue → SessionValue
failed_if lost v = if lost then failed_from v else v

-- the transfer whose data connection a session took back comes to its end
abbrev pub FinishesHeld : Link → Coding → SessionValue → SessionValue → Result (Unit {0}) FtpError → Type 0
FinishesHeld link coding held new ended =
    (last : SessionValue) × PlaysAlone link coding Finish held last (unit_answer ended) × (new ≡ failed_if (lacks_memory ended) last)

-- a transfer's bytes were moved, and its session took its data connection and its mark back; or there was no memory for the
-- record of the connection, and nothing was moved
abbrev pub MovesHeld : {T : Type 0} → (Result T FtpError → TransferValue → Type 0) → Type 0 → Option End → Option End → SessionValue → SessionValue → Option (Result T FtpError) → Type 0
MovesHeld Moves Stays mark after old new None = Stays × (after ≡ mark) × (new ≡ old)
MovesHeld Moves Stays mark after old new (Some moved) = (over : TransferValue) × Moves moved over × (after ≡ None) × (new ≡ with_data (Some over.told) old)

-- where nothing was moved the transfer is left
pub record MovesNone {T : Type 0} (Stays : Type 0) (mark after : Option End) (old new : SessionValue) (result : Result T FtpError) : Type 0 where
  pub stays : Stays
  pub mark_stays : after ≡ mark
  pub left : new ≡ left_if true old
  pub is : result ≡ Err OutOfMemory

-- a file was copied: its transfer comes to its end, and the answer is how many bytes were written; or it wasn't, and the
-- transfer is left: its data connection is closed, and its last reply is still owed
abbrev pub EndsUpload : Link → Coding → SessionValue → SessionValue → Result ℕ FtpError → Result ℕ FtpError → Type 0
EndsUpload link coding held new (Ok count) result = (ended : Result (Unit {0}) FtpError) × FinishesHeld link coding held new ended × (result ≡ unless_failed count ended)
EndsUpload link coding held new (Err fault) result = ((answer : Answer) × CarriesOut link.tells Leave held new answer) × (result ≡ Err fault)

-- a download ends once its bytes were moved, and the error of that is told first; where nothing was moved it is left
abbrev pub EndsDownload : {T : Type 0} → Link → Coding → SessionValue → SessionValue → Option (Result T FtpError) → Result T FtpError → Type 0
EndsDownload link coding old new None result = (new ≡ left_if true old) × (result ≡ Err OutOfMemory)
EndsDownload link coding old new (Some moved) result = (ended : Result (Unit {0}) FtpError) × FinishesHeld link coding old new ended × (result ≡ first_of moved ended)

-- what a source gives goes to a transfer, as text unless the session's transfers aren't of text
pub record StoresHeld (link : Link) (coding : Coding) (source source' : Option (List ℕ)) (transfer : TransferValue) (after : Option End) (old new : SessionValue) (result : Result ℕ FtpError) : Type 0 where
  pub sent : TransferValue
  pub copied : Result ℕ FtpError
  pub copies : Copies link.tells old.state.settings.text source source' transfer sent copied
  pub mark : after ≡ None
  pub ends : EndsUpload link coding (with_data (Some sent.told) old) new copied result

abbrev pub Stores : Link → Coding → Option (List ℕ) → Option (List ℕ) → TransferValue → Option End → Option End → SessionValue → SessionValue → Result ℕ FtpError → Type 0
Stores link coding source source' transfer mark after old new result =
    StoresHeld link coding source source' transfer after old new result ⊎ MovesNone (source' ≡ source) mark after old new result

-- a call opens a transfer, and a file goes over it; or it opens none, and nothing is read from the source
pub record OpensAndStores (opens ends : Link) (coding : Coding) (call : Call) (source source' : Option (List ℕ)) (mark after former kept : Option End) (old new : SessionValue) (result : Result ℕ FtpError) : Type 0 where
  pub transfer : TransferValue
  pub marked : Option End
  pub given : SessionValue
  pub opened : OpensOne opens coding call Upload mark marked former kept old given (Ok transfer)
  pub stores : Stores ends coding source source' transfer marked after given new result

abbrev pub PutsFrom : Link → Link → Coding → Call → Option (List ℕ) → Option (List ℕ) → Option End → Option End → Option End → Option End → SessionValue → SessionValue → Result ℕ FtpError → Type 0
PutsFrom opens ends coding call source source' mark after former kept old new result =
    OpensAndStores opens ends coding call source source' mark after former kept old new result
    ⊎ ((fault : FtpError) × (result ≡ Err fault) × OpensOne opens coding call Upload mark after former kept old new (Err fault) × (source' ≡ source))

abbrev pub Puts : Link → Link → Coding → Call → Option (List ℕ) → Option (List ℕ) → Option End → Option End → Option End → Option End → SessionValue → SessionValue → Result ℕ FtpError → Type 0
Puts opens ends coding call source source' mark after former kept old new result = SeesFirst mark old (λ between seen. PutsFrom opens ends coding call source source' between after former kept seen new result)

-- what a transfer gives goes to a reader or a writer, and the transfer comes to its end; the error of the first is told
-- first
pub record ReceivesHeld {T : Type 0} (link : Link) (coding : Coding) (Moves : Result T FtpError → TransferValue → Type 0) (after : Option End) (old new : SessionValue) (result : Result T FtpError) : Type 0 where
  pub over : TransferValue
  pub moved : Result T FtpError
  pub moves : Moves moved over
  pub mark : after ≡ None
  pub ends : EndsDownload link coding (with_data (Some over.told) old) new (Some moved) result

abbrev pub Receives : {T : Type 0} → Link → Coding → (Result T FtpError → TransferValue → Type 0) → Type 0 → Option End → Option End → SessionValue → SessionValue → Result T FtpError → Type 0
Receives link coding Moves Stays mark after old new result =
    ReceivesHeld link coding Moves after old new result ⊎ MovesNone Stays mark after old new result

-- a call opens a download, and it goes to a reader or a writer; or it opens none, and nothing goes there
pub record OpensAndReceives {T : Type 0} (opens ends : Link) (coding : Coding) (call : Call) (Moves : TransferValue → Result T FtpError → TransferValue → Type 0) (Stays : Type 0) (mark after former kept : Option End) (old new : SessionValue) (result : Result T FtpError) : Type 0 where
  pub transfer : TransferValue
  pub marked : Option End
  pub given : SessionValue
  pub opened : OpensOne opens coding call Download mark marked former kept old given (Ok transfer)
  pub receives : Receives ends coding (Moves transfer) Stays marked after given new result

abbrev pub ReceivesFrom : {T : Type 0} → Link → Link → Coding → Call → (TransferValue → Result T FtpError → TransferValue → Type 0) → Type 0 → Option End → Option End → Option End → Option End → SessionValue → SessionValue → Result T FtpError → Type 0
ReceivesFrom opens ends coding call Moves Stays mark after former kept old new result =
    OpensAndReceives opens ends coding call Moves Stays mark after former kept old new result
    ⊎ ((fault : FtpError) × (result ≡ Err fault) × OpensOne opens coding call Download mark after former kept old new (Err fault) × Stays)

abbrev pub ReceivesSeen : {T : Type 0} → Link → Link → Coding → Call → (TransferValue → Result T FtpError → TransferValue → Type 0) → Type 0 → Option End → Option End → Option End → Option End → SessionValue → SessionValue → Result T FtpError → Type 0
ReceivesSeen opens ends coding call Moves Stays mark after former kept old new result = SeesFirst mark old (λ between seen. ReceivesFrom opens ends coding call Moves Stays between after former kept seen new result)

-- a download to a reader, which is called once on the transfer
abbrev pub Retrieves : {T : Type 0} → Link → Link → Coding → Call → (TransferValue → Result T FtpError → TransferValue → Type 0) → Option End → Option End → Option End → Option End → SessionValue → SessionValue → Result T FtpError → Type 0
Retrieves opens ends coding call Reads mark after former kept old new result = ReceivesSeen opens ends coding call Reads (Unit {0}) mark after former kept old new result

-- a download to a writer
abbrev pub WritesTo : Link → Link → Coding → Call → Option (List ℕ) → Option (List ℕ) → Option End → Option End → Option End → Option End → SessionValue → SessionValue → Result ℕ FtpError → Type 0
WritesTo opens ends coding call writer writer' mark after former kept old new result =
    ReceivesSeen opens ends coding call (λ transfer saved over. Saves ends.tells writer writer' transfer over saved) (writer' ≡ writer) mark after former kept old new result
