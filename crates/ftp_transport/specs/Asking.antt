-- What a transport is asked, what that results in, and where the outcomes come from.
use Rattle.std.specs.Prelude.{◌≡◌, ◌⊎◌, List, [], ◌∷◌, ◌++◌, Option, Result, Ok, Err}
use Rattle.std.specs.declared.alloc.AllocError.{AllocError}
use Rattle.std.specs.declared.io.ErrorKind.{ErrorKind}
use Rattle.std.specs.declared.net.socket_addr.SocketAddr.{SocketAddr}
use Rattle.std.specs.declared.time.Duration.{Duration}
use Rattle.futures.specs.declared.task.Poll.{Poll}
use Rattle.futures.specs.declared.task.Poll.TheVariants.{Ready, Pending}
use Rattle.ftp_base.specs.declared.types.fault.FtpError.{FtpError}
use Rattle.ftp_base.specs.declared.types.fault.ConnectionError.{ConnectionError}
use Rattle.ftp_base.specs.declared.types.fault.ConnectionError.TheVariants.{Io}
use Rattle.ftp_transport.specs.Told.{Told}
use Rattle.ftp_transport.specs.declared.request.Request.{Request}
use Rattle.ftp_transport.specs.declared.request.Request.TheVariants.{Connect}
use Rattle.ftp_transport.specs.declared.request.RequestOutcome.{RequestOutcome}
use Rattle.ftp_transport.specs.declared.request.RequestOutcome.TheVariants.{Done, Address, Refused}
use Rattle.ftp_transport.specs.declared.request.Asked.{Asked}
use Rattle.ftp_transport.specs.declared.supply.Supply.{Supply}
use Rattle.ftp_transport.specs.declared.supply.Supply.TheVariants.{Connects, Peer, Refuses}

abbrev pub requests_of : List Asked → List Request
requests_of [] = []
requests_of (one ∷ more) = one.request ∷ requests_of more

abbrev pub outcomes_of : List Asked → List RequestOutcome
outcomes_of [] = []
outcomes_of (one ∷ more) = one.outcome ∷ outcomes_of more

-- the outcome of a request that was done: of a connect nothing more, of a listen or an accept the address
abbrev pub done : {C : Type 0} → C → RequestOutcome
done conn = Done

abbrev pub done_at : {C : Type 0} → C × SocketAddr → RequestOutcome
done_at made = Address made.1

-- the outcome of a request
abbrev pub outcome_of : {T : Type 0} → (T → RequestOutcome) → Result T ConnectionError → RequestOutcome
outcome_of outcome (Ok made) = outcome made
outcome_of outcome (Err fault) = Refused fault

-- one request more is on record, with its outcome
abbrev pub recorded : Request → RequestOutcome → List Asked → List Asked
recorded request outcome asked = asked ++ (record { request = request; outcome = outcome }) ∷ []

-- what a request leaves on record; where memory ran out nothing was asked, and one that waits isn't on record yet
abbrev pub Asks : {T : Type 0} → Request → (T → RequestOutcome) → Poll (Result (Result T ConnectionError) AllocError) → List Asked → List Asked → Type 0
Asks request outcome (Ready (Ok made)) before after = after ≡ recorded request (outcome_of outcome made) before
Asks request outcome (Ready (Err full)) before after = after ≡ before
Asks request outcome Pending before after = after ≡ before

-- an error is the next outcome that was handed in, or one that may come where none is due
abbrev pub IsDue : (List Supply → ConnectionError → Type 0) → ConnectionError → List Supply → List Supply → Type 0
IsDue refuses fault before after =
    ((kind : ErrorKind) × (fault ≡ Io kind) × (before ≡ Refuses kind ∷ after)) ⊎ ((after ≡ before) × refuses before fault)

-- the item that a connect takes, and the one that an accept takes: a connection of this record, the latter with the
-- address that it came from
abbrev pub connects_as : {C : Type 0} → (C → Told) → C → Supply
connects_as told conn = Connects (told conn)

abbrev pub comes_as : {C : Type 0} → (C → Told) → C × SocketAddr → Supply
comes_as told made = Peer made.1 (told made.0)

-- what a builder answered: a connection of this record, or its error
abbrev pub built_as : {C : Type 0} → (C → Told) → Result C FtpError → Result Told FtpError
built_as told (Ok conn) = Ok (told conn)
built_as told (Err fault) = Err fault

-- what a handshake resulted in: a connection of this record, or its error; or it wasn't made, or waits
abbrev pub Secures : {C : Type 0} → (C → Told) → (Result Told FtpError → Type 0) → Poll (Result (Result C FtpError) AllocError) → Type 0
Secures told may (Ready (Ok made)) = may (built_as told made)
Secures told may (Ready (Err full)) = Unit {0}
Secures told may Pending = Unit {0}

-- what was handed in is what comes: what was made is the next item
abbrev pub Supplies : {T : Type 0} → (T → Supply) → (List Supply → ConnectionError → Type 0) → Poll (Result (Result T ConnectionError) AllocError) → List Supply → List Supply → Type 0
Supplies item refuses (Ready (Ok (Ok made))) before after = before ≡ item made ∷ after
Supplies item refuses (Ready (Ok (Err fault))) before after = IsDue refuses fault before after
Supplies item refuses (Ready (Err full)) before after = after ≡ before
Supplies item refuses Pending before after = after ≡ before

-- a listener is bound to an address that it may get, or refused with an error that may come
abbrev pub Binds : {L : Type 0} → (Result SocketAddr ConnectionError → Type 0) → Poll (Result (Result (L × SocketAddr) ConnectionError) AllocError) → Type 0
Binds may (Ready (Ok (Ok made))) = may (Ok made.1)
Binds may (Ready (Ok (Err fault))) = may (Err fault)
Binds may (Ready (Err full)) = Unit {0}
Binds may Pending = Unit {0}

-- a connection to each of these addresses, within this time
abbrev pub connects_to : Option Duration → List SocketAddr → List Request
connects_to limit [] = []
connects_to limit (address ∷ addresses) = Connect address limit ∷ connects_to limit addresses

-- each of these was refused in turn: the last error, or the one from before where there are none
abbrev pub AreRefused : (List Supply → ConnectionError → Type 0) → List Asked → ConnectionError → ConnectionError → List Supply → List Supply → Type 0
AreRefused refuses [] fault last before after = (last ≡ fault) × (after ≡ before)
AreRefused refuses (one ∷ more) fault last before after =
    (cause : ConnectionError) × (between : List Supply) × (one.outcome ≡ Refused cause) × IsDue refuses cause before between × AreRefused refuses more cause last between after

-- the first of these requests were made in order, and each was refused; these are left
pub record RefusedInTurn (refuses : List Supply → ConnectionError → Type 0) (requests left : List Request) (fault last : ConnectionError) (ready ready' : List Supply) (asked asked' : List Asked) : Type 0 where
  pub answered : List Asked
  pub in_order : requests ≡ requests_of answered ++ left
  pub refused : AreRefused refuses answered fault last ready ready'
  pub recorded_are : asked' ≡ asked ++ answered

-- the first of these requests were made in order: each was refused but for the last, which returned the connection of
-- this record, the next one that was handed in
pub record ConnectsInTurn (refuses : List Supply → ConnectionError → Type 0) (requests : List Request) (fault : ConnectionError) (told : Told) (ready ready' : List Supply) (asked asked' : List Asked) : Type 0 where
  pub request : Request
  pub left : List Request
  pub last : ConnectionError
  pub due : List Supply
  pub before : List Asked
  pub refused : RefusedInTurn refuses requests (request ∷ left) fault last ready due asked before
  pub connected : due ≡ Connects told ∷ ready'
  pub recorded_is : asked' ≡ recorded request Done before

-- what the requests in turn result in: a connection; the last error, where each was refused; or memory ran out, or one
-- waits, and those before it were refused
abbrev pub TriesInTurn : {C : Type 0} → (C → Told) → (List Supply → ConnectionError → Type 0) → List Request → List Request → ConnectionError → ConnectionError → Poll (Result (Result C ConnectionError) AllocError) → List Supply → List Supply → List Asked → List Asked → Type 0
TriesInTurn told refuses requests left fault last (Ready (Ok (Ok conn))) ready ready' asked asked' = ConnectsInTurn refuses requests fault (told conn) ready ready' asked asked'
TriesInTurn told refuses requests left fault last (Ready (Ok (Err cause))) ready ready' asked asked' = RefusedInTurn refuses requests [] fault cause ready ready' asked asked'
TriesInTurn told refuses requests left fault last (Ready (Err full)) ready ready' asked asked' = RefusedInTurn refuses requests left fault last ready ready' asked asked'
TriesInTurn told refuses requests left fault last Pending ready ready' asked asked' = RefusedInTurn refuses requests left fault last ready ready' asked asked'
