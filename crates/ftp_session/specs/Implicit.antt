-- A control connection that is under TLS from its first byte on: RFC 4217, section 2.
use Rattle.std.specs.Prelude.{◌≡◌, ◌⊎◌, List, Result, Ok, Err}
use Rattle.ftp_base.specs.declared.types.fault.FtpError.{FtpError}
use Rattle.ftp_base.specs.declared.types.fault.FtpError.TheVariants.{OutOfMemory}
use Rattle.ftp_base.specs.declared.types.fault.ConnectionError.{ConnectionError}
use Rattle.ftp_transport.specs.Told.{Told}
use Rattle.ftp_transport.specs.declared.request.Asked.{Asked}
use Rattle.ftp_transport.specs.declared.request.Request.{Request}
use Rattle.ftp_transport.specs.declared.supply.Supply.{Supply}
use Rattle.ftp_control.specs.declared.control.rule.ReplyRule.TheVariants.{Strict}
use Rattle.ftp_dialogue.specs.Coding.{Coding}
use Rattle.ftp_dialogue.specs.Link.{Link}
use Rattle.ftp_dialogue.specs.NetEvents.{Net, first_net}
use Rattle.ftp_dialogue.specs.State.{SessionValue}
use Rattle.ftp_session.specs.Calls.{Connects, FailsToConnect}
use Rattle.ftp_session.specs.Connecting.{IsConnected, NoneConnects}
use Rattle.ftp_session.specs.Securing.{secured_from}

-- a connection of this record is put under TLS, and the greeting is read on the stream
pub record GreetsUnder (link : Link) (handshake : Told → Result Told FtpError → Type 0) (coding : Coding) (told : Told) (net : Net) (new : SessionValue) : Type 0 where
  pub under : Told
  pub made : handshake told (Ok under)
  pub greeted : SessionValue
  pub connects : Connects link coding Strict under net greeted (Ok tt)
  pub is : new ≡ secured_from greeted

-- it can't be put under TLS, or the greeting's dialogue failed
abbrev pub FailsUnder : Link → (Told → Result Told FtpError → Type 0) → Coding → Told → Net → FtpError → Type 0
FailsUnder link handshake coding told net fault =
    handshake told (Err fault) ⊎ ((under : Told) × handshake told (Ok under) × FailsToConnect link coding Strict under net fault)

-- a connection was asked for, put under TLS, and the greeting was read on it
pub record ConnectsUnder (link : Link) (handshake : Told → Result Told FtpError → Type 0) (coding : Coding) (refuses : List Supply → ConnectionError → Type 0) (requests : List Request) (fault : ConnectionError) (ready : List Supply) (closed : List Told) (asked : List Asked) (new : SessionValue) : Type 0 where
  pub told : Told
  pub asked_by : List Asked
  pub connected : IsConnected link coding refuses requests fault ready asked asked_by told
  pub greets : GreetsUnder link handshake coding told (first_net asked_by connected.unused closed) new

-- each request was refused; or the connection can't be put under TLS; or the greeting's dialogue failed; or memory ran out
abbrev pub FailsToConnectUnder : Link → (Told → Result Told FtpError → Type 0) → Coding → (List Supply → ConnectionError → Type 0) → List Request → ConnectionError → List Supply → List Told → List Asked → FtpError → Type 0
FailsToConnectUnder link handshake coding refuses requests fault ready closed asked answer =
    NoneConnects link coding refuses requests fault ready asked answer
    ⊎ ((told : Told) × (asked_by : List Asked) × (connected : IsConnected link coding refuses requests fault ready asked asked_by told) × FailsUnder link handshake coding told (first_net asked_by connected.unused closed) answer)
    ⊎ (answer ≡ OutOfMemory)
