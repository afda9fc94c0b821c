-- The transcript of a script.
use Rattle.std.specs.Prelude.{◌≡◌, ℕ, ◌-◌, ◌⊎◌, List, [], ◌∷◌, ◌++◌, length, drop, map, Ok, Err}
use Rattle.std.specs.Str.Lossy.{utf8_lossy}
use Rattle.std.specs.declared.io.ErrorKind.TheVariants as kinds
use Rattle.ftp_base.specs.declared.types.fault.FtpError.TheVariants.{ConnectionError}
use Rattle.ftp_base.specs.declared.types.fault.ConnectionError.TheVariants.{NoAddress}
use Rattle.std.specs.declared.net.socket_addr.SocketAddr.{SocketAddr}
use Rattle.std.specs.declared.net.socket_addr.SocketAddr.TheVariants.{V4}
use Rattle.ftp_transport.specs.Told.{Told, IsFull}
use Rattle.ftp_transport.specs.Memory.{closed_memory, fed, fresh_between, fresh_memory, unspecified}
use Rattle.ftp_transport.specs.declared.supply.Supply.{Supply}
use Rattle.ftp_transport.specs.declared.supply.Supply.TheVariants.{Connects, Refuses}
use Rattle.ftp_control.specs.Channel.{untaken}
use Rattle.ftp_calls.specs.declared.call.Answer.{Answer}
use Rattle.ftp_calls.specs.declared.call.Call.{Call}
use Rattle.ftp_calls.specs.declared.call.Call.TheVariants.{Greet}
use Rattle.ftp_dialogue.specs.NetEvents.{first_net}
use Rattle.ftp_dialogue.specs.Coding.{Coding}
use Rattle.ftp_dialogue.specs.Link.{Link, plain}
use Rattle.ftp_runs.specs.Runs.{Runs}
use Rattle.ftp_dialogue.specs.State.{SessionValue, Begins}
use Rattle.ftp_dialogue.specs.Dialogue.{rule_by}
use Rattle.ftp_script.specs.declared.script.Script.{Script}
use Rattle.ftp_script.specs.declared.supplies.DataConn.{DataConn}
use Rattle.ftp_script.specs.declared.supplies.DataConn.TheVariants.{Gives, Refused}
use Rattle.ftp_script.specs.Shown.{call_text, end_text}

-- a connection over memory: its record is true, no read fails and no question for an address, a write fails only where
-- memory or room runs out, no request waits, and there is no builder
abbrev pub memory : Link
memory = record { tells = Unit {0}; reads = λ kind. ⊥; writes = λ told kind. (kind ≡ kinds.OutOfMemory) ⊎ ((kind ≡ kinds.WouldBlock) × IsFull told); ends = λ kind. ⊥; asks_wait = ⊥; beside = plain (λ address built. built ≡ Err (ConnectionError NoAddress)) }

-- texts are UTF-8
abbrev pub utf8 : Coding
utf8 = record { decode = utf8_lossy; encode = λ text. Ok text }

-- where the server's end of the control connection is: 192.0.2.7:21
abbrev pub server_address : SocketAddr
server_address = V4 (record { ip = record { octets = 192 ∷ 0 ∷ 2 ∷ 7 ∷ [] }; port = 21 })

-- a connection that gives these bytes and then ends
abbrev pub giving : List ℕ → Told → Told
giving bytes fresh = closed_memory (fed bytes fresh)

-- what a data connection is to the transport
abbrev pub supply_of : DataConn → Supply
supply_of (Gives bytes) = Connects (giving bytes fresh_memory)
supply_of Refused = Refuses kinds.ConnectionRefused

-- a session made a call; the text says what went out in it, which addresses were asked for, and its answer
pub record MakesOne (call : Call) (old new : SessionValue) (text : List ℕ) : Type 0 where
  pub answer : Answer
  pub runs : Runs memory utf8 (call ∷ []) old new (answer ∷ [])
  pub is : text ≡ call_text (drop (length old.channel.told.sent) new.channel.told.sent) (drop (length old.net.asked) new.net.asked) answer

-- a session made these calls, one after another
abbrev pub Makes : List Call → SessionValue → SessionValue → List ℕ → Type 0
Makes [] old new text = (new ≡ old) × (text ≡ [])
Makes (call ∷ calls) old new text =
    (middle : SessionValue) × (first : List ℕ) × (later : List ℕ) × (text ≡ first ++ later) × MakesOne call old middle first × Makes calls middle new later

-- the transcript of a script: a session begins on a connection that gives what the server sends and then ends, and over
-- a transport with these data connections, reads the greeting and makes the calls
pub record IsTranscript (script : Script) (text : List ℕ) : Type 0 where
  pub begun : SessionValue
  pub begins : Begins (Unit {0}) (rule_by script.lenient) (giving script.server (fresh_between unspecified server_address)) (first_net [] (map supply_of script.data_conns) []) begun
  pub ended : SessionValue
  pub calls : List ℕ
  pub makes : Makes (Greet ∷ script.calls) begun ended calls
  pub is : text ≡ calls ++ end_text (length ended.channel.told.received - length (untaken ended.channel))
