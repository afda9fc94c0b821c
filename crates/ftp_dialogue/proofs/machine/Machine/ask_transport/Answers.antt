use Rattle.std.proofs.Common.{◌≡◌, refl}
use Rattle.ftp_transport.specs.Waits.{first_over}
use Rattle.ftp_transport.specs.declared.waiting.Waiting.{Waiting}
use Rattle.ftp_transport.specs.declared.waiting.Waiting.TheVariants.{Nothing}
use Rattle.ftp_dialogue.proofs.machine.Machine.ask_transport.Goals as goal

-- the last that is asked decides where nothing is waited for elsewhere
last_decides : (waiting : Waiting) → waiting ≡ first_over waiting Nothing
last_decides Nothing = refl
last_decides other = refl

pub returns-clause-asks : goal.returns-clause-asks
returns-clause-asks g c = (
  c.connect-connect.new.self,
  c.connect-connect.new.cx,
  c.connect-connect.result,
  c.or.result,
  c.connect-connect.ensures.asks,
  c.or-2.ensures,
  (
    c.handshake-handshake.new.self,
    c.handshake-handshake.new.cx,
    c.handshake-handshake.result,
    c.peer-peer.result,
    c.handshake-handshake.ensures.asks,
    c.or.ensures,
    (c.peer-peer.new.self, c.peer-peer.new.cx, c.peer-peer.result, Nothing, c.peer-peer.ensures.asks, last_decides c.peer-peer.result, (refl, refl, refl)),
  ),
)
