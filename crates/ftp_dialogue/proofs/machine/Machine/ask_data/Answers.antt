use Rattle.std.proofs.Common.{ap, sym, subst, ◌∙◌, ◌∷◌, [], Option, option_map}
use Rattle.ftp_transport.specs.Told.{Told}
use Rattle.ftp_transport.specs.Registering.{AskInTurn}
use Rattle.ftp_transport.specs.Registering.Part.{Connect, Handshake, Peer}
use Rattle.ftp_dialogue.specs.State.{SessionValue}
use Rattle.ftp_dialogue.specs.Waiting.{and_data}
use Rattle.ftp_dialogue.proofs.machine.Machine.ask_data.Goals as goal

pub returns-clause-asks : goal.returns-clause-asks
returns-clause-asks g c =
    let there = sym (ap (option_map (λ conn. g.Tr.Conn.Tells.told conn)) c.in-Some.is) ∙ ap (λ (v : SessionValue). v.net.data_conn) c.self.view_is in
    subst (λ (found : Option Told). AskInTurn g.G.Registrar.asks (and_data found (Connect ∷ Handshake ∷ Peer ∷ [])) c.args.registrar.now c.args.cx.now c.or.result c.ask_transport-2.new.cx c.ask_transport-2.new.registrar) there
    (c.connection-data.new.self, c.connection-data.new.cx, c.connection-data.result, c.ask_transport-2.result, c.connection-data.ensures.asks, c.or.ensures, c.ask_transport-2.ensures.asks)
