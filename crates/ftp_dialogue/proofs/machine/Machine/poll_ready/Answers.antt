use Rattle.std.proofs.Common.{ap, subst, ◌∷◌, [], Option}
use Rattle.ftp_transport.specs.Told.{Told}
use Rattle.ftp_transport.specs.Registering.{AskInTurn}
use Rattle.ftp_transport.specs.Registering.Part.{Connection, Connect, Handshake, Peer}
use Rattle.ftp_dialogue.specs.State.{SessionValue}
use Rattle.ftp_dialogue.specs.Waiting.{and_data}
use Rattle.ftp_dialogue.proofs.machine.Machine.poll_ready.Goals as goal

pub returns-clause-asks : goal.returns-clause-asks
returns-clause-asks g c =
    let control = ap (λ (v : SessionValue). v.channel.told) c.self.view_is in
    let there = ap (λ (v : SessionValue). v.net.data_conn) c.self.view_is in (
      c.ask_channel-control.new.registrar,
      c.ask_channel-control.new.cx,
      c.ask_channel-control.result,
      c.ask_data.result,
      subst (λ (told : Told). g.G.Registrar.asks c.args.registrar.now (Connection told) c.args.cx.now c.ask_channel-control.result c.ask_channel-control.new.cx c.ask_channel-control.new.registrar) control c.ask_channel-control.ensures.asks,
      c.or.ensures,
      subst (λ (found : Option Told). AskInTurn g.G.Registrar.asks (and_data found (Connect ∷ Handshake ∷ Peer ∷ [])) c.ask_channel-control.new.registrar c.ask_channel-control.new.cx c.ask_data.result c.ask_data.new.cx c.ask_data.new.registrar) there c.ask_data.ensures.asks,
    )
