use Rattle.ftp_dialogue.proofs.DataCommands.{asks_peer}
use Rattle.ftp_dialogue.proofs.laws.a_data_connection_leads_to_the_control_peer.Goals as goal

pub returns : goal.returns
returns c = record { to_peer = λ coding room. asks_peer coding c.args.call.now c.requires room }
