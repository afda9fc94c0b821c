use Rattle.ftp_dialogue.proofs.DataCommands.{live_refuses}
use Rattle.ftp_dialogue.proofs.laws.a_live_transfer_refuses_another.Goals as goal

pub returns : goal.returns
returns c = record { refused = λ coding room. live_refuses coding c.args.call.now c.requires room }
