use Rattle.ftp_dialogue.proofs.DataCommands.{takes_offset}
use Rattle.ftp_dialogue.proofs.laws.a_data_command_takes_the_offset_away.Goals as goal

pub returns : goal.returns
returns c = record { none_left = λ coding room. takes_offset coding c.args.call.now c.requires room }
