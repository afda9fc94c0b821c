use Rattle.ftp_dialogue.proofs.CarryingLemmas.{left_so}
use Rattle.ftp_dialogue.proofs.machine.Machine.leave_held.Goals as goal

pub returns : goal.returns
returns g c = record { leaves = left_so _ c.close_data.result c.leave.new.self c.args.self.now _ c.close_data.new.self c.self.view_is c.leave.ensures c.close_data.ensures.beside c.close_data.ensures.closes }
