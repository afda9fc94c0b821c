use Rattle.std.proofs.Common.{ap, option_map}
use Rattle.ftp_dialogue.proofs.SendingLemmas.{sends_so}
use Rattle.ftp_dialogue.proofs.machine.Machine.write_some.Goals as goal

pub returns-clause-sends : goal.returns-clause-sends
returns-clause-sends g c = sends_so _ _ _ (g.Tr.Conn.Tells.told c.in-Some.conn) _ _ _ _ c.self.view_is (ap (option_map (λ conn. g.Tr.Conn.Tells.told conn)) c.in-Some.is) c.write_some-written.ensures.sends c.write_some-written.ensures.waits
