use Rattle.std.proofs.Common.{ap, option_map}
use Rattle.ftp_dialogue.proofs.FetchingLemmas.{grows_so}
use Rattle.ftp_dialogue.proofs.machine.Machine.read_more.Goals as goal

pub returns-clause-grows : goal.returns-clause-grows
returns-clause-grows g c = grows_so _ _ _ (g.Tr.Conn.Tells.told c.in-Some.conn) _ _ _ _ c.self.view_is (ap (option_map (λ conn. g.Tr.Conn.Tells.told conn)) c.in-Some.is) c.read_more-more.ensures.grows c.read_more-more.ensures.waits
