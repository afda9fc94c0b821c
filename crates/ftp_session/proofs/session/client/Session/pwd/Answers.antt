use Rattle.std.proofs.Common.{false, refl}
use Rattle.ftp_calls.specs.declared.call.Call.TheVariants.{Pwd}
use Rattle.ftp_dialogue.specs.Coding.{chosen}
use Rattle.ftp_session.proofs.Commands.{plays_command}
use Rattle.ftp_session.proofs.Trees.{pwd_is}
use Rattle.ftp_session.proofs.session.client.Session.pwd.Goals as goal

pub returns-clause-plays : goal.returns-clause-plays
returns-clause-plays g c =
    let coding = chosen g.E.Encoding.decoded g.E.Encoding.encoded c.args.self.now.encoding.0 in
    rw c.text.ensures (plays_command _ coding Pwd false _ _ _ _ _ _ (pwd_is coding) refl c.call.ensures.plays)

pub returns-clause-counts : goal.returns-clause-counts
returns-clause-counts g c = rw c.text.ensures c.call.ensures.counts
