use Rattle.std.proofs.Common.{false, refl}
use Rattle.ftp_calls.specs.declared.call.Call.TheVariants.{Feat}
use Rattle.ftp_dialogue.specs.Coding.{chosen}
use Rattle.ftp_session.proofs.Commands.{plays_command}
use Rattle.ftp_session.proofs.Trees.{feat_is}
use Rattle.ftp_session.proofs.session.client.Session.feat.Goals as goal

pub returns-clause-plays : goal.returns-clause-plays
returns-clause-plays g c =
    let coding = chosen g.E.Encoding.decoded g.E.Encoding.encoded c.args.self.now.encoding.0 in
    rw c.features.ensures (plays_command _ coding Feat false _ _ _ _ _ _ (feat_is coding) refl c.call.ensures.plays)

pub returns-clause-counts : goal.returns-clause-counts
returns-clause-counts g c = rw c.features.ensures c.call.ensures.counts
