use Rattle.std.proofs.Common.{refl, false}
use Rattle.ftp_calls.specs.declared.call.Call.TheVariants.{Size}
use Rattle.ftp_dialogue.specs.Coding.{chosen}
use Rattle.ftp_session.proofs.Commands.{plays_command}
use Rattle.ftp_session.proofs.Trees.{size_is}
use Rattle.ftp_session.proofs.session.client.Session.size.Goals as goal

pub size-requires : goal.size-requires
size-requires g c = (Size c.args.path.now, c.made.ensures.answers, (refl, refl, (refl, refl, refl)))

pub returns-clause-plays : goal.returns-clause-plays
returns-clause-plays g c =
    let coding = chosen g.E.Encoding.decoded g.E.Encoding.encoded c.args.self.now.encoding.0 in
    rw c.size.ensures (plays_command _ coding (Size c.args.path.now) false _ _ _ _ _ _ (size_is coding c.args.path.now) refl c.made.ensures.plays)

pub returns-clause-counts : goal.returns-clause-counts
returns-clause-counts g c = rw c.size.ensures c.made.ensures.counts
