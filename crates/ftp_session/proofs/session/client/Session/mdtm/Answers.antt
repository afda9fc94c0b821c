use Rattle.std.proofs.Common.{refl, false}
use Rattle.ftp_calls.specs.declared.call.Call.TheVariants.{Mdtm}
use Rattle.ftp_dialogue.specs.Coding.{chosen}
use Rattle.ftp_session.proofs.Commands.{plays_command}
use Rattle.ftp_session.proofs.Trees.{mdtm_is}
use Rattle.ftp_session.proofs.session.client.Session.mdtm.Goals as goal

pub time-requires : goal.time-requires
time-requires g c = (Mdtm c.args.path.now, c.made.ensures.answers, (refl, refl, (refl, refl, refl)))

pub returns-clause-plays : goal.returns-clause-plays
returns-clause-plays g c =
    let coding = chosen g.E.Encoding.decoded g.E.Encoding.encoded c.args.self.now.encoding.0 in
    rw c.time.ensures (plays_command _ coding (Mdtm c.args.path.now) false _ _ _ _ _ _ (mdtm_is coding c.args.path.now) refl c.made.ensures.plays)

pub returns-clause-counts : goal.returns-clause-counts
returns-clause-counts g c = rw c.time.ensures c.made.ensures.counts
