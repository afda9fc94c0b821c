use Rattle.std.proofs.Common.{option_map, refl, false}
use Rattle.ftp_calls.specs.declared.call.Call.TheVariants.{Mlst}
use Rattle.ftp_dialogue.specs.Coding.{chosen}
use Rattle.ftp_session.proofs.Commands.{plays_command}
use Rattle.ftp_session.proofs.Trees.{mlst_is}
use Rattle.ftp_session.proofs.session.client.Session.mlst.Goals as goal

pub text-requires : goal.text-requires
text-requires g c = (Mlst (option_map (λ text. text.now) c.args.path), c.made.ensures.answers, (refl, refl, (refl, refl, refl)))

pub returns-clause-plays : goal.returns-clause-plays
returns-clause-plays g c =
    let coding = chosen g.E.Encoding.decoded g.E.Encoding.encoded c.args.self.now.encoding.0 in
    rw c.text.ensures (plays_command _ coding (Mlst (option_map (λ text. text.now) c.args.path)) false _ _ _ _ _ _ (mlst_is coding (option_map (λ text. text.now) c.args.path)) refl c.made.ensures.plays)

pub returns-clause-counts : goal.returns-clause-counts
returns-clause-counts g c = rw c.text.ensures c.made.ensures.counts
