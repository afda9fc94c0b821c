use Rattle.std.proofs.Common.{refl}
use Rattle.ftp_calls.specs.declared.call.Call.TheVariants.{Noop}
use Rattle.ftp_dialogue.specs.Coding.{chosen}
use Rattle.ftp_dialogue.specs.Link.{Link, link}
use Rattle.ftp_session.proofs.Reasons.{plain_counts}
use Rattle.ftp_session.proofs.Handed.{seen_plays}
use Rattle.ftp_dialogue.proofs.CatchingUpLemmas.{withheld_in_step}
use Rattle.ftp_session.proofs.session.client.Session.withheld_call.Goals as goal

pub returns-clause-plays : goal.returns-clause-plays
returns-clause-plays g c = λ call plain. rw c.withheld.ensures (seen_plays _ _ _ _ _ _ _ _ _ c.look.ensures.looks c.look.ensures.seen (withheld_in_step _ _ call _ plain.1 plain.2))

pub returns-clause-counts : goal.returns-clause-counts
returns-clause-counts g c =
    let coding = chosen g.E.Encoding.decoded g.E.Encoding.encoded c.args.self.now.encoding.0 in
    let over : Link = link g.Tr.Conn.Tells.secures g.Tr.Conn.Tells.tells g.Tr.Conn.Conn.blocking_read_faults g.Tr.Conn.Conn.blocking_write_faults g.Tr.Conn.Tells.end_faults in
    rw c.withheld.ensures (plain_counts over coding Noop _ _ _ _ _ (refl, refl, refl) (seen_plays over coding Noop _ _ _ _ _ _ c.look.ensures.looks c.look.ensures.seen (withheld_in_step over coding Noop _ refl refl)))
