use Rattle.ftp_calls.specs.Exchanges.{call_of}
use Rattle.ftp_dialogue.proofs.CatchingUpLemmas.{withheld_in_step}
use Rattle.ftp_session.proofs.OpeningAnswers.{fetch_tells}
use Rattle.ftp_session.proofs.Handed.{copied_plays, seen_plays}
use Rattle.ftp_session.proofs.session.client.Session.fetch.Goals as goal

pub returns-in-Ok-clause-plays : goal.returns-in-Ok-clause-plays
returns-in-Ok-clause-plays g c = copied_plays _ _ c.owned.result c.in-Ok.call (call_of c.args.call) _ _ _ _ _ c.in-Ok.is c.owned.ensures (seen_plays _ _ _ _ _ _ _ _ _ c.look.ensures.looks c.look.ensures.seen c.make_in_step-answer.ensures.made)

pub returns-in-Err-clause-plays : goal.returns-in-Err-clause-plays
returns-in-Err-clause-plays g c = rw c.withheld.ensures (seen_plays _ _ _ _ _ _ _ _ _ c.look.ensures.looks c.look.ensures.seen (withheld_in_step _ _ (call_of c.args.call) _ c.requires.1 c.requires.2))

pub returns-in-Ok-clause-fetched : goal.returns-in-Ok-clause-fetched
returns-in-Ok-clause-fetched g c = λ form reads.
    fetch_tells _ form _ (call_of c.args.call) c.args.self.now.mark c.look.new.mark c.args.self.now.machine c.make_in_step-answer.new.machine c.make_in_step-answer.result reads c.requires (returns-in-Ok-clause-plays g c)

pub returns-in-Err-clause-fetched : goal.returns-in-Err-clause-fetched
returns-in-Err-clause-fetched g c = λ form reads. tt
