use Rattle.std.proofs.Common.{inr, subst}
use Rattle.ftp_calls.specs.Exchanges.{call_of}
use Rattle.ftp_calls.specs.declared.call.Call.{Call}
use Rattle.ftp_calls.specs.declared.exchange.Turn.TheVariants.{First}
use Rattle.ftp_dialogue.specs.Steps.Stages.{MayAnswer}
use Rattle.ftp_session.proofs.Handed.{copied_plays}
use Rattle.ftp_session.proofs.session.client.Session.made.Goals as goal

pub returns-in-Ok-clause-plays : goal.returns-in-Ok-clause-plays
returns-in-Ok-clause-plays g c = copied_plays _ _ c.owned.result c.in-Ok.call (call_of c.args.call) _ _ _ _ _ c.in-Ok.is c.owned.ensures c.call-answer.ensures.plays

pub returns-in-Err-clause-plays : goal.returns-in-Err-clause-plays
returns-in-Err-clause-plays g c = c.withheld_call.ensures.plays (call_of c.args.call) c.requires

pub returns-in-Ok-clause-answers : goal.returns-in-Ok-clause-answers
returns-in-Ok-clause-answers g c =
    let P : Call → Type 0 = λ call. MayAnswer call c.call-answer.result in
    subst P c.in-Ok.ensures c.call-answer.ensures.answers

pub returns-in-Err-clause-answers : goal.returns-in-Err-clause-answers
returns-in-Err-clause-answers g c = (First, inr tt, tt)

pub returns-in-Ok-clause-counts : goal.returns-in-Ok-clause-counts
returns-in-Ok-clause-counts g c = c.call-answer.ensures.counts

pub returns-in-Err-clause-counts : goal.returns-in-Err-clause-counts
returns-in-Err-clause-counts g c = c.withheld_call.ensures.counts
