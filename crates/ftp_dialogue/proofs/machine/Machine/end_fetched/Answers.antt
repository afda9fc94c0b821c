use Rattle.std.proofs.Common.{ap}
use Rattle.ftp_dialogue.specs.Dialogue.{fetch_concluded, with_fetched}
use Rattle.ftp_dialogue.specs.State.{SessionValue}
use Rattle.ftp_dialogue.proofs.FetchingLemmas.{fetch_awaits, fetch_fails, fetch_heard}
use Rattle.ftp_dialogue.proofs.machine.Machine.end_fetched.Goals as goal

pub returns-in-Ready-Ok-clause-makes : goal.returns-in-Ready-Ok-clause-makes
returns-in-Ready-Ok-clause-makes g c = λ coding call of.
    let heard = rw (c.in-Ready-Ok.is, c.in-Ready-Ok.field-0-is) at c.hear.ensures.hears in
    let F : SessionValue → SessionValue = λ v. record v { state = with_fetched v.state } in
    rw (c.finish.ensures, c.open.ensures) (fetch_heard _ coding call c.args.form c.args.answer _ c.args.self.now c.hear.new.self _ of (heard (fetch_concluded c.args.form c.args.answer c.args.self.now.state)).0 (ap F c.self.view_is))

pub returns-in-Ready-Err-clause-makes : goal.returns-in-Ready-Err-clause-makes
returns-in-Ready-Err-clause-makes g c = λ coding call of.
    let heard = rw (c.in-Ready-Err.is, c.in-Ready-Err.field-0-is) at c.hear.ensures.hears in
    fetch_fails _ coding call c.args.form c.args.answer c.in-Ready-Err.fault c.fail_fetch.result c.args.self.now c.hear.new.self c.fail_fetch.new.self c.requires.going _ (heard (fetch_concluded c.args.form c.args.answer c.args.self.now.state)) c.fail_fetch.ensures

pub returns-in-Pending-clause-makes : goal.returns-in-Pending-clause-makes
returns-in-Pending-clause-makes g c = λ coding call of.
    let heard = rw c.in-Pending.is at c.hear.ensures.hears in
    rw c.go_to.ensures (fetch_awaits _ coding call c.args.form c.args.answer c.args.self.now c.hear.new.self of (heard (fetch_concluded c.args.form c.args.answer c.args.self.now.state)))
