use Rattle.std.proofs.Common.{[], ap, ◌∙◌, subst}
use Rattle.ftp_control.specs.declared.control.rule.ReplyRule.TheVariants.{Strict}
use Rattle.ftp_transport.specs.Told.{Told}
use Rattle.ftp_transport.specs.Memory.{Asking, IsGiven, fed}
use Rattle.ftp_dialogue.specs.State.{Begins}
use Rattle.ftp_dialogue.specs.NetEvents.{first_net}
use Rattle.ftp_session.proofs.Handed.{unmarked}
use Rattle.refusals.proofs.Noop.{server, answered}
use Rattle.refusals.proofs.from_contracts.greeting_and_noop.Goals as goal

pub returns : goal.returns
returns c =
    let old = c.in_ok-session.session.machine in
    let P : Told → Type 0 = λ t. Begins (Unit {0}) Strict t (first_net [] [] []) old in
    let Q : Told → Type 0 = IsGiven in
    let R : Asking → Type 0 = λ a. Begins (Unit {0}) Strict c.feed.new.self (first_net a.answered a.ready a.closed) old in
    let unasked = subst R c.new.ensures c.in_ok-session.ensures.begins in
    let begins = subst P (c.in_ok-feed.ensures.ok ∙ ap (fed server) c.new-conn.ensures) unasked in
    let given = subst Q c.get_ref.ensures c.unread.ensures.given in
    answered _ _ old c.run.new.self.machine _ begins given c.in_ok-answers.ensures.sound.channel (rw (c.in_ok-session.ensures.encoding, unmarked _ _ old c.in_ok-session.ensures.mark c.in_ok-answers.ensures.looks) at c.in_ok-answers.ensures.runs)
