use Rattle.std.proofs.Common.{◌≡◌, ◌∙◌, ◌∷◌, [], sym, ap, length, drop}
use Rattle.ftp_runs.specs.Runs.{Runs}
use Rattle.ftp_session.proofs.Handed.{unmarked}
use Rattle.ftp_script.specs.Playing.{memory, utf8}
use Rattle.ftp_script.proofs.Making.{made_one, only_item, runs_same}
use Rattle.ftp_script.proofs.player.push_made.Goals as goal

pub returns-clause-makes : goal.returns-clause-makes
returns-clause-makes c =
    let old = c.args.session.now.machine in
    let new = c.run.new.self.machine in
    let answer = c.index.result.now in
    let r : Runs memory utf8 c.from_ref.result.now old new c.in-Ok.answers.items = rw (c.requires.encoding, c.requires.builder, unmarked _ _ c.args.session.now.machine c.requires.mark c.in-Ok.ensures.looks) at c.in-Ok.ensures.runs in
    let before : length c.sent-before.result.now ≡ length old.channel.told.sent = ap length (c.sent-before.ensures ∙ ap (λ t. t.sent) c.get_ref.ensures) in
    let sent : c.sent_after-sent.result.now ≡ drop (length old.channel.told.sent) new.channel.told.sent = c.sent_after-sent.ensures ∙ ap (λ n. drop n new.channel.told.sent) before in
    let asked_before : length c.requests-asked.result.now ≡ length old.net.asked = ap length (c.requests-asked.ensures ∙ c.transport.ensures.asked) in
    let asked : c.asked_after.result.now ≡ drop (length old.net.asked) new.net.asked = c.asked_after.ensures ∙ ap (λ n. drop n new.net.asked) asked_before in
    let only : c.in-Ok.answers.items ≡ answer ∷ [] = only_item c.in-Ok.answers.items answer (c.in-Ok.ensures.count ∙ c.from_ref.ensures.len) ∙ ap (λ a. a ∷ []) (sym c.index.ensures) in
    made_one c.push_call.result c.args.call.now old new answer c.sent_after-sent.result.now c.asked_after.result.now c.args.text.now.items c.push_call.new.text.items sent asked
    (runs_same _ _ old new _ _ c.from_ref.ensures.value only r) c.push_call.ensures

pub returns-clause-mark : goal.returns-clause-mark
returns-clause-mark c = unmarked _ _ c.args.session.now.machine c.requires.mark c.in-Ok.ensures.looks
