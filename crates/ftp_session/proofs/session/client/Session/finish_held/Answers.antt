use Rattle.std.proofs.Common.{ap, ◌∙◌}
use Rattle.ftp_session.specs.Files.{failed_if}
use Rattle.ftp_dialogue.proofs.DrainingLemmas.{made_plays}
use Rattle.ftp_session.proofs.session.client.Session.finish_held.Goals as goal

pub returns-clause-finishes : goal.returns-clause-finishes
returns-clause-finishes g c =
    let last = c.call_alone.new.self in
    (last, rw c.ended-ended.ensures (made_plays _ _ _ _ _ _ c.call_alone.ensures.made), c.fail_if.ensures.machine ∙ ap (λ lost. failed_if lost last) c.lacks_memory.ensures)
