use Rattle.std.proofs.Common.{ap, refl, sym, ◌∙◌}
use Rattle.ftp_dialogue.specs.Dialogue.{size_to_send}
use Rattle.ftp_base.specs.Ascii.{wire_data}
use Rattle.ftp_dialogue.proofs.machine.Machine.start_store.Goals as goal

pub returns-in-Some : goal.returns-in-Some
returns-in-Some g c =
    let text = ap (λ v. v.state.settings.text) c.self.view_is in
    let size = ap (λ t. size_to_send (wire_data t c.args.bytes)) (sym text) ∙ ap (λ b. size_to_send (wire_data c.self.inside.state.settings.text b)) (sym c.as_slice.ensures) ∙ sym c.size_to_send.ensures ∙ c.in-Some.is in
    rw (size, c.go_to.ensures, c.new-unsent.ensures, text) (refl, refl, refl)

pub returns-in-None : goal.returns-in-None
returns-in-None g c =
    let text = ap (λ v. v.state.settings.text) c.self.view_is in
    let size = ap (λ t. size_to_send (wire_data t c.args.bytes)) (sym text) ∙ ap (λ b. size_to_send (wire_data c.self.inside.state.settings.text b)) (sym c.as_slice.ensures) ∙ sym c.size_to_send.ensures ∙ c.in-None.is in
    rw (size, c.give_up.ensures.done) (refl, c.give_up.ensures.left)
