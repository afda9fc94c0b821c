use Rattle.std.proofs.Common.{Option, ap, ◌∙◌}
use Rattle.std.specs.declared.io.ErrorKind.{ErrorKind}
use Rattle.ftp_dialogue.specs.Dialogue.{told_of_close}
use Rattle.ftp_dialogue.specs.State.{SessionValue}
use Rattle.ftp_dialogue.specs.Steps.Stages.{stage_closed}
use Rattle.ftp_dialogue.proofs.machine.Machine.close.Goals as goal

pub returns : goal.returns
returns g c =
    let closed = c.close_data-outcome in
    let T : SessionValue → Option ErrorKind = λ v. told_of_close v.state.uploads closed.result in
    let told = c.told_of_close-told.ensures ∙ ap T (c.self.view_is ∙ closed.ensures.beside) in
    record {
      outcome = closed.result;
      is = c.go_to.ensures ∙ c.stage_closed.ensures ∙ ap (λ t. stage_closed c.args.after t) told;
      beside = closed.ensures.beside;
      net_event = closed.ensures.closes;
    }
