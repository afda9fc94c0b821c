use Rattle.std.proofs.Common.{◌==◌, length, ap, ◌∙◌}
use Rattle.ftp_dialogue.proofs.UnsentLemmas.{none_left}
use Rattle.ftp_dialogue.proofs.unsent.Unsent.is_empty.Goals as goal

pub returns : goal.returns
returns c =
    let here = c.self.inside in
    ap (λ l. here.next == length l) c.as_slice.ensures ∙ none_left here.text here.after_return here.next here.bytes c.self.invariant ∙ ap (λ l. length l == 0) c.self.view_is
