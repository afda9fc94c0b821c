use Rattle.std.proofs.Common.{sym, ap, ◌∙◌, ◌++◌, ◌∷◌, []}
use Rattle.ftp_list.specs.Names.{is_plain_name}
use Rattle.ftp_shared.proofs.PlaceFacts.{folders_among-one}
use Rattle.ftp_shared.proofs.walk.shown.Goals as goal

pub returns-then-is_directory : goal.returns-then-is_directory
returns-then-is_directory g c =
    let made = rw c.in-Some.is at c.in_ok-place.ensures.place in
    folders_among-one _ _ _ (sym c.is_directory.ensures ∙ c.if-is_directory.true) (sym (ap is_plain_name c.name.ensures) ∙ made.0) (made.1 ∙ ap (λ name. c.args.folder.now ++ name ∷ []) c.name.ensures)
