use Rattle.std.proofs.Common.{ap, ◌∙◌}
use Rattle.mirror_plan.specs.Listing.{is_folder}
use Rattle.mirror_plan.proofs.PathFacts.{parent_of-take}
use Rattle.mirror_plan.proofs.tree.Tree.has_folder_of.Goals as goal

pub returns : goal.returns
returns c = rw (parent_of-take c.args.path.now, ← c.names-names.ensures.names) (c.is_folder.ensures ∙ ap is_folder c.at.ensures)
