use Rattle.std.proofs.Common.{◌++◌, ap, ◌∙◌}
use Rattle.mirror_plan.specs.Plan as plan
use Rattle.mirror_plan.specs.Plan.{actions_of}
use Rattle.mirror_plan.proofs.planning.actions.Goals as goal

pub returns : goal.returns
unfolding actions_of
returns c =
    c.in_ok-push_makings.ensures ∙ ap (λ xs. xs ++ plan.makings c.args.to.now c.args.policy c.args.from.now.entries) c.in_ok-actions.ensures
