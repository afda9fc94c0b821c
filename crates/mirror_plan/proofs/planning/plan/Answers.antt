use Rattle.std.proofs.Common.{◌++◌, List, ap, sym, subst, ◌∙◌}
use Rattle.std.specs.List.{AllByRecursion}
use Rattle.mirror_plan.specs.declared.action.Action.{Action}
use Rattle.mirror_plan.specs.declared.action.Undone.{Undone}
use Rattle.mirror_plan.specs.Listing.{standing}
use Rattle.mirror_plan.specs.Carried.{CanAllBeCarriedOut, IsAlike, IsJustified, IsSettled, all_carried_out}
use Rattle.mirror_plan.specs.Plan as plan
use Rattle.mirror_plan.specs.Plan.{undone_of, actions_of}
use Rattle.mirror_plan.proofs.LikeFacts.{plan_can, plan_alike}
use Rattle.mirror_plan.proofs.JustFacts.{plan_justified}
use Rattle.mirror_plan.proofs.SettledFacts.{plan_settled}
use Rattle.mirror_plan.proofs.planning.plan.Goals as goal

pub returns-clause-undone : goal.returns-clause-undone
unfolding undone_of
returns-clause-undone c =
    c.in_ok-push_unremoved.ensures.unremoved
    ∙ ap (λ xs. xs ++ plan.unremoved c.args.from.now c.args.to.now c.args.policy c.args.to.now.entries) (c.in_ok-push_unmade.ensures.unmade ∙ ap (λ xs. xs ++ plan.unmade c.args.to.now c.args.from.now.entries) c.new-undone.ensures.items)

pub returns-clause-in_order : goal.returns-clause-in_order
returns-clause-in_order c =
    subst (λ (xs : List Action). CanAllBeCarriedOut xs (standing c.args.to.now)) (sym c.in_ok-actions.ensures)
    (plan_can c.args.from.now c.args.to.now c.args.policy c.push_unmade.ensures.tree c.push_unremoved.ensures.tree)

pub returns-clause-alike : goal.returns-clause-alike
unfolding undone_of
returns-clause-alike c =
    let left = c.in_ok-push_unremoved.ensures.unremoved
    ∙ ap (λ xs. xs ++ plan.unremoved c.args.from.now c.args.to.now c.args.policy c.args.to.now.entries) (c.in_ok-push_unmade.ensures.unmade ∙ ap (λ xs. xs ++ plan.unmade c.args.to.now c.args.from.now.entries) c.new-undone.ensures.items) in
    subst (λ (xs : List Action). IsAlike c.args.policy c.push_unremoved.new.undone.items (standing c.args.from.now) (all_carried_out xs (standing c.args.to.now))) (sym c.in_ok-actions.ensures)
    (subst (λ (us : List Undone). IsAlike c.args.policy us (standing c.args.from.now) (all_carried_out (actions_of c.args.from.now c.args.to.now c.args.policy) (standing c.args.to.now))) (sym left)
    (plan_alike c.args.from.now c.args.to.now c.args.policy c.push_unmade.ensures.tree c.push_unremoved.ensures.tree))

pub returns-clause-settled : goal.returns-clause-settled
returns-clause-settled c =
    subst (λ (xs : List Action). IsSettled c.args.policy c.args.from.now (all_carried_out xs (standing c.args.to.now))) (sym c.in_ok-actions.ensures)
    (plan_settled c.args.from.now c.args.to.now c.args.policy c.push_unmade.ensures.tree c.push_unremoved.ensures.tree)

pub returns-clause-justified : goal.returns-clause-justified
returns-clause-justified c =
    subst (λ (xs : List Action). AllByRecursion (IsJustified c.args.policy c.args.from.now) xs) (sym c.in_ok-actions.ensures)
    (plan_justified c.args.from.now c.args.to.now c.args.policy c.push_unmade.ensures.tree)
