use Rattle.std.proofs.Common.{◌≡◌, ◌+◌, take, is_some, true, false, sym, ap, ◌∙◌, arith}
use Rattle.mirror_plan.specs.Listing.{standing}
use Rattle.mirror_plan.specs.Plan.{nearest}
use Rattle.mirror_plan.proofs.WayFacts.{way_end-more, way_end-all}
use Rattle.mirror_plan.proofs.decide.nearest.Goals as goal

pub returns-then-is_none : goal.returns-then-is_none
unfolding nearest
returns-then-is_none c =
    let tree = standing c.args.tree.now in
    let names = c.args.names.now in
    let no : is_some (tree (take (c.loop-end.end + 1) names)) ≡ false = sym (ap is_some c.at-next.ensures) ∙ c.if-is_none.ensures in
    c.loop-end.invariant.reached ∙ (sym (rw no at (way_end-more tree names c.loop-end.end (omega arith))) ∙ c.loop-end.invariant.rest)

pub loop-end-preserved : goal.loop-end-preserved
loop-end-preserved c =
    let tree = standing c.args.tree.now in
    let names = c.args.names.now in
    let yes : is_some (tree (take (c.loop-end.end + 1) names)) ≡ true = sym (ap is_some c.at-next.ensures) ∙ c.if-is_none.ensures in
    record {
      reached = c.at-next.ensures;
      rest = sym (rw yes at (way_end-more tree names c.loop-end.end (omega arith))) ∙ c.loop-end.invariant.rest;
    }

pub returns : goal.returns
unfolding nearest
returns c =
    c.loop-end.invariant.reached ∙ (sym (way_end-all (standing c.args.tree.now) c.args.names.now c.loop-end.end c.loop-end-test.false) ∙ c.loop-end.invariant.rest)
