use Rattle.std.proofs.Common.{arith}
use Rattle.std.proofs.lemmas.Option.{slice_get_within}
use Rattle.mirror_plan.proofs.AfterFacts.{start_at, start_in_gap}
use Rattle.mirror_plan.proofs.tree.start_below.Goals as goal

pub returns-in-Ok : goal.returns-in-Ok
returns-in-Ok c =
    let es = c.args.entries.now in
    let place = c.in-Ok.ensures.found in
    start_at es c.args.names.now c.in-Ok.index c.requires (omega (arith, slice_get_within es c.in-Ok.index (c.args.names.now, place.node) place.has)) place

pub returns-in-Err : goal.returns-in-Err
returns-in-Err c = start_in_gap c.args.entries.now c.args.names.now c.in-Err.index c.in-Err.ensures.absent
