use Rattle.std.proofs.Common.{◌<◌, length, get_or, arith}
use Rattle.std.proofs.lemmas.Bool.{ltb-true}
use Rattle.std.proofs.lemmas.List.{get_or_default}
use Rattle.ftp_list.specs.declared.class.Class.TheVariants.{Kind}
use Rattle.ftp_list.specs.declared.shape.Shape.TheVariants.{OneOrMore}
use Rattle.ftp_list.proofs.EndFacts.{reach_more, reach_short}
use Rattle.ftp_list.proofs.ends.is_stuck.Goals as goal

pub loop-shape-preserved : goal.loop-shape-preserved
loop-shape-preserved c =
    let shapes = c.args.shapes.now in
    let i = c.loop-shape.shape-index in
    let shape = get_or shapes i (OneOrMore Kind) in
    let lt : i < length shapes = omega arith in
    reach_more shapes c.args.text.now i c.loop-shape.first c.loop-shape.last c.in-Some.place c.farthest_end-last.result shape lt (get_or_default shapes i (OneOrMore Kind) shape lt) c.loop-shape.invariant c.in-Some.ensures c.farthest_end-last.ensures.farthest c.farthest_end-last.ensures.within

pub returns : goal.returns
returns c =
    λ short. reach_short c.args.shapes.now c.args.text.now c.loop-shape.shape-index c.loop-shape.first c.loop-shape.last (omega arith) (ltb-true c.loop-shape.last (length c.args.text.now) short) c.loop-shape.invariant
