use Rattle.std.proofs.Common.{◌<◌, length, get_or, arith, sym, ◌∙◌}
use Rattle.std.proofs.lemmas.List.{get_or_default}
use Rattle.ftp_list.specs.declared.class.Class.TheVariants.{Kind}
use Rattle.ftp_list.specs.declared.shape.Shape.TheVariants.{OneOrMore}
use Rattle.ftp_list.proofs.RowFacts.{nothing}
use Rattle.ftp_list.proofs.SplitFacts.{front_more, front_all}
use Rattle.ftp_list.proofs.split.split_by_longest.Goals as goal

pub loop-shape-preserved : goal.loop-shape-preserved
loop-shape-preserved c =
    let shapes = c.args.shapes.now in
    let i = c.loop-shape.shape-index in
    let shape = get_or shapes i (OneOrMore Kind) in
    let lt : i < length shapes = omega arith in
    front_more shapes c.args.text.now i c.loop-shape.lengths.items c.loop-shape.left.now c.push.new.self.items c.rest-left.result.now shape c.in-Some.count lt (get_or_default shapes i (OneOrMore Kind) shape lt) c.loop-shape.invariant c.in-Some.ensures.0 (λ m f s. c.in-Some.ensures.1 m f) c.in_ok-push.ensures.items c.rest-left.ensures

pub returns : goal.returns
returns c =
    front_all c.args.shapes.now c.args.text.now c.loop-shape.shape-index c.loop-shape.lengths.items c.loop-shape.left.now (omega arith) (nothing (length c.loop-shape.left.now) (sym c.is_empty.ensures ∙ c.if-not-is_empty.false)) c.loop-shape.invariant
