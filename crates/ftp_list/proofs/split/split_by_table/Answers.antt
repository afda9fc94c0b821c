use Rattle.std.proofs.Common.{◌≡◌, ◌<◌, ◌+◌, ◌-◌, Bool, List, length, drop, get_or, arith, sym, subst, ◌∙◌}
use Rattle.std.proofs.lemmas.List.{get_or_default}
use Rattle.ftp_list.specs.declared.class.Class.TheVariants.{Kind}
use Rattle.ftp_list.specs.declared.shape.Shape.TheVariants.{OneOrMore}
use Rattle.ftp_list.specs.Rows.{TellsAll}
use Rattle.ftp_list.proofs.RowFacts.{nothing}
use Rattle.ftp_list.proofs.SplitFacts.{only_more, only_closed, front_all}
use Rattle.ftp_list.proofs.split.split_by_table.Goals as goal

pub loop-i-preserved : goal.loop-i-preserved
loop-i-preserved c =
    let shapes = c.args.shapes.now in
    let text = c.args.text.now in
    let i = c.loop-i.i in
    let shape = get_or shapes i (OneOrMore Kind) in
    let lt : i < length shapes = omega arith in
    let k = (length shapes - 1) - i in
    let within : k < length c.args.rows.now = omega arith in
    let place : length shapes - k ≡ i + 1 = omega arith in
    let row = c.index-rows-shapes.result in
    let row_told : TellsAll row.items (drop (i + 1) shapes) text = subst (λ n. TellsAll row.items (drop n shapes) text) place (c.requires.table.at k row within c.index-rows-shapes.is).1 in
    let told : TellsAll c.deref.result.now (drop (i + 1) shapes) text = subst (λ (r : List Bool). TellsAll r (drop (i + 1) shapes) text) (sym c.deref.ensures.value) row_told in
    only_more shapes text i c.loop-i.lengths.items c.loop-i.left.now c.push.new.self.items c.rest-left.result.now shape c.in-Some.count c.deref.result.now lt (get_or_default shapes i (OneOrMore Kind) shape lt) c.loop-i.invariant told c.in-Some.ensures c.in_ok-push.ensures.items c.rest-left.ensures

pub returns-in_default : goal.returns-in_default
returns-in_default c =
    let shapes = c.args.shapes.now in
    let text = c.args.text.now in
    let i = c.loop-i.i in
    let shape = get_or shapes i (OneOrMore Kind) in
    let lt : i < length shapes = omega arith in
    let k = (length shapes - 1) - i in
    let within : k < length c.args.rows.now = omega arith in
    let place : length shapes - k ≡ i + 1 = omega arith in
    let row = c.index-rows-shapes.result in
    let row_told : TellsAll row.items (drop (i + 1) shapes) text = subst (λ n. TellsAll row.items (drop n shapes) text) place (c.requires.table.at k row within c.index-rows-shapes.is).1 in
    let told : TellsAll c.deref.result.now (drop (i + 1) shapes) text = subst (λ (r : List Bool). TellsAll r (drop (i + 1) shapes) text) (sym c.deref.ensures.value) row_told in
    only_closed shapes text i c.loop-i.lengths.items c.loop-i.left.now shape c.deref.result.now lt (get_or_default shapes i (OneOrMore Kind) shape lt) c.loop-i.invariant told c.in_default.ensures

pub returns : goal.returns
returns c =
    front_all c.args.shapes.now c.args.text.now c.loop-i.i c.loop-i.lengths.items c.loop-i.left.now (omega arith) (nothing (length c.loop-i.left.now) (sym c.is_empty.ensures ∙ c.if-not-is_empty.false)) c.loop-i.invariant.front
