use Rattle.std.proofs.Common.{◌≡◌, ◌-◌, ◌+◌, ◌<◌, Bool, List, length, drop, arith, sym, subst, ◌∙◌, ap}
use Rattle.ftp_list.specs.declared.class.Class.TheVariants.{Kind}
use Rattle.ftp_list.specs.declared.shape.Shape.{Shape}
use Rattle.ftp_list.specs.declared.shape.Shape.TheVariants.{OneOrMore}
use Rattle.ftp_list.specs.Rows.{TellsAll}
use Rattle.std.proofs.lemmas.List.{length_push}
use Rattle.ftp_list.proofs.TableFacts.{table_more, shapes_from}
use Rattle.ftp_list.proofs.rows.table.Goals as goal

pub row_before-requires : goal.row_before-requires
row_before-requires c =
    let lt : c.loop-k.k - 1 < length c.loop-k.rows.items = omega arith in
    ap length c.deref.ensures.value ∙ (c.loop-k.invariant.1.at (c.loop-k.k - 1) c.index.result.now lt c.index.ensures).0

pub loop-k-preserved : goal.loop-k-preserved
loop-k-preserved c =
    let shapes = c.args.shapes.now in
    let text = c.args.text.now in
    let k = c.loop-k.k in
    let lt : k - 1 < length c.loop-k.rows.items = omega arith in
    let next : TellsAll c.deref.result.now (drop (length shapes - (k - 1)) shapes) text = subst (λ (r : List Bool). TellsAll r (drop (length shapes - (k - 1)) shapes) text) (sym c.deref.ensures.value) (c.loop-k.invariant.1.at (k - 1) c.index.result.now lt c.index.ensures).1 in
    let told = c.in_ok-row.ensures.tells (drop (length shapes - (k - 1)) shapes) next in
    let from = shapes_from shapes k (OneOrMore Kind) (omega arith) (omega arith) in
    let row_told : TellsAll c.in_ok-row.row.items (drop (length shapes - k) shapes) text = subst (λ (ss : List Shape). TellsAll c.in_ok-row.row.items ss text) (sym from) told in
    let count : length c.loop-k.rows.items ≡ k = c.loop-k.invariant.0 in (
      ap length c.in_ok-push-2.ensures.items ∙ length_push c.loop-k.rows.items c.in_ok-row.row ∙ ap (λ n. n + 1) count,
      table_more c.loop-k.rows.items c.push-in-loop-k.new.self.items c.in_ok-row.row shapes text k count c.in_ok-push-2.ensures.items c.in_ok-row.ensures.count row_told c.loop-k.invariant.1,
    )
