use Rattle.std.proofs.Common.{◌≡◌, ◌==◌, false, length, List, Some, sym, ap, ◌∙◌, arith}
use Rattle.std.proofs.lemmas.Option.{get_or_from_slice_get, slice_get_within}
use Rattle.mirror_plan.specs.declared.node.Node.{Node}
use Rattle.mirror_plan.specs.declared.node.Node.TheVariants.{Folder}
use Rattle.mirror_plan.specs.Paths.{Path}
use Rattle.mirror_plan.specs.Listing.{Listing, node_at}
use Rattle.mirror_plan.proofs.EntryFacts.{standing_root, standing_below}
use Rattle.mirror_plan.proofs.tree.Tree.at.Goals as goal

pub returns-then-is_empty : goal.returns-then-is_empty
returns-then-is_empty c =
    let none : length c.args.names.now ≡ 0 = grind arith in
    sym (standing_root c.args.self.now c.args.names.now none ∙ ap (λ (t : Listing). Some (Folder t.is_whole)) (sym c.self.view_is))

pub index-requires : goal.index-requires
index-requires c =
    let place = c.in-Ok.ensures.found in
    omega (arith, slice_get_within c.as_slice.result.now c.in-Ok.index (c.args.names.now, place.node) place.has, ap (λ (es : List (Path × Node)). length es) c.as_slice.ensures.value, c.as_slice.ensures.len)

pub returns-in-Ok : goal.returns-in-Ok
returns-in-Ok c =
    let names = c.args.names.now in
    let place = c.in-Ok.ensures.found in
    let some : (length names == 0) ≡ false = grind arith in
    let read = get_or_from_slice_get c.as_slice.result.now c.in-Ok.index (names, place.node) c.index.result.now place.has in
    let entries : c.args.self.now.entries ≡ c.as_slice.result.now = sym (c.as_slice.ensures.value ∙ ap (λ (t : Listing). t.entries) c.self.view_is) in
    ap (λ (e : Path × Node). Some e.1) (c.index.ensures ∙ rw c.as_slice.ensures.value at read) ∙ sym (standing_below c.args.self.now names some ∙ (ap (λ (es : List (Path × Node)). node_at es names) entries ∙ place.found))

pub returns-in-Err : goal.returns-in-Err
returns-in-Err c =
    let names = c.args.names.now in
    let some : (length names == 0) ≡ false = grind arith in
    let entries : c.args.self.now.entries ≡ c.as_slice.result.now = sym (c.as_slice.ensures.value ∙ ap (λ (t : Listing). t.entries) c.self.view_is) in
    sym (standing_below c.args.self.now names some ∙ (ap (λ (es : List (Path × Node)). node_at es names) entries ∙ c.in-Err.ensures.absent.absent))
