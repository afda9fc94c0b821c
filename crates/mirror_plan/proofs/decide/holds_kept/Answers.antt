use Rattle.std.proofs.Common.{◌≡◌, ◌+◌, ◌-◌, ◌∷◌, List, length, take, drop, false, sym, ap, subst, ◌∙◌, arith}
use Rattle.std.proofs.lemmas.List.{take_rest, drop_more}
use Rattle.mirror_plan.specs.declared.node.Node.{Node}
use Rattle.mirror_plan.specs.Paths.{Path, is_below}
use Rattle.mirror_plan.specs.Listing.{IsBefore, IsAscending}
use Rattle.mirror_plan.specs.Plan.{kept_below}
use Rattle.mirror_plan.proofs.AfterFacts.{none_kept, kept_from_start, before_from_start, ascending_from}
use Rattle.mirror_plan.proofs.decide.holds_kept.Goals as goal

pub loop-entry-init : goal.loop-entry-init
loop-entry-init c =
    let es = c.entries-entries.result.now in
    let p = c.args.folder.now in
    let k = c.start_below-start.result in
    let is = c.entries-entries.ensures.entries in
    let ascending : IsAscending es = subst (λ (xs : List (Path × Node)). IsAscending xs) (sym is) c.entries-entries.ensures.tree.ascending.1 in
    rw (take_rest es k) (record {
      before = before_from_start es p k c.start_below-start.ensures.later;
      ascending = ascending_from es k ascending;
      rest = kept_from_start es p k c.start_below-start.ensures.earlier ∙ ap (λ (xs : List (Path × Node)). kept_below xs p) is;
    })

pub returns-then-not-is_below : goal.returns-then-not-is_below
returns-then-not-is_below c =
    let es = c.entries-entries.result.now in
    let items = take (length es - c.start_below-start.result) (drop c.start_below-start.result es) in
    let i = c.loop-entry.entry-index in
    let p = c.args.folder.now in
    let e = c.entry-item.result in
    let left = c.loop-entry.invariant in
    let step : drop i items ≡ e ∷ drop (i + 1) items = drop_more items i _ (omega arith) ∙ ap (λ (x : Path × Node). x ∷ drop (i + 1) items) (sym c.entry-item.is) in
    let before : IsBefore p (e ∷ drop (i + 1) items) = subst (λ (xs : List (Path × Node)). IsBefore p xs) step left.before in
    let ascending : IsAscending (e ∷ drop (i + 1) items) = subst (λ (xs : List (Path × Node)). IsAscending xs) step left.ascending in
    let apart : is_below e.0 p ≡ false = ap (λ q. is_below q p) (sym c.names.ensures.names) ∙ (sym c.is_below.ensures ∙ c.if-not-is_below.true) in
    sym (sym left.rest ∙ (ap (λ (xs : List (Path × Node)). kept_below xs p) step ∙ none_kept p e (drop (i + 1) items) before ascending apart))
