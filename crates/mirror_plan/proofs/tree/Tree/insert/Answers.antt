use Rattle.std.proofs.Common.{◌≡◌, ◌<◌, true, IsTrue, is_some, List, length, Some, None, Result, Err, ap, sym, refl, ◌∙◌, arith}
use Rattle.std.proofs.lemmas.Bool.{false≢true}
use Rattle.std.proofs.lemmas.Result.{err_from_is_err_and}
use Rattle.mirror_plan.specs.declared.tree.InsertError.{InsertError}
use Rattle.mirror_plan.specs.declared.tree.InsertError.TheVariants.{OutOfMemory, AlreadyThere}
use Rattle.mirror_plan.specs.declared.node.Node.{Node}
use Rattle.mirror_plan.specs.Paths.{Path, parent_of}
use Rattle.mirror_plan.specs.Listing.{Listing, IsGap, standing, is_folder, updated}
use Rattle.mirror_plan.proofs.PathFacts.{some_inside}
use Rattle.mirror_plan.proofs.EntryFacts.{IsTree-inserted, standing_inserted, standing_from}
use Rattle.mirror_plan.proofs.tree.Tree.insert.Goals as goal

-- out of memory is no other error
out_of_memory : (r : Result (Unit {0}) InsertError) (y : InsertError) → r ≡ Err y → y ≡ OutOfMemory → r ≡ Err AlreadyThere → ⊥
out_of_memory r y is out there = cc

pub invariant_of-self-in-Err : goal.invariant_of-self-in-Err
invariant_of-self-in-Err c =
    let t : Listing = record { is_whole = c.self.inside.is_whole; entries = c.self.inside.entries.items } in
    let gap : IsGap t.entries c.args.path c.in-Err.index = rw (c.as_slice.ensures.value, c.names.ensures.names) at c.in-Err.ensures.absent in
    let some : 0 < length c.args.path = some_inside c.args.path (rw c.names.ensures.names at c.names.ensures.inside) in
    let has : c.has_folder_of.result ≡ true = grind arith in
    let at : IsTrue (is_folder (standing t (parent_of c.args.path))) = ap (λ (u : Listing). is_folder (standing u (parent_of c.args.path))) c.self.view_is ∙ (sym c.has_folder_of.ensures ∙ has) in
    rw c.in_ok-insert-in-Err.ensures.items (IsTree-inserted t c.args.path c.args.node c.in-Err.index gap some c.self.invariant at)

pub returns-in_ok-insert-in-Err-clause-ok : goal.returns-in_ok-insert-in-Err-clause-ok
returns-in_ok-insert-in-Err-clause-ok c =
    let t : Listing = record { is_whole = c.self.inside.is_whole; entries = c.self.inside.entries.items } in
    let gap : IsGap t.entries c.args.path c.in-Err.index = rw (c.as_slice.ensures.value, c.names.ensures.names) at c.in-Err.ensures.absent in
    let some : 0 < length c.args.path = some_inside c.args.path (rw c.names.ensures.names at c.names.ensures.inside) in
    λ q. ap (λ (es : List (Path × Node)). standing (record { is_whole = c.self.inside.is_whole; entries = es }) q) c.in_ok-insert-in-Err.ensures.items
    ∙ (standing_inserted t c.args.path c.args.node c.in-Err.index gap some q
    ∙ ap (λ (u : Listing). updated (standing u) c.args.path (Some c.args.node) q) c.self.view_is)

pub returns-in_err-insert-in-Err-clause-already_there : goal.returns-in_err-insert-in-Err-clause-already_there
returns-in_err-insert-in-Err-clause-already_there c =
    let some : 0 < length c.args.path = some_inside c.args.path (rw c.names.ensures.names at c.names.ensures.inside) in
    let gap = rw c.names.ensures.names at c.in-Err.ensures.absent in
    let is : c.args.self.now.entries ≡ c.as_slice.result.now = sym (c.as_slice.ensures.value ∙ ap (λ (t : Listing). t.entries) c.self.view_is) in
    let none : standing c.args.self.now c.args.path ≡ None = standing_from c.args.self.now c.as_slice.result.now c.args.path None is gap.absent some in
    (λ e. let p = err_from_is_err_and c.from_residual.result c.from_residual.ensures.1 in absurd (out_of_memory c.from_residual.result p.0 p.1 p.2 e), λ h. absurd (false≢true (sym (ap is_some none) ∙ h.1)))

pub returns-in_ok-insert-in-Err-clause-already_there : goal.returns-in_ok-insert-in-Err-clause-already_there
returns-in_ok-insert-in-Err-clause-already_there c =
    let some : 0 < length c.args.path = some_inside c.args.path (rw c.names.ensures.names at c.names.ensures.inside) in
    let gap = rw c.names.ensures.names at c.in-Err.ensures.absent in
    let is : c.args.self.now.entries ≡ c.as_slice.result.now = sym (c.as_slice.ensures.value ∙ ap (λ (t : Listing). t.entries) c.self.view_is) in
    let none : standing c.args.self.now c.args.path ≡ None = standing_from c.args.self.now c.as_slice.result.now c.args.path None is gap.absent some in
    (λ e. absurd (cc), λ h. absurd (false≢true (sym (ap is_some none) ∙ h.1)))

pub returns-in-Ok-clause-already_there : goal.returns-in-Ok-clause-already_there
returns-in-Ok-clause-already_there c =
    let some : 0 < length c.args.path = some_inside c.args.path (rw c.names.ensures.names at c.names.ensures.inside) in
    let place = rw c.names.ensures.names at c.in-Ok.ensures.found in
    let is : c.args.self.now.entries ≡ c.as_slice.result.now = sym (c.as_slice.ensures.value ∙ ap (λ (t : Listing). t.entries) c.self.view_is) in
    let there = standing_from c.args.self.now c.as_slice.result.now c.args.path (Some place.node) is place.found some in
    let has : c.has_folder_of.result ≡ true = grind arith in
    (λ e. (sym c.has_folder_of.ensures ∙ has, ap is_some there), λ h. refl)
