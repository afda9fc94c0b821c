use Rattle.std.proofs.Common.{◌≡◌, ◌∷◌, ◌++◌, [], ap, sym, refl, ◌∙◌, append-nil, append_assoc, drop, reverse, take, List, length, min, ◌+◌, subst, arith}
use Rattle.std.proofs.lemmas.List.{drop_all, take_min}
use Rattle.ftp_shared.specs.Places.{AreSomeOf, Names, folders_among}
use Rattle.ftp_shared.proofs.PlaceFacts.{are_some_of-more, are_some_of-push, folders_among-here}
use Rattle.ftp_shared.proofs.walk.Walk.visit.Goals.{in-Some+in_ok-keep, in_default}
use Rattle.ftp_shared.proofs.walk.Walk.visit.Goals as goal

pub loop-entry-preserved : goal.loop-entry-preserved
loop-entry-preserved g c =
    let l = c.loop-entry.invariant in
    let folder = c.args.folder.now in
    let entries = take c.min-most.result c.deref.result.now in
    let entry = c.entry-item.result in
    let first = folders_among folder (entry ∷ []) in
    let rest = folders_among folder (drop (c.loop-entry.entry-index + 1) entries) in
    let here = folders_among-here folder entries c.loop-entry.entry-index entry c.loop-entry-test.true c.entry-item.is in
    let more = l.1 ∙ ap (λ places. l.0 ++ places) here ∙ sym (append_assoc l.0 first rest) in
    elim c.match-branch-2.branch [
      | in-Some+in_ok-keep w ↦
          let one = rw w.in-Some.is at c.in_ok-place.ensures in
          let some : AreSomeOf (c.loop-entry.entered.items ++ w.in-Some.place ∷ []) (l.0 ++ first) = rw one (are_some_of-push c.loop-entry.entered.items l.0 w.in-Some.place l.2) in
          (l.0 ++ first, more, rw (w.entered-is, w.in_ok-keep.ensures) some)
      | in_default w ↦ (l.0 ++ first, more, rw w.entered-is (are_some_of-more c.loop-entry.entered.items l.0 first l.2))
    ]

pub loop-place-init : goal.loop-place-init
unfolding folders_among
loop-place-init g c =
    let l = c.loop-entry.invariant in
    let entered = c.loop-entry.entered.items in
    let folder = c.args.folder.now in
    let files = c.args.listing.now.files.items in
    let most = c.args.self.now.limits.entries in
    let entries = take c.min-most.result c.deref.result.now in
    let none : drop c.loop-entry.entry-index entries ≡ [] = drop_all c.loop-entry.entry-index entries (omega (arith, c.loop-entry-test.false)) in
    let all : folders_among folder entries ≡ l.0 = l.1 ∙ ap (λ rest. l.0 ++ folders_among folder rest) none ∙ append-nil l.0 in
    let len = rw c.deref.ensures.value at c.deref.ensures.len in
    let same : entries ≡ take most files = rw (c.min-most.ensures, c.len.ensures, c.deref.ensures.value) (ap (λ count. take (min most count) files) (sym len) ∙ take_min most files) in
    let A : List Names → Type 0 = λ places. AreSomeOf entered places in
    ([], entered, sym (append-nil _), refl, subst A (sym all ∙ ap (folders_among folder) same) l.2, refl, refl)
