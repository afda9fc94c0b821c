use Rattle.std.proofs.Common.{◌≡◌, [], map, ℕ, ◌+◌, ◌++◌, ◌∷◌, List, take, sym, ◌∙◌, ap, subst}
use Rattle.std.specs.String.{string_bytes}
use Rattle.ftp_list.specs.declared.entries.Listing.{Listing}
use Rattle.ftp_list.specs.Entries.{Contents, contents, entries, IsRead}
use Rattle.ftp_list.specs.Entries.IsRead.{Ended}
use Rattle.ftp_list.specs.Sorts.{IsOfList}
use Rattle.ftp_list.proofs.EntryFacts.{read_more, bytes_more, entries_more, entries_same}
use Rattle.ftp_list.proofs.entries.Listing.of_list.Goals as goal
use Rattle.ftp_list.proofs.entries.Listing.of_list.Goals.{then-branch+in_ok-sort_in_list+in_ok-add, else-branch}

pub loop-line-init : goal.loop-line-init
loop-line-init c =
    subst (λ (read : Contents). IsRead (IsOfList c.args.now.nanosecond) [] read) (sym c.empty-listing.ensures) Ended

pub loop-line-preserved : goal.loop-line-preserved
loop-line-preserved c =
    let Says = IsOfList c.args.now.nanosecond in
    let lines = c.args.lines.now in
    let i = c.loop-line.line-index in
    let was = map string_bytes (take i lines) in
    let line = c.as_str-text.result.now in
    let more : map string_bytes (take (i + 1) lines) ≡ was ++ line ∷ [] =
    bytes_more lines i c.line-item.result c.loop-line-test.true c.line-item.is
    ∙ ap (λ (text : List ℕ). was ++ text ∷ []) (sym c.as_str-text.ensures.value) in
    let IsSo : Listing → Type 0 = λ (l : Listing). IsRead Says (entries (map string_bytes (take (i + 1) lines))) (contents l) in
    elim c.if-branch.branch [
      | then-branch+in_ok-sort_in_list+in_ok-add w ↦
          let kept = ap entries more ∙ entries_more was line (sym c.in_ok-is_of_file.ensures ∙ w.if-branch.true) in
          subst IsSo (sym w.listing-is)
          (subst (λ (read : List (List ℕ)). IsRead Says read (contents w.add.new.self)) (sym kept)
          (subst (λ (read : Contents). IsRead Says (entries was ++ line ∷ []) read) (sym w.in_ok-add.ensures.added)
          (read_more Says line w.in_ok-sort_in_list.field-0 w.in_ok-sort_in_list.ensures c.loop-line.invariant)))
      | else-branch w ↦
          let kept = ap entries more ∙ entries_same was line (sym c.in_ok-is_of_file.ensures ∙ w.if-branch.false) in
          subst IsSo (sym w.listing-is)
          (subst (λ (read : List (List ℕ)). IsRead Says read (contents c.loop-line.listing)) (sym kept) c.loop-line.invariant)
    ]
