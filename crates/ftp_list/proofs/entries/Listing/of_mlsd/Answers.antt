use Rattle.std.proofs.Common.{◌≡◌, [], map, ℕ, ◌+◌, ◌++◌, ◌∷◌, List, take, sym, ◌∙◌, ap, subst}
use Rattle.std.specs.String.{string_bytes}
use Rattle.ftp_list.specs.Entries.{Contents, IsRead, contents}
use Rattle.ftp_list.specs.Entries.IsRead.{Ended}
use Rattle.ftp_list.specs.Sorts.{IsOfMlsd}
use Rattle.ftp_list.proofs.EntryFacts.{read_more, bytes_more}
use Rattle.ftp_list.proofs.entries.Listing.of_mlsd.Goals as goal

pub loop-line-init : goal.loop-line-init
loop-line-init c = subst (λ (read : Contents). IsRead IsOfMlsd [] read) (sym c.empty-listing.ensures) Ended

pub loop-line-preserved : goal.loop-line-preserved
loop-line-preserved c =
    let lines = c.args.lines.now in
    let i = c.loop-line.line-index in
    let was = map string_bytes (take i lines) in
    let line = c.as_str-text.result.now in
    let more : map string_bytes (take (i + 1) lines) ≡ was ++ line ∷ [] =
    bytes_more lines i c.line-item.result c.loop-line-test.true c.line-item.is
    ∙ ap (λ (text : List ℕ). was ++ text ∷ []) (sym c.as_str-text.ensures.value) in
    subst (λ (read : List (List ℕ)). IsRead IsOfMlsd read (contents c.add.new.self)) (sym more)
    (subst (λ (read : Contents). IsRead IsOfMlsd (was ++ line ∷ []) read) (sym c.in_ok-add.ensures.added)
    (read_more IsOfMlsd line c.in_ok-sort_in_mlsd.field-0 c.in_ok-sort_in_mlsd.ensures c.loop-line.invariant))
