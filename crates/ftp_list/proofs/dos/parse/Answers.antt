use Rattle.std.proofs.Common.{◌≡◌, ℕ, List, subst, inl, refl}
use Rattle.std.specs.Prelude.{Result}
use Rattle.ftp_list.specs.declared.error.ParseError.{ParseError}
use Rattle.ftp_list.specs.Entry.{Entry}
use Rattle.ftp_list.specs.Listing.{UnlessMemory, dos_shapes, dos_entry}
use Rattle.ftp_list.proofs.ListingFacts.{dos_answer}
use Rattle.ftp_list.proofs.dos.parse.Goals as goal

pub returns-in-None : goal.returns-in-None
unfolding dos_shapes
returns-in-None c =
    let found = rw c.in-None.is at c.in_ok-lengths.ensures in
    inl (found, refl)

pub returns-in-Some : goal.returns-in-Some
unfolding dos_shapes
returns-in-Some c =
    let found = rw c.in-Some.is at c.in_ok-lengths.ensures in
    let whole = subst (λ (ls : List ℕ). UnlessMemory (λ (a : Result Entry ParseError). a ≡ dos_entry ls c.args.text.now) c.file_of.result) c.deref.ensures.value c.file_of.ensures in
    dos_answer c.args.text.now c.in-Some.lengths.items c.file_of.result found whole
