use Rattle.std.proofs.Common.{◌≡◌, ◌∙◌, ◌++◌, ℕ, List, Option, Some, None, IfSome, ap}
use Rattle.std.specs.Str.Lossy.{utf8_lossy}
use Rattle.ftp_calls.specs.Listing.{listing}
use Rattle.ftp_calls.proofs.answers.listing.get_lines_from_stream.Goals as goal

-- what follows for every source follows for the known one
if_some_then : (known : Option (List ℕ)) (P Q : List ℕ → Type 0) → ((source : List ℕ) → P source → Q source) → IfSome known P → IfSome known Q
if_some_then None P Q follows holds = tt
if_some_then (Some source) P Q follows holds = follows source holds

pub returns-in-Ok-clause-lines : goal.returns-in-Ok-clause-lines
returns-in-Ok-clause-lines g c =
    let start = c.new-bytes.result.items in
    let bytes = c.read_to_end_retrying.new.bytes.items in
    if_some_then (g.R.Read.remaining c.args.reader.now) (λ source. bytes ≡ start ++ source) _
    (λ source all. c.in_ok-read_listing-in-Ok.ensures ∙ ap (listing utf8_lossy) (c.deref.ensures.value ∙ all ∙ ap (λ l. l ++ source) c.new-bytes.ensures.items))
    c.in-Ok.ensures.all
