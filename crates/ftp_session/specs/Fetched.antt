-- The calls that give all that a data connection carries: a file as bytes, and the lines of a listing.
use Rattle.std.specs.Prelude.{◌≡◌}
use Rattle.ftp_calls.specs.declared.call.Answer.{Answer}
use Rattle.ftp_calls.specs.declared.call.Answer.TheVariants.{Bytes, Lines, Fault}
use Rattle.ftp_calls.specs.declared.exchange.Ending.TheVariants.{Performs}
use Rattle.ftp_calls.specs.declared.exchange.Fetch.{Fetch}
use Rattle.ftp_calls.specs.declared.exchange.Fetch.TheVariants.{Whole, Listed}
use Rattle.ftp_calls.specs.declared.exchange.Row.{Row}
use Rattle.ftp_calls.specs.declared.exchange.Row.TheVariants.{Exchanges, Arms, Resyncs, Sets, Moves}
use Rattle.ftp_calls.specs.declared.exchange.Task.TheVariants as task

-- the last exchange of a call reads a whole data connection, which is to be in this form
abbrev pub FetchesRow : Fetch → Row → Type 0
FetchesRow form (Exchanges exchange) = exchange.ending ≡ Performs (task.Fetch form)
FetchesRow form (Arms offset) = ⊥
FetchesRow form Resyncs = ⊥
FetchesRow form (Sets setting) = ⊥
FetchesRow form (Moves movement) = ⊥

abbrev pub IsWhole : Fetch → Type 0
IsWhole Whole = Unit {0}
IsWhole Listed = ⊥

abbrev pub IsListed : Fetch → Type 0
IsListed Whole = ⊥
IsListed Listed = Unit {0}

-- what such a call answers: bytes or lines, as it was to be, or an error
abbrev pub IsFetched : Fetch → Answer → Type 0
IsFetched form (Fault fault) = Unit {0}
IsFetched form (Bytes bytes) = IsWhole form
IsFetched form (Lines lines) = IsListed form
IsFetched form other = ⊥
