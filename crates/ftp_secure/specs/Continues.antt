-- How the record of a connection goes on.
use Rattle.std.specs.Prelude.{◌≡◌, ℕ, ◌≤◌, List, ◌++◌, true}
use Rattle.ftp_transport.specs.Told.{Told}

-- bytes that begin with these
abbrev pub BeginsWith : List ℕ → List ℕ → Type 0
BeginsWith first bytes = (more : List ℕ) × (bytes ≡ first ++ more)

-- the record of the same connection, later: it begins with all that was received and sent, the same is at hand, and what
-- was closed or failed stays so
pub record Continues (before after : Told) : Type 0 where
  pub received : BeginsWith before.received after.received
  pub sent : BeginsWith before.sent after.sent
  pub closed_here : before.closed_here ≡ true → after.closed_here ≡ true
  pub failures : before.failures ≤ after.failures
  pub given : after.given ≡ before.given
