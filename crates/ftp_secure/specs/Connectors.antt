-- What a connector makes of a connection.
use Rattle.std.specs.Prelude.{◌≡◌, ℕ, false, List, [], Result, Ok, Err, string_bytes}
use Rattle.std.specs.declared.alloc.Global.{Global}
use Rattle.std.specs.declared.string.String.{String}
use Rattle.ftp_transport.specs.Told.{Told}

-- nothing was read or written yet
pub record IsUnused (t : Told) : Type 0 where
  pub received : t.received ≡ []
  pub ended : t.ended ≡ false
  pub sent : t.sent ≡ []

-- a stream of this record, in clear, or the text of a refusal
abbrev pub secured_as : {S : Type 0} → (S → Told) → Result S (String Global) → Result Told (List ℕ)
secured_as told (Ok stream) = Ok (told stream)
secured_as told (Err text) = Err (string_bytes text)
