-- TLS over memory: a stream that has bytes of its own, over a connection.
use Rattle.std.specs.Prelude.{◌≡◌, ℕ, Bool, true, false, List, Option, Some, None, Result, Ok, Err, string_bytes}
use Rattle.ftp_base.specs.declared.types.fault.FtpError.{FtpError}
use Rattle.ftp_base.specs.declared.types.fault.FtpError.TheVariants.{BadResponse}
use Rattle.ftp_transport.specs.Memory.{closed_memory, fed, fresh_memory}
use Rattle.ftp_transport.specs.Told.{Told}
use Rattle.rows_tls.specs.declared.sealed_poll.Outcome.{Outcome}
use Rattle.rows_tls.specs.declared.sealed_poll.Outcome.TheVariants.{Refuses, Seals}

-- a stream gives its connection back, unless it is stuck
abbrev pub given_back : Bool → Told → Result Told FtpError
given_back true conn = Err BadResponse
given_back false conn = Ok conn

-- a fresh connection on which these bytes come, and then the end
abbrev pub comes_in_clear : List ℕ → Told
comes_in_clear bytes = closed_memory (fed bytes fresh_memory)

-- a stream on which some bytes come in clear, where its record is true, and then the end; or any text
abbrev pub MakesOf : Type 0 → Result Told (List ℕ) → Type 0
MakesOf tells (Ok clear) = tells → (bytes : List ℕ) × (clear ≡ comes_in_clear bytes)
MakesOf tells (Err text) = Unit {0}

-- the record of the connection that was handed in, while it is there
abbrev pub handed_in : {C : Type 0} → (C → Told) → Option (Outcome C) → Told
handed_in told (Some (Seals conn clear)) = told conn
handed_in told (Some (Refuses conn text)) = told conn
handed_in told None = fresh_memory

-- a handshake ends in a stream with this record in clear, or in this text
abbrev pub MayEnd : {C : Type 0} → (C → Told) → Option (Outcome C) → Result Told (List ℕ) → Type 0
MayEnd told (Some (Seals conn clear)) outcome = outcome ≡ Ok (told clear)
MayEnd told (Some (Refuses conn text)) outcome = outcome ≡ Err (string_bytes text)
MayEnd told None outcome = ⊥
