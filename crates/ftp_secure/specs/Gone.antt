-- A connection that was handed over.
use Rattle.std.specs.Prelude.{ℕ, Option, true}
use Rattle.std.specs.declared.io.ErrorKind.{ErrorKind}
use Rattle.ftp_transport.specs.Memory.{fresh_memory}
use Rattle.ftp_transport.specs.Told.{Told}

-- nothing came or goes out, and it is closed; so many calls failed, the last with this error
abbrev pub gone_after : ℕ → Option ErrorKind → Told
gone_after failures last_fault = record fresh_memory { closed_here = true; failures = failures; last_fault = last_fault }
