-- The data connections of a secured transport that are over.
use Rattle.std.specs.Prelude.{List, ◌++◌, map}
use Rattle.ftp_transport.specs.Told.{Told}
use Rattle.ftp_secure.specs.Streams.{told_in_clear}
use Rattle.ftp_secure.specs.declared.data_stream.DataStream.{DataStream}

-- those that the transport below took over, and after them those that are kept beside it
abbrev pub over_in_clear : {C : Type 0} {S : Type 0} → (C → Told) → (S → Told) → List Told → List (DataStream C S) → List Told
over_in_clear plain secure below kept = below ++ map (told_in_clear plain secure) kept
