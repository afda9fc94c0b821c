-- What holds of the control connection whenever a client's lock is free, over the calls of all threads: RFC 959, sections
-- 2.3 and 5.3.
use Rattle.std.specs.Prelude.{ℕ, List, ◌++◌}
use Rattle.ftp_transport.specs.Told.{Told}
use Rattle.ftp_control.specs.Sending.{IsLines}

-- what was sent is whole wire lines, each with CR LF at its end and nowhere else, but for the tail of the last one, which is
-- still unsent
pub record SendsLines (told : Told) : Type 0 where
  pub unsent : List ℕ
  pub lines : IsLines (told.sent ++ unsent) unsent
