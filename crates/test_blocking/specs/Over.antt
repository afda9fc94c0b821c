-- The record of a connection whose calls may fail.
use Rattle.ftp_transport.specs.Told.{Told}
use Rattle.test_blocking.specs.Failing.{recounted}
use Rattle.test_blocking.specs.declared.device.conn.FailingConn.{FailingConn}

-- by that of the connection below
abbrev pub told_over : {C : Type 0} → (C → Told) → FailingConn C → Told
told_over below c = recounted c.closed_here c.failures c.last_fault (below c.conn)
