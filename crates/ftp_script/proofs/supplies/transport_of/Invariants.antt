use Rattle.std.proofs.Common.{◌≡◌, map, take}
use Rattle.ftp_transport.specs.Memory.{nothing_asked}
use Rattle.ftp_script.specs.Playing.{supply_of}
use Rattle.ftp_script.proofs.supplies.transport_of.Given as goal

abbrev pub invariant-loop-data_conn : goal.invariant-loop-data_conn
invariant-loop-data_conn l = l.transport ≡ record nothing_asked { ready = map supply_of (take l.data_conn-index l.data_conns) }
