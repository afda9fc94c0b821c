use Rattle.std.proofs.Common.{rules}
use Rattle.ftp_transport.proofs.Asking.{asked_beside}
use Rattle.ftp_transport.proofs.memory_transport.MemoryTransportTransport.accept.Goals as goal

pub invariant_of-self-2 : goal.invariant_of-self-2
invariant_of-self-2 g c = search (rules, asked_beside)
