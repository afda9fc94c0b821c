use Rattle.std.proofs.Common.{refl}
use Rattle.ftp_dialogue.proofs.machine.Machine.start.Goals as goal

pub returns-in-Fetch : goal.returns-in-Fetch
returns-in-Fetch g c = rw (c.go_to.ensures, c.new-none.ensures, c.in-Fetch.is) (refl, refl, refl)

pub returns-in-Store : goal.returns-in-Store
returns-in-Store g c = rw c.in-Store.is c.start_store.ensures
