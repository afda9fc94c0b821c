use Rattle.std.proofs.Common.{◌≡◌, drop}
use Rattle.ftp_dialogue.proofs.unsent.Unsent.advance.Given as goal

abbrev pub invariant-loop : goal.invariant-loop
invariant-loop l = l.self ≡ drop l.counter l.fn.self
