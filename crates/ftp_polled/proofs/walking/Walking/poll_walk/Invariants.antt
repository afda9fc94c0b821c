use Rattle.futures.specs.Task.{Keeps}
use Rattle.ftp_polled.proofs.walking.Walking.poll_walk.Given as goal

-- what the task had registered stays
abbrev pub invariant-loop : goal.invariant-loop
invariant-loop g l = Keeps l.fn.cx l.cx
