use Rattle.ftp_polled.proofs.walking.Walking.poll_walk.Goals as goal

pub loop-init : goal.loop-init
loop-init g c = λ fact held. held

pub loop-preserved : goal.loop-preserved
loop-preserved g c = λ fact held. c.poll_step.ensures.kept fact (c.loop.invariant fact held)
