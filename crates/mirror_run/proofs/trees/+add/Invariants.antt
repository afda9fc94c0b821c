use Rattle.mirror_run.proofs.trees.+add.Given as goal

abbrev pub decreases-add : goal.decreases-add
decreases-add l = l.depth

abbrev pub invariant-loop-path : goal.invariant-loop-path
invariant-loop-path l =
    goal.iterator-loop-path.can_next l.path-iterator ×
    goal.iterator-loop-path.is_finite l.path-iterator
