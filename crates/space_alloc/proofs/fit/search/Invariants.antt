use Rattle.std.proofs.Common.{◌+◌, ◌≤◌}
use Rattle.space_alloc.specs.Fit.{HasWalked, first_run, left_of, steps_to}
use Rattle.space_alloc.proofs.fit.search.Given as goal

-- The walk has come so far, in the steps that lead there.
abbrev pub invariant-loop-walk : goal.invariant-loop-walk
invariant-loop-walk g l = record {
  walked : HasWalked l.edges l.shared l.exclusive l.capacity l.len l.walk;
  steps : l.steps ≤ l.fn.steps + first_run l.edges l.capacity + steps_to l.walk;
}

abbrev pub decreases-loop-walk : goal.decreases-loop-walk
decreases-loop-walk g l = left_of l.edges l.shared l.exclusive l.capacity l.walk
