use Rattle.std.proofs.Common.{◌-◌, length}
use Rattle.range_locks.specs.Order.{IsBetween, LeavesDigits}
use Rattle.range_locks.proofs.place.place.Given as goal

-- The place is between these two, and is found in the steps that are left.
abbrev pub invariant-loop-low : goal.invariant-loop-low
invariant-loop-low g l = record {
  between : IsBetween l.holds l.bound l.low l.high;
  steps : LeavesDigits (length l.holds) l.low l.high l.fn.steps l.steps;
}

abbrev pub decreases-loop-low : goal.decreases-loop-low
decreases-loop-low g l = l.high - l.low
