use Rattle.std.proofs.Common.{take}
use Rattle.range_locks.specs.Holds.{IsFirst}
use Rattle.range_locks.proofs.find.blocker.Given as goal

-- Of the holds so far, this is the first in the way.
abbrev pub invariant-loop-hold : goal.invariant-loop-hold
invariant-loop-hold l = IsFirst (take l.hold-index l.holds) l.lo l.hi l.kind l.first
