use Rattle.std.proofs.Common.{take}
use Rattle.range_locks.specs.Holds.{IsFirstSharedFrom}
use Rattle.range_locks.proofs.find.first_shared_from.Given as goal

-- Of the holds so far, this is the lowest start.
abbrev pub invariant-loop-hold : goal.invariant-loop-hold
invariant-loop-hold l = IsFirstSharedFrom (take l.hold-index l.holds) l.from l.first
