use Rattle.std.proofs.Common.{◌+◌, ◌≤◌, take}
use Rattle.range_locks.specs.declared.hold.HoldKind.TheVariants.{Exclusive}
use Rattle.range_locks.specs.Holds.{IsClear}
use Rattle.range_locks.proofs.place.first_overlap.Given as goal

-- None of the holds so far overlaps the range, and each was looked at once.
abbrev pub invariant-loop-hold : goal.invariant-loop-hold
invariant-loop-hold g l = record {
  clear : IsClear (take l.hold-index l.holds) l.lo l.hi Exclusive;
  steps : l.steps ≤ l.fn.steps + l.hold-index;
}
