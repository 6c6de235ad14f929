use Rattle.space_alloc.specs.Edges.{HasReleased}
use Rattle.space_alloc.proofs.Releasing.{released}
use Rattle.space_alloc.proofs.edges.flip_until.Given as goal

-- Of the runs so far those that are left have their edges.
abbrev pub invariant-loop-run : goal.invariant-loop-run
invariant-loop-run l = HasReleased l.held (released l.group l.held l.run-index) l.fn.edges l.edges
