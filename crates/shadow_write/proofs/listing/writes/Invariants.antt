use Rattle.std.proofs.Common.{◌≡◌}
use Rattle.shadow_write.specs.Writes.{writes_of_rows}
use Rattle.shadow_write.proofs.listing.writes.Given as goal

-- The writes of the rows so far.
abbrev pub invariant-loop-row : goal.invariant-loop-row
invariant-loop-row l = l.writes.items ≡ writes_of_rows l.layout l.reflow l.done l.row
