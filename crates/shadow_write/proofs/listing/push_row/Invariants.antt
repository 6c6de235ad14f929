use Rattle.std.proofs.Common.{◌≡◌, ◌++◌}
use Rattle.shadow_write.specs.Writes.{row_writes}
use Rattle.shadow_write.proofs.listing.push_row.Given as goal

-- The writes of the columns so far stand after those that were there.
abbrev pub invariant-loop-column : goal.invariant-loop-column
invariant-loop-column l = l.writes.items ≡ l.fn.writes.items ++ row_writes l.layout l.reflow l.done l.row l.column
