use Rattle.std.proofs.Common.{◌≡◌, ◌≤◌}
use Rattle.std.specs.Prelude.{replicate, vec_len}
use Rattle.std.specs.Vec.{vec_capacity}
use Rattle.reconstruct.specs.Columns.{zero_sector}
use Rattle.reconstruct.proofs.sectors.zero_columns.Given as goal

abbrev pub invariant-loop-column : goal.invariant-loop-column
invariant-loop-column l = (l.columns.items ≡ replicate l._column zero_sector) × (vec_len l.columns ≡ l._column) × (l.count ≤ vec_capacity l.columns)
