use Rattle.std.proofs.Common.{◌≡◌, ℕ, ◌*◌, ◌<◌, ◌≤◌, [], get_or}
use Rattle.std.specs.Prelude.{slice_index}
use Rattle.row_layout.specs.Layout.{columns_of}
use Rattle.reconstruct.specs.SolvedRow.{columns_at, IsSolvedRow}
use Rattle.reconstruct.proofs.decoding.solve_rows.Given as goal

-- the rows so far are solved, the others are as they were
abbrev pub invariant-loop-row : goal.invariant-loop-row
invariant-loop-row l = record {
  solved : (row : ℕ) → row < l.row
      → IsSolvedRow l.layout row (slice_index l.lost row) (columns_at l.layout l.fn.columns row) (columns_at l.layout l.columns row);
  later : (place : ℕ) → l.row * columns_of l.layout ≤ place → get_or l.columns place [] ≡ get_or l.fn.columns place [];
}
