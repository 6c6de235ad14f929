use Rattle.std.proofs.Common.{◌≡◌, ℕ, ◌<◌, length}
use Rattle.std.specs.Prelude.{slice_index, ◌||◌}
use Rattle.gf_solve.specs.Row.{is_masked}
use Rattle.row_layout.specs.Layout.{columns_in, end_of, sector_of}
use Rattle.reconstruct.specs.Suspects.{is_suspect}
use Rattle.reconstruct.proofs.masking.with_suspect.Given as goal

-- the rows so far
abbrev pub invariant-loop-row : goal.invariant-loop-row
invariant-loop-row l = record {
  long : length l.masks.items ≡ l.row;
  value : (row column : ℕ) → row < l.row → column < columns_in l.layout row
      → is_masked (slice_index l.masks.items row) column ≡ (is_masked (slice_index l.lost row) column
      || is_suspect (end_of l.layout row) (sector_of l.layout row column) l.pair);
}
