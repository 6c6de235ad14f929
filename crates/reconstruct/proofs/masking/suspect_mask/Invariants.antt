use Rattle.std.proofs.Common.{◌≡◌, ℕ, ◌<◌, ◌≤◌, false}
use Rattle.gf_solve.specs.Row.{is_masked}
use Rattle.row_layout.specs.Layout.{end_of, sector_of}
use Rattle.reconstruct.specs.Suspects.{is_suspect}
use Rattle.reconstruct.proofs.masking.suspect_mask.Given as goal

-- the columns so far, and none behind
abbrev pub invariant-loop-column : goal.invariant-loop-column
invariant-loop-column l = record {
  below : (k : ℕ) → k < l.column
      → is_masked l.mask k ≡ is_suspect (end_of l.layout l.row) (sector_of l.layout l.row k) l.pair;
  above : (k : ℕ) → l.column ≤ k → is_masked l.mask k ≡ false;
}
