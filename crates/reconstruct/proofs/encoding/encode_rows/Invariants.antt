use Rattle.std.proofs.Common.{◌≡◌, ℕ, ◌+◌, ◌*◌, ◌<◌, [], get_or}
use Rattle.row_layout.specs.Layout.{columns_of}
use Rattle.reconstruct.specs.Columns.{column_bytes}
use Rattle.reconstruct.proofs.encoding.encode_rows.Given as goal

-- the rows so far
abbrev pub invariant-loop-row : goal.invariant-loop-row
invariant-loop-row l =
    (row column : ℕ) → row < l.row → column < columns_of l.layout
    → get_or l.columns (row * columns_of l.layout + column) [] ≡ column_bytes l.layout l.bytes row column
