-- A row of a block whose lost content was solved.
use Rattle.std.specs.Prelude.{◌≡◌, ℕ, ◌-◌, ◌*◌, ◌<◌, ◌≤◌, List, [], take, drop, slice_index, slice_index_or, false}
use Rattle.gf_parity.specs.Parity.{parity_column}
use Rattle.gf_solve.specs.Row.{is_masked, count_lost}
use Rattle.gf_solve.specs.Serving.{Serves}
use Rattle.row_layout.specs.Layout.{Layout, rows_of, columns_of, columns_in}
use Rattle.reconstruct.specs.Columns.{zero_sector, column_bytes}
use Rattle.reconstruct.specs.Lost.{AreBytes}

-- the columns of a row, in a list of rows
abbrev pub columns_at : Layout → List (List ℕ) → ℕ → List (List ℕ)
columns_at layout columns row = take (columns_of layout) (drop (row * columns_of layout) columns)

-- The parity column serves for solving the row, by a mask of what is lost.
abbrev pub ServesBy : Layout → ℕ → ℕ → ℕ → Type 0
ServesBy layout row mask which =
    Serves (is_masked mask) layout.parity
    (count_lost (is_masked mask) layout.parity (columns_in layout row - layout.parity)) which

-- The content columns that are there and the parity that serves are those of these bytes.
pub record HoldsColumnsOf (layout : Layout) (row mask : ℕ) (read : List (List ℕ)) (bytes : List ℕ)
    : Type 0 where
  pub content : (column : ℕ) → layout.parity ≤ column → column < columns_in layout row
      → is_masked mask column ≡ false
      → slice_index_or read column [] ≡ column_bytes layout bytes row column
  pub parity : (which : ℕ) → ServesBy layout row mask which
      → slice_index_or read which [] ≡ column_bytes layout bytes row which

-- Content that was there stays, missing columns are zeros, and the parity that serves is that of the
-- content. The content of whatever bytes the columns are read of is there again.
pub record IsSolvedRow (layout : Layout) (row mask : ℕ) (read solved : List (List ℕ)) : Type 0 where
  pub kept : (column : ℕ) → layout.parity ≤ column → column < columns_in layout row
      → is_masked mask column ≡ false
      → slice_index_or solved column [] ≡ slice_index_or read column []
  pub missing : (column : ℕ) → columns_in layout row ≤ column → column < columns_of layout
      → slice_index_or solved column [] ≡ zero_sector
  pub fits : (which : ℕ) → ServesBy layout row mask which
      → slice_index_or read which [] ≡ parity_column which (drop layout.parity solved)
  pub told : (bytes : List ℕ) → AreBytes bytes → HoldsColumnsOf layout row mask read bytes
      → (column : ℕ) → layout.parity ≤ column → column < columns_of layout
      → slice_index_or solved column [] ≡ column_bytes layout bytes row column

-- Each row was solved, by its mask.
pub record AreSolved (layout : Layout) (masks : List ℕ) (read solved : List (List ℕ)) : Type 0 where
  pub each : (row : ℕ) → row < rows_of layout
      → IsSolvedRow layout row (slice_index masks row) (columns_at layout read row)
      (columns_at layout solved row)
