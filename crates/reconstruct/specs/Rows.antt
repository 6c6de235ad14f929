-- The columns of a block's rows.
use Rattle.std.specs.Prelude.{◌≡◌, ◌≢◌, ◌⊎◌, ℕ, ◌+◌, ◌*◌, ◌/◌, ◌<◌, ◌≤◌, List, [], length, slice_index, slice_index_or}
use Rattle.std.specs.Prelude.{slice_set}
use Rattle.row_layout.specs.declared.column.Part.TheVariants.{Content}
use Rattle.row_layout.specs.Layout.{Layout, IsColumn, rows_of, columns_of, part_of}
use Rattle.reconstruct.specs.Columns.{column_bytes}

-- as many columns in each row; row after row they stand in one list
pub record Rows : Type 0 where
  pub rows : ℕ
  pub cols : ℕ
  pub columns : List (List ℕ)

-- what stands in a column of a row
abbrev pub column_at : Rows → ℕ → ℕ → List ℕ
column_at rows row column = slice_index_or rows.columns (row * rows.cols + column) []

-- Each column has 512 bytes.
abbrev pub AreWide : List (List ℕ) → Type 0
AreWide columns = (place : ℕ) → place < length columns
    → length (slice_index_or columns place []) ≡ 512

-- The list has as many columns as the rows, each of 512 bytes.
pub record AreFull (rows : Rows) : Type 0 where
  pub count : length rows.columns ≡ rows.rows * rows.cols
  pub wide : AreWide rows.columns

-- these rows with other bytes in one column
abbrev pub with_column : Rows → ℕ → ℕ → List ℕ → Rows
with_column rows row column bytes =
    record { rows = rows.rows; cols = rows.cols; columns = slice_set rows.columns (row * rows.cols + column) bytes }

-- One column holds these bytes then, and each other what it held.
pub record IsColumnWritten (row column : ℕ) (bytes : List ℕ) (old new : Rows) : Type 0 where
  pub rows : new.rows ≡ old.rows
  pub cols : new.cols ≡ old.cols
  pub here : column_at new row column ≡ bytes
  pub others : (other_row other : ℕ) → other_row < old.rows → other < old.cols → (other_row ≢ row) ⊎ (other ≢ column)
      → column_at new other_row other ≡ column_at old other_row other

-- The rows and columns are as many as the layout has.
pub record IsShaped (layout : Layout) (rows : Rows) : Type 0 where
  pub rows_are : rows.rows ≡ rows_of layout
  pub cols_are : rows.cols ≡ columns_of layout

-- Each column holds what the layout puts there of these bytes.
pub record IsEncoded (layout : Layout) (bytes : List ℕ) (rows : Rows) : Type 0 where
  pub shape : IsShaped layout rows
  pub holds : (row column : ℕ) → row < rows_of layout → column < columns_of layout
      → column_at rows row column ≡ column_bytes layout bytes row column

-- sectors that so many bytes fill, the last one perhaps in part
abbrev pub sectors_for : ℕ → ℕ
sectors_for len = (len + 511) / 512

-- The content columns hold these bytes.
pub record HoldsContent (layout : Layout) (bytes : List ℕ) (rows : Rows) : Type 0 where
  pub content : (row column : ℕ) → IsColumn layout row column → layout.parity ≤ column
      → column_at rows row column ≡ column_bytes layout bytes row column

-- Each byte stands in the content column of its sector.
pub record IsContent (layout : Layout) (rows : Rows) (bytes : List ℕ) : Type 0 where
  pub byte : (row column number at : ℕ) → IsColumn layout row column
      → part_of layout row column ≡ Content number → at < 512 → 512 * number + at < length bytes
      → slice_index bytes (512 * number + at) ≡ slice_index (column_at rows row column) at
