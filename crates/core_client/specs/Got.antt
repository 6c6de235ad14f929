-- What a reading has of a block's columns.
use Rattle.std.specs.Prelude.{◌≡◌, ◌≢◌, ◌⊎◌, ℕ, ◌<◌, List, length, slice_index, Bool, Option, Some, None, if◌then◌else◌}
use Rattle.gf_solve.specs.Row.{is_masked}
use Rattle.row_layout.specs.Layout.{Layout, rows_of}
use Rattle.reconstruct.specs.Rows.{IsShaped, column_at}
use Rattle.reconstruct.specs.Lost.{HasTooFew}
use Rattle.core_state.specs.Committing.{Point}
use Rattle.core_client.specs.declared.columns_read.ColumnsRead.{ColumnsRead}
use Rattle.core_state.specs.declared.spot.Spot.{Spot}
use Rattle.core_state.specs.SpotReads.{IsPassedOrRead}

-- The reading has not got this column.
abbrev pub has_lost : ColumnsRead → ℕ → ℕ → Bool
has_lost read row column = is_masked (slice_index read.lost.items row) column

-- what it has of a column
abbrev pub got_of : ColumnsRead → ℕ → ℕ → Option (List ℕ)
got_of read row column =
    if has_lost read row column then None else Some (column_at read.rows row column)

-- It has the rows and columns of the layout, and a mask for each row.
pub record IsShapedAs (layout : Layout) (read : ColumnsRead) : Type 0 where
  pub rows : IsShaped layout read.rows
  pub masks : length read.lost.items ≡ rows_of layout

-- One column was put in, and all others are as they were.
pub record HasPut (row column : ℕ) (got : Option (List ℕ)) (old new : ColumnsRead) : Type 0 where
  pub rows : new.rows.rows ≡ old.rows.rows
  pub cols : new.rows.cols ≡ old.rows.cols
  pub masks : length new.lost.items ≡ length old.lost.items
  pub here : got_of new row column ≡ got
  pub others : (other_row other : ℕ) → other_row < old.rows.rows → other < old.rows.cols
      → (other_row ≢ row) ⊎ (other ≢ column)
      → got_of new other_row other ≡ got_of old other_row other

-- A spot was read, or passed over, and what that gave was put in one column.
pub record HasReadColumn (spot : Spot) (row column : ℕ) (old : ColumnsRead) (here : Point) (new : ColumnsRead)
    (there : Point) : Type 0 where
  pub given : Option (List ℕ)
  pub read : IsPassedOrRead spot given here there
  pub put : HasPut row column given old new

-- No row has lost more columns than it has parity.
pub record HasLostFew (layout : Layout) (read : ColumnsRead) : Type 0 where
  pub each : (row : ℕ) → row < rows_of layout → HasTooFew layout read.lost.items row → ⊥
