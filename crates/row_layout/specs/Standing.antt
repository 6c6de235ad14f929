-- What holds of every block's layout.
use Rattle.std.specs.Prelude.{◌≡◌, ℕ, ◌^◌, ◌<◌, ◌≤◌}
use Rattle.row_layout.specs.declared.column.Part.TheVariants.{Content}
use Rattle.row_layout.specs.Layout.{Layout, IsLayout, IsColumn, rows_of, columns_of, left_over, part_of, whole_rows}

-- Layouts that can be made: the start of a block, its size and its width have limits.
pub record IsWithinLimits (layout : Layout) : Type 0 where
  pub is : IsLayout layout
  pub start : layout.start < 2 ^ 54
  pub sectors : layout.sectors ≤ 128
  pub parity : layout.parity ≤ 3
  pub width : layout.width ≤ 64

-- Beside a layout within these limits stand its whole rows, and the content behind them.
pub record KeepsRows (layout : Layout) (whole left : ℕ) : Type 0 where
  pub within : IsWithinLimits layout
  pub whole_is : whole ≡ whole_rows layout
  pub left_is : left ≡ left_over layout

-- Of all columns of all rows this one alone holds the content sector.
pub record IsOnlyPlace (layout : Layout) (content row column : ℕ) : Type 0 where
  pub within : IsColumn layout row column
  pub here : part_of layout row column ≡ Content content
  pub only : (other_row other_column : ℕ) → other_row < rows_of layout
      → other_column < columns_of layout → part_of layout other_row other_column ≡ Content content
      → (other_row ≡ row) × (other_column ≡ column)

-- The content sector stands in one column of one row.
pub record StandsOnce (layout : Layout) (content : ℕ) : Type 0 where
  pub row : ℕ
  pub column : ℕ
  pub place : IsOnlyPlace layout content row column
