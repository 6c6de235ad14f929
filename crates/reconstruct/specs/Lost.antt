-- What is lost of a block, by a mask of columns for each row.
use Rattle.std.specs.Prelude.{◌≡◌, ℕ, ◌<◌, List, slice_index, Bool, false, ◌&&◌, nat_lt}
use Rattle.gf_solve.specs.Row.{is_masked, count_lost}
use Rattle.row_layout.specs.Layout.{Layout, rows_of, columns_of, columns_in}
use Rattle.reconstruct.specs.Columns.{column_bytes}
use Rattle.reconstruct.specs.Rows.{Rows, column_at}

-- The row's mask has the column, and it isn't missing.
abbrev pub is_lost_at : Layout → List ℕ → ℕ → ℕ → Bool
is_lost_at layout masks row column =
    nat_lt column (columns_in layout row) && is_masked (slice_index masks row) column

-- More columns of the row are lost than there is parity.
abbrev pub HasTooFew : Layout → List ℕ → ℕ → Type 0
HasTooFew layout masks row =
    layout.parity < count_lost (is_masked (slice_index masks row)) 0 (columns_in layout row)

-- No row before has too few columns left.
pub record IsFirstTooFew (layout : Layout) (masks : List ℕ) (row : ℕ) : Type 0 where
  pub row_in : row < rows_of layout
  pub here : HasTooFew layout masks row
  pub first : (earlier : ℕ) → earlier < row → HasTooFew layout masks earlier → ⊥

-- The columns that aren't lost hold what the layout puts there.
pub record IsLeftOver (layout : Layout) (bytes : List ℕ) (rows : Rows) (masks : List ℕ) : Type 0
  where
    pub there : (row column : ℕ) → row < rows_of layout → column < columns_of layout
        → is_lost_at layout masks row column ≡ false
        → column_at rows row column ≡ column_bytes layout bytes row column

-- numbers that are bytes
abbrev pub AreBytes : List ℕ → Type 0
AreBytes bytes = (at : ℕ) → slice_index bytes at < 256
