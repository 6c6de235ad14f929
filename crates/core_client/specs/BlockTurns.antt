-- A block that is written or read one device call at a time.
use Rattle.std.specs.Prelude.{◌≡◌, ◌⊎◌, ℕ, ◌+◌, ◌<◌, ◌≤◌, List, slice_get, Option, Some, None, Contains, true, false}
use Rattle.bank_trait.specs.Disk.{Known}
use Rattle.reflow_mark.specs.declared.reflow.Reflow.{Reflow}
use Rattle.row_layout.specs.Layout.{Layout, IsLayout, IsColumn, rows_of, columns_of, columns_in, sector_of}
use Rattle.shadow_write.specs.declared.write.Write.{Write}
use Rattle.reconstruct.specs.Columns.{zero_sector, column_bytes}
use Rattle.reconstruct.specs.Rows.{Rows}
use Rattle.uberblock_ring.specs.Devices.{has_device}
use Rattle.core_state.specs.Committing.{Point}
use Rattle.core_state.specs.Whole.{Excepted}
use Rattle.core_client.specs.declared.columns_read.ColumnsRead.{ColumnsRead}
use Rattle.core_client.specs.Reading.{spot_of}
use Rattle.core_client.specs.Writing.{bytes_of, IsPlanOf}
use Rattle.core_client.specs.Got.{got_of, has_lost, HasReadColumn, IsShapedAs}

-- ---- writes

-- a block's columns, the places that they go to, and how many of these were written or passed over
pub record BlockWrite : Type 0 where
  pub rows : Rows
  pub writes : List Write
  pub next : ℕ

-- The writes are those of a block of these bytes, and what the first ones put on devices in use stands
-- there.
pub record IsWrittenSoFar (layout : Layout) (bytes : List ℕ) (reflow : Reflow) (done : ℕ)
    (known : Known) (out : ℕ) (run : BlockWrite) : Type 0 where
  pub plan : IsPlanOf layout reflow done bytes run.rows run.writes
  pub held : (number : ℕ) (write : Write) → number < run.next
      → slice_get run.writes number ≡ Some write → has_device out write.device ≡ false
      → known write.device write.device_sector ≡ Some (bytes_of run.rows write)

-- ---- reads

-- what was read of a block, and the column that comes next
pub record BlockRead : Type 0 where
  pub layout : Layout
  pub read : ColumnsRead
  pub row : ℕ
  pub column : ℕ

-- The next column is one of the block's, or all rows were passed.
pub record IsAtColumn (run : BlockRead) : Type 0 where
  pub is : IsLayout run.layout
  pub shape : IsShapedAs run.layout run.read
  pub row_in : run.row ≤ rows_of run.layout
  pub column_in : run.row < rows_of run.layout → run.column < columns_in run.layout run.row
  pub first : run.row ≡ rows_of run.layout → run.column ≡ 0
  pub unlost : (row column : ℕ) → row < rows_of run.layout → column < columns_of run.layout
      → (run.row < row) ⊎ ((run.row ≡ row) × (run.column ≤ column))
      → has_lost run.read row column ≡ false

-- The column comes before the next one.
abbrev pub IsPassedColumn : BlockRead → ℕ → ℕ → Type 0
IsPassedColumn run row column = (row < run.row) ⊎ ((row ≡ run.row) × (column < run.column))

-- Nothing was read yet: all columns are zeros.
pub record IsReadBegun (layout : Layout) (run : BlockRead) : Type 0 where
  pub layout_is : run.layout ≡ layout
  pub first : (run.row ≡ 0) × (run.column ≡ 0)
  pub zero : (row column : ℕ) → row < rows_of layout → column < columns_of layout
      → got_of run.read row column ≡ Some zero_sector

-- The column behind the next one in its row comes next, or the first one of the row after it.
pub record GoesOneOn (before after : BlockRead) : Type 0 where
  pub layout_is : after.layout ≡ before.layout
  pub next : ((before.column + 1 < columns_in before.layout before.row)
      × (after.row ≡ before.row) × (after.column ≡ before.column + 1))
      ⊎ ((columns_in before.layout before.row ≤ before.column + 1)
      × (after.row ≡ before.row + 1) × (after.column ≡ 0))

-- The next column was read where its row stands, or passed over, and what that gave is put in its place.
pub record ReadsColumn (reflow : Reflow) (before : BlockRead) (here : Point) (after : BlockRead)
    (there : Point) : Type 0 where
  pub column : HasReadColumn (spot_of before.layout reflow before.row before.column) before.row before.column
      before.read here after.read there
  pub on : GoesOneOn before after

-- The sector of a column may be wrong where its row stands.
abbrev pub MayBeWrong : Layout → Reflow → Excepted → ℕ → ℕ → Type 0
MayBeWrong layout reflow wrong row column = Contains wrong (
  sector_of layout row column,
  ((spot_of layout reflow row column).device, (spot_of layout reflow row column).device_sector),
)

-- A column is the block's, unless it may be wrong, or was lost with its device.
abbrev pub IsColumnOf : Layout → List ℕ → Reflow → ℕ → Excepted → ℕ → ℕ → Option (List ℕ) → Type 0
IsColumnOf layout bytes reflow out wrong row column None =
    has_device out (spot_of layout reflow row column).device ≡ true
IsColumnOf layout bytes reflow out wrong row column (Some got) =
    (MayBeWrong layout reflow wrong row column → ⊥) → got ≡ column_bytes layout bytes row column

-- What was read so far are columns of a block of these bytes, and all others are zeros.
pub record IsReadSoFar (bytes : List ℕ) (reflow : Reflow) (out : ℕ) (wrong : Excepted) (run : BlockRead) : Type 0 where
  pub got : (row column : ℕ) → IsColumn run.layout row column → IsPassedColumn run row column
      → IsColumnOf run.layout bytes reflow out wrong row column (got_of run.read row column)
  pub missing : (row column : ℕ) → row < rows_of run.layout → columns_in run.layout row ≤ column
      → column < columns_of run.layout → got_of run.read row column ≡ Some zero_sector
