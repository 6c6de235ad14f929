-- What the columns of a block that is right hold.
use Rattle.std.proofs.Common.{◌≡◌, ℕ, List, Bool, true, false, Some, refl, ap}
use Rattle.std.specs.Prelude.{◌&&◌}
use Rattle.bank_trait.specs.Disk.{Known}
use Rattle.reflow_mark.specs.declared.reflow.Reflow.{Reflow}
use Rattle.row_layout.specs.declared.column.Part.TheVariants.{Missing}
use Rattle.row_layout.specs.Layout.{Layout, IsColumn, sector_of, end_of, part_of}
use Rattle.shadow_write.specs.Required.{IsFrontIn}
use Rattle.reconstruct.specs.Columns.{zero_sector, part_bytes, column_bytes}
use Rattle.uberblock_ring.specs.Devices.{has_device}
use Rattle.core_state.specs.Whole.{Cell, Excepted}
use Rattle.core_client.specs.Pool.{IsInPool, IsRightBlock}
use Rattle.core_client.specs.BlockTurns.{MayBeWrong}
use Rattle.core_client.specs.Reading.{spot_of}
use Rattle.core_client.proofs.Spots.{spot_required}

and_false : (b : Bool) → (b && false) ≡ false
and_false true = refl
and_false false = refl

-- A column of a block that is right is told where it is read, while the device is in use and it may not be wrong there.
pub told_there : (layout : Layout) (reflow : Reflow) (done : ℕ) (known : Known) (out : ℕ) (bytes : List ℕ) (row column : ℕ)
    → (wrong : Excepted) → IsInPool layout reflow → IsFrontIn reflow.state reflow done
    → IsRightBlock layout bytes reflow done known out wrong → IsColumn layout row column
    → (MayBeWrong layout reflow wrong row column → ⊥) → has_device out (spot_of layout reflow row column).device ≡ false
    → known (spot_of layout reflow row column).device (spot_of layout reflow row column).device_sector ≡ Some (column_bytes layout bytes row column)
told_there layout reflow done known out bytes row column wrong pool front right there not_wrong used =
    let cell : Cell = record { sector = sector_of layout row column; row_end = end_of layout row; bytes = column_bytes layout bytes row column } in
    (right.each cell (record { row = row; column = column; there = there; sector = refl; row_end = refl; bytes = refl })).at
    (spot_of layout reflow row column).device (spot_of layout reflow row column).device_sector
    (spot_required layout reflow done row column pool there front) used not_wrong

-- What is missing counts as zeros.
pub missing_bytes : (layout : Layout) (bytes : List ℕ) (row column : ℕ) → part_of layout row column ≡ Missing
    → column_bytes layout bytes row column ≡ zero_sector
unfolding column_bytes
missing_bytes layout bytes row column missing = ap (part_bytes layout bytes row) missing
