-- What the writes of a block do.
use Rattle.std.specs.Prelude.{◌≡◌, ◌≢◌, ◌⊎◌, ℕ, ◌<◌, Bool, List, Option, Some, true, false, Result, IsSome, Contains}
use Rattle.bank_trait.specs.declared.Failed.{Failed}
use Rattle.bank_trait.specs.Disk.{Disk, Wrote}
use Rattle.reflow_mark.specs.declared.reflow.Reflow.{Reflow}
use Rattle.row_layout.specs.Layout.{Layout}
use Rattle.shadow_write.specs.declared.write.Write.{Write}
use Rattle.shadow_write.specs.Writes.{AreRequired}
use Rattle.reconstruct.specs.Rows.{Rows, column_at, IsEncoded}
use Rattle.uberblock_ring.specs.Devices.{has_device}
use Rattle.core_state.specs.Committing.{Point, Called}
use Rattle.core_state.specs.SpotReads.{IsPassedOrRead}
use Rattle.core_state.specs.declared.spot.Spot.{Spot}
use Rattle.core_client.specs.Pool.{IsInPool}
use Rattle.shadow_write.specs.Band.{IsFrontOf}

-- The write's column is one of the rows', and its place is on the bank, if its device isn't out.
pub record IsOnBank (rows : Rows) (out : ℕ) (disk : Disk) (write : Write) : Type 0 where
  pub row : write.row < rows.rows
  pub column : write.column < rows.cols
  pub device : has_device out write.device ≡ false → write.device < disk.devices
  pub few : write.device < 64
  pub device_sector : write.device_sector < disk.sectors

-- the bytes that a write takes to its place
abbrev pub bytes_of : Rows → Write → List ℕ
bytes_of rows write = column_at rows write.row write.column

-- The write was made, and its device is out from then on where it failed.
pub record IsMade (rows : Rows) (write : Write) (before after : Point) : Type 0 where
  pub result : Result (Unit {0}) Failed
  pub wrote : Wrote before.disk after.disk write.device write.device_sector (bytes_of rows write)
      result
  pub called : Called write.device result before after

-- On a device that is out nothing happens; else the write is made.
abbrev pub IsPassedOrMade : Rows → Write → Point → Point → Type 0
IsPassedOrMade rows write before after =
    ((has_device before.out write.device ≡ true) × (after ≡ before))
    ⊎ IsMade rows write before after

-- the place of a write
abbrev pub spot_written : Write → Spot
spot_written write = record { device = write.device; device_sector = write.device_sector }

-- The place of a write was read, unless its device is out, and it was told whether it reads otherwise than the column
-- that the write takes there.
pub record ChecksPlace (rows : Rows) (write : Write) (otherwise : Bool) (before after : Point) : Type 0 where
  pub given : Option (List ℕ)
  pub read : IsPassedOrRead (spot_written write) given before after
  pub differs : otherwise ≡ true → (bytes : List ℕ) × (given ≡ Some bytes) × (bytes ≢ bytes_of rows write)
  pub same : otherwise ≡ false → (bytes : List ℕ) → given ≡ Some bytes → bytes ≡ bytes_of rows write

-- the places that some writes go to, on devices that aren't out
abbrev pub IsPlaceOf : List Write → ℕ → ℕ → ℕ → Type 0
IsPlaceOf writes out device device_sector =
    (write : Write) × Contains writes write × (has_device out write.device ≡ false)
    × (device ≡ write.device) × (device_sector ≡ write.device_sector)

-- The bank tells what stands where the writes go, on devices that aren't out.
abbrev pub TellsAt : List Write → ℕ → Disk → Type 0
TellsAt writes out disk = (write : Write) → Contains writes write
    → has_device out write.device ≡ false
    → IsSome (disk.reads write.device write.device_sector)

-- The writes are those of a block of these bytes, whose columns the rows hold.
pub record IsPlanOf (layout : Layout) (reflow : Reflow) (done : ℕ) (bytes : List ℕ) (rows : Rows)
    (writes : List Write) : Type 0 where
  pub pool : IsInPool layout reflow
  pub front : IsFrontOf reflow done
  pub encoded : IsEncoded layout bytes rows
  pub required : AreRequired layout reflow done writes
