-- Which bytes are written where a group is brought to devices.
use Rattle.std.specs.Prelude.{◌≡◌, ◌⊎◌, ℕ, ◌+◌, ◌<◌, ◌≤◌, List, true, false, Contains}
use Rattle.bank_trait.specs.Disk.{Image, Disk, Later, MayLeave, LeftSince}
use Rattle.block_record.specs.declared.entry.IndexEntry.{IndexEntry}
use Rattle.block_record.specs.Page.{page_sectors}
use Rattle.uberblock_ring.specs.Devices.{has_device}
use Rattle.uberblock_ring.specs.Uberblock.{Uber, encoded, slot_of, area_sector}
use Rattle.core_commit.specs.Ran.{index_part}

-- The bytes are the uberblock's for this device, in the slot of its group. The device is one of the pool that
-- lacks it and isn't out.
pub record IsSpreadUber (uber : Uber) (lacking out device device_sector : ℕ) (bytes : List ℕ) : Type 0
  where
    pub below : device < uber.reflow.to
    pub lacks : has_device lacking device ≡ true
    pub used : has_device out device ≡ false
    pub slot : device_sector ≡ slot_of uber.group
    pub bytes_are : bytes ≡ encoded uber device

-- The bytes are those of one sector of the index page, in its place in the group's index area. The device is one
-- of the pool that lacks the page and isn't out.
pub record IsSpreadPage (uber : Uber) (entries : List IndexEntry) (lacking out device device_sector : ℕ)
    (bytes : List ℕ) : Type 0 where
  pub below : device < uber.reflow.to
  pub lacks : has_device lacking device ≡ true
  pub used : has_device out device ≡ false
  pub part : ℕ
  pub inside : part < page_sectors uber.count
  pub place : device_sector ≡ area_sector uber.area + part
  pub bytes_are : bytes ≡ index_part entries part

-- The bytes are of this group's uberblock, or of its index page.
abbrev pub IsSpreadOf : Uber → List IndexEntry → ℕ → ℕ → ℕ → ℕ → ℕ → List ℕ → Type 0
IsSpreadOf uber entries lack_page lack_uber out device device_sector bytes =
    IsSpreadUber uber lack_uber out device device_sector bytes
    ⊎ IsSpreadPage uber entries lack_page out device device_sector bytes

-- Nothing was written but bytes that have P in the sector where they were written; what was written before may
-- have been synced. A crash at any moment since leaves what one could have left at first, but in sectors where
-- some bytes have P. At each moment since, a sector could hold no bytes but those that have P there and those
-- that it could hold at first.
pub record WritesOnly (P : ℕ → ℕ → List ℕ → Type 0) (old new : Disk) : Type 0 where
  pub later : Later old new
  pub crash : (image : Image) → LeftSince old.clock new image → (was : Image) × MayLeave old was
      × ((device device_sector : ℕ) → ((bytes : List ℕ) → P device device_sector bytes → ⊥)
      → image device device_sector ≡ was device device_sector)
  pub could : (moment device device_sector : ℕ) (bytes : List ℕ) → old.clock ≤ moment → moment ≤ new.clock
      → Contains (new.could moment device device_sector) bytes
      → P device device_sector bytes ⊎ Contains (old.could old.clock device device_sector) bytes
