-- What is certain on the devices, and so in each image that a crash may leave.
use Rattle.std.specs.Prelude.{◌≡◌, ℕ, ◌+◌, ◌<◌, ◌≤◌, List, [], ◌∷◌, ◌++◌, length, Some, false, Contains, slice_get, All}
use Rattle.std.specs.Prelude.{AllPairs}
use Rattle.sha2.specs.Sha256.{sha256}
use Rattle.bank_trait.specs.Disk.{Image, Known, Disk}
use Rattle.shadow_write.specs.Required.{IsRequiredPlace, front_after_stop}
use Rattle.block_record.specs.Page.{page_sectors, index_page, IsIndex}
use Rattle.uberblock_ring.specs.Devices.{has_device, count_below, IsWithin}
use Rattle.uberblock_ring.specs.Uberblock.{Uber, encoded, slot_of, area_sector}
use Rattle.uberblock_ring.specs.Valid.{IsRightUber, AreAlike}
use Rattle.core_state.specs.Index.{IsFitting, IsIndexOf, IsListing}
use Rattle.core_state.specs.Shown.{Shape, read_devices}
use Rattle.core_state.specs.Whole.{Cell, IsCellOf}
use Rattle.core_state.specs.Keeps.{Kept, blocks_of, Setting, IsNextOf, IsNotOutvoted, HasWidthIn, HasDevices}
use Rattle.core_state.specs.Collision.{MightShow}

-- what a crash now leaves for certain, and what each sector could hold after one
abbrev pub certain : Disk → Known
certain disk = disk.leaves disk.clock

abbrev pub able : Disk → ℕ → ℕ → List (List ℕ)
able disk = disk.could disk.clock

-- A group asks for these bytes in this sector of this device.
pub record Asks (kept : Kept) (device device_sector : ℕ) (bytes : List ℕ) : Type 0 where
  pub cell : Cell
  pub cell_is : IsCellOf kept.uber.parity kept.uber.births kept.entries kept.others kept.map cell
  pub place : IsRequiredPlace kept.uber.reflow (front_after_stop kept.uber.reflow) cell.row_end
      cell.sector device device_sector
  pub bytes_are : cell.bytes ≡ bytes

-- What a group asks for on a device is known, but for what may be wrong of it.
pub record CellsOn (known : Known) (kept : Kept) (device : ℕ) : Type 0 where
  pub at : (device_sector : ℕ) (bytes : List ℕ) (asks : Asks kept device device_sector bytes)
      → (Contains kept.excepted (asks.cell.sector, (device, device_sector)) → ⊥)
      → known device device_sector ≡ Some bytes

-- pieces end to end
abbrev pub joined : List (List ℕ) → List ℕ
joined [] = []
joined (piece ∷ pieces) = piece ++ joined pieces

-- The group's index page is known on a device, sector by sector.
pub record PageOn (known : Known) (kept : Kept) (device : ℕ) : Type 0 where
  pub parts : List (List ℕ)
  pub counted : length parts ≡ page_sectors kept.uber.count
  pub each : (part : ℕ) (bytes : List ℕ) → slice_get parts part ≡ Some bytes
      → known device (area_sector kept.uber.area + part) ≡ Some bytes
  pub page : joined parts ≡ index_page kept.entries

-- An uberblock of the group is known in its slot on a device.
pub record SlotOn (known : Known) (kept : Kept) (device : ℕ) : Type 0 where
  pub uber : Uber
  pub right : IsRightUber uber
  pub alike : AreAlike uber kept.uber
  pub shown : known device (slot_of kept.uber.group) ≡ Some (encoded uber device)

-- A group's uberblock, index and map fit together, and the devices are large enough for it.
pub record IsSound (setting : Setting) (kept : Kept) : Type 0 where
  pub uber : Uber
  pub alike : AreAlike uber kept.uber
  pub right : IsRightUber uber
  pub pool_is : kept.uber.pool ≡ setting.pool
  pub room : 192 + kept.uber.reflow.rows ≤ setting.shape.sectors
  pub index : IsIndex kept.entries
  pub counted : length kept.entries ≡ kept.uber.count
  pub digest : sha256 (index_page kept.entries) ≡ kept.uber.digest
  pub none_else : kept.others ≡ []
  pub fitting : IsFitting kept.uber (blocks_of kept)
  pub indexes : IsIndexOf kept.entries kept.map

-- A slot that is read may come to show this uberblock.
pub record IsAble (shape : Shape) (disk : Disk) (device : ℕ) (uber : Uber) : Type 0 where
  pub device_in : device < read_devices shape
  pub slot_in : slot_of uber.group < shape.sectors
  pub right : IsRightUber uber
  pub could : Contains (able disk device (slot_of uber.group)) (encoded uber device)

-- An uberblock is that of one of these groups but for its out set, and what the group asks for is
-- certain on each device that it doesn't list as out.
pub record IsCertain (setting : Setting) (disk : Disk) (groups : List Kept) (uber : Uber) : Type 0
  where
    pub kept : Kept
    pub listed : Contains groups kept
    pub alike : AreAlike uber kept.uber
    pub listing : IsListing kept.entries kept.others uber.count
    pub indexes : IsIndexOf kept.entries kept.map
    pub cells : (device : ℕ) → device < setting.shape.devices → has_device uber.out device ≡ false
        → CellsOn (certain disk) kept device
    pub out : IsWithin uber.out setting.failed

-- The groups are a row that an image may keep, and a device of the first has not failed.
pub record IsSuccession (setting : Setting) (first : Kept) (later : List Kept) : Type 0 where
  pub few : count_below setting.failed 16 ≤ first.uber.parity
  pub wide : first.uber.parity < setting.base
  pub ascending : AllPairs (λ one other. one.uber.group < other.uber.group) (first ∷ later)
  pub further : All (IsNextOf first) later
  pub widths : All (HasWidthIn setting) (first ∷ later)
  pub inside : HasDevices setting
  pub device : ℕ
  pub below : device < setting.base
  pub works : has_device setting.failed device ≡ false

-- All that is certain between two turns: slots and index page of the first group on each of its
-- devices that hasn't failed, and what each uberblock asks for that a slot may come to show.
pub record Knows (setting : Setting) (first : Kept) (later : List Kept) (disk : Disk) : Type 0 where
  pub row : IsSuccession setting first later
  pub sound : IsSound setting first
  pub slots : (device : ℕ) → device < first.uber.reflow.to
      → has_device setting.failed device ≡ false
      → SlotOn (certain disk) first device
  pub pages : (device : ℕ) → device < first.uber.reflow.to
      → has_device setting.failed device ≡ false
      → PageOn (certain disk) first device
  pub only : (device : ℕ) (uber : Uber) → IsAble setting.shape disk device uber
      → uber.pool ≡ setting.pool → first.uber.group ≤ uber.group
      → IsCertain setting disk (first ∷ later) uber
  pub own : (device : ℕ) (uber : Uber) → IsAble setting.shape disk device uber
      → device < setting.reach → has_device setting.failed device ≡ false
      → uber.pool ≡ setting.pool
  pub votes : (image : Image) → MightShow setting.shape disk disk.clock image
      → IsNotOutvoted setting image
