-- A commit under way: what stands on the devices in use, and what is still to be called.
use Rattle.std.specs.Prelude.{◌≡◌, ◌⊎◌, ℕ, ◌+◌, ◌*◌, ◌<◌, List, [], ◌∷◌, Some, IsSome, Bool, false, not, ◌&&◌, ◌||◌}
use Rattle.std.specs.Prelude.{◌==◌, take, drop, is_ok, Result}
use Rattle.bank_trait.specs.declared.Failed.{Failed}
use Rattle.bank_trait.specs.Disk.{Known, Disk, Lawful}
use Rattle.block_record.specs.Page.{page_sectors, index_page}
use Rattle.uberblock_ring.specs.Devices.{has_device}
use Rattle.uberblock_ring.specs.Uberblock.{Uber, area_sector}
use Rattle.commit_job.specs.declared.call.CommitCall.{CommitCall}
use Rattle.commit_job.specs.declared.call.CommitCall.TheVariants.{IndexWrite, BaseSync, UberWrite, UberSync}
use Rattle.core_state.specs.Keeps.{Kept, Setting}
use Rattle.core_state.specs.Certain.{CellsOn, PageOn, SlotOn, IsCertain, Knows, certain}

-- one of a list
abbrev pub Among : {X : Type 0} → List X → X → Type 0
Among [] x = ⊥
Among (y ∷ ys) x = (x ≡ y) ⊎ Among ys x

-- the devices that are out, and the disk
pub record Point : Type 0 where
  pub out : ℕ
  pub disk : Disk

abbrev pub point_of : ℕ → Disk → Point
point_of out disk = record { out = out; disk = disk }

-- the device that a call lost, where it failed
abbrev pub lost_by : ℕ → Result (Unit {0}) Failed → ℕ → Bool
lost_by device result other = (other == device) && not (is_ok result)

-- A call was made on a device in use, which is out afterwards where it failed.
pub record Called (device : ℕ) (result : Result (Unit {0}) Failed) (before after : Point) : Type 0
  where
    pub in_use : has_device before.out device ≡ false
    pub out : (other : ℕ)
        → has_device after.out other ≡ (has_device before.out other || lost_by device result other)
    pub lawful : Lawful after.disk

-- a sector of the index page of a group
abbrev pub page_part : Kept → ℕ → List ℕ
page_part kept part = take 512 (drop (512 * part) (index_page kept.entries))

-- Devices in use of a group tell what they read up to the data rows.
abbrev pub TellsHead : Kept → Point → Type 0
TellsHead next point = (device device_sector : ℕ) → device < next.uber.reflow.to
    → has_device point.out device ≡ false → device_sector < 192
    → IsSome (point.disk.reads device device_sector)

-- Each sector of the page is still to be written, or is read on the device.
abbrev pub IsLaid : Kept → List CommitCall → Point → Type 0
IsLaid next plan point = (device part : ℕ) → device < next.uber.reflow.to
    → has_device point.out device ≡ false → part < page_sectors next.uber.count
    → Among plan (IndexWrite device part)
    ⊎ (point.disk.reads device (area_sector next.uber.area + part) ≡ Some (page_part next part))

-- Page and blocks of the group are known on a device.
abbrev pub HasBase : Setting → Known → Kept → ℕ → Type 0
HasBase setting known next device = PageOn known next device × CellsOn known next device

-- Before an uberblock is made up: the index is written and then the device synced, one by one.
pub record Unsigned (setting : Setting) (first : Kept) (later : List Kept) (next : Kept)
    (plan : List CommitCall) (point : Point) : Type 0 where
  pub knows : Knows setting first later point.disk
  pub lawful : Lawful point.disk
  pub told : TellsHead next point
  pub cells : (device : ℕ) → device < next.uber.reflow.to → has_device point.out device ≡ false
      → CellsOn point.disk.reads next device
  pub laid : IsLaid next plan point
  pub settled : (device : ℕ) → device < next.uber.reflow.to → has_device point.out device ≡ false
      → Among plan (BaseSync device) ⊎ HasBase setting (certain point.disk) next device

-- Page and uberblock of the group are known on a device.
abbrev pub IsSealed : Known → Kept → ℕ → Type 0
IsSealed known next device = PageOn known next device × SlotOn known next device

-- From then on images may show it: it is written and then the device synced, one by one.
pub record Signed (setting : Setting) (first : Kept) (later : List Kept) (next : Kept) (uber : Uber)
    (plan : List CommitCall) (point : Point) : Type 0 where
  pub knows : Knows setting first later point.disk
  pub known : IsCertain setting point.disk (first ∷ later) uber
  pub lawful : Lawful point.disk
  pub told : TellsHead next point
  pub laid : IsLaid next plan point
  pub signed : (device : ℕ) → device < next.uber.reflow.to → has_device point.out device ≡ false
      → Among plan (UberWrite device) ⊎ SlotOn point.disk.reads next device
  pub sealed : (device : ℕ) → device < next.uber.reflow.to → has_device point.out device ≡ false
      → Among plan (UberSync device) ⊎ IsSealed (certain point.disk) next device
