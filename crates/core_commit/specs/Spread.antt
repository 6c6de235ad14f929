-- When a group may be spread to the devices that lack it, and what that keeps.
use Rattle.std.specs.Prelude.{◌≡◌, ◌≢◌, ◌⊎◌, ℕ, ◌+◌, ◌<◌, List, ◌∷◌, Some, true, false, Contains, Result, OnOk}
use Rattle.block_record.specs.declared.entry.IndexEntry.{IndexEntry}
use Rattle.block_record.specs.Page.{page_sectors}
use Rattle.uberblock_ring.specs.Devices.{has_device}
use Rattle.uberblock_ring.specs.Uberblock.{Uber, slot_of, area_sector}
use Rattle.core_state.specs.Map.{Map}
use Rattle.core_state.specs.Keeps.{Kept, Setting, SameGroup}
use Rattle.core_state.specs.Certain.{SlotOn, IsCertain, Knows, certain}
use Rattle.core_state.specs.Committing.{Point, TellsHead, IsSealed, page_part}
use Rattle.core_state.specs.Moment.{IsRowOf, KeepsSince}
use Rattle.core_commit.specs.declared.committing.TooManyOut.{TooManyOut}

-- the groups that images may show, in a row from the first that they show for certain, and the one of
-- them that is spread, with its map
pub record Spread : Type 0 where
  pub setting : Setting
  pub first : Kept
  pub later : List Kept
  pub kept : Kept
  pub map : Map

-- the group as it is spread
abbrev pub group_spread : Spread → Uber → List IndexEntry → Kept
group_spread spread uber entries = record {
  uber = uber;
  entries = entries;
  others = spread.kept.others;
  map = spread.map;
  excepted = spread.kept.excepted;
}

-- a device of the group that is in use
abbrev pub IsInUse : Uber → Point → ℕ → Type 0
IsInUse uber point device = (device < uber.reflow.to) × (has_device point.out device ≡ false)

-- The devices in use that do not lack the page have it, those that do not lack the uberblock show one
-- of the group; and where one is to be written the first group's isn't relied on.
pub record MaySpread (spread : Spread) (uber : Uber) (entries : List IndexEntry) (lack_page lack_uber : ℕ)
    (point : Point) : Type 0 where
  pub knows : Knows spread.setting spread.first spread.later point.disk
  pub listed : Contains (spread.first ∷ spread.later) spread.kept
  pub same : SameGroup spread.kept (group_spread spread uber entries)
  pub pool_is : uber.pool ≡ spread.setting.pool
  pub known : IsCertain spread.setting point.disk (spread.first ∷ spread.later) uber
  pub told : TellsHead (group_spread spread uber entries) point
  pub pages : (device part : ℕ) → IsInUse uber point device → has_device lack_page device ≡ false
      → part < page_sectors uber.count
      → point.disk.reads device (area_sector uber.area + part)
      ≡ Some (page_part (group_spread spread uber entries) part)
  pub slots : (device : ℕ) → IsInUse uber point device → has_device lack_uber device ≡ false
      → SlotOn point.disk.reads (group_spread spread uber entries) device
  pub page_spared : (device : ℕ) → IsInUse uber point device → has_device lack_page device ≡ true
      → (spread.first.uber.area ≢ uber.area) ⊎ (has_device spread.setting.failed device ≡ true)
  pub slot_spared : (device : ℕ) → IsInUse uber point device → has_device lack_uber device ≡ true
      → (slot_of uber.group ≢ slot_of spread.first.uber.group)
      ⊎ (has_device spread.setting.failed device ≡ true)

-- A device has page and uberblock of the group for certain, and reads the page.
pub record IsSpreadTo (spread : Spread) (uber : Uber) (entries : List IndexEntry) (point : Point)
    (device : ℕ) : Type 0 where
  pub sealed : IsSealed (certain point.disk) spread.kept device
  pub page : (part : ℕ) → part < page_sectors uber.count
      → point.disk.reads device (area_sector uber.area + part)
      ≡ Some (page_part (group_spread spread uber entries) part)

-- What stays: what is certain of the groups and of the uberblock, and that devices in use tell what they
-- read up to the data rows.
pub record StaysKnown (spread : Spread) (uber : Uber) (entries : List IndexEntry) (point : Point) :
    Type 0 where
  pub knows : Knows spread.setting spread.first spread.later point.disk
  pub known : IsCertain spread.setting point.disk (spread.first ∷ spread.later) uber
  pub told : TellsHead (group_spread spread uber entries) point

-- What was kept is kept, at each moment; and where all was written, each device in use has page and
-- uberblock of the group for certain, and reads the page.
pub record SpreadKeeps (uber : Uber) (entries : List IndexEntry) (lack_page lack_uber : ℕ)
    (before after : Point) (result : Result (Unit {0}) TooManyOut) : Type 0 where
  pub since : (spread : Spread) (groups : List Kept) (time : ℕ)
      → MaySpread spread uber entries lack_page lack_uber before
      → IsRowOf groups spread.first spread.later
      → KeepsSince spread.setting groups time before.disk
      → KeepsSince spread.setting groups time after.disk
  pub stays : (spread : Spread) → MaySpread spread uber entries lack_page lack_uber before
      → StaysKnown spread uber entries after
  pub done : OnOk result ((spread : Spread) → MaySpread spread uber entries lack_page lack_uber before
      → (device : ℕ) → IsInUse uber after device
      → IsSpreadTo spread uber entries after device)
